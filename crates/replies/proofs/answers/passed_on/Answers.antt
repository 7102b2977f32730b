use Rattle.texts.proofs.Sinks.{puts_flushed}
use Rattle.replies.proofs.answers.passed_on.Goals as goal

pub returns-clause-puts : goal.returns-clause-puts
returns-clause-puts g c text before puts = puts_flushed _ c.flush.result (rw c.in_ok-put.was at puts) c.flush.ensures.took
