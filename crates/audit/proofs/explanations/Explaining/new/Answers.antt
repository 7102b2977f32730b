use Rattle.std.proofs.Common.{refl}
use Rattle.audit.proofs.ExplainLemmas.{explaining_none}
use Rattle.audit.proofs.explanations.Explaining.new.Goals as goal

pub returns : goal.returns
returns c = explaining_none _ c.args.location refl c.new.ensures c.new-2.ensures.items refl refl refl
