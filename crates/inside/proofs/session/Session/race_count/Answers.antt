use Rattle.std.proofs.Common.{subst}
use Rattle.inside.specs.Sessions.{HasTaken, HasGiven}
use Rattle.inside.proofs.session.Session.race_count.Goals as goal

pub returns-in-Taking : goal.returns-in-Taking
returns-in-Taking c = record {
  counted = λ u lives h. c.race_count.ensures u lives (subst (HasTaken u lives) c.in-Taking.is h);
  giving = λ text count h. absurd (subst (HasGiven text count) c.in-Taking.is h);
  stopped = λ e. absurd (cc);
}
