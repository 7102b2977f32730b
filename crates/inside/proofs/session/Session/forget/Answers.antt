use Rattle.std.proofs.Common.{refl, subst}
use Rattle.inside.specs.Sessions.{HasTaken, HasGiven}
use Rattle.inside.proofs.session.Session.forget.Goals as goal

pub returns-in-Taking : goal.returns-in-Taking
returns-in-Taking c = record {
  forgot = λ _ u lives h. c.forget.ensures.forgotten u lives (subst (HasTaken u lives) c.in-Taking.is h);
  unchanged = λ other. absurd (other refl);
  stopped = λ e. absurd (cc);
  giving = λ text count h. absurd (subst (HasGiven text count) c.in-Taking.is h);
  taking = λ u lives h. refl;
}
