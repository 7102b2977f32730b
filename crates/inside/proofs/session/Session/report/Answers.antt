use Rattle.std.proofs.Common.{refl, sym, subst, arith}
use Rattle.inside.specs.Sessions.{HasTaken, HasGiven}
use Rattle.inside.proofs.session.Session.report.Goals as goal

pub returns-in-Ok : goal.returns-in-Ok
returns-in-Ok c = record {
  text = λ _ u lives h. (c.in-Ok.text.items, c.in-Ok.ensures.text u lives (subst (HasTaken u lives) (sym c.in-Taking.ensures.value) h), (refl, refl));
  first = λ _ u h. (c.in-Ok.ensures.first u (subst (HasTaken u _) (sym c.in-Taking.ensures.value) h), refl);
  unchanged = λ e. absurd (omega (arith, e));
  stops = λ other. absurd (other refl);
  stopped = λ e. let is = c.in-Taking.ensures.value in absurd (cc);
  giving = λ text count h. absurd (subst (HasGiven text count) (sym c.in-Taking.ensures.value) h);
  taking = λ u lives h e. omega (arith, e);
}
