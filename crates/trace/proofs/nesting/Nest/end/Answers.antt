use Rattle.trace.proofs.Common.{ap, sym, ◌∙◌, Nesting}
use Rattle.trace.proofs.Nestings.{well_nested}
use Rattle.trace.proofs.nesting.Nest.end.Goals as goal

pub returns-then-self-clause-ok : goal.returns-then-self-clause-ok
returns-then-self-clause-ok c u h = well_nested u c.args.self.now h (ap (λ (n : Nesting). n.ended) (sym c.self.view_is) ∙ c.if-self.true)
