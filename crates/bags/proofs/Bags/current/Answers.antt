use Rattle.bags.proofs.Common.{◌∙◌, length, refl, ap, sym, arith, procedures_of, Procedures, current, in_p}
use Rattle.bags.proofs.Cuts.{Executing, executing, executes, executing_serial}
use Rattle.bags.proofs.Bags.current.Goals as goal

it : (c : goal.After-number) → Executing c.self.inside.count c.self.inside.stretches c.self.inside.nesting c.executing.result
it c = executing c.self.inside.count c.self.inside.stretches c.self.inside.nesting c.executing.result (length c.self.inside.nesting) c.self.invariant refl c.executing.ensures

pub returns-clause-executes : goal.returns-clause-executes
returns-clause-executes c =
    c.number.ensures
    ∙ (executes c.self.inside.count c.self.inside.stretches c.self.inside.nesting c.executing.result (it c)).0
    ∙ ap (λ (q : Procedures). current q.active) c.self.view_is

pub returns-clause-known : goal.returns-clause-known
returns-clause-known c =
    omega (
      arith,
      c.number.ensures,
      (executes c.self.inside.count c.self.inside.stretches c.self.inside.nesting c.executing.result (it c)).1,
      ap (λ (q : Procedures). q.count) c.self.view_is,
    )

pub returns-clause-in_series : goal.returns-clause-in_series
returns-clause-in_series c =
    ap (λ (q : Procedures). in_p q.active c.number.result) (sym c.self.view_is)
    ∙ ap (in_p (procedures_of c.self.inside.count c.self.inside.stretches c.self.inside.nesting).active) c.number.ensures
    ∙ executing_serial c.self.inside.count c.self.inside.stretches c.self.inside.nesting c.executing.result c.self.invariant (it c)
