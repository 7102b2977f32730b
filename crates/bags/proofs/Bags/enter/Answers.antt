use Rattle.bags.proofs.Common.{ap, ◌∙◌, ◌≡◌, ◌+◌, ℕ, List, arith, Nested, Stretch, procedures_of, Procedures, entered}
use Rattle.bags.proofs.Cuts.{entered_held}
use Rattle.bags.proofs.Bags.enter.Goals as goal

pub returns-in-Ok-clause-ok : goal.returns-in-Ok-clause-ok
returns-in-Ok-clause-ok c =
    let count : ℕ = c.self.inside.count in
    let old : List Stretch = c.self.inside.stretches in
    let xs : List Nested = c.self.inside.nesting in
    let same : count ≡ c.args.self.now.count = ap (λ (p : Procedures). p.count) c.self.view_is in
    let both = entered_held count old xs c.new-2.result c.new.result c.self.invariant (omega (arith, c.requires)) c.new-2.ensures.first c.new-2.ensures.bag (c.new.ensures.begins ∙ c.len.ensures) c.new.ensures.number in
    (λ i. procedures_of (count + 1) (c.in-Ok.ensures.ok i) (c.in_ok-open.ensures.ok i))
    ∙ both.1
    ∙ ap (entered (procedures_of count old xs)) c.new.ensures.called
    ∙ ap (λ (p : Procedures). entered p c.args.is_called) c.self.view_is
