use Rattle.bags.proofs.Common.{◌≡◌, ◌∙◌, ◌<◌, ◌≤◌, ℕ, List, length, reverse, ap, subst, arith, Nested, digits, Procedures, in_p, IsKeeper, Stretch, stretches, procedures_of, AreHeld}
use Rattle.bags.proofs.BagPaths.{in_p-decides}
use Rattle.bags.proofs.Counting.{length-stretches}
use Rattle.bags.proofs.Cuts.{all_ascend, first_at_root, in_p-keeper}
use Rattle.bags.proofs.Segments.{ascending}
use Rattle.bags.proofs.Bags.in_p_counted.Goals as goal

-- the keeper decides its procedure's bag
decided : (count : ℕ) (ss : List Stretch) (nested : List Nested) (now : Procedures) (p : ℕ) (s : Stretch) → AreHeld count ss nested → procedures_of count ss nested ≡ now → p < now.count
    → IsKeeper ss p s → s.is_parallel ≡ in_p now.active p
decided count ss nested now p s held view known k =
    let same : count ≡ now.count = ap (λ (q : Procedures). q.count) view in
    ap (λ (t : Stretch). t.is_parallel) k.is
    ∙ in_p-keeper count ss nested k.index p s held k.within (omega arith) k.not_above k.next_above
    ∙ ap (λ (q : Procedures). in_p q.active p) view

pub look_up-keeper-requires-clause-ascending : goal.look_up-keeper-requires-clause-ascending
look_up-keeper-requires-clause-ascending c =
    ascending c.self.inside.count c.self.inside.stretches (all_ascend c.self.inside.count c.self.inside.stretches (reverse c.self.inside.nesting) c.self.invariant.cut)

pub look_up-keeper-requires-clause-first : goal.look_up-keeper-requires-clause-first
look_up-keeper-requires-clause-first c = omega (arith, first_at_root c.self.inside.count c.self.inside.stretches c.self.inside.nesting c.self.invariant)

pub returns-clause-bags : goal.returns-clause-bags
returns-clause-bags c =
    c.is_parallel.ensures
    ∙ decided c.self.inside.count c.self.inside.stretches c.self.inside.nesting c.args.self.now c.args.procedure c.look_up-keeper.result.0 c.self.invariant c.self.view_is c.requires
    c.look_up-keeper.ensures.keeper

pub returns-clause-paths : goal.returns-clause-paths
returns-clause-paths c = in_p-decides c.args.self.now c.args.procedure _ (returns-clause-bags c)

pub returns-clause-probes : goal.returns-clause-probes
returns-clause-probes c =
    let all : length c.self.inside.stretches ≡ stretches c.args.self.now
    = length-stretches c.self.inside.count c.self.inside.stretches c.self.inside.nesting c.self.invariant ∙ ap stretches c.self.view_is in
    subst (λ (n : ℕ). c.look_up-keeper.result.1 ≤ digits n) all c.look_up-keeper.ensures.probes
