use Rattle.bags.proofs.Common.{ap, ◌∙◌, ◌≡◌, inl, inr, ◌<◌, ◌++◌, ◌∷◌, [], ℕ, Bool, true, false, not, length, length-append, take, refl, subst, sym, List, arith, Return, Nested, Stretch, stretch_of, bag_before, procedures_of, AreHeld, Procedures, event}
use Rattle.bags.proofs.Cuts.{begins_within, closed, executes, held_as, joined_held, moved_held, same_or_other, more_than_root, parent_before}
use Rattle.bags.proofs.Bags.ret.Goals as goal

pub close-executing-requires : goal.close-executing-requires
close-executing-requires c = more_than_root c.self.inside.count c.self.inside.stretches c.self.inside.nesting c.args.self.now c.self.view_is c.requires

pub new-kept-requires : goal.new-kept-requires
new-kept-requires c =
    omega (arith, c.number.ensures, (executes c.self.inside.count c.self.inside.stretches c.self.inside.nesting c.close-executing.result (closed c.self.inside.count c.self.inside.stretches c.self.inside.nesting c.close-executing.new.self c.close-executing.result c.self.invariant c.close-executing.ensures)).1, c.self.invariant.most)

pub join-requires-clause-some : goal.join-requires-clause-some
join-requires-clause-some c =
    omega (arith, c.begins.ensures, parent_before c.self.inside.count c.self.inside.stretches c.self.inside.nesting c.close-executing.result (closed c.self.inside.count c.self.inside.stretches c.self.inside.nesting c.close-executing.new.self c.close-executing.result c.self.invariant c.close-executing.ensures) c.self.invariant (more_than_root c.self.inside.count c.self.inside.stretches c.self.inside.nesting c.args.self.now c.self.view_is c.requires))

pub join-requires-clause-within : goal.join-requires-clause-within
join-requires-clause-within c =
    omega (arith, c.begins.ensures, begins_within c.self.inside.count c.self.inside.stretches c.self.inside.nesting c.close-executing.result (closed c.self.inside.count c.self.inside.stretches c.self.inside.nesting c.close-executing.new.self c.close-executing.result c.self.invariant c.close-executing.ensures))

-- the procedure that executed, as one that was called or spawned
abbrev executed : goal.After-join → Bool → Nested
executed c is_called = record { begins = c.close-executing.result.begins; number = c.close-executing.result.number; is_called = is_called }

-- what is left, if a procedure of this kind executed
returned : (c : goal.After-join) (is_called : Bool) → c.new-kept.result.is_parallel ≡ not is_called
    → AreHeld c.self.inside.count c.join.new.self c.close-executing.new.self
    × (procedures_of c.self.inside.count c.join.new.self c.close-executing.new.self
    ≡ event (procedures_of c.self.inside.count c.self.inside.stretches (c.close-executing.new.self ++ executed c is_called ∷ [])) Return)
returned c is_called kind =
    let count : ℕ = c.self.inside.count in
    let ss : List Stretch = c.self.inside.stretches in
    let ys : List Nested = c.close-executing.new.self in
    let g : Nested = executed c is_called in
    let xs : List Nested = ys ++ g ∷ [] in
    let held : AreHeld count ss xs = held_as count ss ys c.close-executing.result is_called (subst (AreHeld count ss) c.close-executing.ensures c.self.invariant) in
    let more : 1 < length xs = omega (
      arith,
      length-append ys (g ∷ []),
      length-append ys (c.close-executing.result ∷ []),
      ap length c.close-executing.ensures,
      more_than_root count ss c.self.inside.nesting c.args.self.now c.self.view_is c.requires,
    ) in
    let before : bag_before ss c.begins.result ≡ bag_before ss g.begins = ap (bag_before ss) c.begins.ensures in
    let cut : take c.begins.result ss ≡ take g.begins ss = ap (λ (n : ℕ). take n ss) c.begins.ensures in
    let gives = λ (zs : List Stretch). AreHeld count zs ys × (procedures_of count zs ys ≡ event (procedures_of count ss xs) Return) in
    elim (same_or_other (bag_before ss c.begins.result) c.new-kept.result.is_parallel) [
      | inl same ↦ subst gives (sym (c.join.ensures.same same ∙ cut))
          (joined_held count ss xs ys g (stretch_of 0) held refl more (sym before ∙ same ∙ kind))
      | inr other ↦ subst gives (sym (c.join.ensures.other other.0 ∙ ap (λ (zs : List Stretch). zs ++ c.new-kept.result ∷ []) cut))
          (moved_held count ss xs ys g (stretch_of 0) c.new-kept.result held refl more (sym before ∙ other.1 ∙ ap not kind)
          (c.new-kept.ensures.first ∙ c.number.ensures) kind)
    ]

twice : (b : Bool) → b ≡ not (not b)
twice true = refl
twice false = refl

pub invariant_of-self : goal.invariant_of-self
invariant_of-self c = (returned c (not c.new-kept.result.is_parallel) (twice c.new-kept.result.is_parallel)).0

pub returns : goal.returns
returns c =
    (returned c c.close-executing.result.is_called (c.new-kept.ensures.bag ∙ ap not c.is_called-is_parallel.ensures)).1
    ∙ ap (λ (xs : List Nested). event (procedures_of c.self.inside.count c.self.inside.stretches xs) Return) (sym c.close-executing.ensures)
    ∙ ap (λ (p : Procedures). event p Return) c.self.view_is
