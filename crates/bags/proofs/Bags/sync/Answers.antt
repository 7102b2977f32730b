use Rattle.bags.proofs.Common.{ap, ◌∙◌, ◌≡◌, ◌+◌, ◌-◌, ◌<◌, get_or, ℕ, length, take, refl, subst, sym, List, arith, Sync, Nested, Stretch, procedures_of, AreHeld, Procedures, event}
use Rattle.bags.proofs.Counting.{are_few}
use Rattle.bags.proofs.Cuts.{begins_within, executing, synced_held}
use Rattle.bags.proofs.Bags.sync.Goals as goal

-- the procedure that executes begins inside the list
within : (count : ℕ) (ss : List Stretch) (nested : List Nested) (f : Nested) → AreHeld count ss nested → f ≡ get_or nested (length nested - 1) f → f.begins < length ss
within count ss nested f held at = begins_within count ss nested f (executing count ss nested f (length nested) held refl at)

pub overflow_add-begins : goal.overflow_add-begins
overflow_add-begins c =
    omega (
      arith,
      c.begins.ensures,
      within c.self.inside.count c.self.inside.stretches c.self.inside.nesting c.executing.result c.self.invariant c.executing.ensures,
      (are_few c.self.inside.count c.self.inside.stretches c.self.inside.nesting c.self.invariant).of_all,
    )

pub truncate-requires-clause-within : goal.truncate-requires-clause-within
truncate-requires-clause-within c =
    omega (arith, c.begins.ensures, within c.self.inside.count c.self.inside.stretches c.self.inside.nesting c.executing.result c.self.invariant c.executing.ensures)

-- the bags that are synced
synced : (count : ℕ) (ss new : List Stretch) (nested : List Nested) (f : Nested) (begins : ℕ) → AreHeld count ss nested → f ≡ get_or nested (length nested - 1) f → begins ≡ f.begins → new ≡ take (begins + 1) ss
    → AreHeld count new nested × (procedures_of count new nested ≡ event (procedures_of count ss nested) Sync)
synced count ss new nested f begins held at own is =
    subst (λ (xs : List Stretch). AreHeld count xs nested × (procedures_of count xs nested ≡ event (procedures_of count ss nested) Sync)) (sym (is ∙ ap (λ (n : ℕ). take (n + 1) ss) own))
    (synced_held count ss nested f held (executing count ss nested f (length nested) held refl at))

pub invariant_of-self : goal.invariant_of-self
invariant_of-self c =
    (synced c.self.inside.count c.self.inside.stretches c.truncate.new.self c.self.inside.nesting c.executing.result c.begins.result c.self.invariant c.executing.ensures c.begins.ensures c.truncate.ensures).0

pub returns : goal.returns
returns c =
    (synced c.self.inside.count c.self.inside.stretches c.truncate.new.self c.self.inside.nesting c.executing.result c.begins.result c.self.invariant c.executing.ensures c.begins.ensures c.truncate.ensures).1
    ∙ ap (λ (p : Procedures). event p Sync) c.self.view_is
