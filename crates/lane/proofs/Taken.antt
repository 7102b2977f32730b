-- What is taken of the lists that have come: all of them but the rest of the list in hand.
use Rattle.std.proofs.Common.{◌≡◌, ℕ, zero, suc, ◌+◌, ◌-◌, ◌%◌, arith, ◌<◌, ◌≤◌, true, false, true≢false, Bool, List, [], ◌∷◌, ◌++◌, length, take, drop, slice_index_or, sym, refl, ap, ◌∙◌, append-nil, append_assoc, length-append}
use Rattle.std.proofs.lemmas.List.{length-drop, length-take, drop_all}
use Rattle.std.proofs.Math.Seq.{take-append_seam, take-length, drop-cons}
use mathlib.Core.List.{IsPrefix}
use Rattle.lane.specs.declared.item.Item.{Item}
use Rattle.lane.specs.declared.item.Item.TheVariants.{One, Finish}
use Rattle.lane.specs.declared.item.Slot.{Slot}
use Rattle.lane.specs.declared.item.Slot.TheVariants.{Single, Several}
use Rattle.lane.specs.Items.{has_mark, mark_last}
use Rattle.lane.specs.Slots.{items_in, all_items, AllowsSlot, is_mark, taken_before, HoldsRest}
use Rattle.lane.proofs.Marks.{no_mark_before, mark_last_more, mark_last_values, has_mark_block}
use Rattle.lane.proofs.Shown.{all_items_more, have_items_rest, length_all}

module _ {X : Type 0} where
  pub taken_new : (xs ys : List X) → taken_before (xs ++ ys) ys ≡ xs
  taken_new xs ys =
      let sum = length-append xs ys in
      let is : length (xs ++ ys) - length ys ≡ length xs = omega (arith, sum) in
      ap (λ n. take n (xs ++ ys)) is ∙ take-append_seam xs ys

  pub holds_new : (xs ys : List X) → HoldsRest (xs ++ ys) ys
  holds_new xs ys = ap (λ t. t ++ ys) (sym (taken_new xs ys))

  pub taken_all : (xs : List X) → taken_before xs [] ≡ xs
  taken_all xs = ap (λ l. taken_before l []) (sym (append-nil xs)) ∙ taken_new xs []

  -- what more was taken
  apart : (whole ys rest : List X) → HoldsRest whole (ys ++ rest) → whole ≡ (taken_before whole (ys ++ rest) ++ ys) ++ rest
  apart whole ys rest h = h ∙ sym (append_assoc (taken_before whole (ys ++ rest)) ys rest)

  pub taken_more : (whole ys rest : List X) → HoldsRest whole (ys ++ rest) → taken_before whole rest ≡ taken_before whole (ys ++ rest) ++ ys
  taken_more whole ys rest h = ap (λ w. taken_before w rest) (apart whole ys rest h) ∙ taken_new (taken_before whole (ys ++ rest) ++ ys) rest

  pub holds_more : (whole ys rest : List X) → HoldsRest whole (ys ++ rest) → HoldsRest whole rest
  holds_more whole ys rest h = apart whole ys rest h ∙ ap (λ t. t ++ rest) (sym (taken_more whole ys rest h))

  pub empty : (xs : List X) → length xs ≡ 0 → xs ≡ []
  empty [] h = refl
  empty (x ∷ xs) h = absurd (omega (arith, h))

  none_of : (n : ℕ) (xs : List X) → xs ≡ [] → take n xs ≡ []
  none_of zero xs h = refl
  none_of (suc n) [] h = refl
  none_of (suc n) (x ∷ xs) h = absurd (omega (arith, ap length h))

module _ {T : Type 0} where
  -- with a rest nothing before it is the mark, and without one all is taken
  pub ended_not : (whole rest : List (Item T)) → HoldsRest whole rest → 1 ≤ length rest → mark_last whole ≡ true → has_mark (taken_before whole rest) ≡ false
  ended_not whole [] h some last = absurd (omega (arith, some))
  ended_not whole (x ∷ rest) h some last = no_mark_before (taken_before whole (x ∷ rest)) x rest (ap mark_last (sym h) ∙ last)

  pub ended_so : (whole rest : List (Item T)) → length rest ≡ 0 → has_mark (taken_before whole rest) ≡ has_mark whole
  ended_so whole rest none = ap (λ r. has_mark (taken_before whole r)) (empty rest none) ∙ ap has_mark (taken_all whole)

  -- a slot that may come
  pub last_so : (before : List (Slot T)) (s : Slot T) → AllowsSlot before s → mark_last (all_items before ++ items_in s) ≡ true
  last_so before (Single x) h = mark_last_more (all_items before) x h.0
  last_so before (Several list) h = mark_last_values (all_items before ++ list.items) (has_mark_block (all_items before) list.items h.0 h.1.1)

  has_mark_joined : (xs ys : List (Item T)) → has_mark xs ≡ false → has_mark (xs ++ ys) ≡ has_mark ys
  has_mark_joined [] ys h = refl
  has_mark_joined (One x ∷ xs) ys h = has_mark_joined xs ys h
  has_mark_joined (Finish ∷ xs) ys h = absurd (true≢false h)

  pub came_so : (before : List (Slot T)) (s : Slot T) → AllowsSlot before s → has_mark (all_items before ++ items_in s) ≡ is_mark s
  came_so before s h = has_mark_joined (all_items before) (items_in s) h.0 ∙ h.1.1

  mark_last_front : (xs ys : List (Item T)) → mark_last (xs ++ ys) ≡ true → mark_last xs ≡ true
  mark_last_front [] ys h = refl
  mark_last_front (One x ∷ xs) ys h = mark_last_front xs ys h
  mark_last_front (Finish ∷ []) ys h = refl
  mark_last_front (Finish ∷ x ∷ xs) ys h = absurd (true≢false (sym h))

  pub last_front : (whole rest : List (Item T)) → HoldsRest whole rest → mark_last whole ≡ true → mark_last (taken_before whole rest) ≡ true
  last_front whole rest h last = mark_last_front (taken_before whole rest) rest (ap mark_last (sym h) ∙ last)

  -- one item more of the list in hand
  next_is : (items : List (Item T)) (at : ℕ) (d : Item T) → at < length items → drop at items ≡ (slice_index_or items at d ∷ []) ++ drop (at + 1) items
  next_is items at d lt =
      let is : at + 1 ≡ suc at = omega arith in
      drop-cons items at d lt ∙ ap (λ n. slice_index_or items at d ∷ drop n items) (sym is)

  pub holds_one : (whole items : List (Item T)) (at : ℕ) (d : Item T) → at < length items → HoldsRest whole (drop at items) → HoldsRest whole (drop (at + 1) items)
  holds_one whole items at d lt h =
      holds_more whole (slice_index_or items at d ∷ []) (drop (at + 1) items) (h ∙ ap (λ r. taken_before whole r ++ r) (next_is items at d lt))

  pub taken_one : (whole items : List (Item T)) (at : ℕ) (d : Item T) → at < length items → HoldsRest whole (drop at items) → taken_before whole (drop (at + 1) items) ≡ taken_before whole (drop at items) ++ slice_index_or items at d ∷ []
  taken_one whole items at d lt h =
      taken_more whole (slice_index_or items at d ∷ []) (drop (at + 1) items) (h ∙ ap (λ r. taken_before whole r ++ r) (next_is items at d lt))
      ∙ ap (λ r. taken_before whole r ++ slice_index_or items at d ∷ []) (sym (next_is items at d lt))

  -- the items of more slots
  pub all_items_append : (xs ys : List (Slot T)) → all_items (xs ++ ys) ≡ all_items xs ++ all_items ys
  all_items_append [] ys = refl
  all_items_append (x ∷ xs) ys = ap (λ l. items_in x ++ l) (all_items_append xs ys) ∙ sym (append_assoc (items_in x) (all_items xs) (all_items ys))

  pub near_more : (known : List (Slot T)) (s : Slot T) (more : List (Slot T)) → IsPrefix known (s ∷ more) → length (all_items known) ≤ length (items_in s ++ all_items more)
  near_more known s more (rest, e) =
      let sum = ap (λ l. length (all_items l)) (sym e) ∙ ap length (all_items_append known rest) ∙ length-append (all_items known) (all_items rest) in
      omega (arith, sum)

  pub waiting_near : (rest known : List (Item T)) (n : ℕ) → length (rest ++ known) ≡ 0 → length (rest ++ take n known) ≡ 0
  waiting_near rest known n h =
      let all = length-append rest known in
      let some = length-append rest (take n known) in
      let none : length known ≡ 0 = omega (arith, h, all) in
      ap (λ l. length (rest ++ l)) (none_of n known (empty known none)) ∙ length-append rest [] ∙ omega (arith, h, all)

-- what is taken, the rest of the list in hand, and all that is behind it
pub whole_is : {X : Type 0} (whole rest known : List X) (n : ℕ) → HoldsRest whole rest → n ≡ length known → taken_before whole rest ++ (rest ++ take n known) ≡ whole ++ known
whole_is whole rest known n h is =
    sym (append_assoc (taken_before whole rest) rest (take n known)) ∙ ap (λ l. l ++ take n known) (sym h) ∙ ap (λ k. whole ++ take k known) is ∙ ap (λ l. whole ++ l) (take-length known)

-- the units owed, where some more items are taken
pub owes_more : (t r owed count r' result t' : ℕ) → r ≤ t → owed ≡ (t - r) % 18446744073709551616 → r ≤ r' → r' + result ≡ r + (owed + count) % 18446744073709551616 → t' ≡ t + count → (r' ≤ t') × (result ≡ (t' - r') % 18446744073709551616)
owes_more t r owed count r' result t' le owes more taken is =
    let within : r' ≤ t' = omega (arith, le, owes, more, taken, is) in
    (within, omega (arith, le, owes, more, taken, is, within))

-- where all that was put is known: A items have come, K more are known, R are left in hand, and of the U units that are
-- known as many are owed as items were taken without theirs
pub owed_exactly : (A K R t r u owed : ℕ) → A ≡ t + R → r + u ≡ A + K → r ≤ t → owed ≡ (t - r) % 18446744073709551616 → u < 18446744073709551616 → owed ≡ t - r
owed_exactly A K R t r u owed hand total paid owes small =
    let below : t - r < 18446744073709551616 = omega (arith, hand, total, paid, small) in
    omega (arith, owes, below)

pub waiting_least : {X : Type 0} (rest known : List X) (n : ℕ) → length (rest ++ take n known) ≤ length (rest ++ known)
waiting_least rest known n =
    let all = length-append rest known in
    let some = length-append rest (take n known) in
    let least = length-take n known in
    omega (arith, all, some, least)

pub ruleset of_an_item = (taken_one, holds_one, length-drop, length-append, ended_not, ended_so, last_front)

pub ruleset of_a_list = (taken_more, holds_more, drop_all, length-drop, ended_not, ended_so, last_front)

pub ruleset of_the_rest = (waiting_least, ended_not, ended_so, length-drop, length-append, last_front)

pub ruleset of_a_slot = (last_front, near_more, waiting_near, length-append, all_items_more, taken_new, taken_all, holds_new, empty, came_so, last_so, length-drop)

pub ruleset of_both = (all_items_append, length-append, length-drop, owed_exactly, have_items_rest, length_all)
