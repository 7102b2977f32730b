-- The items of slots that join those that the taker is shown.
use Rattle.std.proofs.Common.{◌≡◌, ℕ, zero, suc, ◌+◌, ◌-◌, arith, ◌<◌, ◌≤◌, true, false, true≢false, List, [], ◌∷◌, ◌++◌, length, take, slice_index_or, sym, refl, ap, ◌∙◌, append-nil, append_assoc, length-append, Bool}
use Rattle.std.proofs.Math.Seq.{take-suc}
use Rattle.lane.specs.declared.item.Item.{Item}
use Rattle.lane.specs.declared.item.Item.TheVariants.{One, Finish}
use Rattle.lane.specs.declared.item.Slot.{Slot}
use Rattle.lane.specs.Items.{is_finish, has_mark}
use Rattle.lane.specs.Slots.{items_in, all_items, HasItem, if_filled, have_items}
use Rattle.lane.proofs.Marks.{has_mark_block, take_values}

module _ {T : Type 0} where
  pub all_items_more : (slots : List (Slot T)) (s : Slot T) → all_items (slots ++ s ∷ []) ≡ all_items slots ++ items_in s
  all_items_more [] s = append-nil (items_in s)
  all_items_more (x ∷ xs) s = ap (λ l. items_in x ++ l) (all_items_more xs s) ∙ sym (append_assoc (items_in x) (all_items xs) (items_in s))

  -- of two lists without a mark
  pub no_mark_first : (xs ys : List (Item T)) → has_mark (xs ++ ys) ≡ false → has_mark xs ≡ false
  no_mark_first [] ys h = refl
  no_mark_first (One x ∷ xs) ys h = no_mark_first xs ys h
  no_mark_first (Finish ∷ xs) ys h = absurd (true≢false h)

  pub no_mark_second : (xs ys : List (Item T)) → has_mark (xs ++ ys) ≡ false → has_mark ys ≡ false
  no_mark_second [] ys h = h
  no_mark_second (One x ∷ xs) ys h = no_mark_second xs ys h
  no_mark_second (Finish ∷ xs) ys h = absurd (true≢false h)

  if_filled_more : (xs : List (Item T)) (a b : Bool) → (a ≡ true → b ≡ true) → if_filled xs a ≡ true → if_filled xs b ≡ true
  if_filled_more [] a b more h = h
  if_filled_more (x ∷ xs) a b more h = more h

  if_filled_one : (xs : List (Item T)) → 1 ≤ length xs → if_filled xs true ≡ true
  if_filled_one [] some = absurd (omega (arith, some))
  if_filled_one (x ∷ xs) some = refl

  pub have_items_more : (slots : List (Slot T)) (s : Slot T) → have_items slots ≡ true → HasItem s → have_items (slots ++ s ∷ []) ≡ true
  have_items_more [] s h has = if_filled_one (items_in s) has
  have_items_more (x ∷ xs) s h has = if_filled_more (items_in x) (have_items xs) (have_items (xs ++ s ∷ [])) (λ more. have_items_more xs s more has) h

  filled : (xs : List (Item T)) (a : Bool) → if_filled xs a ≡ true → (1 ≤ length xs) × (a ≡ true)
  filled [] a h = absurd (true≢false (sym h))
  filled (x ∷ xs) a h = (omega arith, h)

  pub have_items_rest : (xs ys : List (Slot T)) → have_items (xs ++ ys) ≡ true → have_items ys ≡ true
  have_items_rest [] ys h = h
  have_items_rest (x ∷ xs) ys h = have_items_rest xs ys (filled (items_in x) (have_items (xs ++ ys)) h).1

  pub length_all : (slots : List (Slot T)) → have_items slots ≡ true → length slots ≤ length (all_items slots)
  length_all [] h = omega arith
  length_all (x ∷ xs) h =
      let both = filled (items_in x) (have_items xs) h in
      let one = both.0 in
      let more = length_all xs both.1 in
      let sum = length-append (items_in x) (all_items xs) in
      omega (arith, more, one, sum)

  pub has_mark_one : (x : Item T) → has_mark (x ∷ []) ≡ is_finish x
  has_mark_one (One x) = refl
  has_mark_one Finish = refl

  pub no_mark_at : (before xs : List (Item T)) (i : ℕ) → has_mark (before ++ xs) ≡ false → has_mark (before ++ take i xs) ≡ false
  no_mark_at before xs i h = has_mark_block before (take i xs) (no_mark_first before xs h) (take_values xs i (no_mark_second before xs h))

  -- one of the items more
  pub shown_next : (before xs : List (Item T)) (i : ℕ) (d : Item T) → i < length xs → (before ++ take i xs) ++ (slice_index_or xs i d ∷ []) ≡ before ++ take (i + 1) xs
  shown_next before xs i d lt =
      let is : i + 1 ≡ suc i = omega arith in
      append_assoc before (take i xs) (slice_index_or xs i d ∷ []) ∙ ap (λ l. before ++ l) (sym (take-suc xs i d lt)) ∙ ap (λ k. before ++ take k xs) (sym is)

  pub ruleset of_a_list = (all_items_more, no_mark_first, no_mark_second, have_items_more)

  -- as many units as items, still
  pub counted_more : {U : Type 0} (units more : List U) (xs ys : List (Item T)) → length units ≡ length xs → length more ≡ length ys → length (units ++ more) ≡ length (xs ++ ys)
  counted_more units more xs ys before e = length-append units more ∙ omega (arith, before, e) ∙ sym (length-append xs ys)

  pub ruleset of_items = (length-append, counted_more)

  pub ruleset of_the_mark = (all_items_more, have_items_more, length-append)

-- a lane is full where no room is known and as many items as it holds were put
pub full_of : (put capacity room : ℕ) → room ≡ 0 → capacity ≤ put → put ≡ capacity + (put + room - capacity)
full_of put capacity room none some = omega (arith, none, some)

pub ruleset of_a_refusal = (full_of, append-nil)
