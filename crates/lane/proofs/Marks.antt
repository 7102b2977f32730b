-- The mark in a list that grows at its end.
use Rattle.std.proofs.Common.{◌≡◌, ℕ, zero, suc, ◌+◌, arith, ◌<◌, true, false, true≢false, List, [], ◌∷◌, ◌++◌, length, map, take, slice_index_or, sym, refl, ap, ◌∙◌, append-nil, append_assoc}
use Rattle.std.proofs.Math.Seq.{take-suc}
use Rattle.lane.specs.declared.item.Item.{Item}
use Rattle.lane.specs.declared.item.Item.TheVariants.{One, Finish}
use Rattle.lane.specs.Items.{is_finish, has_mark, mark_last, records, IsBeginning}

module _ {T : Type 0} where
  pub has_mark_more : (xs : List (Item T)) (x : Item T) → has_mark xs ≡ false → has_mark (xs ++ x ∷ []) ≡ is_finish x
  has_mark_more [] (One x) h = refl
  has_mark_more [] Finish h = refl
  has_mark_more (One y ∷ ys) x h = has_mark_more ys x h
  has_mark_more (Finish ∷ ys) x h = absurd (true≢false h)

  pub mark_last_more : (xs : List (Item T)) (x : Item T) → has_mark xs ≡ false → mark_last (xs ++ x ∷ []) ≡ true
  mark_last_more [] (One x) h = refl
  mark_last_more [] Finish h = refl
  mark_last_more (One y ∷ ys) x h = mark_last_more ys x h
  mark_last_more (Finish ∷ ys) x h = absurd (true≢false h)

  pub no_mark_before : (xs : List (Item T)) (x : Item T) (rest : List (Item T)) → mark_last (xs ++ x ∷ rest) ≡ true → has_mark xs ≡ false
  no_mark_before [] x rest h = refl
  no_mark_before (One y ∷ ys) x rest h = no_mark_before ys x rest h
  no_mark_before (Finish ∷ []) x rest h = absurd (true≢false (sym h))
  no_mark_before (Finish ∷ y ∷ ys) x rest h = absurd (true≢false (sym h))

  -- with the mark the beginning is the whole
  pub all_taken : (taken put : List (Item T)) → IsBeginning taken put → mark_last put ≡ true → has_mark taken ≡ true → taken ≡ put
  all_taken taken put ([], e) last h = sym (e ∙ append-nil taken)
  all_taken taken put (x ∷ rest, e) last h = absurd (true≢false (sym h ∙ no_mark_before taken x rest (ap mark_last (sym e) ∙ last)))

  -- a value joins the values, and the mark doesn't
  pub records_one : (xs : List (Item T)) (x : T) → records (xs ++ One x ∷ []) ≡ records xs ++ x ∷ []
  records_one [] x = refl
  records_one (One y ∷ ys) x = ap (λ l. y ∷ l) (records_one ys x)
  records_one (Finish ∷ ys) x = records_one ys x

  pub records-finish : (xs : List (Item T)) → records (xs ++ Finish ∷ []) ≡ records xs
  records-finish [] = refl
  records-finish (One y ∷ ys) = ap (λ l. y ∷ l) (records-finish ys)
  records-finish (Finish ∷ ys) = records-finish ys

  pub records_append : (xs ys : List (Item T)) → records (xs ++ ys) ≡ records xs ++ records ys
  records_append [] ys = refl
  records_append (One x ∷ xs) ys = ap (λ l. x ∷ l) (records_append xs ys)
  records_append (Finish ∷ xs) ys = records_append xs ys

  -- the values in one item more of a block
  pub records_next : (xs : List (Item T)) (i : ℕ) (d : Item T) → i < length xs → records (take (i + 1) xs) ≡ records (take i xs) ++ records (slice_index_or xs i d ∷ [])
  records_next xs i d lt =
      let is : i + 1 ≡ suc i = omega arith in
      ap (λ k. records (take k xs)) is ∙ ap records (take-suc xs i d lt) ∙ records_append (take i xs) (slice_index_or xs i d ∷ [])

  -- with the mark a list is its values and the mark
  pub all_to_mark : (xs : List (Item T)) → mark_last xs ≡ true → has_mark xs ≡ true → xs ≡ map One (records xs) ++ Finish ∷ []
  all_to_mark [] last h = absurd (true≢false (sym h))
  all_to_mark (One x ∷ xs) last h = ap (λ l. One x ∷ l) (all_to_mark xs last h)
  all_to_mark (Finish ∷ []) last h = refl
  all_to_mark (Finish ∷ x ∷ xs) last h = absurd (true≢false (sym last))

  -- a block of values alone may follow where no mark stands, and leaves none
  pub has_mark_block : (before xs : List (Item T)) → has_mark before ≡ false → has_mark xs ≡ false → has_mark (before ++ xs) ≡ false
  has_mark_block [] xs h none = none
  has_mark_block (One y ∷ ys) xs h none = has_mark_block ys xs h none
  has_mark_block (Finish ∷ ys) xs h none = absurd (true≢false h)

  pub mark_last_values : (xs : List (Item T)) → has_mark xs ≡ false → mark_last xs ≡ true
  mark_last_values [] h = refl
  mark_last_values (One x ∷ xs) h = mark_last_values xs h
  mark_last_values (Finish ∷ xs) h = absurd (true≢false h)

  pub no_mark_in : (xs : List T) → has_mark (map One xs) ≡ false
  no_mark_in [] = refl
  no_mark_in (x ∷ xs) = no_mark_in xs

  -- and so is a front of it
  pub take_values : (xs : List (Item T)) (i : ℕ) → has_mark xs ≡ false → has_mark (take i xs) ≡ false
  take_values xs zero h = refl
  take_values [] (suc i) h = refl
  take_values (One x ∷ xs) (suc i) h = take_values xs i h
  take_values (Finish ∷ xs) (suc i) h = absurd (true≢false h)

  -- of two lists, one behind the other: an item more on the second, and the second empty
  pub has_mark_staged : (xs ys : List (Item T)) (x : Item T) → has_mark (xs ++ ys) ≡ false → has_mark (xs ++ (ys ++ x ∷ [])) ≡ is_finish x
  has_mark_staged xs ys x h = ap has_mark (sym (append_assoc xs ys (x ∷ []))) ∙ has_mark_more (xs ++ ys) x h

  pub mark_last_staged : (xs ys : List (Item T)) (x : Item T) → has_mark (xs ++ ys) ≡ false → mark_last (xs ++ (ys ++ x ∷ [])) ≡ true
  mark_last_staged xs ys x h = ap mark_last (sym (append_assoc xs ys (x ∷ []))) ∙ mark_last_more (xs ++ ys) x h

  pub none_staged : (xs ys : List (Item T)) → ys ≡ [] → xs ++ ys ≡ xs
  none_staged xs ys none = ap (λ l. xs ++ l) none ∙ append-nil xs

-- for an item that is put, and for a block that is put
pub ruleset of_an_item = (has_mark_more, mark_last_more, has_mark_staged, mark_last_staged, none_staged)

pub ruleset of_values = (has_mark_block, mark_last_values, no_mark_in, none_staged)
