-- What a worker has done after one more record, and when it answers.
use Rattle.shard.proofs.Common.{◌≡◌, ℕ, ◌+◌, ◌-◌, ◌^◌, min, Bool, true, false, List, [], ◌∷◌, ◌++◌, length, Option, inl, inr, ⊎_elim, refl, sym, ap, subst, ◌∙◌, arith, append_assoc, append-nil, length-append, map-append, option_to_list, cases_Bool, Placed, RaceAt, state_at_start, state_from, found_from, found, found_from-append, Item, One, Finish, IsBeginning, Back, Race, NoMemory, SpBags, HasApplied, state_of, race_of, seen_next, found_next, ShardState, Accepts, IsFresh, capped_count, AreInOrder, race_items, HasStopped, out_of_order, no_memory, HasHandedBack, IsGoing, HasWorked, IsOfShare, PutsFound}
use Rattle.shard.proofs.Orders.{in_order-front, length-in_order, takes_new, takes_none, takes_next, takes_one, takes_after}
use Rattle.shard.proofs.Shares.{in_order}

capped_more : (a b m : ℕ) → b ≡ min a m → min (b + 1) m ≡ min (a + 1) m
capped_more a b m e = omega (arith, e)

-- one more record is counted
count_more : (u : List Placed) (p : Placed) (n : ℕ) → n ≡ capped_count (length u) → capped_count (n + 1) ≡ capped_count (length (u ++ p ∷ []))
count_more u p n e = capped_more (length u) n (2 ^ 64 - 1) e ∙ ap capped_count (sym (length-append u (p ∷ [])))

-- the records so far are in order
so_far : (u : List Placed) (s : SpBags) (put : List (Item Back)) → IsGoing u s put → AreInOrder u
so_far u s put g = let P : List Placed → Type 0 = AreInOrder in subst P (append-nil u) ((g.goes_on []).1 (takes_none s))

race_items-append : (xs ys : List RaceAt) → race_items (xs ++ ys) ≡ race_items xs ++ race_items ys
race_items-append xs ys = map-append (λ (r : RaceAt). One (Race r)) xs ys

pub worked_new : (s : ShardState) → IsFresh s → HasWorked [] s [] false
worked_new s new = record {
  taken = new.none_taken;
  going = λ e. record { applied = new.at_start.state; goes_on = takes_new s new; races = refl };
  at_end = λ e. absurd (cc);
}

-- a record was applied, and its race was race_items
pub worked_applied : (u : List Placed) (p : Placed) (s z : ShardState) (put more : List (Item Back)) (o : Option RaceAt) (stopped : Bool) → more ≡ put ++ race_items (option_to_list o) → stopped ≡ false → Accepts s.sp_bags p.place → HasApplied p s.sp_bags z.sp_bags
    → z.taken ≡ capped_count (s.taken + 1) → o ≡ race_of (state_of s.sp_bags) p.place p.what
    → HasWorked u s put stopped → HasWorked (u ++ p ∷ []) z more stopped
worked_applied u p s z put more o stopped adds is a applied taken race h =
    let g = h.going is in
    record {
      taken = taken ∙ count_more u p s.taken h.taken;
      going = λ e. record {
        applied = seen_next u p s.sp_bags z.sp_bags applied g.applied;
        goes_on = λ rest. takes_after u p s.sp_bags z.sp_bags a applied rest (g.goes_on (p ∷ rest));
        races = adds ∙ ap (λ (x : List (Item Back)). x ++ race_items (option_to_list o)) g.races ∙ sym (race_items-append (found u) (option_to_list o)) ∙ ap race_items (sym (found_next u p s.sp_bags o race g.applied));
      };
      at_end = λ e. absurd (cc);
    }

-- a growth was refused
pub worked_refused : (u : List Placed) (p : Placed) (s z : ShardState) (put more : List (Item Back)) (stopped : Bool) → more ≡ put ++ One NoMemory ∷ [] → stopped ≡ false → Accepts s.sp_bags p.place → z.taken ≡ capped_count (s.taken + 1)
    → HasWorked u s put stopped → HasWorked (u ++ p ∷ []) z more true
worked_refused u p s z put more stopped adds is a taken h =
    let g = h.going is in
    record {
      taken = taken ∙ count_more u p s.taken h.taken;
      going = λ e. absurd (cc);
      at_end = λ e. no_memory u [] p refl ((g.goes_on (p ∷ [])).1 (takes_one s.sp_bags p a)) (adds ∙ ap (λ (x : List (Item Back)). x ++ One NoMemory ∷ []) g.races);
    }

stopped_more : (u : List Placed) (p : Placed) (put : List (Item Back)) → HasStopped u put → HasStopped (u ++ p ∷ []) put
stopped_more u p put (out_of_order v rest q is fine out e) = out_of_order v (rest ++ p ∷ []) q (ap (λ (x : List Placed). x ++ p ∷ []) is ∙ append_assoc v (q ∷ rest) (p ∷ [])) fine out e
stopped_more u p put (no_memory v rest q is fine e) = no_memory v (rest ++ p ∷ []) q (ap (λ (x : List Placed). x ++ p ∷ []) is ∙ append_assoc v (q ∷ rest) (p ∷ [])) fine e

-- a record was not applied, since the worker has stopped, or stops here
pub worked_skipped : (u : List Placed) (p : Placed) (s z : ShardState) (put : List (Item Back)) (stopped : Bool) → (stopped ≡ false → Accepts s.sp_bags p.place → ⊥) → z.taken ≡ capped_count (s.taken + 1)
    → HasWorked u s put stopped → HasWorked (u ++ p ∷ []) z put true
worked_skipped u p s z put stopped refuses taken h = record {
  taken = taken ∙ count_more u p s.taken h.taken;
  going = λ e. absurd (cc);
  at_end = λ e. ⊎_elim
      (λ t. stopped_more u p put (h.at_end t))
      (λ f. let g = h.going f in out_of_order u [] p refl (so_far u s.sp_bags put g) (λ o. refuses f (takes_next s.sp_bags p ((g.goes_on (p ∷ [])).0 o))) g.races)
      (cases_Bool stopped);
}

pub answers : (u : List Placed) (s : ShardState) (put : List (Item Back)) (stopped : Bool) → HasWorked u s put stopped → HasHandedBack u put
answers u s put stopped h = ⊎_elim (λ t. inr (h.at_end t)) (λ f. let g = h.going f in inl (so_far u s.sp_bags put g, g.races)) (cases_Bool stopped)

-- the races found in a beginning
found_front : (v u : List Placed) → IsBeginning v u → IsBeginning (found v) (found u)
found_front v u (rest, is) = (found_from (state_from state_at_start v) rest, ap found is ∙ found_from-append state_at_start v rest)

puts_found : (u : List Placed) (put : List (Item Back)) → AreInOrder u → HasHandedBack u put → PutsFound u (put ++ Finish ∷ [])
puts_found u put fine (inl (o, e)) = inl (ap (λ (x : List (Item Back)). x ++ Finish ∷ []) e)
puts_found u put fine (inr (out_of_order v rest p is o out e)) =
    let P : List Placed → Type 0 = AreInOrder in
    absurd (out (in_order-front (v ++ p ∷ []) rest (subst P (is ∙ sym (append_assoc v (p ∷ []) rest)) fine)))
puts_found u put fine (inr (no_memory v rest p is o e)) =
    inr (found v, found_front v u (p ∷ rest, is), ap (λ (x : List (Item Back)). x ++ Finish ∷ []) e ∙ append_assoc (race_items (found v)) (One NoMemory ∷ []) (Finish ∷ []))

pub puts_share : (u : List Placed) (s : ShardState) (put : List (Item Back)) (stopped : Bool) → HasWorked u s put stopped → IsOfShare u → (s.taken ≡ length u) × PutsFound u (put ++ Finish ∷ [])
puts_share u s put stopped h of =
    let few = length-in_order u (in_order u of) in (
      h.taken ∙ omega arith,
      puts_found u put (in_order u of) (answers u s put stopped h),
    )

-- the same of any records in order
pub puts_in_order : (u : List Placed) (count : ℕ) (put all : List (Item Back)) → AreInOrder u → count ≡ capped_count (length u) → all ≡ put ++ Finish ∷ [] → HasHandedBack u put → (count ≡ length u) × PutsFound u all
puts_in_order u count put all fine counted is handed =
    let few = length-in_order u fine in
    let P : List (Item Back) → Type 0 = PutsFound u in (
      counted ∙ omega arith,
      subst P (sym is) (puts_found u put fine handed),
    )
