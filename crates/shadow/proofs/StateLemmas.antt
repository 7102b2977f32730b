-- One more record: the state after it, and the races found up to it.
use Rattle.shadow.proofs.Common.{◌≡◌, List, [], ◌∷◌, ◌++◌, Option, refl, sym, ap, ◌∙◌, true, length, eq-eqb, eqb-true, Record, Procedures, Result, Ok, Err, OnOk, Placed, RaceAt, after_record, race_of, found, SpBags, state_of, HasSeen, HasApplied, is_root_return, option_to_list}
use Rattle.dag.specs.declared.records.Record.TheVariants as records
use Rattle.shadow.proofs.FoundLaws.{state_after-push, found-push}

pub seen_next : (u : List Placed) (p : Placed) (old new : SpBags) → HasApplied p old new → HasSeen u old → HasSeen (u ++ p ∷ []) new
seen_next u p old new applied seen = applied.state ∙ ap (λ s. after_record s p.place p.what) seen ∙ sym (state_after-push u p)

pub found_next : (u : List Placed) (p : Placed) (s : SpBags) (o : Option RaceAt) → o ≡ race_of (state_of s) p.place p.what → HasSeen u s → found (u ++ p ∷ []) ≡ found u ++ option_to_list o
found_next u p s o is seen = found-push u p ∙ ap (λ r. found u ++ option_to_list r) (sym (is ∙ ap (λ t. race_of t p.place p.what) seen))

-- the root's return
pub root_is : (b : Procedures) (r : Record) → is_root_return b r ≡ true → (r ≡ records.Return) × (length b.active ≡ 1)
root_is b records.Return e = (refl, eqb-true (length b.active) 1 e)
root_is b records.Spawn e = absurd (cc)
root_is b records.Call e = absurd (cc)
root_is b records.Sync e = absurd (cc)
root_is b (records.Read l) e = absurd (cc)
root_is b (records.Write l) e = absurd (cc)

pub root_by : (b : Procedures) (r : Record) → r ≡ records.Return → length b.active ≡ 1 → is_root_return b r ≡ true
root_by b records.Return is one = eq-eqb (length b.active) 1 one
root_by b records.Spawn is one = absurd (cc)
root_by b records.Call is one = absurd (cc)
root_by b records.Sync is one = absurd (cc)
root_by b (records.Read l) is one = absurd (cc)
root_by b (records.Write l) is one = absurd (cc)

pub map_OnOk : {T E : Type 0} (r : Result T E) (P Q : Type 0) → (P → Q) → OnOk r P → OnOk r Q
map_OnOk (Ok x) P Q f h = f h
map_OnOk (Err e) P Q f h = h
