-- The end of a run: what the workers took are the shares, and what they gave back are the races found in them.
use Rattle.detect.proofs.Common.{◌≡◌, ℕ, zero, suc, ◌<◌, true, false, List, [], ◌∷◌, ◌++◌, length, map, get_or, refl, sym, ap, ap₂, subst, ◌∙◌, arith, Placed, share, found, Item, One, Finish, has_mark, records, LaneId, Back, Worked, AreInOrder, PutsFound, all_given, AllDid, taken_by, given_back, counts_of, taker_lanes, given_lanes, IsSettled}
use Rattle.dag.specs.Backs.{races_of, fails}
use Rattle.shard.proofs.Answered.{answered}
use Rattle.shard.proofs.Works.{puts_in_order}
use Rattle.detect.proofs.Gathered.{on_lane, fails_on}

-- ---- what the workers have done, shard by shard

-- a worker took these items up to the mark, and gave back and counted what it had to of records in order
pub record IsWork (taken : List (Item Placed)) (backs : List (Item Back)) (count : ℕ) : Type 0 where
  pub to_mark : taken ≡ map One (records taken) ++ Finish ∷ []
  pub of_order : AreInOrder (records taken) → (count ≡ length (records taken)) × PutsFound (records taken) backs

module _ {S H : Type 0} where
  pub did_at : (ls : List (LaneId × LaneId)) (ws : List (Worked S H)) (k : ℕ) → AllDid ls ws → k < length ws → IsWork (get_or (taken_by ws) k []) (get_or (given_back ws) k []) (get_or (counts_of ws) k 0)
  did_at [] [] k h lt = absurd (omega (arith, lt))
  did_at [] (w ∷ ws) k h lt = absurd h
  did_at (l ∷ ls) [] k h lt = absurd h
  did_at (l ∷ ls) (w ∷ ws) zero h lt = record {
    to_mark = h.0.did.to_mark;
    of_order = λ o. puts_in_order _ _ h.0.did.answers.0 _ o h.0.did.count h.0.did.answers.1 h.0.did.answers.2;
  }
  did_at (l ∷ ls) (w ∷ ws) (suc k) h lt = did_at ls ws k h.1 (omega (arith, lt))

  pub did_taker_lanes : (ls : List (LaneId × LaneId)) (ws : List (Worked S H)) → AllDid ls ws → taker_lanes ws ≡ map (λ l. l.0) ls
  did_taker_lanes [] [] h = refl
  did_taker_lanes [] (w ∷ ws) h = absurd h
  did_taker_lanes (l ∷ ls) [] h = absurd h
  did_taker_lanes (l ∷ ls) (w ∷ ws) h = ap₂ (λ x xs. x ∷ xs) (h.0.did.same_taker ∙ sym (ap (λ (p : LaneId × LaneId). p.0) h.0.lanes_are)) (did_taker_lanes ls ws h.1)

  pub did_given_lanes : (ls : List (LaneId × LaneId)) (ws : List (Worked S H)) → AllDid ls ws → given_lanes ws ≡ map (λ l. l.1) ls
  did_given_lanes [] [] h = refl
  did_given_lanes [] (w ∷ ws) h = absurd h
  did_given_lanes (l ∷ ls) [] h = absurd h
  did_given_lanes (l ∷ ls) (w ∷ ws) h = ap₂ (λ x xs. x ∷ xs) (h.0.did.same_back ∙ sym (ap (λ (p : LaneId × LaneId). p.1) h.0.lanes_are)) (did_given_lanes ls ws h.1)

  pub did_count : (ls : List (LaneId × LaneId)) (ws : List (Worked S H)) → AllDid ls ws → length ws ≡ length ls
  did_count [] [] h = refl
  did_count [] (w ∷ ws) h = absurd h
  did_count (l ∷ ls) [] h = absurd h
  did_count (l ∷ ls) (w ∷ ws) h = ap suc (did_count ls ws h.1)

-- ---- one shard

has_mark-last : {T : Type 0} (xs : List T) → has_mark (map One xs ++ Finish ∷ []) ≡ true
has_mark-last [] = refl
has_mark-last (x ∷ xs) = has_mark-last xs

records-one_each : {T : Type 0} (xs : List T) → records (map One xs ++ Finish ∷ []) ≡ xs
records-one_each [] = refl
records-one_each (x ∷ xs) = ap (λ l. x ∷ l) (records-one_each xs)

-- what is known at the end, of n shards of the records u
pub record IsEnd (n : ℕ) (u : List Placed) (taken : List (List (Item Placed))) (given backs : List (List (Item Back))) (counts : List ℕ) : Type 0 where
  pub works : (k : ℕ) → k < n → IsWork (get_or taken k []) (get_or backs k []) (get_or counts k 0)
  pub share_taken : (k : ℕ) → k < n → get_or taken k [] ≡ map One (share k n u) ++ Finish ∷ []
  pub settled_back : (k : ℕ) → k < n → IsSettled given backs k
  pub ended : (k : ℕ) → k < n → has_mark (get_or given k []) ≡ true

-- a worker took up to the mark
pub marked_work : (taken : List (Item Placed)) (backs : List (Item Back)) (count : ℕ) → IsWork taken backs count → has_mark taken ≡ true
marked_work taken backs count h = ap has_mark h.to_mark ∙ has_mark-last (records taken)

pub took_records : (n : ℕ) (u : List Placed) (taken : List (List (Item Placed))) (given backs : List (List (Item Back))) (counts : List ℕ) → IsEnd n u taken given backs counts
    → (k : ℕ) → k < n → records (get_or taken k []) ≡ share k n u
took_records n u taken given backs counts h k lt = ap records (h.share_taken k lt) ∙ records-one_each (share k n u)

-- each share is in order
abbrev pub OrderlyShares : ℕ → List Placed → Type 0
OrderlyShares n u = (k : ℕ) → AreInOrder (share k n u)

pub counted_share : (n : ℕ) (u : List Placed) (taken : List (List (Item Placed))) (given backs : List (List (Item Back))) (counts : List ℕ) → OrderlyShares n u → IsEnd n u taken given backs counts
    → (k : ℕ) → k < n → get_or counts k 0 ≡ length (share k n u)
counted_share n u taken given backs counts orders h k lt =
    let is = took_records n u taken given backs counts h k lt in
    ((h.works k lt).of_order (subst AreInOrder (sym is) (orders k))).0 ∙ ap length is

pub given_share : (n : ℕ) (u : List Placed) (taken : List (List (Item Placed))) (given backs : List (List (Item Back))) (counts : List ℕ) → OrderlyShares n u → IsEnd n u taken given backs counts
    → fails (all_given given) ≡ false → (k : ℕ) → k < n → races_of (on_lane given k) ≡ found (share k n u)
given_share n u taken given backs counts orders h none k lt =
    let is = took_records n u taken given backs counts h k lt in
    let all : get_or given k [] ≡ get_or backs k [] = (h.settled_back k lt).whole (h.ended k lt) in
    let finds = ((h.works k lt).of_order (subst AreInOrder (sym is) (orders k))).1 in
    let good : fails (records (get_or backs k [])) ≡ false = ap (λ (l : List (Item Back)). fails (records l)) (sym all) ∙ fails_on given k none in
    ap (λ (l : List (Item Back)). races_of (records l)) all ∙ answered (records (get_or taken k [])) (get_or backs k []) finds good ∙ ap found is
