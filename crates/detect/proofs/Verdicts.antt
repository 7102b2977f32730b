-- Where each shard handed back the races found in its share, the report is the verdict on the trace.
use Rattle.detect.proofs.Common.{◌≡◌, ℕ, suc, ◌+◌, ◌%◌, ◌<◌, false, eqb, fold, filter, List, [], ◌∷◌, length, Option, None, ⊎_elim, refl, sym, ap, subst, ◌∙◌, arith, eqb-true, AllByRecursion, cases_Bool, cond-true, cond-false, Back, Item, Placed, RaceAt, share, state_at_start, found, put_in, by_location, Collection, KeepsBest, IsCollected, races_of, kept_after, best, all_given, AreAtHomeFrom, AreAtHome, Gathers}
use Rattle.std.proofs.lemmas.Bool.Decides.{nat_tests}
use Rattle.std.proofs.Math.Nat.{mod-lt}
use Rattle.shadow.proofs.FoundLaws.{found_from-apart}
use Rattle.shadow.proofs.Sharing.{of_shard, found-share}
use Rattle.collect.proofs.Sorted.{collected_is_sorted}
use Rattle.detect.proofs.Gathered.{on_lane, best_of_lane, other_location}

home-filter : (n k : ℕ) (rs : List RaceAt) → AllByRecursion (λ r. r.location % n ≡ k) (filter (of_shard k n) rs)
home-filter n k [] = tt
home-filter n k (r ∷ rs) =
    let P : List RaceAt → Type 0 = AllByRecursion (λ s. s.location % n ≡ k) in
    ⊎_elim
    (λ e. subst P (sym (cond-true (of_shard k n r) _ _ e)) (eqb-true (r.location % n) k e, home-filter n k rs))
    (λ e. subst P (sym (cond-false (of_shard k n r) _ _ e)) (home-filter n k rs))
    (cases_Bool (of_shard k n r))

home-shares : (n j : ℕ) (lists : List (List (Item Back))) (rs : List RaceAt) → ((k : ℕ) → k < length lists → races_of (on_lane lists k) ≡ filter (of_shard (j + k) n) rs) → AreAtHomeFrom n j lists
home-shares n j [] rs h = tt
home-shares n j (items ∷ lists) rs h =
    let P : List RaceAt → Type 0 = AllByRecursion (λ r. r.location % n ≡ j) in
    let zero_more : j + 0 ≡ j = omega arith in (
      subst P (sym (h 0 (omega arith) ∙ ap (λ m. filter (of_shard m n) rs) zero_more)) (home-filter n j rs),
      home-shares n (j + 1) lists rs (λ k lt. let e : j + suc k ≡ (j + 1) + k = omega arith in h (suc k) (omega (arith, lt)) ∙ ap (λ m. filter (of_shard m n) rs) e),
    )

eqb-itself : (m : ℕ) → eqb m m ≡ false → ⊥
eqb-itself m e = grind (e, arith, nat_tests)

-- the races of the location's shard are enough for its best
best_filtered : (l n : ℕ) (o : Option RaceAt) (rs : List RaceAt) → fold (kept_after l) o (filter (of_shard (l % n) n) rs) ≡ fold (kept_after l) o rs
best_filtered l n o [] = refl
best_filtered l n o (r ∷ rs) = ⊎_elim
    (λ e. ap (fold (kept_after l) o) (cond-true (of_shard (l % n) n r) _ _ e) ∙ best_filtered l n (kept_after l o r) rs)
    (λ e. ap (fold (kept_after l) o) (cond-false (of_shard (l % n) n r) _ _ e) ∙ best_filtered l n o rs
    ∙ ap (λ x. fold (kept_after l) x rs) (sym (other_location l o r (λ same. not_here e (ap (λ m. m % n) same)))))
    (cases_Bool (of_shard (l % n) n r))
  where
    not_here : of_shard (l % n) n r ≡ false → r.location % n ≡ l % n → ⊥
    not_here e same = let P : ℕ → Type 0 = λ m. eqb m (l % n) ≡ false in absurd (eqb-itself (l % n) (subst P same e))

-- what the shards handed back, lane by lane, is the verdict by its locations
pub verdict_of_shares : (n : ℕ) (lists : List (List (Item Back))) (w : List Placed) (c : Collection) (rs : List RaceAt) → 0 < n → length lists ≡ n
    → ((k : ℕ) → k < n → races_of (on_lane lists k) ≡ found (share k n w)) → Gathers lists c → c.refused ≡ false → ((g : List Back) → KeepsBest g c → IsCollected g rs) → rs ≡ by_location (found w)
verdict_of_shares n lists w c rs some len each gathers good collected =
    let portions : (k : ℕ) → k < n → races_of (on_lane lists k) ≡ filter (of_shard k n) (found w) = λ k lt. each k lt ∙ found-share k n w in
    let P : ℕ → Type 0 = λ m. AreAtHomeFrom m 0 lists in
    let home : AreAtHome lists = subst P (sym len) (home-shares n 0 lists (found w) (λ k lt. let e : k ≡ 0 + k = omega arith in portions k (omega (arith, lt, len)) ∙ ap (λ m. filter (of_shard m n) (found w)) e)) in
    let holds = gathers.holds good home in
    collected_is_sorted put_in by_location (λ r. refl) (λ r s ss. refl) refl (λ r ss. refl) (all_given lists) rs (found w) (collected (all_given lists) holds)
    (found_from-apart state_at_start w)
    (λ l. best_of_lane l lists home ∙ ap (λ m. best l (races_of (on_lane lists (l % m)))) len
    ∙ ap (best l) (portions (l % n) (mod-lt l some)) ∙ best_filtered l n None (found w))
