-- What was taken of a lane is a beginning of its share, and with the mark that share whole.
use Rattle.route.proofs.Common.{◌≡◌, ℕ, ◌<◌, inl, inr, Bool, true, List, [], ◌∷◌, ◌++◌, map, filter, refl, sym, ap, subst, ◌∙◌, append-nil, append_assoc, cond_both, Item, One, Finish, has_mark, mark_last, records, IsBeginning, records_append, all_taken, mark_last_more, no_mark_in, Placed, goes_placed, share, IsRising, HasShare, TakesShare}
use Rattle.dag.proofs.Once.{AllAbove, Rises, Rises-from, increasing-from_rises}
use Rattle.route.proofs.Rising.{rising_front}
use Rattle.route.proofs.LaneShares.{Routes}

abbrev place_of : Placed → ℕ
place_of p = p.place

AllAbove-filter : (f : Placed → Bool) (m : ℕ) (u : List Placed) → AllAbove place_of m u → AllAbove place_of m (filter f u)
AllAbove-filter f m [] h = tt
AllAbove-filter f m (p ∷ u) h = cond_both (f p) (p ∷ filter f u) (filter f u) (AllAbove place_of m) (λ e. (h.0, AllAbove-filter f m u h.1)) (λ e. AllAbove-filter f m u h.1)

Rises-filter : (f : Placed → Bool) (u : List Placed) → Rises place_of u → Rises place_of (filter f u)
Rises-filter f [] h = tt
Rises-filter f (p ∷ u) h = cond_both (f p) (p ∷ filter f u) (filter f u) (Rises place_of) (λ e. (AllAbove-filter f p.place u h.0, Rises-filter f u h.1)) (λ e. Rises-filter f u h.1)

-- a share of records whose places rise
rising_share : (k n : ℕ) (u : List Placed) → IsRising u → IsRising (share k n u)
rising_share k n u h = increasing-from_rises place_of (share k n u) (Rises-filter (goes_placed k n) u (Rises-from place_of u h))

-- what was put on the lane is a beginning of its share
put_front : (n : ℕ) (on : ℕ → List (Item Placed)) (u : List Placed) (k : ℕ) → HasShare n on u k → IsBeginning (records (on k)) (share k n u)
put_front n on u k (inl same) = ([], sym same ∙ sym (append-nil (records (on k))))
put_front n on u k (inr (p, same, sent)) = (p ∷ [], sym same)

beginning-trans : (taken put whole : List Placed) → IsBeginning taken put → IsBeginning put whole → IsBeginning taken whole
beginning-trans taken put whole (r, e) (s, f) = (r ++ s, f ∙ ap (λ (l : List Placed). l ++ s) e ∙ append_assoc taken r s)

-- the values of a beginning
records-front : (taken put : List (Item Placed)) → IsBeginning taken put → IsBeginning (records taken) (records put)
records-front taken put (r, e) = (records r, ap records e ∙ records_append taken r)

mark_within : (taken rest : List (Item Placed)) → has_mark taken ≡ true → has_mark (taken ++ rest) ≡ true
mark_within [] rest h = absurd (cc)
mark_within (One x ∷ xs) rest h = mark_within xs rest h
mark_within (Finish ∷ xs) rest h = refl

pub mark_of_front : (taken put : List (Item Placed)) → IsBeginning taken put → has_mark taken ≡ true → has_mark put ≡ true
mark_of_front taken put (r, e) h = ap has_mark e ∙ mark_within taken r h

-- a lane has a beginning of its share of u, and with the mark that share whole
pub takes : (n : ℕ) (u : List Placed) (k : ℕ) (taken put : List (Item Placed)) → IsRising u → IsBeginning (records put) (share k n u) → (has_mark put ≡ true → put ≡ map One (share k n u) ++ Finish ∷ []) → IsBeginning taken put → TakesShare n u k taken put
takes n u k taken put rising begins marked front =
    let within = beginning-trans (records taken) (records put) (share k n u) (records-front taken put front) begins in
    let whole : has_mark taken ≡ true → put ≡ map One (share k n u) ++ Finish ∷ [] = λ h. marked (mark_of_front taken put front h) in
    let all : has_mark taken ≡ true → taken ≡ put = λ h. all_taken taken put front (ap mark_last (whole h) ∙ mark_last_more (map One (share k n u)) Finish (no_mark_in (share k n u))) h in
    record {
      front = within;
      each_once = rising_front (records taken) within.0 (subst IsRising within.1 (rising_share k n u rising));
      whole = λ h. all h ∙ whole h;
      none_more = λ h. sym (all h);
    }

pub takes_share : (n : ℕ) (on : ℕ → List (Item Placed)) (u : List Placed) (k : ℕ) (taken : List (Item Placed)) → k < n → Routes n on u → IsBeginning taken (on k) → TakesShare n u k taken (on k)
takes_share n on u k taken l routes front = takes n u k taken (on k) routes.routed.rising (put_front n on u k (routes.shares k l)) (λ h. (routes.marks k l h).whole) front
