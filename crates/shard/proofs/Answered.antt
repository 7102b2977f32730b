-- Where a worker's lane back has no refused growth, its races are those found.
use Rattle.shard.proofs.Common.{◌≡◌, true, false, true≢false, List, [], ◌∷◌, ◌++◌, inl, inr, refl, sym, ap, ◌∙◌, Placed, RaceAt, found, Item, One, Finish, records, Back, NoMemory, race_items, PutsFound}
use Rattle.dag.specs.Backs.{races_of, fails}

races-put : (rs : List RaceAt) → races_of (records (race_items rs ++ Finish ∷ [])) ≡ rs
races-put [] = refl
races-put (r ∷ rs) = ap (λ (l : List RaceAt). r ∷ l) (races-put rs)

fails-starved : (rs : List RaceAt) → fails (records (race_items rs ++ One NoMemory ∷ Finish ∷ [])) ≡ true
fails-starved [] = refl
fails-starved (r ∷ rs) = fails-starved rs

pub answered : (u : List Placed) (put : List (Item Back)) → PutsFound u put → fails (records put) ≡ false → races_of (records put) ≡ found u
answered u put (inl e) h = ap (λ (l : List (Item Back)). races_of (records l)) e ∙ races-put (found u)
answered u put (inr (rs, begins, e)) h = absurd (true≢false (sym (fails-starved rs) ∙ sym (ap (λ (l : List (Item Back)). fails (records l)) e) ∙ h))
