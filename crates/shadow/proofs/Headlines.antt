-- The verdict of the rules is the report of the dag.
use Rattle.shadow.proofs.Common.{◌≡◌, ℕ, ◌≤◌, List, [], ◌∷◌, map, take, Contains, ◌↔◌, inl, refl, subst, arith, IsStrictlyIncreasing, Record, IsWellNested, placed, RaceAt, IsRace, IsReported, IsReport, state_at_start, found, verdict, In, In_from, Contains_from, report_once}
use Rattle.shadow.proofs.FoundLaws.{Rising-placed_from, Rising-take, found-increasing, found_from-apart}
use Rattle.shadow.proofs.Listed.{increasing-by_location, In-by_location, In-from_by_location}
use Rattle.shadow.proofs.Early.{early, early-all, reports_of}

-- the races found in the first t records come by their second places
pub early-increasing : (w : List Record) (t : ℕ) → IsStrictlyIncreasing (map (λ r. r.second.place) (found (take t (placed w))))
early-increasing w t = found-increasing 0 (take t (placed w)) (Rising-take 0 t (placed w) (Rising-placed_from 0 1 w (omega arith)))

-- they are the races of which the second place is at most t
pub early-exactly : (w : List Record) {n d : ℕ} → IsWellNested w n d → (t : ℕ) (r : RaceAt) → Contains (found (take t (placed w))) r ↔ (IsReported w r × (r.second.place ≤ t))
early-exactly w v t r =
    let a = early w v t r in
    ((λ h. a.0 (In_from _ r h)), (λ h. Contains_from _ r (a.1 h)))

pub verdict_is_report : (w : List Record) {n d : ℕ} → IsWellNested w n d → IsReport w (verdict w)
verdict_is_report w v = record {
  ascending = increasing-by_location (found (placed w)) (found_from-apart state_at_start (placed w));
  exactly = λ r. ((λ h. (early-all w v r).0 (In-from_by_location r _ (In_from _ r h))), (λ h. Contains_from _ r (In-by_location r _ ((early-all w v r).1 h))));
}

pub report_is_verdict : (w : List Record) {n d : ℕ} → IsWellNested w n d → (rs : List RaceAt) → IsReport w rs → rs ≡ verdict w
report_is_verdict w v rs a = report_once w rs (verdict w) a (verdict_is_report w v)

-- the locations of the verdict are those with a race
pub racy : (w : List Record) {n d : ℕ} → IsWellNested w n d → (l : ℕ) → ((i : ℕ) × (j : ℕ) × IsRace w l i j) ↔ ((r : RaceAt) × Contains (verdict w) r × (r.location ≡ l))
racy w v l =
    let a = verdict_is_report w v in (
      (λ h. let t = reports_of w v l h.0 h.1 h.2 in (t.0, (a.exactly t.0).1 t.1, t.2)),
      (λ h. let t = (a.exactly h.0).0 h.1 in let q = t.second.race in (q.0, h.0.second.place, subst (λ (m : ℕ). IsRace w m q.0 h.0.second.place) h.2 q.1)),
    )

no_elements : (rs : List RaceAt) → ((r : RaceAt) → In r rs → ⊥) → rs ≡ []
no_elements [] f = refl
no_elements (r ∷ rs) f = absurd (f r (inl refl))

-- the verdict is empty just where no location has a race
pub race_free : (w : List Record) {n d : ℕ} → IsWellNested w n d → (verdict w ≡ []) ↔ ((l : ℕ) → ((i : ℕ) × (j : ℕ) × IsRace w l i j) → ⊥)
race_free w v = (
  (λ e l h. let t = (racy w v l).0 h in let z : In t.0 [] = subst (In t.0) e (In_from (verdict w) t.0 t.1) in absurd z),
  (λ f. no_elements (verdict w) (λ r h. let t = (racy w v r.location).1 (r, Contains_from (verdict w) r h, refl) in f r.location t)),
)
