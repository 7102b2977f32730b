-- The report of all lives, and that of a run in which each location has but one.
use Rattle.online.proofs.Common.{◌≡◌, ◌≢◌, ◌↔◌, ℕ, zero, suc, ◌/◌, ◌%◌, ◌^◌, ◌<◌, ◌≤◌, Bool, true, false, List, [], ◌∷◌, ◌++◌, length, replicate, map, Option, Some, None, refl, sym, ap, subst, ◌∙◌, ⊎_elim, arith, AllByRecursion, option_to_list, map-append, cases_lt, Back, Kind, Record, Spawn, Call, Return, Sync, Read, Write, Placed, Access, RaceAt, Cell, untouched, race_with, rival, State, state_at_start, state_after, after_record, race_of, found, found_from, put_in, by_location, verdict, found_from-apart, found-reported, KeepsBest, IsCollected, best, placed, placed_from, IsWellNested, named, first_lives, home, at_home, IsOfFirstLife, AreOfFirstLives, IsReportOfLives, HasRacyLife, IsRaceCount, Online, HasTakenPlaced}
use Rattle.std.proofs.lemmas.List.Elements.{recursion_from_All}
use Rattle.collect.specs.Reports.{IsReportList}
use Rattle.collect.proofs.Sorted.{collected_is_sorted}
use Rattle.collect.proofs.Ascending.{Ascends-from_increasing}
use Rattle.collect.proofs.FirstLeast.{KeptOf, all_in, in_race_on, in_round, kept_best, race_on_in}
use Rattle.collect.proofs.Merging.{from_map, in_map}
use Rattle.dag.proofs.Once.{In, In_from, Contains_from}
use Rattle.shadow.proofs.Listed.{In-by_location, In-from_by_location}
use Rattle.shadow.proofs.Headlines.{racy}
use Rattle.verdict.specs.Racy.{HasLocation}

pub reported_lives : (u : List Placed) (lives : ℕ → ℕ) (d : Online) (rs : List RaceAt) → HasTakenPlaced u lives d → ((g : List Back) → KeepsBest g d.kept → IsCollected g rs) → IsReportOfLives u rs
reported_lives u lives d rs h collected =
    let c = collected h.given h.holds in
    record { ascending = c.is_report; best_on = λ l. c.best_on l ∙ ap (best l) h.races }

-- a location that is no name of a first life has no access, and so no race
in_first_life : (u : List Placed) (d : Online) → HasTakenPlaced u first_lives d → (l : ℕ) → ((state_after u).kept l).reported ≡ true → l < 2 ^ 64
in_first_life u d h l e = ⊎_elim (λ (f : l < 2 ^ 64). f) (λ (f : 2 ^ 64 ≤ l). absurd (unreported (sym e ∙ ap (λ (c : Cell). c.reported) (none f)))) (cases_lt l (2 ^ 64))
  where
    unreported : true ≡ false → ⊥
    unreported x = cc

    none : 2 ^ 64 ≤ l → (state_after u).kept l ≡ untouched
    none f =
        let is : named (l % 2 ^ 64) (l / 2 ^ 64) ≡ l = omega arith in
        ap (state_after u).kept (sym is) ∙ h.later (l % 2 ^ 64) (l / 2 ^ 64) (omega arith) (omega (arith, f))

at_home_all : (u : List Placed) (d : Online) → HasTakenPlaced u first_lives d → (rs : List RaceAt) → AllByRecursion (λ r. ((state_after u).kept r.location).reported ≡ true) rs → map at_home rs ≡ rs
at_home_all u d h [] a = refl
at_home_all u d h (r ∷ rs) a =
    let small : r.location % 2 ^ 64 ≡ r.location = omega (arith, in_first_life u d h r.location a.0) in
    (λ i. record { location = small i; first = r.first; second = r.second } ∷ at_home_all u d h rs a.1 i)

reported_home : (u : List Placed) (lives : ℕ → ℕ) (d : Online) (rs : List RaceAt) → HasTakenPlaced u lives d → map at_home (found u) ≡ found u → ((g : List Back) → KeepsBest g d.kept → IsCollected g rs) → rs ≡ by_location (found u)
reported_home u lives d rs h same collected =
    let races = h.races ∙ same in
    collected_is_sorted put_in by_location (λ r. refl) (λ r s ss. refl) refl (λ r ss. refl) h.given rs (found u) (collected h.given h.holds) (found_from-apart state_at_start u) (λ l. ap (best l) races)

pub reported_first : (u : List Placed) (d : Online) (rs : List RaceAt) → HasTakenPlaced u first_lives d → ((g : List Back) → KeepsBest g d.kept → IsCollected g rs) → rs ≡ by_location (found u)
reported_first u d rs h = reported_home u first_lives d rs h (at_home_all u d h (found u) (found-reported state_at_start u))

-- races of first lives are those of their locations

race_at_home : (l : ℕ) (kind : Kind) (place : ℕ) (b : Bool) (o : Option Access) → l < 2 ^ 64 → map at_home (option_to_list (race_with l kind place b o)) ≡ option_to_list (race_with l kind place b o)
race_at_home l kind place b None f = refl
race_at_home l kind place true (Some a) f = refl
race_at_home l kind place false (Some a) f =
    let small : l % 2 ^ 64 ≡ l = omega (arith, f) in
    ap (λ n. record { location = n; first = a; second = record { kind = kind; place = place } } ∷ []) small

record_at_home : (s : State) (place : ℕ) (r : Record) → IsOfFirstLife r → map at_home (option_to_list (race_of s place r)) ≡ option_to_list (race_of s place r)
record_at_home s place Spawn f = refl
record_at_home s place Call f = refl
record_at_home s place Return f = refl
record_at_home s place Sync f = refl
record_at_home s place (Read l) f = race_at_home l Kind.Read place (s.kept l).reported (rival s.bags.active Kind.Read (s.kept l)) f
record_at_home s place (Write l) f = race_at_home l Kind.Write place (s.kept l).reported (rival s.bags.active Kind.Write (s.kept l)) f

races_at_home : (s : State) (i : ℕ) (u : List Record) → AllByRecursion IsOfFirstLife u → map at_home (found_from s (placed_from i u)) ≡ found_from s (placed_from i u)
races_at_home s i [] a = refl
races_at_home s i (r ∷ u) a =
    let rest = found_from (after_record s i r) (placed_from (suc i) u) in
    map-append at_home (option_to_list (race_of s i r)) rest ∙ (λ j. record_at_home s i r a.0 j ++ races_at_home (after_record s i r) (suc i) u a.1 j)

pub reported_once : (u : List Record) (lives : ℕ → ℕ) (d : Online) (rs : List RaceAt) → AreOfFirstLives u → HasTakenPlaced (placed u) lives d → ((g : List Back) → KeepsBest g d.kept → IsCollected g rs) → rs ≡ verdict u
reported_once u lives d rs first h = reported_home (placed u) lives d rs h (races_at_home state_at_start 1 u (recursion_from_All IsOfFirstLife u first))

-- ---- the locations that are reported

module _ (u : List Record) (n d : ℕ) (rs : List RaceAt) (nested : IsWellNested u n d) (h : IsReportOfLives (placed u) rs) (l : ℕ) where
  abbrev all : List RaceAt
  all = found (placed u)

  to_life : HasLocation rs l → HasRacyLife u l
  to_life (r, c, e) =
      let best_is : best r.location (map at_home all) ≡ Some r = sym (h.best_on r.location) ∙ race_on_in rs r (Ascends-from_increasing rs h.ascending.ascending) (In_from rs r c) in
      let least = (subst (KeptOf r.location (map at_home all)) best_is (kept_best r.location (map at_home all))).1 in
      let y = from_map at_home all r (subst (In r) (sym least.came) (in_round least.before least.after r)) in
      (y.0.location, ap (λ (q : RaceAt). q.location) y.2 ∙ e, (racy u nested y.0.location).1 (y.0, Contains_from (verdict u) y.0 (In-by_location y.0 all y.1), refl))

  from_life : HasRacyLife u l → HasLocation rs l
  from_life (x, e, race) =
      let y = (racy u nested x).0 race in
      let inside : In (at_home y.0) (map at_home all) = in_map at_home all y.0 (In-from_by_location y.0 all (In_from (verdict u) y.0 y.1)) in
      go (best l (map at_home all)) refl (kept_best l (map at_home all)) y.0 inside (ap (λ q. q % 2 ^ 64) y.2 ∙ e)
    where
      go : (o : Option RaceAt) → best l (map at_home all) ≡ o → KeptOf l (map at_home all) o → (y : RaceAt) → In (at_home y) (map at_home all) → home y.location ≡ l → HasLocation rs l
      go None b k y i q = absurd (all_in (λ s. l ≢ s.location) (map at_home all) (at_home y) k i (sym q))
      go (Some s) b k y i q = (s, Contains_from rs s (in_race_on l rs s (h.best_on l ∙ b)), k.0)

  pub lives_racy : HasLocation rs l ↔ HasRacyLife u l
  lives_racy = (to_life, from_life)

-- ---- how many locations have raced

-- returns find no race
found_before_returns : (s : State) (i : ℕ) (u : List Record) (n : ℕ) → found_from s (placed_from i (u ++ replicate n Return)) ≡ found_from s (placed_from i u)
found_before_returns s i [] zero = refl
found_before_returns s i [] (suc n) = found_before_returns (after_record s i Return) (suc i) [] n
found_before_returns s i (r ∷ u) n = ap (λ l. option_to_list (race_of s i r) ++ l) (found_before_returns (after_record s i r) (suc i) u n)

pub race_count : (u : List Record) (lives : ℕ → ℕ) (d : Online) (count : ℕ) → HasTakenPlaced (placed u) lives d → count ≡ length d.kept.races → IsReportList d.kept.races → IsRaceCount u count
race_count u lives d count h counted report =
    let of : (w : List Placed) → found w ≡ found (placed u) → IsReportOfLives w d.kept.races
    = λ w same. record { ascending = report; best_on = λ l. h.holds.best_on l ∙ ap (best l) (h.races ∙ ap (map at_home) (sym same)) } in
    record {
      races = d.kept.races;
      counted = counted;
      of_lives = of (placed u) refl;
      racy = λ returns records depths nested. lives_racy (u ++ replicate returns Return) records depths d.kept.races nested (of (placed (u ++ replicate returns Return)) (found_before_returns state_at_start 1 u returns));
    }
