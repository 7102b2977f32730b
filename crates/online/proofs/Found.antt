-- What a detector has found, after more records.
use Rattle.online.proofs.Common.{◌≡◌, ◌≢◌, ℕ, ◌%◌, ◌^◌, ◌<◌, ◌≤◌, ◌⊎◌, inl, inr, ⊎_elim, arith, cond, nat_eq, false, List, [], ◌∷◌, ◌++◌, append_assoc, map, refl, sym, ◌∙◌, ap, subst, Option, None, Some, Result, Ok, Err, OnOk, OnErr, IsErr, option_to_list, cases_lt, eq-eqb, ne_eqb, map-append, Back, Race, NoMemory, Record, Placed, Kind, RaceAt, Active, Cell, untouched, touched, race_at, Shadow, kept_of, with_cell, State, state_at_start, state_from, state_after, after_record, bags-after_record, found, found_from, state_from-append, found_from-append, found-push, Collection, KeepsBest, races_of, fails, location_of, touched_at, Blocks, kept_in_blocks, block_of, unit_of, first_of, kept_after_units, races_in_block, accesses, named, placed_in_life, at_home, Online, kept_in_both, HasTakenPlaced, WantsMemory, IsOpening, SpBags, HasApplied, MayGrow, state_of, Procedures, ◌+◌, IsApart, HasFollowedNext, TakesPlaced, Wants, in_life, append-nil, races_of_same}
use Rattle.dag.specs.declared.records.Record.TheVariants as records
use Rattle.dag.specs.declared.records.Kind.TheVariants as kinds
use Rattle.shadow.specs.Found as rules
use Rattle.collect.proofs.Best.{races_of-append}
use Rattle.online.proofs.Lived.{IsWithin, AreWithin, all_lived, race_lived}
use Rattle.online.proofs.OneByOne.{seen_units, found_units, within_units}

races_of-races : (rs : List RaceAt) → races_of (map Race rs) ≡ rs
races_of-races [] = refl
races_of-races (r ∷ rs) = ap (λ l. r ∷ l) (races_of-races rs)

fails_of_races : (rs : List RaceAt) → fails (map Race rs) ≡ false
fails_of_races [] = refl
fails_of_races (r ∷ rs) = fails_of_races rs

fails-races : (g : List Back) (rs : List RaceAt) → fails (g ++ map Race rs) ≡ fails g
fails-races [] rs = fails_of_races rs
fails-races (Race r ∷ g) rs = fails-races g rs
fails-races (NoMemory ∷ g) rs = refl

-- what it keeps of the locations, as a state
abbrev pub state_in_both : SpBags → Blocks → State
state_in_both s blocks = record { bags = s.bags; kept = kept_in_both s.shadow blocks }

abbrev pub whole_state : Online → State
whole_state d = state_in_both d.sp_bags d.blocks

-- more records
pub met_more : (u : List Placed) (lives : ℕ → ℕ) (v : List Placed) (d e : Online) → HasTakenPlaced u lives d → AreWithin v → e.sp_bags.bags ≡ (state_from (whole_state d) v).bags → ((l : ℕ) → kept_in_both e.sp_bags.shadow e.blocks l ≡ (state_from (whole_state d) v).kept l)
    → ((g : List Back) → KeepsBest g d.kept → KeepsBest (g ++ map Race (found_from (whole_state d) v)) e.kept) → HasTakenPlaced (u ++ map (placed_in_life lives) v) lives e
met_more u lives v d e h within bags_are cells_are taken =
    let w : List Placed = map (placed_in_life lives) v in
    let races : List RaceAt = found_from (whole_state d) v in
    let t : State = state_after u in
    let lived = all_lived lives (whole_state d) t v within (record { bags = h.bags_are; kept = h.cells_are; later = h.later }) in
    let after : state_from t w ≡ state_after (u ++ w) = sym (state_from-append state_at_start u w) in
    record {
      bags_are = bags_are ∙ lived.0.bags ∙ ap (λ (s : State). s.bags) after;
      cells_are = λ l f. cells_are l ∙ lived.0.kept l f ∙ ap (λ (s : State). s.kept (named l (lives l))) after;
      later = λ l k f j. ap (λ (s : State). s.kept (named l k)) (sym after) ∙ lived.0.later l k f j;
      given = h.given ++ map Race races;
      holds = taken h.given h.holds;
      none_failed = fails-races h.given races ∙ h.none_failed;
      races = races_of-append h.given (map Race races) ∙ ap (λ l. races_of h.given ++ l) (races_of-races races) ∙ ap (λ l. l ++ races) h.races
          ∙ ap (λ l. map at_home (found u) ++ l) (sym lived.1) ∙ sym (map-append at_home (found u) (found_from t w)) ∙ ap (map at_home) (sym (found_from-append state_at_start u w));
    }

-- ---- both shadow memories

pub odd_cell : (cells : Shadow) (blocks : Blocks) (l : ℕ) → l % 2 ≢ 0 → kept_in_both cells blocks l ≡ kept_of cells l
odd_cell cells blocks l odd = ap (λ b. cond b (kept_of cells l) (kept_in_blocks blocks l)) (eq-eqb (l % 2) 1 (omega (arith, odd)))

pub even_cell : (cells : Shadow) (blocks : Blocks) (l : ℕ) → l % 2 ≡ 0 → kept_in_both cells blocks l ≡ kept_in_blocks blocks l
even_cell cells blocks l is = ap (λ b. cond b (kept_of cells l) (kept_in_blocks blocks l)) (ne_eqb (l % 2) 1 (λ e. omega (arith, e, is)))

pub parity : (l : ℕ) → (l % 2 ≡ 0) ⊎ (l % 2 ≢ 0)
parity l = ⊎_elim (λ (h : l % 2 < 1). inl (omega (arith, h))) (λ (h : 1 ≤ l % 2). inr (λ e. omega (arith, h, e))) (cases_lt (l % 2) 1)

pub untouched_in_both : (cells : Shadow) (blocks : Blocks) → ((l : ℕ) → kept_of cells l ≡ untouched) → ((l : ℕ) → kept_in_blocks blocks l ≡ untouched) → (l : ℕ) → kept_in_both cells blocks l ≡ untouched
untouched_in_both cells blocks one other l = ⊎_elim (λ e. even_cell cells blocks l e ∙ other l) (λ o. odd_cell cells blocks l o ∙ one l) (parity l)

-- an access to units of an even block
both_after_units : (fs : List Active) (cells : Shadow) (old new : Blocks) (location : ℕ) (kind : Kind) (place units : ℕ) → location % 2 ≡ 0
    → ((l : ℕ) → kept_in_blocks new l ≡ kept_after_units fs kind place units (block_of location) (kept_in_blocks old) l)
    → (l : ℕ) → kept_in_both cells new l ≡ kept_after_units fs kind place units (block_of location) (kept_in_both cells old) l
both_after_units fs cells old new location kind place units is kept l = ⊎_elim at_even at_odd (parity l)
  where
    page : ℕ
    page = block_of location

    Goal : Type 0
    Goal = kept_in_both cells new l ≡ kept_after_units fs kind place units page (kept_in_both cells old) l

    at_even : l % 2 ≡ 0 → Goal
    at_even e = even_cell cells new l e ∙ kept l ∙ ap (λ c. cond (nat_eq (block_of l) page) (touched_at fs kind place units (unit_of l) c) c) (sym (even_cell cells old l e))

    at_odd : l % 2 ≢ 0 → Goal
    at_odd o = odd_cell cells new l o ∙ sym (odd_cell cells old l o) ∙ sym (ap (λ b. cond b (touched_at fs kind place units (unit_of l) (kept_in_both cells old l)) (kept_in_both cells old l)) (ne_eqb (block_of l) page (λ e. omega (arith, o, is, e))))

races_in_both : (fs : List Active) (cells : Shadow) (blocks : Blocks) (location : ℕ) (kind : Kind) (place units : ℕ) → location % 2 ≡ 0
    → races_in_block fs kind place units (block_of location) (kept_in_blocks blocks) ≡ races_in_block fs kind place units (block_of location) (kept_in_both cells blocks)
races_in_both fs cells blocks location kind place units is =
    let first = first_of (block_of location) in
    races_of_same fs first kind place units (λ i. kept_in_blocks blocks (location_of first i)) (λ i. kept_in_both cells blocks (location_of first i)) 64
    (λ k h. sym (even_cell cells blocks (location_of first k) (omega (arith, is))))

pub met_units : (u : List Placed) (lives : ℕ → ℕ) (d e : Online) (location : ℕ) (kind : Kind) (place units : ℕ) (races : List RaceAt) → location % 2 ≡ 0 → location < 2 ^ 64 → HasTakenPlaced u lives d
    → e.sp_bags.bags ≡ d.sp_bags.bags → e.sp_bags.shadow ≡ d.sp_bags.shadow → ((l : ℕ) → kept_in_blocks e.blocks l ≡ kept_after_units d.sp_bags.bags.active kind place units (block_of location) (kept_in_blocks d.blocks) l)
    → races ≡ races_in_block d.sp_bags.bags.active kind place units (block_of location) (kept_in_blocks d.blocks)
    → ((g : List Back) → KeepsBest g d.kept → KeepsBest (g ++ map Race races) e.kept) → HasTakenPlaced (u ++ map (placed_in_life lives) (accesses location kind place units)) lives e
met_units u lives d e location kind place units races is fits h bags cells stays reported taken =
    let v = accesses location kind place units in
    let seen = seen_units (whole_state d) location kind place units in
    let all : races ≡ found_from (whole_state d) v = reported ∙ races_in_both d.sp_bags.bags.active d.sp_bags.shadow d.blocks location kind place units is ∙ sym (found_units (whole_state d) location kind place units) in
    met_more u lives v d e h (within_units location kind place units fits) (bags ∙ sym seen.0)
    (λ l. ap (λ c. kept_in_both c e.blocks l) cells ∙ both_after_units d.sp_bags.bags.active d.sp_bags.shadow d.blocks e.blocks location kind place units is stays l ∙ sym (seen.1 l))
    (λ g keeps. subst (λ rs. KeepsBest (g ++ map Race rs) e.kept) all (taken g keeps))

-- no race is reported
pub takes_none : (kept : Collection) (races : List RaceAt) → races ≡ [] → (g : List Back) → KeepsBest g kept → KeepsBest (g ++ map Race races) kept
takes_none kept races none g keeps = subst (λ (l : List Back). KeepsBest l kept) (sym (append-nil g) ∙ ap (λ (rs : List RaceAt). g ++ map Race rs) (sym none)) keeps

-- ---- a record that is no access to an even location

after_one : (s : SpBags) (blocks : Blocks) (location : ℕ) (kind : Kind) (place : ℕ) → location % 2 ≢ 0
    → (q : ℕ) → cond (nat_eq (q % 2) 1) (with_cell location (touched s.bags.active kind place (kept_of s.shadow location)) (kept_of s.shadow) q) (kept_in_blocks blocks q)
    ≡ with_cell location (touched s.bags.active kind place (kept_in_both s.shadow blocks location)) (kept_in_both s.shadow blocks) q
after_one s blocks location kind place odd q = ⊎_elim at_even at_odd (parity q)
  where
    m : Shadow
    m = s.shadow

    one : (ℕ → Cell) → Cell
    one kept = touched s.bags.active kind place (kept location)

    Goal : Type 0
    Goal = cond (nat_eq (q % 2) 1) (with_cell location (one (kept_of m)) (kept_of m) q) (kept_in_blocks blocks q) ≡ with_cell location (one (kept_in_both m blocks)) (kept_in_both m blocks) q

    at_even : q % 2 ≡ 0 → Goal
    at_even e = ap (λ b. cond b (with_cell location (one (kept_of m)) (kept_of m) q) (kept_in_blocks blocks q)) (ne_eqb (q % 2) 1 (λ x. omega (arith, x, e)))
        ∙ sym (even_cell m blocks q e) ∙ sym (ap (λ b. cond b (one (kept_in_both m blocks)) (kept_in_both m blocks q)) (ne_eqb q location (λ x. odd (ap (λ n. n % 2) (sym x) ∙ e))))

    at_odd : q % 2 ≢ 0 → Goal
    at_odd o = ap (λ b. cond b (with_cell location (one (kept_of m)) (kept_of m) q) (kept_in_blocks blocks q)) (eq-eqb (q % 2) 1 (omega (arith, o)))
        ∙ ap (λ c. cond (nat_eq q location) (touched s.bags.active kind place c) (kept_of m q)) (sym (odd_cell m blocks location odd))
        ∙ ap (λ c. cond (nat_eq q location) (one (kept_in_both m blocks)) c) (sym (odd_cell m blocks q o))

after_apart : (s : SpBags) (blocks : Blocks) (place : ℕ) (r : Record) → IsApart r
    → (q : ℕ) → cond (nat_eq (q % 2) 1) ((after_record (state_of s) place r).kept q) (kept_in_blocks blocks q) ≡ (after_record (state_in_both s blocks) place r).kept q
after_apart s blocks place records.Spawn a q = refl
after_apart s blocks place records.Call a q = refl
after_apart s blocks place records.Return a q = refl
after_apart s blocks place records.Sync a q = refl
after_apart s blocks place (records.Read l) a q = after_one s blocks l kinds.Read place a.0 q
after_apart s blocks place (records.Write l) a q = after_one s blocks l kinds.Write place a.0 q

race_apart : (s : SpBags) (blocks : Blocks) (place : ℕ) (r : Record) → IsApart r → rules.race_of (state_of s) place r ≡ rules.race_of (state_in_both s blocks) place r
race_apart s blocks place records.Spawn a = refl
race_apart s blocks place records.Call a = refl
race_apart s blocks place records.Return a = refl
race_apart s blocks place records.Sync a = refl
race_apart s blocks place (records.Read l) a = ap (race_at s.bags.active l kinds.Read place) (sym (odd_cell s.shadow blocks l a.0))
race_apart s blocks place (records.Write l) a = ap (race_at s.bags.active l kinds.Write place) (sym (odd_cell s.shadow blocks l a.0))

within_apart : (r : Record) → IsApart r → IsWithin r
within_apart records.Spawn a = tt
within_apart records.Call a = tt
within_apart records.Return a = tt
within_apart records.Sync a = tt
within_apart (records.Read l) a = a.1
within_apart (records.Write l) a = a.1

-- where a growth was refused
pub opening : (u : List Placed) (lives : ℕ → ℕ) (d : Online) (r : Record) → IsApart r → MayGrow d.sp_bags.shadow r → HasTakenPlaced u lives d → IsOpening u (in_life lives r)
opening u lives d records.Spawn a m h = tt
opening u lives d records.Call a m h = tt
opening u lives d records.Return a m h = m
opening u lives d records.Sync a m h = m
opening u lives d (records.Read l) a m h = inr (sym (h.cells_are l a.1) ∙ odd_cell d.sp_bags.shadow d.blocks l a.0 ∙ m)
opening u lives d (records.Write l) a m h = inr (sym (h.cells_are l a.1) ∙ odd_cell d.sp_bags.shadow d.blocks l a.0 ∙ m)

module _ (u : List Placed) (lives : ℕ → ℕ) (d : Online) (p : Placed) (apart : IsApart p.what) (h : HasTakenPlaced u lives d)
    (o : Option RaceAt) (reported : o ≡ rules.race_of (state_of d.sp_bags) p.place p.what) where
  abbrev q : Placed
  q = placed_in_life lives p

  within : IsWithin p.what
  within = within_apart p.what apart

  is : option_to_list o ≡ found_from (whole_state d) (p ∷ [])
  is = ap option_to_list (reported ∙ race_apart d.sp_bags d.blocks p.place p.what apart) ∙ sym (append-nil (option_to_list (rules.race_of (whole_state d) p.place p.what)))

  pub met_one : (e : Online) → HasApplied p d.sp_bags e.sp_bags → e.blocks ≡ d.blocks → ((g : List Back) → KeepsBest g d.kept → KeepsBest (g ++ map Race (option_to_list o)) e.kept) → HasTakenPlaced (u ++ q ∷ []) lives e
  met_one e applied blocks taken =
      met_more u lives (p ∷ []) d e h (within, tt)
      (ap (λ (s : State). s.bags) applied.state ∙ bags-after_record (state_of d.sp_bags) p.place p.what ∙ sym (bags-after_record (whole_state d) p.place p.what))
      (λ l. ap (λ b. kept_in_both e.sp_bags.shadow b l) blocks ∙ ap (λ (s : State). cond (nat_eq (l % 2) 1) (s.kept l) (kept_in_blocks d.blocks l)) applied.state ∙ after_apart d.sp_bags d.blocks p.place p.what apart l)
      (λ g keeps. subst (λ rs. KeepsBest (g ++ map Race rs) e.kept) is (taken g keeps))

  -- the race of its life
  pub race_found : (r : RaceAt) → o ≡ Some r → (x : RaceAt) × (found (u ++ q ∷ []) ≡ found u ++ x ∷ [])
  race_found r some =
      let t : State = state_after u in
      let lived = race_lived lives (whole_state d) t p.place p.what within (record { bags = h.bags_are; kept = h.cells_are; later = h.later }) in
      let one : map at_home (option_to_list (rules.race_of t p.place q.what)) ≡ r ∷ [] = lived ∙ sym (append-nil (option_to_list (rules.race_of (whole_state d) p.place p.what))) ∙ sym is ∙ ap option_to_list some in
      there (rules.race_of t p.place q.what) refl one
    where
      there : (x : Option RaceAt) → rules.race_of (state_after u) p.place q.what ≡ x → map at_home (option_to_list x) ≡ r ∷ [] → (x : RaceAt) × (found (u ++ q ∷ []) ≡ found u ++ x ∷ [])
      there None e f = absurd (cc)
      there (Some x) e f = (x, found-push u q ∙ ap (λ z. found u ++ option_to_list z) e)

pub followed_one : (what : Record) (d e : Online) (place : ℕ) (o : Option RaceAt) → place ≡ d.sp_bags.last_place + 1 → IsApart what → o ≡ rules.race_of (state_of d.sp_bags) place what → HasApplied (record { place = place; what = what }) d.sp_bags e.sp_bags
    → e.blocks ≡ d.blocks → e.stopped ≡ d.stopped → ((g : List Back) → KeepsBest g d.kept → KeepsBest (g ++ map Race (option_to_list o)) e.kept) → HasFollowedNext what d e
followed_one what d e place o at apart race applied blocks going taken = record {
  met = λ u lives h. subst (λ n. HasTakenPlaced (u ++ record { place = n; what = in_life lives what } ∷ []) lives e) at (met_one u lives d (record { place = place; what = what }) apart h o race e applied blocks taken);
  last = applied.last_place ∙ at;
  ended = applied.ended;
  going = going;
}

-- what it may want memory for
pub wants_growth : (what : Record) (d : Online) → IsApart what → MayGrow d.sp_bags.shadow what → Wants what d
wants_growth what d apart grows u lives h = inl (opening u lives d what apart grows h)

pub wants_race : (what : Record) (d : Online) (place : ℕ) (o : Option RaceAt) (r : RaceAt) → place ≡ d.sp_bags.last_place + 1 → IsApart what → o ≡ rules.race_of (state_of d.sp_bags) place what → o ≡ Some r → Wants what d
wants_race what d place o r at apart race some u lives h =
    subst (λ n. WantsMemory u (record { place = n; what = in_life lives what })) at (inr (race_found u lives d (record { place = place; what = what }) apart h o race r some))

-- ---- accesses to units of a block of even locations, at the next places

pub met_block : (d e : Online) (location : ℕ) (kind : Kind) (units place : ℕ) (bags : Procedures) (races : List RaceAt) → place ≡ d.sp_bags.last_place + 1 → bags ≡ d.sp_bags.bags → e.sp_bags.bags ≡ d.sp_bags.bags → e.sp_bags.shadow ≡ d.sp_bags.shadow → location % 2 ≡ 0 → location < 2 ^ 64
    → ((l : ℕ) → kept_in_blocks e.blocks l ≡ kept_after_units bags.active kind place units (block_of location) (kept_in_blocks d.blocks) l) → races ≡ races_in_block bags.active kind place units (block_of location) (kept_in_blocks d.blocks)
    → ((g : List Back) → KeepsBest g d.kept → KeepsBest (g ++ map Race races) e.kept) → TakesPlaced (accesses location kind (d.sp_bags.last_place + 1) units) d e
met_block d e location kind units place bags races at same bags_stay cells_stay is fits kept reported taken u lives h =
    subst (λ n. HasTakenPlaced (u ++ map (placed_in_life lives) (accesses location kind n units)) lives e) at
    (met_units u lives d e location kind place units races is fits h bags_stay cells_stay
    (λ l. kept l ∙ ap (λ (b : Procedures). kept_after_units b.active kind place units (block_of location) (kept_in_blocks d.blocks) l) same)
    (reported ∙ ap (λ (b : Procedures). races_in_block b.active kind place units (block_of location) (kept_in_blocks d.blocks)) same) taken)

pub met_both : (v w : List Placed) (d m e : Online) → TakesPlaced v d m → TakesPlaced w m e → TakesPlaced (v ++ w) d e
met_both v w d m e first second u lives h =
    let f = placed_in_life lives in
    subst (λ l. HasTakenPlaced l lives e) (append_assoc u (map f v) (map f w) ∙ ap (λ l. u ++ l) (sym (map-append f v w))) (second (u ++ map f v) lives (first u lives h))

-- what holds where it is known that all went well
pub where_ok : {T E : Type 0} {x : T} (r : Result T E) (P : Type 0) → r ≡ Ok x → OnOk r P → P
where_ok (Ok y) P e h = h
where_ok (Err y) P e h = absurd (cc)

pub where_err : {T E : Type 0} (r : Result T E) (P : Type 0) → IsErr r → OnErr r P → P
where_err (Ok y) P e h = absurd (cc)
where_err (Err y) P e h = h
