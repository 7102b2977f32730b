-- How far a run has come after more records, and the records of a block at their places.
use Rattle.online.proofs.Common.{◌≡◌, ◌↔◌, ℕ, zero, suc, ◌+◌, ◌<◌, ◌≤◌, ◌^◌, nat_eq, true, false, Bool, List, [], ◌∷◌, ◌++◌, cond, length, map, ◌||◌, ◌⊎◌, inl, inr, ⊎_elim, refl, sym, ◌∙◌, ap, subst, arith, length-append, bit_at, bit_at-lt, cases_Bool, eqb-true, append_assoc, map-append, count_ones, Kind, Record, Spawn, Call, Return, Sync, Read, Write, Placed, most_records, access, placed, depth, opens, closes, Procedures, Active, after_sync, after_return, untouched, State, state_after, after_record, state_after-push, KeepsBest, placed-next, has, units_before, location_of, block_of, first_of, access_of, accesses, even, block_accesses, block_records, all_units, in_life, placed_in_life, first_lives, is_root_return, root_is, root_by, HasFollowedNext, TakesPlaced, HasOnlyAccessed, Online, HasTakenPlaced, IsActiveCount, IsRunning, IsAfter, kept_in_both, append-nil}
use Rattle.online.specs.Accesses.{accesses_up_to}
use Rattle.std.proofs.lemmas.List.Sums.{sum_by-append}
use Rattle.dag.specs.declared.records.Kind.TheVariants as kinds
use Rattle.shadow.specs.SpBags.{IsAtStart}
use Rattle.trace.specs.Faults.{HasEnded}
use Rattle.trace.proofs.Places.{depth-next, ended_before, ended_by, ended_after}

-- ---- how many procedures are active

after_a_return : (fs : List Active) → 1 ≤ length fs → (length fs ≡ 1 → ⊥) → (1 ≤ length (after_return fs)) × (length (after_return fs) + 1 ≡ length fs + 0)
after_a_return [] some others = absurd (omega arith)
after_a_return (f ∷ []) some others = absurd (others refl)
after_a_return (g ∷ f ∷ fs) some others = (omega arith, omega arith)

after_a_sync : (fs : List Active) → 1 ≤ length fs → (1 ≤ length (after_sync fs)) × (length (after_sync fs) + 0 ≡ length fs + 0)
after_a_sync [] some = absurd (omega arith)
after_a_sync (f ∷ fs) some = (some, refl)

-- after a record that isn't the root's return
still_active : (s : State) (place : ℕ) (r : Record) → 1 ≤ length s.bags.active → (r ≡ Return → length s.bags.active ≡ 1 → ⊥)
    → (1 ≤ length (after_record s place r).bags.active) × (length (after_record s place r).bags.active + closes r ≡ length s.bags.active + opens r)
still_active s place Spawn some others = (omega arith, omega arith)
still_active s place Call some others = (omega arith, omega arith)
still_active s place Return some others = after_a_return s.bags.active some (others refl)
still_active s place Sync some others = after_a_sync s.bags.active some
still_active s place (Read l) some others = (some, refl)
still_active s place (Write l) some others = (some, refl)

-- ---- before the first record

none_ended : HasEnded [] → ⊥
none_ended (i, p, e) = let a = p.0 in let b = p.1 in omega arith

pub after_none : (d : Online) → IsAtStart d.sp_bags → ((l : ℕ) → kept_in_both d.sp_bags.shadow d.blocks l ≡ untouched) → KeepsBest [] d.kept → d.stopped ≡ false → IsAfter [] first_lives d
after_none d start kept_are keeps going = record {
  met = record { bags_are = ap (λ (s : State). s.bags) start.state; cells_are = λ l f. kept_are l; later = λ l k f j. refl; given = []; holds = keeps; none_failed = refl; races = refl };
  last = start.last_place;
  within = omega arith;
  runs = record {
    by_return = ((λ e. absurd (let f = start.running in cc)), (λ e. absurd (none_ended e)));
    counted = λ _.
        let one : length d.sp_bags.bags.active ≡ 1 = ap (λ (s : State). length s.bags.active) start.state in
        record { some = omega arith; balance = omega arith };
  };
  going = going;
}

-- ---- one more

-- the same record in its life
root_in_life : (lives : ℕ → ℕ) (b : Procedures) (r : Record) → is_root_return b (in_life lives r) ≡ is_root_return b r
root_in_life lives b Spawn = refl
root_in_life lives b Call = refl
root_in_life lives b Return = refl
root_in_life lives b Sync = refl
root_in_life lives b (Read l) = refl
root_in_life lives b (Write l) = refl

-- one of two is true
either : (a b c : Bool) → c ≡ (a || b) → (c ≡ true) ↔ ((a ≡ true) ⊎ (b ≡ true))
either true b c e = ((λ t. inl refl), (λ s. e))
either false b c e = ((λ t. inr (sym e ∙ t)), (λ s. ⊎_elim (λ x. absurd (cc)) (λ x. e ∙ x) s))

module _ (u : List Record) (lives : ℕ → ℕ) (what : Record) (d e : Online) (limit : d.sp_bags.last_place + 1 ≤ most_records) (h : IsAfter u lives d) (f : HasFollowedNext what d e) where
  abbrev p : Placed
  p = record { place = d.sp_bags.last_place + 1; what = in_life lives what }

  comes_next : p.place ≡ length u + 1
  comes_next = ap (λ n. n + 1) h.last

  ended : (e.sp_bags.ended ≡ true) ↔ ((d.sp_bags.ended ≡ true) ⊎ (is_root_return d.sp_bags.bags p.what ≡ true))
  ended = either d.sp_bags.ended (is_root_return d.sp_bags.bags p.what) e.sp_bags.ended (f.ended ∙ ap (λ b. d.sp_bags.ended || b) (sym (root_in_life lives d.sp_bags.bags what)))

  abbrev v : List Record
  v = u ++ p.what ∷ []

  longer : length v ≡ length u + 1
  longer = length-append u (p.what ∷ [])

  more : HasTakenPlaced (placed u ++ p ∷ []) lives e
  more = f.met (placed u) lives h.met

  were : length d.sp_bags.bags.active ≡ length (state_after (placed u)).bags.active
  were = ap (λ (b : Procedures). length b.active) h.met.bags_are

  are : length e.sp_bags.bags.active ≡ length (after_record (state_after (placed u)) p.place p.what).bags.active
  are = ap (λ (b : Procedures). length b.active) (more.bags_are ∙ ap (λ (s : State). s.bags) (state_after-push (placed u) p))

  active : e.sp_bags.ended ≡ false → IsActiveCount v (length e.sp_bags.bags.active)
  active runs =
      let ran : d.sp_bags.ended ≡ false = ⊎_elim (λ t. absurd (let z = ended.1 (inl t) in cc)) (λ f. f) (cases_Bool d.sp_bags.ended) in
      let before = h.runs.counted ran in
      let next = still_active (state_after (placed u)) p.place p.what (omega (arith, before.some, were)) (λ is one. absurd (let z = ended.1 (inr (root_by d.sp_bags.bags p.what is (were ∙ one))) in cc)) in
      record { some = omega (arith, next.0, are); balance = omega (arith, before.balance, were, are, next.1, sum_by-append opens u (p.what ∷ []), sum_by-append closes u (p.what ∷ [])) }

  to_end : e.sp_bags.ended ≡ true → HasEnded v
  to_end t = ⊎_elim
      (λ before. ended_before u p.what (h.runs.by_return.0 before))
      (λ root. ⊎_elim
      (λ before. ended_before u p.what (h.runs.by_return.0 before))
      (λ ran.
      let returns = root_is d.sp_bags.bags p.what root in
      let flat : depth u (suc (length u)) ≡ 0 = omega (arith, depth-next u, (h.runs.counted ran).balance, returns.1) in
      let P : Record → Type 0 = λ r. HasEnded (u ++ r ∷ []) in
      subst P (sym returns.0) (ended_by u flat))
      (cases_Bool d.sp_bags.ended))
      (ended.0 t)

  from_end : HasEnded v → e.sp_bags.ended ≡ true
  from_end t = ⊎_elim
      (λ before. ended.1 (inl (h.runs.by_return.1 before)))
      (λ now. ⊎_elim
      (λ before. ended.1 (inl before))
      (λ ran. let were_active = h.runs.counted ran in ended.1 (inr (root_by d.sp_bags.bags p.what now.0 (omega (arith, now.1, depth-next u, were_active.balance, were_active.some)))))
      (cases_Bool d.sp_bags.ended))
      (ended_after u p.what t)

  pub after_next : IsAfter v lives e
  after_next =
      let P : List Placed → Type 0 = λ w. HasTakenPlaced w lives e in
      record {
        met = subst P (sym (placed-next u p comes_next)) more;
        last = f.last ∙ comes_next ∙ sym longer;
        within = omega (arith, longer, comes_next, limit);
        runs = record { by_return = (to_end, from_end); counted = active };
        going = f.going ∙ h.going;
      }

-- ---- a block

-- the records of accesses
abbrev pub whats : List Placed → List Record
whats v = map (λ p. p.what) v

-- and in which lives
abbrev pub lived : (ℕ → ℕ) → List Placed → List Placed
lived lives v = map (placed_in_life lives) v

no_return : (lives : ℕ → ℕ) (kind : Kind) (l : ℕ) → in_life lives (access kind l) ≡ Return → ⊥
no_return lives kinds.Read l e = cc
no_return lives kinds.Write l e = cc

moves_none : (lives : ℕ → ℕ) (kind : Kind) (l : ℕ) → (opens (in_life lives (access kind l)) ≡ 0) × (closes (in_life lives (access kind l)) ≡ 0)
moves_none lives kinds.Read l = (refl, refl)
moves_none lives kinds.Write l = (refl, refl)

runs_access : (u : List Record) (lives : ℕ → ℕ) (kind : Kind) (l : ℕ) (ended : Bool) (active : ℕ) → IsRunning u ended active → IsRunning (u ++ in_life lives (access kind l) ∷ []) ended active
runs_access u lives kind l ended active h =
    let r : Record = in_life lives (access kind l) in
    record {
      by_return = ((λ t. ended_before u r (h.by_return.0 t)), (λ t. ⊎_elim h.by_return.1 (λ now. absurd (no_return lives kind l now.0)) (ended_after u r t)));
      counted = λ runs.
          let c = h.counted runs in
          let none = moves_none lives kind l in
          record { some = c.some; balance = omega (arith, c.balance, none.0, none.1, sum_by-append opens u (r ∷ []), sum_by-append closes u (r ∷ [])) };
    }

not_one : (x : ℕ) → x < 2 → nat_eq x 1 ≡ false → x ≡ 0
not_one zero h e = refl
not_one (suc zero) h e = absurd (cc)
not_one (suc (suc x)) h e = absurd (omega (arith, h))

-- the accesses up to a unit, as records that follow others
record FollowUpTo (u : List Record) (lives : ℕ → ℕ) (first : ℕ) (kind : Kind) (place units n : ℕ) : Type 0 where
  run : (ended : Bool) (active : ℕ) → IsRunning u ended active → IsRunning (u ++ whats (lived lives (accesses_up_to first kind 1 units n))) ended active
  many : length (whats (lived lives (accesses_up_to first kind 1 units n))) ≡ units_before units n
  places : placed (u ++ whats (lived lives (accesses_up_to first kind 1 units n))) ≡ placed u ++ lived lives (accesses_up_to first kind place units n)

no_accesses : (u : List Record) (lives : ℕ → ℕ) (first : ℕ) (kind : Kind) (place units : ℕ) → FollowUpTo u lives first kind place units 0
unfolding accesses_up_to
no_accesses u lives first kind place units = record {
  run = λ ended active h. subst (λ w. IsRunning w ended active) (sym (append-nil u)) h;
  many = refl;
  places = ap placed (append-nil u) ∙ sym (append-nil (placed u));
}

module _ (u : List Record) (lives : ℕ → ℕ) (first : ℕ) (kind : Kind) (place units n : ℕ) (next : place ≡ length u + 1) (f : FollowUpTo u lives first kind place units n) where
  abbrev at : ℕ → List Placed
  at q = lived lives (accesses_up_to first kind q units n)

  abbrev one : ℕ → Placed
  one q = placed_in_life lives (access_of first kind q units n)

  unit_left_out : has units n ≡ false → FollowUpTo u lives first kind place units (suc n)
  unfolding accesses_up_to
  unit_left_out e =
      let same : (q : ℕ) → lived lives (accesses_up_to first kind q units n ++ cond (has units n) (access_of first kind q units n ∷ []) []) ≡ at q
      = λ q. ap (λ b. lived lives (accesses_up_to first kind q units n ++ cond b (access_of first kind q units n ∷ []) [])) e ∙ ap (lived lives) (append-nil (accesses_up_to first kind q units n)) in
      let none : bit_at units n ≡ 0 = not_one (bit_at units n) (bit_at-lt units n) e in
      record {
        run = λ ended active h. subst (λ v. IsRunning (u ++ whats v) ended active) (sym (same 1)) (f.run ended active h);
        many = ap (λ v. length (whats v)) (same 1) ∙ f.many ∙ omega (arith, none);
        places = ap (λ v. placed (u ++ whats v)) (same 1) ∙ f.places ∙ ap (λ v. placed u ++ v) (sym (same place));
      }

  unit_accessed : has units n ≡ true → FollowUpTo u lives first kind place units (suc n)
  unfolding accesses_up_to
  unit_accessed e =
      let more : (q : ℕ) → lived lives (accesses_up_to first kind q units n ++ cond (has units n) (access_of first kind q units n ∷ []) []) ≡ at q ++ one q ∷ []
      = λ q. ap (λ b. lived lives (accesses_up_to first kind q units n ++ cond b (access_of first kind q units n ∷ []) [])) e ∙ map-append (placed_in_life lives) (accesses_up_to first kind q units n) (access_of first kind q units n ∷ []) in
      let w : List Record = u ++ whats (at 1) in
      let r : Record = (one 1).what in
      let longer : u ++ whats (at 1 ++ one 1 ∷ []) ≡ w ++ r ∷ [] = ap (λ l. u ++ l) (map-append (λ (p : Placed). p.what) (at 1) (one 1 ∷ [])) ∙ sym (append_assoc u (whats (at 1)) (r ∷ [])) in
      let single : bit_at units n ≡ 1 = eqb-true (bit_at units n) 1 e in
      let here : (one place).place ≡ length w + 1 = omega (arith, next, f.many, length-append u (whats (at 1))) in
      record {
        run = λ ended active h. subst (λ v. IsRunning (u ++ whats v) ended active) (sym (more 1)) (subst (λ v. IsRunning v ended active) (sym longer) (runs_access w lives kind (location_of first n) ended active (f.run ended active h)));
        many = ap (λ v. length (whats v)) (more 1) ∙ ap length (map-append (λ (p : Placed). p.what) (at 1) (one 1 ∷ [])) ∙ length-append (whats (at 1)) (r ∷ []) ∙ omega (arith, f.many, single);
        places = ap (λ v. placed (u ++ whats v)) (more 1) ∙ ap placed longer ∙ placed-next w (one place) here ∙ ap (λ v. v ++ one place ∷ []) f.places
            ∙ append_assoc (placed u) (at place) (one place ∷ []) ∙ ap (λ v. placed u ++ v) (sym (more place));
      }

follow_one : (u : List Record) (lives : ℕ → ℕ) (first : ℕ) (kind : Kind) (place units n : ℕ) → place ≡ length u + 1 → (b : Bool) → has units n ≡ b → FollowUpTo u lives first kind place units n → FollowUpTo u lives first kind place units (suc n)
follow_one u lives first kind place units n next true e f = unit_accessed u lives first kind place units n next f e
follow_one u lives first kind place units n next false e f = unit_left_out u lives first kind place units n next f e

follow_all : (u : List Record) (lives : ℕ → ℕ) (first : ℕ) (kind : Kind) (place units n : ℕ) → place ≡ length u + 1 → FollowUpTo u lives first kind place units n
follow_all u lives first kind place units zero next = no_accesses u lives first kind place units
follow_all u lives first kind place units (suc n) next = follow_one u lives first kind place units n next (has units n) refl (follow_all u lives first kind place units n next)

-- the life of each record is that of its access
life_of_all : (lives : ℕ → ℕ) (v : List Placed) → map (in_life lives) (whats v) ≡ whats (lived lives v)
life_of_all lives [] = refl
life_of_all lives (p ∷ v) = ap (λ l. in_life lives p.what ∷ l) (life_of_all lives v)

-- a block behind the records u
module _ (u : List Record) (lives : ℕ → ℕ) (location reads writes : ℕ) (d e : Online) (some : reads < 2 ^ 64) (others : writes < 2 ^ 64) (limit : d.sp_bags.last_place + (count_ones reads + count_ones writes) ≤ most_records) (h : IsAfter u lives d)
    (met : TakesPlaced (block_accesses (even location) (d.sp_bags.last_place + 1) reads writes) d e) (last : e.sp_bags.last_place ≡ d.sp_bags.last_place + (count_ones reads + count_ones writes)) (only : HasOnlyAccessed d e) where
  abbrev page_first : ℕ
  page_first = first_of (block_of (even location))

  abbrev reading : List Record
  reading = whats (lived lives (accesses (even location) kinds.Read 1 reads))

  abbrev writing : List Record
  writing = whats (lived lives (accesses (even location) kinds.Write 1 writes))

  reads_follow : FollowUpTo u lives page_first kinds.Read (d.sp_bags.last_place + 1) reads 64
  reads_follow = follow_all u lives page_first kinds.Read (d.sp_bags.last_place + 1) reads 64 (ap (λ n. n + 1) h.last)

  after_reads : length (u ++ reading) ≡ length u + count_ones reads
  after_reads = length-append u reading ∙ ap (λ n. length u + n) (reads_follow.many ∙ all_units reads some)

  writes_follow : FollowUpTo (u ++ reading) lives page_first kinds.Write (d.sp_bags.last_place + 1 + count_ones reads) writes 64
  writes_follow = follow_all (u ++ reading) lives page_first kinds.Write (d.sp_bags.last_place + 1 + count_ones reads) writes 64 (omega (arith, after_reads, h.last))

  longest : length ((u ++ reading) ++ writing) ≡ length u + (count_ones reads + count_ones writes)
  longest = omega (arith, length-append (u ++ reading) writing, after_reads, writes_follow.many, all_units writes others)

  all : u ++ map (in_life lives) (block_records location reads writes) ≡ (u ++ reading) ++ writing
  all =
      let v : List Placed = accesses (even location) kinds.Read 1 reads in
      let w : List Placed = accesses (even location) kinds.Write 1 writes in
      ap (λ l. u ++ l) (life_of_all lives (v ++ w) ∙ ap whats (map-append (placed_in_life lives) v w) ∙ map-append (λ (p : Placed). p.what) (lived lives v) (lived lives w)) ∙ sym (append_assoc u reading writing)

  places : placed ((u ++ reading) ++ writing) ≡ placed u ++ lived lives (block_accesses (even location) (d.sp_bags.last_place + 1) reads writes)
  places =
      let v : List Placed = accesses (even location) kinds.Read (d.sp_bags.last_place + 1) reads in
      let w : List Placed = accesses (even location) kinds.Write (d.sp_bags.last_place + 1 + count_ones reads) writes in
      writes_follow.places ∙ ap (λ l. l ++ lived lives w) reads_follow.places ∙ append_assoc (placed u) (lived lives v) (lived lives w) ∙ ap (λ l. placed u ++ l) (sym (map-append (placed_in_life lives) v w))

  after_both : IsAfter ((u ++ reading) ++ writing) lives e
  after_both = record {
    met = subst (λ v. HasTakenPlaced v lives e) (sym places) (met (placed u) lives h.met);
    last = last ∙ ap (λ n. n + (count_ones reads + count_ones writes)) h.last ∙ sym longest;
    within = omega (arith, longest, limit, h.last);
    runs = subst (λ b. IsRunning ((u ++ reading) ++ writing) b (length e.sp_bags.bags.active)) (sym only.ended)
        (subst (λ (b : Procedures). IsRunning ((u ++ reading) ++ writing) d.sp_bags.ended (length b.active)) (sym only.bags) (writes_follow.run d.sp_bags.ended (length d.sp_bags.bags.active) (reads_follow.run d.sp_bags.ended (length d.sp_bags.bags.active) h.runs)));
    going = only.going ∙ h.going;
  }

  pub after_block : IsAfter (u ++ map (in_life lives) (block_records location reads writes)) lives e
  after_block = subst (λ v. IsAfter v lives e) (sym all) after_both
