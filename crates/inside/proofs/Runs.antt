-- Steps in turn: one more, and one that isn't taken.
use Rattle.std.proofs.Common.{◌≡◌, ◌≢◌, ◌<◌, ◌≤◌, ◌⊎◌, ◌/◌, ◌%◌, ℕ, min, bit_or, List, [], ◌∷◌, ◌++◌, inl, inr, refl, sym, ap, subst, ◌∙◌, arith}
use Rattle.std.proofs.Math.Nat.{mod-eq_of_lt, div-eq_of_lt, min-eq_left, min-eq_right}
use Rattle.std.proofs.lemmas.Bool.{cases_lt}
use Rattle.std.specs.Int.Bits.{or_zero_r}
use Rattle.inside.specs.declared.session.Session.{Session}
use Rattle.dag.specs.declared.records.Record.{Record}
use Rattle.dag.specs.declared.records.Record.TheVariants.{Spawn, Call, Return, Sync, Read, Write}
use Rattle.inside.specs.Sessions.{taken, IsNamed, HasStepped, HaveStepped}

-- behind records that were all taken comes one that is taken
pub runs_more : (rs : List (ℕ × ℕ)) (r : ℕ × ℕ) (before between after : Session) → HaveStepped before rs between taken → HasStepped between r.0 r.1 after taken → HaveStepped before (rs ++ r ∷ []) after taken
runs_more [] r before between after h step = (after, taken, subst (λ (b : Session). HasStepped b r.0 r.1 after taken) h.0 step, inl (refl, (refl, refl)))
runs_more (x ∷ rs) r before between after (middle, s, first, inl (is, rest)) step = (middle, s, first, inl (is, runs_more rs r middle between after rest step))
runs_more (x ∷ rs) r before between after (middle, s, first, inr (not, same, is)) step = absurd (not (sym is))

-- or one that isn't, whatever follows
pub runs_refused : (rs more : List (ℕ × ℕ)) (r : ℕ × ℕ) (status : ℕ) (before between after : Session) → HaveStepped before rs between taken → HasStepped between r.0 r.1 after status → status ≢ taken → HaveStepped before (rs ++ r ∷ more) after status
runs_refused [] more r status before between after h step refused = (after, status, subst (λ (b : Session). HasStepped b r.0 r.1 after status) h.0 step, inr (refused, refl, refl))
runs_refused (x ∷ rs) more r status before between after (middle, s, first, inl (is, rest)) step refused = (middle, s, first, inl (is, runs_refused rs more r status middle between after rest step refused))
runs_refused (x ∷ rs) more r status before between after (middle, s, first, inr (not, same, is)) step refused = absurd (not (sym is))

-- the steps of one record are its step
pub one_run : (r : ℕ × ℕ) (status : ℕ) (before after : Session) → HaveStepped before (r ∷ []) after status → HasStepped before r.0 r.1 after status
one_run r status before after (between, s, step, inl (is, (same, ended))) = subst (λ (a : Session). HasStepped before r.0 r.1 a status) (sym same) (subst (λ (n : ℕ). HasStepped before r.0 r.1 between n) (is ∙ sym ended) step)
one_run r status before after (between, s, step, inr (not, same, is)) = subst (λ (a : Session). HasStepped before r.0 r.1 a status) (sym same) (subst (λ (n : ℕ). HasStepped before r.0 r.1 between n) (sym is) step)

unnamed : (kind location : ℕ) (what : Record) → 5 < kind → IsNamed kind location what → ⊥
unnamed kind location Spawn above is = omega (arith, above, is)
unnamed kind location Call above is = omega (arith, above, is)
unnamed kind location Return above is = omega (arith, above, is)
unnamed kind location Sync above is = omega (arith, above, is)
unnamed kind location (Read l) above is = omega (arith, above, is.0)
unnamed kind location (Write l) above is = omega (arith, above, is.0)

-- kinds that no record has are alike
pub step_of_no_kind : (kind other location status : ℕ) (before after : Session) → 5 < kind → 5 < other → HasStepped before kind location after status → HasStepped before other location after status
step_of_no_kind kind other location status before after above beyond step = record {
  took = λ is u lives what has named. absurd (unnamed other location what beyond named);
  named = λ is. omega (arith, above, step.named is);
  unchanged = step.unchanged;
  stops = step.stops;
  stopped = step.stopped;
  ended = step.ended;
  many = step.many;
  unknown = λ is. beyond;
  is_unknown = λ _. step.is_unknown above;
  is_full = λ low. omega (arith, beyond, low);
  is_ended = λ low. omega (arith, beyond, low);
  want = λ is u lives what has named. absurd (unnamed other location what beyond named);
  giving = step.giving;
  taking = step.taking;
  within = step.within;
}

named_below : (kind location least status : ℕ) (before after : Session) → kind < 8 → least ≡ kind → HasStepped before (least % 8) (bit_or location (least / 8)) after status → HasStepped before kind location after status
named_below kind location least status before after low is step =
    subst (λ (l : ℕ). HasStepped before kind l after status) (ap (bit_or location) (div-eq_of_lt low) ∙ or_zero_r location)
    (subst (λ (k : ℕ). HasStepped before k (bit_or location (kind / 8)) after status) (mod-eq_of_lt low)
    (subst (λ (n : ℕ). HasStepped before (n % 8) (bit_or location (n / 8)) after status) is step))

named_case : (kind location least status : ℕ) (before after : Session) → (kind < 8) ⊎ (8 ≤ kind) → least ≡ min kind 7 → HasStepped before (least % 8) (bit_or location (least / 8)) after status → HasStepped before kind location after status
named_case kind location least status before after (inl low) is step = named_below kind location least status before after low (is ∙ min-eq_left (omega (arith, low))) step
named_case kind location least status before after (inr high) is step = step_of_no_kind 7 kind location status before after (omega (arith)) (omega (arith, high)) (named_below 7 location least status before after (omega (arith)) (is ∙ min-eq_right (omega (arith, high))) step)

-- a record that has the kind alone, or one that no record has in its place
pub named_step : (kind location least status : ℕ) (before after : Session) → least ≡ min kind 7 → HasStepped before (least % 8) (bit_or location (least / 8)) after status → HasStepped before kind location after status
named_step kind location least status before after = named_case kind location least status before after (cases_lt kind 8)
