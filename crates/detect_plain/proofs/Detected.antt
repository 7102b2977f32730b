-- Runs over the records of a trace: one more record, and the races found.
use Rattle.detect_plain.proofs.Common.{◌≡◌, List, [], ◌∷◌, ◌++◌, refl, sym, ◌∙◌, ap, subst, arith, length-append, Option, Some, None, option_to_list, Record, Placed, Part, RaceAt, placed, records_of, state_at_start, found, put_in, by_location, found_from-apart, PlainDetector, SpBags, HasDetected, HasApplied, HasFollowed, TakesRecord, state_of, race_of, HasSeenTrace, HasSeenPart, placed-next, append-nil}
use Rattle.dag.specs.declared.back.Back.{Back}
use Rattle.dag.specs.declared.back.Back.TheVariants as backs
use Rattle.trace.specs.Watching.{ComesAfter}
use Rattle.shadow.proofs.StateLemmas.{seen_next, found_next}
use Rattle.collect.specs.Collected.{Collection, KeepsBest, IsCollected, best}
use Rattle.collect.proofs.Best.{races_of-append, fails-push_race}
use Rattle.collect.proofs.Sorted.{collected_is_sorted}
use Rattle.detect_plain.proofs.PartRecords.{records_of-none, records_of-some}

-- ---- one more record

module _ (u : List Placed) (p : Placed) (o : Option RaceAt) (old new : SpBags) (kept after : Collection) (h : HasDetected u old kept) (applied : HasApplied p old new) (is : o ≡ race_of (state_of old) p.place p.what) where
  found_is : found (u ++ p ∷ []) ≡ found u ++ option_to_list o
  found_is = found_next u p old o is h.seen

  -- no race is reported at it
  pub detected_none : o ≡ None → after ≡ kept → HasDetected (u ++ p ∷ []) new after
  detected_none none same = record {
    seen = seen_next u p old new applied h.seen;
    given = h.given;
    holds = subst (KeepsBest h.given) (sym same) h.holds;
    none_failed = h.none_failed;
    races = h.races ∙ sym (append-nil (found u)) ∙ ap (λ q. found u ++ option_to_list q) (sym none) ∙ sym found_is;
  }

  -- a race is reported at it
  pub detected_race : (r : RaceAt) → o ≡ Some r → ((g : List Back) → KeepsBest g kept → KeepsBest (g ++ backs.Race r ∷ []) after) → HasDetected (u ++ p ∷ []) new after
  detected_race r some taken = record {
    seen = seen_next u p old new applied h.seen;
    given = h.given ++ backs.Race r ∷ [];
    holds = taken h.given h.holds;
    none_failed = fails-push_race h.given r ∙ h.none_failed;
    races = races_of-append h.given (backs.Race r ∷ []) ∙ ap (λ x. x ++ r ∷ []) h.races ∙ ap (λ q. found u ++ option_to_list q) (sym some) ∙ sym found_is;
  }

pub read_next : {S H : Type 0} (u : List Record) (p : Placed) (d e : PlainDetector S H) → ComesAfter u p → HasSeenTrace u d → TakesRecord p d e → HasSeenTrace (u ++ p.what ∷ []) e
read_next u p d e after h f = record {
  detected = subst (λ v. HasFollowed v e) (sym (placed-next u p after.place_is)) (f.detected (placed u) h.detected);
  last = omega (arith, f.last, after.place_is, length-append u (p.what ∷ []));
}

-- ---- a part of the locations

-- the record is nothing that the part has
pub part_passed : {S H : Type 0} (part : Part) (u : List Record) (p : Placed) (o : Option Placed) (d : PlainDetector S H) → o ≡ None → option_to_list o ≡ records_of part (p ∷ []) → ComesAfter u p → HasSeenPart part u d → HasSeenPart part (u ++ p.what ∷ []) d
part_passed part u p o d none is after h =
    let P : List Placed → Type 0 = λ v. HasFollowed v d in
    record {
      detected = subst P (sym (ap (records_of part) (placed-next u p after.place_is) ∙ records_of-none part (placed u) p o none is)) h.detected;
      last = omega (arith, h.last, length-append u (p.what ∷ []));
    }

-- the part has this of the record
pub part_followed : {S H : Type 0} (part : Part) (u : List Record) (p q : Placed) (o : Option Placed) (d e : PlainDetector S H) → o ≡ Some q → option_to_list o ≡ records_of part (p ∷ []) → q.place ≡ p.place → ComesAfter u p → TakesRecord q d e → HasSeenPart part u d → HasSeenPart part (u ++ p.what ∷ []) e
part_followed part u p q o d e some is place after f h =
    let P : List Placed → Type 0 = λ v. HasFollowed v e in
    record {
      detected = subst P (sym (ap (records_of part) (placed-next u p after.place_is) ∙ records_of-some part (placed u) p q o some is)) (f.detected (records_of part (placed u)) h.detected);
      last = omega (arith, f.last, place, after.place_is, length-append u (p.what ∷ []));
    }

-- ---- the report

-- the report is the list of the races found, by location
pub reported : (u : List Placed) (s : SpBags) (kept : Collection) (rs : List RaceAt) → HasDetected u s kept → ((g : List Back) → KeepsBest g kept → IsCollected g rs) → rs ≡ by_location (found u)
reported u s kept rs h collected =
    collected_is_sorted put_in by_location (λ r. refl) (λ r s ss. refl) refl (λ r ss. refl) h.given rs (found u) (collected h.given h.holds) (found_from-apart state_at_start u) (λ l. ap (best l) h.races)
