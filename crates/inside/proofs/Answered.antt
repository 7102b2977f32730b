-- The detector's answer, by its status.
use Rattle.std.proofs.Common.{◌≡◌, ◌≢◌, ◌==◌, ◌<◌, ℕ, if◌then◌else◌, Result, Ok, Err, refl, sym, ap, ◌∙◌, arith}
use Rattle.std.specs.Prelude.{IfErr}
use Rattle.online.specs.declared.detector.Refusal.{Refusal}
use Rattle.online.specs.declared.detector.Refusal.TheVariants.{AfterEnd, TooMany, NoMemory}
use Rattle.inside.specs.Sessions.{taken, after_end, too_many, no_memory}
use Rattle.inside.specs.Statuses.{answered_status}

abbrev pub answer_with : ℕ → Result (Unit {0}) Refusal
answer_with n = if n == taken then Ok tt else if n == after_end then Err AfterEnd else if n == too_many then Err TooMany else Err NoMemory

is_answer : (r : Result (Unit {0}) Refusal) → r ≡ answer_with (answered_status r)
is_answer (Ok _) = refl
is_answer (Err AfterEnd) = refl
is_answer (Err TooMany) = refl
is_answer (Err NoMemory) = refl

pub answered : (r : Result (Unit {0}) Refusal) (status n : ℕ) → status ≡ answered_status r → status ≡ n → r ≡ answer_with n
answered r status n is e = is_answer r ∙ ap answer_with (sym is ∙ e)

pub status_below : (r : Result (Unit {0}) Refusal) → answered_status r < 4
status_below (Ok _) = omega arith
status_below (Err AfterEnd) = omega arith
status_below (Err TooMany) = omega arith
status_below (Err NoMemory) = omega arith

-- what holds of an answer that is a refusal, but not for want of memory
pub refused_else : {P : Type 0} (r : Result (Unit {0}) Refusal) (status : ℕ) → status ≡ answered_status r → status ≢ taken → status ≢ no_memory → IfErr r (λ refusal. refusal ≢ NoMemory → P) → P
refused_else (Ok _) status is not_taken not_memory h = absurd (not_taken is)
refused_else (Err AfterEnd) status is not_taken not_memory h = h (λ e. absurd (cc))
refused_else (Err TooMany) status is not_taken not_memory h = h (λ e. absurd (cc))
refused_else (Err NoMemory) status is not_taken not_memory h = absurd (not_memory is)
