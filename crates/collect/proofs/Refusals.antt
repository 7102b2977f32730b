-- Why a report is refused, and that a source that holds one is refused for want of memory alone.
use Rattle.collect.proofs.Common.{◌≡◌, ℕ, ◌≤◌, List, ◌++◌, length, Option, None, Some, refl, sym, ap, ◌∙◌, arith, subst, append-nil, length-append, Consumes, IsAtEnd, RaceAt, Change, Gave, rtext, Read, TooLarge, Bad, HoldsReport, IsCause, IsRefusal}
use Rattle.collect.proofs.Listed.{no_report}
use Rattle.collect.specs.declared.bounded.ReportRefusal.{ReportRefusal}
use Rattle.collect.specs.declared.bounded.ReportRefusal.TheVariants.{NoMemory}

consumed_within : (xs : List ℕ) (after : Option (List ℕ)) (came : List ℕ) → Consumes (Some xs) after came → length came ≤ length xs
consumed_within xs None came p = absurd p
consumed_within xs (Some ys) came p = omega (arith, ap length p, length-append came ys)

consumed_all : (xs : List ℕ) (after : Option (List ℕ)) (came : List ℕ) → Consumes (Some xs) after came → IsAtEnd after → came ≡ xs
consumed_all xs None came p end = absurd p
consumed_all xs (Some ys) came p end = sym (p ∙ ap (λ l. came ++ l) end ∙ append-nil came)

for_memory : (c : Change) (refusal : ReportRefusal) → IsCause c refusal → (entries : List RaceAt) → HoldsReport c entries → refusal ≡ NoMemory
for_memory c refusal cause entries h = go refusal cause
  where
    held : (came : List ℕ) → Gave c came → Consumes (Some (rtext entries)) c.new.bytes came
    held came gave = let P : Option (List ℕ) → Type 0 = λ b. Consumes b c.new.bytes came in subst P h.is_text gave

    go : (r : ReportRefusal) → IsCause c r → r ≡ NoMemory
    go Read p = absurd (h.never_failed p.3)
    go TooLarge p = let most = consumed_within (rtext entries) c.new.bytes p.0 (held p.0 p.1) in let long = p.2 in let short = h.within in absurd (omega arith)
    go (Bad line) p =
        let same = consumed_all (rtext entries) c.new.bytes p.0 (held p.0 p.1.gave) p.1.used_up in
        let within = p.1.within in
        absurd (no_report p.0 line entries (omega arith) p.2 h.is_report same)
    go NoMemory p = refl

-- a cause, and that it is none where the source holds a report
pub refused_for : (c : Change) (refusal : ReportRefusal) → IsCause c refusal → IsRefusal c refusal
refused_for c refusal cause = record { cause = cause; honest = for_memory c refusal cause }
