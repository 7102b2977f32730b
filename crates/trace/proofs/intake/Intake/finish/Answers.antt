use Rattle.trace.proofs.Common.{◌≡◌, ℕ, List, Err, inr, rules, refl, sym, ap, subst, ◌∙◌, Running, NestFault, Text, Nest, ◌⇝◌, IsFaultOfAll, HasRead, Feeding, IsFaultFed, IsNext}
use Rattle.trace.specs.contracts.intake.Intake.{the_view}
use Rattle.trace.proofs.Feedings.{read_all, fault_of_rest, fault_of_end}
use Rattle.trace.proofs.Nexts.{next_fault, nothing_came}
use Rattle.trace.proofs.intake.Intake.finish.Goals as goal

pub returns-in-Err : goal.returns-in-Err
returns-in-Err c d used_up =
    let s : Feeding = the_view c.self.inside in
    let running : s.ending ≡ Running = ap (λ (x : Feeding). x.ending) c.self.view_is ∙ c.requires.running in
    let P : Feeding → Type 0 = λ x. IsNext x c.fail.new.self (d ⇝ d) (Err c.fail.result) in
    subst P c.self.view_is (rw c.fail.ensures.fault (next_fault s (the_view (record c.self.inside { reader = c.end.new.self })) c.fail.new.self (d ⇝ d) (Text c.in-Err.fault) running c.fail.ensures.kept (record { records = c.in-Err.ensures.limit; depths = refl }) (λ is. absurd (search (rules, is)))
    (λ w bytes h.
    let all : HasRead w bytes s.reading = read_all w bytes s h (ap (λ (x : Feeding). x.coming) c.self.view_is ∙ c.requires.nothing) in
    let P : List ℕ → Type 0 = λ b. IsFaultFed s.reading.limit s.nesting.max_depth b (d ⇝ d) (Text c.in-Err.fault) in
    nothing_came P d bytes (inr (used_up, fault_of_rest w bytes s.reading s.nesting all h.has_nested c.in-Err.fault (c.in-Err.ensures.truncated w bytes all)), refl))))

pub returns-in-Err-end : goal.returns-in-Err-end
returns-in-Err-end c d used_up =
    let s : Feeding = the_view c.self.inside in
    let running : s.ending ≡ Running = ap (λ (x : Feeding). x.ending) c.self.view_is ∙ c.requires.running in
    let P : Feeding → Type 0 = λ x. IsNext x c.fail-in-Err-end.new.self (d ⇝ d) (Err c.fail-in-Err-end.result) in
    subst P c.self.view_is (rw c.fail-in-Err-end.ensures.fault (next_fault s (the_view (record c.self.inside { reader = c.end.new.self })) c.fail-in-Err-end.new.self (d ⇝ d) (Nest c.in-Err-end.fault) running c.fail-in-Err-end.ensures.kept (record { records = c.in_default.ensures.limit; depths = refl }) (λ is. absurd (search (rules, is)))
    (λ w bytes h.
    let all : HasRead w bytes s.reading = read_all w bytes s h (ap (λ (x : Feeding). x.coming) c.self.view_is ∙ c.requires.nothing) in
    let P : List ℕ → Type 0 = λ b. IsFaultFed s.reading.limit s.nesting.max_depth b (d ⇝ d) (Nest c.in-Err-end.fault) in
    let Q : NestFault → Type 0 = λ f. IsFaultOfAll s.reading.limit s.nesting.max_depth bytes (Nest f) in
    nothing_came P d bytes (inr (used_up, subst Q (sym c.in-Err-end.ensures.unfinished) (fault_of_end w bytes s.reading s.nesting all h.has_nested (c.in_default.ensures.ok w bytes all) (c.in-Err-end.ensures.err w h.has_nested))), refl))))
