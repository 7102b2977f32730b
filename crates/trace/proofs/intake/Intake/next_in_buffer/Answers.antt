use Rattle.trace.proofs.Common.{◌≡◌, ℕ, ◌+◌, ◌∷◌, ◌++◌, ◌-◌, [], List, Option, Some, None, length, drop, Ok, Err, inl, rules, arith, refl, sym, ap, subst, ◌∙◌, option_to_list, append-nil, Record, Running, Text, Nest, ◌⇝◌, IsBadLine, IsFirstFault, held_back, Feeding, HasUsed, HasFed, IsFaultFed, IsNext, HasUsedAll, length-take, length-drop}
use Rattle.trace.specs.contracts.intake.Intake.{the_view}
use Rattle.trace.proofs.Feedings.{used_front, first_line_fault, first_place_fault_at, consumes_none, answered_running, next_of_running}
use Rattle.trace.proofs.Nexts.{next_fault, nothing_came}
use Rattle.trace.proofs.intake.Intake.next_in_buffer.Goals as goal

pub returns-in-Err-clause-next : goal.returns-in-Err-clause-next
returns-in-Err-clause-next c some d =
    let s : Feeding = the_view c.self.inside in
    let running : s.ending ≡ Running = ap (λ (x : Feeding). x.ending) c.self.view_is ∙ c.requires in
    let P : Feeding → Type 0 = λ x. IsNext x c.fail.new.self (d ⇝ d) (Err c.fail.result) in
    subst P c.self.view_is (rw c.fail.ensures.fault (next_fault s (the_view (record c.self.inside { reader = c.step.new.self; easy_until = 0 })) c.fail.new.self (d ⇝ d) (Text c.in-Err.fault) running c.fail.ensures.kept (record { records = c.in-Err.ensures.stepped.front.limit; depths = refl }) (λ is. absurd (search (rules, is)))
    (λ w bytes h.
    let P : List ℕ → Type 0 = λ b. IsFaultFed s.reading.limit s.nesting.max_depth b (d ⇝ d) (Text c.in-Err.fault) in
    let Q : List ℕ → Type 0 = λ b. IsBadLine s.reading.limit b c.in-Err.fault in
    let read = h.has_used.has_read in
    let bad : IsBadLine s.reading.limit bytes c.in-Err.fault = subst Q (sym h.has_used.bytes_are) (c.in-Err.ensures.fault w h.has_used.used read) in
    nothing_came P d bytes (inl (first_line_fault w bytes s h.has_used h.has_nested c.in-Err.fault bad (omega (arith, c.in-Err.ensures.stepped.front.line read.no_fault, read.count_is))), refl))))

pub returns-in_default-clause-none : goal.returns-in_default-clause-none
returns-in_default-clause-none c none =
    let s : Feeding = the_view c.self.inside in
    let t : Feeding = the_view (record c.self.inside { reader = c.step.new.self; start = c.self.inside.start + c.in-Ok.taken.used; easy_until = 0 }) in
    let P : Feeding → Type 0 = λ x. HasUsedAll x t in
    let nothing : c.in-Ok.taken.what ≡ None = search rules in
    let all : c.in-Ok.taken.used ≡ length s.coming = c.in-Ok.ensures.stepped.whole nothing in
    let left : c.self.inside.end - (c.self.inside.start + c.in-Ok.taken.used) ≡ 0 = omega (arith, all, length-take (c.self.inside.end - c.self.inside.start) (drop c.self.inside.start c.self.inside.buffer), length-drop c.self.inside.start c.self.inside.buffer, c.self.invariant) in
    subst P c.self.view_is (record {
      fed = λ w bytes h.
          let O : Option Record → Type 0 = λ o. HasUsed (w ++ option_to_list o) bytes t in
          let Q : List Record → Type 0 = λ v. HasUsed v bytes t in
          record {
            has_used = subst Q (append-nil w) (subst O nothing (used_front w (w ++ option_to_list c.in-Ok.taken.what) bytes s t c.self.inside.buffer c.self.inside.start c.self.inside.end c.in-Ok.taken.used refl refl c.in-Ok.ensures.stepped.front.used h.has_used (c.in-Ok.ensures.taken w h.has_used.used h.has_used.has_read)));
            has_nested = h.has_nested;
            running = h.running;
          };
      none_left = rw left refl;
      running = ap (λ (x : Feeding). x.ending) c.self.view_is ∙ c.requires;
      limits = record { records = c.in-Ok.ensures.stepped.front.limit; depths = refl };
      held_back = c.in-Ok.ensures.stepped.front.held_back nothing ∙ ap (λ k. held_back s.reading + k) all;
      short = c.in-Ok.ensures.stepped.front.short;
    })

pub returns-in-Ok-accept-clause-next : goal.returns-in-Ok-accept-clause-next
returns-in-Ok-accept-clause-next c some d =
    let s : Feeding = the_view c.self.inside in
    let t : Feeding = the_view (record c.self.inside { reader = c.step.new.self; nest = c.accept.new.self; start = c.self.inside.start + c.in-Ok.taken.used; easy_until = 0 }) in
    let running : s.ending ≡ Running = ap (λ (x : Feeding). x.ending) c.self.view_is ∙ c.requires in
    let P : Feeding → Feeding → Type 0 = λ x y. IsNext x y (d ⇝ d) (Ok (Some c.in-Ok-accept.placed)) in
    let same : c.look_ahead.new.self ≡ t = c.look_ahead.ensures.same in
    subst (λ (x : Feeding). P x c.look_ahead.new.self) c.self.view_is (subst (P s) (sym same) (next_of_running s t (d ⇝ d) (Ok (Some c.in-Ok-accept.placed)) running
    (λ w bytes h.
    let O : Option Record → Type 0 = λ o. HasUsed (w ++ option_to_list o) bytes t in
    let used : HasUsed (w ++ c.in-Some.record ∷ []) bytes t = subst O c.in-Some.is (used_front w (w ++ option_to_list c.in-Ok.taken.what) bytes s t c.self.inside.buffer c.self.inside.start c.self.inside.end c.in-Ok.taken.used refl refl c.in-Ok.ensures.stepped.front.used h.has_used (c.in-Ok.ensures.taken w h.has_used.used h.has_used.has_read)) in
    let Q : List ℕ → Type 0 = λ b. HasFed (w ++ c.in-Some.record ∷ []) b t in
    let next : HasFed (w ++ c.in-Some.record ∷ []) bytes t = record { has_used = used; has_nested = c.in-Ok-accept.ensures.accepted w h.has_nested; running = running } in
    ([], consumes_none _, rw (ap (λ p. p.what) c.in-Ok-accept.ensures.place) (ap (λ p. p.place) c.in-Ok-accept.ensures.place ∙ ap (λ x. x + 1) h.has_nested.count_is, subst Q (sym (append-nil bytes)) next, refl)))
    (λ is. absurd (search (rules, is)))
    (answered_running _ _ running)
    (record { records = c.in-Ok.ensures.stepped.front.limit; depths = c.in-Ok-accept.ensures.limit })))

pub returns-in-Err-accept-clause-next : goal.returns-in-Err-accept-clause-next
returns-in-Err-accept-clause-next c some d =
    let s : Feeding = the_view c.self.inside in
    let t : Feeding = the_view (record c.self.inside { reader = c.step.new.self; start = c.self.inside.start + c.in-Ok.taken.used; easy_until = 0 }) in
    let running : s.ending ≡ Running = ap (λ (x : Feeding). x.ending) c.self.view_is ∙ c.requires in
    let P : Feeding → Type 0 = λ x. IsNext x c.fail-in-Err-accept.new.self (d ⇝ d) (Err c.fail-in-Err-accept.result) in
    subst P c.self.view_is (rw c.fail-in-Err-accept.ensures.fault (next_fault s (the_view (record c.self.inside { reader = c.step.new.self; nest = c.accept.new.self; start = c.self.inside.start + c.in-Ok.taken.used; easy_until = 0 })) c.fail-in-Err-accept.new.self (d ⇝ d) (Nest c.in-Err-accept.fault) running c.fail-in-Err-accept.ensures.kept (record { records = c.in-Ok.ensures.stepped.front.limit; depths = c.in-Err-accept.ensures.limit }) (λ is. absurd (search (rules, is)))
    (λ w bytes h.
    let P : List ℕ → Type 0 = λ b. IsFaultFed s.reading.limit s.nesting.max_depth b (d ⇝ d) (Nest c.in-Err-accept.fault) in
    let O : Option Record → Type 0 = λ o. HasUsed (w ++ option_to_list o) bytes t in
    let used : HasUsed (w ++ c.in-Some.record ∷ []) bytes t = subst O c.in-Some.is (used_front w (w ++ option_to_list c.in-Ok.taken.what) bytes s t c.self.inside.buffer c.self.inside.start c.self.inside.end c.in-Ok.taken.used refl refl c.in-Ok.ensures.stepped.front.used h.has_used (c.in-Ok.ensures.taken w h.has_used.used h.has_used.has_read)) in
    let Q : ℕ → Type 0 = λ r. IsFirstFault r s.nesting.max_depth bytes (Nest c.in-Err-accept.fault) in
    nothing_came P d bytes (inl (subst Q c.in-Ok.ensures.stepped.front.limit (first_place_fault_at w c.in-Some.record bytes t used h.has_nested c.in-Err-accept.fault c.in-Err-accept.ensures.fault_place (c.in-Err-accept.ensures.misplaced w h.has_nested))), refl))))
