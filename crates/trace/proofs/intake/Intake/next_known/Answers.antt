use Rattle.trace.proofs.Common.{rules, ◌≡◌, ◌+◌, ◌-◌, ◌++◌, ◌∷◌, [], ℕ, List, take, drop, refl, ap, sym, subst, ◌∙◌, append-nil, Running, Feeding, HasUsed, HasFed, Reading, HasRead}
use Rattle.trace.proofs.Feedings.{used_front, consumes_none, answered_running, next_of_running}
use Rattle.trace.proofs.intake.Intake.next_known.Goals as goal

pub returns-clause-next : goal.returns-clause-next
returns-clause-next c d =
    let s : Feeding = record { reading = c.self.inside.reader; nesting = c.self.inside.nest; coming = take (c.self.inside.end - c.self.inside.start) (drop c.self.inside.start c.self.inside.buffer); ending = c.self.inside.ending } in
    let t : Feeding = record { reading = c.count_one.new.self; nesting = c.accept_inside.new.self; coming = take (c.self.inside.end - (c.self.inside.start + c.in_ok-front.front.used)) (drop (c.self.inside.start + c.in_ok-front.front.used) c.self.inside.buffer); ending = c.self.inside.ending } in
    let running : c.self.inside.ending ≡ Running = search rules in
    let before : c.args.self.now.ending ≡ Running = ap (λ (f : Feeding). f.ending) (sym c.self.view_is) ∙ running in
    next_of_running _ _ _ _ before
    (λ w bytes h.
    let fed : HasFed w bytes s = subst (HasFed w bytes) (sym c.self.view_is) h in
    let P : Reading → Type 0 = HasRead (w ++ c.in_ok-front.front.record ∷ []) (fed.has_used.used ++ take c.in_ok-front.front.used s.coming) in
    let read = subst P (sym c.count_one.ensures) (c.in_ok-front.ensures.taken w fed.has_used.used fed.has_used.has_read) in
    let what : c.in_ok-placed.placed.what ≡ c.in_ok-front.front.record = ap (λ p. p.what) c.in_ok-placed.ensures.place in
    let used : HasUsed (w ++ c.in_ok-front.front.record ∷ []) bytes t = used_front w (w ++ c.in_ok-front.front.record ∷ []) bytes s t c.self.inside.buffer c.self.inside.start c.self.inside.end c.in_ok-front.front.used refl refl c.in_ok-front.ensures.used fed.has_used read in
    let Q : List ℕ → Type 0 = λ b. HasFed (w ++ c.in_ok-front.front.record ∷ []) b t in
    let next : HasFed (w ++ c.in_ok-front.front.record ∷ []) bytes t = record { has_used = used; has_nested = c.in_ok-placed.ensures.accepted w fed.has_nested; running = running } in
    ([], consumes_none _, rw what (ap (λ p. p.place) c.in_ok-placed.ensures.place ∙ ap (λ x. x + 1) fed.has_nested.count_is, subst Q (sym (append-nil bytes)) next, refl)))
    (λ is. absurd (search (rules, is)))
    (answered_running _ _ running)
    (search rules)
