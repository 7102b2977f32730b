use Rattle.trace.proofs.Common.{◌≡◌, ◌++◌, ℕ, List, take, subst, sym, ap, ◌∙◌, ◌-◌, length, arith, IsUnended, IsNoRecord, Reading}
use Rattle.trace.proofs.Readings.{past_limit, bad_at_end, bad_long}
use Rattle.trace.proofs.reading.Reader.next.Goals as goal

pub returns-then-self-clause-fault : goal.returns-then-self-clause-fault
returns-then-self-clause-fault c w bytes h =
    let rest : c.self.inside.held ≡ c.args.self.now.rest = ap (λ (s : Reading). s.rest) c.self.view_is in
    let count : c.self.inside.count ≡ c.args.self.now.count = ap (λ (s : Reading). s.count) c.self.view_is in
    rw (c.fail-then-self.ensures.fault, count) (past_limit w bytes c.args.self.now h c.args.version c.requires.begun c.args.piece.now c.in-LineEnd.end c.in-Some.record c.in-LineEnd.ensures.0 c.in-LineEnd.ensures.1 (ap (λ x. x ++ take c.in-LineEnd.end c.args.piece.now) (sym rest) ∙ c.in-Some.ensures.found) c.in-Some.ensures.fits (omega (arith, count, c.if-self.true, ap (λ (s : Reading). s.limit) c.self.view_is)))

pub returns-in-None-clause-fault : goal.returns-in-None-clause-fault
returns-in-None-clause-fault c w bytes h =
    let rest : c.self.inside.held ≡ c.args.self.now.rest = ap (λ (s : Reading). s.rest) c.self.view_is in
    let count : c.self.inside.count ≡ c.args.self.now.count = ap (λ (s : Reading). s.count) c.self.view_is in
    rw (c.fail.ensures.fault, count) (bad_at_end w bytes c.args.self.now h c.args.version c.requires.begun c.args.piece.now c.in-LineEnd.end c.in-LineEnd.ensures.0 c.in-LineEnd.ensures.1 c.in-LineEnd.ensures.2 (let P : List ℕ → Type 0 = λ x. IsNoRecord c.args.version (x ++ take c.in-LineEnd.end c.args.piece.now) in subst P rest c.in-None.ensures.none))

pub returns-in-Long-clause-fault : goal.returns-in-Long-clause-fault
returns-in-Long-clause-fault c w bytes h =
    let rest : c.self.inside.held ≡ c.args.self.now.rest = ap (λ (s : Reading). s.rest) c.self.view_is in
    let count : c.self.inside.count ≡ c.args.self.now.count = ap (λ (s : Reading). s.count) c.self.view_is in
    rw (c.fail-in-Long.ensures.fault, count) (bad_long w bytes c.args.self.now h c.args.version c.requires.begun c.args.piece.now (omega (arith, c.in-Long.ensures.0, c.len.ensures.len, ap length rest)) (let P : ℕ → Type 0 = λ n. IsUnended (take (27 - n) c.args.piece.now) in subst P (c.len.ensures.len ∙ ap length rest) c.in-Long.ensures.1))
