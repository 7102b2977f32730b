use Rattle.trace.proofs.Common.{◌≡◌, ◌++◌, ℕ, List, Option, IfNone, take, subst, ap, ◌∙◌, ◌-◌, length, arith, Version, IsUnended, IsNoHeader, Reading}
use Rattle.trace.proofs.Readings.{header_at_end, header_long}
use Rattle.trace.proofs.reading.Reader.open.Goals as goal

pub returns-in-None-clause-fault : goal.returns-in-None-clause-fault
returns-in-None-clause-fault c w bytes h =
    let rest : c.self.inside.held ≡ c.args.self.now.rest = ap (λ (s : Reading). s.rest) c.self.view_is in
    let line = c.as_slice.ensures ∙ c.push_all.ensures ∙ ap (λ x. x ++ take c.in-LineEnd.end c.args.piece.now) rest in
    let P : List ℕ → Type 0 = λ x. IsNoHeader x in
    let Q : Option Version → Type 0 = λ o. IfNone o (IsNoHeader c.as_slice.result.now) in
    let none : IsNoHeader c.as_slice.result.now = subst Q c.in-None.is c.version_of-self-inside.ensures.none in
    rw c.fail.ensures.fault (header_at_end w bytes c.args.self.now h c.requires.first c.args.piece.now c.in-LineEnd.end c.in-LineEnd.ensures.0 c.in-LineEnd.ensures.1 c.in-LineEnd.ensures.2 (subst P line none))

pub returns-in-Long-clause-fault : goal.returns-in-Long-clause-fault
returns-in-Long-clause-fault c w bytes h =
    let rest : c.self.inside.held ≡ c.args.self.now.rest = ap (λ (s : Reading). s.rest) c.self.view_is in
    rw c.fail-in-Long.ensures.fault (header_long w bytes c.args.self.now h c.requires.first c.args.piece.now (omega (arith, c.in-Long.ensures.0, c.len.ensures.len, ap length rest)) (let P : ℕ → Type 0 = λ n. IsUnended (take (27 - n) c.args.piece.now) in subst P (c.len.ensures.len ∙ ap length rest) c.in-Long.ensures.1))
