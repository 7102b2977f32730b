use Rattle.trace.proofs.Common.{◌≡◌, ◌≢◌, [], length, None, is_some, IsTrue, sym, ap, subst, ◌∙◌, arith, Reading}
use Rattle.trace.proofs.Readings.{none_of, some_of, some_version, truncated_header, truncated_line}
use Rattle.trace.proofs.Cuttings.{first_not_text, cut_not_text}
use Rattle.trace.proofs.reading.Reader.end.Goals as goal

pub returns-then-is_none-clause-truncated : goal.returns-then-is_none-clause-truncated
returns-then-is_none-clause-truncated c w bytes h =
    let first : c.args.self.now.version ≡ None = ap (λ (s : Reading). s.version) (sym c.self.view_is) ∙ none_of c.self.inside.version c.is_none.result c.is_none.ensures c.if-is_none.true in
    rw c.fail.ensures.fault (truncated_header w bytes c.args.self.now h first)

pub returns-then-len-gt0-clause-truncated : goal.returns-then-len-gt0-clause-truncated
returns-then-len-gt0-clause-truncated c w bytes h =
    let begun = some_version c.args.self.now.version (subst (λ o. IsTrue (is_some o)) (ap (λ (s : Reading). s.version) c.self.view_is) (some_of c.self.inside.version c.is_none.result c.is_none.ensures c.if-is_none.false)) in
    let count : c.self.inside.count ≡ c.args.self.now.count = ap (λ (s : Reading). s.count) c.self.view_is in
    let rest : c.self.inside.held ≡ c.args.self.now.rest = ap (λ (s : Reading). s.rest) c.self.view_is in
    let some : c.args.self.now.rest ≢ [] = λ e. let n : length c.self.inside.held ≡ 0 = ap length (rest ∙ e) in absurd (omega (arith, c.len.ensures.len, c.if-len-gt0.true)) in
    rw (c.fail-then-len-gt0.ensures.fault, count) (truncated_line w bytes c.args.self.now h begun.0 begun.1 some)

pub returns-then-is_none-clause-not_text : goal.returns-then-is_none-clause-not_text
returns-then-is_none-clause-not_text c w bytes h =
    let first : c.args.self.now.version ≡ None = ap (λ (s : Reading). s.version) (sym c.self.view_is) ∙ none_of c.self.inside.version c.is_none.result c.is_none.ensures c.if-is_none.true in
    first_not_text w bytes c.args.self.now h first

pub returns-then-len-gt0-clause-not_text : goal.returns-then-len-gt0-clause-not_text
returns-then-len-gt0-clause-not_text c w bytes h =
    let begun = some_version c.args.self.now.version (subst (λ o. IsTrue (is_some o)) (ap (λ (s : Reading). s.version) c.self.view_is) (some_of c.self.inside.version c.is_none.result c.is_none.ensures c.if-is_none.false)) in
    let rest : c.self.inside.held ≡ c.args.self.now.rest = ap (λ (s : Reading). s.rest) c.self.view_is in
    let some : c.args.self.now.rest ≢ [] = λ e. let n : length c.self.inside.held ≡ 0 = ap length (rest ∙ e) in absurd (omega (arith, c.len.ensures.len, c.if-len-gt0.true)) in
    cut_not_text w bytes c.args.self.now begun.0 _ h begun.1 (truncated_line w bytes c.args.self.now h begun.0 begun.1 some)
