use Rattle.audit.proofs.Common.{◌≡◌, true, Some, refl, sym, ◌∙◌, Trail, Explaining, DecidesNow}
use Rattle.audit.proofs.ExplainLemmas.{some_of, none_of, keeps_write, keeps_no_read, keeps_this_read}
use Rattle.audit.proofs.explanations.Explaining.keep.Goals as goal

pub returns-in_ok-trail_at-in-Write-clause-keeps : goal.returns-in_ok-trail_at-in-Write-clause-keeps
returns-in_ok-trail_at-in-Write-clause-keeps c =
    let s : Explaining = c.args.self.now in
    let x : Trail = c.in_ok-trail_at-in-Write.field-0 in
    keeps_write s c.args.access (record s { last_write = Some x }) x c.in-Write.is refl refl c.in_ok-trail_at-in-Write.ensures.place c.in_ok-trail_at-in-Write.ensures.openers

pub returns-in-Read-clause-keeps : goal.returns-in-Read-clause-keeps
returns-in-Read-clause-keeps c =
    let s : Explaining = c.args.self.now in
    let y = some_of (λ r. r.now) (λ x. (s.kept_reader ≡ Some x) × DecidesNow s.meetings true x) c.if_parallel.result (sym c.is_some.ensures ∙ c.if-is_some.true) c.if_parallel.ensures.parallel in
    keeps_no_read s c.args.access s c.in-Read.is refl y.0 y.1.0 y.1.1 refl

pub returns-in_ok-trail_at-in-Read-2-clause-keeps : goal.returns-in_ok-trail_at-in-Read-2-clause-keeps
returns-in_ok-trail_at-in-Read-2-clause-keeps c =
    let s : Explaining = c.args.self.now in
    let x : Trail = c.in_ok-trail_at-in-Read-2.field-0 in
    keeps_this_read s c.args.access (record s { kept_reader = Some x }) c.in-Read-2.is refl x (none_of c.if_parallel.result (sym c.is_some.ensures ∙ c.if-is_some.false) c.if_parallel.ensures.ordered) refl
    c.in_ok-trail_at-in-Read-2.ensures.place c.in_ok-trail_at-in-Read-2.ensures.openers
