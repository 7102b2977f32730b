use Rattle.trace.proofs.Common.{◌≡◌, false, ap, sym, subst, ◌∙◌, arith, Nesting, HasNested}
use Rattle.trace.proofs.Nestings.{accepted_opener, accepted_return, accepted_other}
use Rattle.trace.proofs.nesting.Nest.accept_inside.Goals as goal
use Rattle.trace.proofs.nesting.Nest.accept_inside.Goals.{in-Spawn+else-self, in-Return+else-self-eq0, in-Sync}

pub returns-clause-accepted : goal.returns-clause-accepted
returns-clause-accepted c u h =
    let n : Nesting = record { max_depth = c.self.inside.max_depth; count = c.self.inside.count; depth = c.self.inside.depth; ended = c.self.inside.ended } in
    let h' : HasNested u n = subst (HasNested u) (sym c.self.view_is) h in
    let running : n.ended ≡ false = ap (λ (m : Nesting). m.ended) c.self.view_is ∙ c.requires.not_ended in
    elim c.match-what.branch [
      | in-Spawn+else-self w ↦ rw (w.self-inside-is, running) (accepted_opener u n h' running (omega (arith, w.if-self.false)) c.args.what w.in-Spawn.is)
      | in-Return+else-self-eq0 w ↦ rw (w.in-Return.is, w.self-inside-is, running) (accepted_return u n h' running (omega (arith, w.if-self-eq0.false)))
      | in-Sync w ↦ rw (w.self-inside-is, running) (accepted_other u n h' running c.args.what w.in-Sync.is)
    ]
