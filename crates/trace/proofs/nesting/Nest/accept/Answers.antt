use Rattle.trace.proofs.Common.{◌≡◌, false, ⊎_elim, ap, sym, subst, ◌∙◌, arith, Nesting, HasNested}
use Rattle.trace.proofs.Nestings.{misplaced_after_end, misplaced_deep, accepted_root_return}
use Rattle.trace.proofs.nesting.Nest.accept.Goals as goal
use Rattle.trace.proofs.nesting.Nest.accept.Goals.{in_default-via-in-Return+else-self-eq0, in_default-via-in_default}

pub returns-then-self-clause-misplaced : goal.returns-then-self-clause-misplaced
returns-then-self-clause-misplaced c u h = misplaced_after_end u c.args.self.now h (ap (λ (n : Nesting). n.ended) (sym c.self.view_is) ∙ c.if-self.true) c.args.what

pub returns-in-Return-clause-accepted : goal.returns-in-Return-clause-accepted
returns-in-Return-clause-accepted c u h =
    let n : Nesting = record { max_depth = c.self.inside.max_depth; count = c.self.inside.count; depth = c.self.inside.depth; ended = c.self.inside.ended } in
    let h' : HasNested u n = subst (HasNested u) (sym c.self.view_is) h in
    rw c.in-Return.is (accepted_root_return u n h' c.if-self.false c.if-self-eq0.true)

pub returns-in-None-clause-misplaced : goal.returns-in-None-clause-misplaced
returns-in-None-clause-misplaced c u h =
    let running : c.args.self.now.ended ≡ false = ap (λ (n : Nesting). n.ended) (sym c.self.view_is) ∙ c.if-self.false in
    let depth : c.self.inside.depth ≡ c.args.self.now.depth = ap (λ (n : Nesting). n.depth) c.self.view_is in
    ⊎_elim (λ deep. misplaced_deep u c.args.self.now h running deep.1 c.args.what deep.0) (λ root. absurd (elim c.in_default.branch [
      | in_default-via-in-Return+else-self-eq0 w ↦ omega (arith, w.if-self-eq0.false, depth, root.1)
      | in_default-via-in_default w ↦ w.in_default.not-Return root.0
    ])) c.in-None.ensures.why
