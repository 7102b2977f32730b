use Rattle.audit.proofs.Common.{◌≡◌, arith, refl, sym, ◌∙◌, length, lt-ltb, ltb-true, slice_get_read, element_at}
use Rattle.audit.proofs.MeetingLemmas.{decided_executing, decided_suspended, decided_none}
use Rattle.audit.proofs.meetings.Meetings.is_unjoined.Goals as goal

pub returns-then-len-depth : goal.returns-then-len-depth
returns-then-len-depth c u met =
    let len : length c.args.self.now.suspended.items ≡ c.len.result = sym (c.len.ensures ∙ c.args.self.now.suspended.ok.0) in
    decided_executing c.args.self.now u c.args.place c.args.depth _ met c.if-self-place.true (λ e. (omega arith, ltb-true _ _ e), λ p. lt-ltb _ _ p.1)

pub returns-else-len-depth : goal.returns-else-len-depth
returns-else-len-depth c u met =
    let len : length c.args.self.now.suspended.items ≡ c.len.result = sym (c.len.ensures ∙ c.args.self.now.suspended.ok.0) in
    decided_executing c.args.self.now u c.args.place c.args.depth _ met c.if-self-place.true (λ e. absurd (omega (arith, ltb-true _ _ e)), λ p. absurd (omega (arith, p.0)))

pub returns-then-meeting-depth : goal.returns-then-meeting-depth
returns-then-meeting-depth c u met =
    decided_suspended c.args.self.now u c.args.place c.args.depth c.holders.result c.in-Some.meeting c.index.result.now _ met c.if-self-place.false c.holders.ensures.within c.holders.ensures.opened
    (omega (arith, c.in-Some.ensures)) (slice_get_read c.args.self.now.suspended.items _ _ _ refl (omega (arith, c.in-Some.ensures, c.holders.ensures.within)) c.index.ensures)
    (λ e. (c.if-meeting-depth.true, ltb-true _ _ e), λ p. lt-ltb _ _ p.1)

pub returns-else-meeting-depth : goal.returns-else-meeting-depth
returns-else-meeting-depth c u met =
    let f = element_at c.args.self.now.suspended.items c.in-Some.meeting (omega (arith, c.in-Some.ensures, c.holders.ensures.within)) in
    decided_suspended c.args.self.now u c.args.place c.args.depth c.holders.result c.in-Some.meeting f.0 _ met c.if-self-place.false c.holders.ensures.within c.holders.ensures.opened
    (omega (arith, c.in-Some.ensures)) f.1 (λ e. absurd (omega (arith, ltb-true _ _ e, c.if-meeting-depth.false)), λ p. absurd (omega (arith, p.0, c.if-meeting-depth.false)))

pub returns-in-None : goal.returns-in-None
returns-in-None c u met = decided_none c.args.self.now u c.args.place c.args.depth c.holders.result _ met c.if-self-place.false c.holders.ensures.opened (omega (arith, c.in-None.ensures))
