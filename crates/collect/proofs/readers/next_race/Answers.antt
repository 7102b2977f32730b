use Rattle.std.proofs.Common.{sym, ◌∙◌}
use Rattle.collect.proofs.Listed.{IsReportList-follows, breaks_order}
use Rattle.collect.proofs.readers.next_race.Goals as goal

pub returns-then-not-may_follow-clause-none : goal.returns-then-not-may_follow-clause-none
returns-then-not-may_follow-clause-none c r more h line =
    breaks_order c.args.races.now c.args.bytes.now c.in-Some.found.0 c.in-Some.found.1.now c.in-Some.ensures.found c.in-Some.ensures.entry (sym c.may_follow.ensures ∙ c.if-not-may_follow.true) r more h line

pub returns-clause-follows : goal.returns-clause-follows
returns-clause-follows c = IsReportList-follows c.args.races.now c.in-Some.found.0 c.requires c.in-Some.ensures.entry (sym c.may_follow.ensures ∙ c.if-not-may_follow.false)
