use Rattle.audit.proofs.MeetingLemmas.{decided_unjoined, decided_joined}
use Rattle.audit.proofs.meetings.Meetings.is_parallel.Goals as goal

pub returns-then-is_unjoined : goal.returns-then-is_unjoined
returns-then-is_unjoined c u met =
    decided_unjoined c.args.self.now u c.args.place c.args.depth met c.is_unjoined.result c.is_in_spawned_turn.result c.if-is_unjoined.true (c.is_unjoined.ensures u met) c.is_in_spawned_turn.ensures

pub returns-else-is_unjoined : goal.returns-else-is_unjoined
returns-else-is_unjoined c u met = decided_joined c.args.self.now u c.args.place c.args.depth met c.is_unjoined.result c.if-is_unjoined.false (c.is_unjoined.ensures u met)
