use Rattle.audit.proofs.Common.{◌≤◌, List, length, nat_lt, refl, arith, rules, IsPartitionPoint-from_clause, slice_get_read, Turn}
use Rattle.audit.proofs.MeetingLemmas.{IsTurnCount, decided_turn, decided_no_turn}
use Rattle.audit.proofs.meetings.Meetings.is_in_spawned_turn.Goals as goal

pub returns-in-Some : goal.returns-in-Some
returns-in-Some c =
    let ts : List Turn = c.args.self.now.turns.items in
    let within : c.partition_point-begun.result ≤ length ts = rw c.deref.ensures.value at c.partition_point-begun.ensures.bound in
    let count : IsTurnCount ts c.args.place c.partition_point-begun.result = (λ sorted. IsPartitionPoint-from_clause (λ (x : Turn). nat_lt x.opened c.args.place) ts c.partition_point-begun.result (rw c.deref.ensures.value at c.partition_point-begun.ensures.partitioned) sorted
    (λ a r f called. search rules)) in
    decided_turn ts c.args.place c.partition_point-begun.result c.in-Some.last c.index.result.now within count (omega (arith, c.in-Some.ensures))
    (slice_get_read ts _ _ _ refl (omega (arith, c.in-Some.ensures)) c.index.ensures)

pub returns-in-None : goal.returns-in-None
returns-in-None c =
    let ts : List Turn = c.args.self.now.turns.items in
    let within : c.partition_point-begun.result ≤ length ts = rw c.deref.ensures.value at c.partition_point-begun.ensures.bound in
    let count : IsTurnCount ts c.args.place c.partition_point-begun.result = (λ sorted. IsPartitionPoint-from_clause (λ (x : Turn). nat_lt x.opened c.args.place) ts c.partition_point-begun.result (rw c.deref.ensures.value at c.partition_point-begun.ensures.partitioned) sorted
    (λ a r f called. search rules)) in
    decided_no_turn ts c.args.place c.partition_point-begun.result _ within count (omega (arith, c.in-None.ensures))
