use Rattle.audit.proofs.Common.{nat_lt, rules, IsPartitionPoint-from_clause, Active}
use Rattle.audit.proofs.meetings.Meetings.holders.Goals as goal

pub returns-clause-opened : goal.returns-clause-opened
returns-clause-opened c h =
    IsPartitionPoint-from_clause (λ (f : Active). nat_lt f.opened c.args.place) c.args.self.now.suspended.items c.partition_point.result (rw c.deref.ensures.value at c.partition_point.ensures.partitioned) h
    (λ a r f called. search rules)
