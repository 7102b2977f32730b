use Rattle.audit.proofs.Common.{rules, nat_lt, arith, ap, ◌∙◌, IsPartitionPoint-from_clause, slice_get_within, get_or_from_slice_get, Entry}
use Rattle.audit.proofs.ConfirmLemmas.{nowhere, partitioned}
use Rattle.audit.proofs.confirms.find_entry.Goals as goal
use Rattle.audit.proofs.confirms.find_entry.Goals.{else-index-entries-via-then-index-entries+else-entries-index, else-index-entries-via-else-index-entries}

pub returns-else-index-entries-clause-nowhere : goal.returns-else-index-entries-clause-nowhere
returns-else-index-entries-clause-nowhere c ascending =
    nowhere c.args.entries.now c.args.location c.partition_point-index.result ascending
    (IsPartitionPoint-from_clause (λ (e : Entry). nat_lt e.location c.args.location) c.args.entries.now c.partition_point-index.result c.partition_point-index.ensures.partitioned
    (partitioned c.args.entries.now c.args.location ascending) (λ a r f called. search rules))
    (elim c.else-index-entries.branch [
      | else-index-entries-via-then-index-entries+else-entries-index w ↦ (λ e s q. w.if-entries-index.false (ap (λ (x : Entry). x.location) (get_or_from_slice_get c.args.entries.now c.partition_point-index.result e _ s) ∙ q))
      | else-index-entries-via-else-index-entries w ↦ (λ e s q. omega (arith, slice_get_within c.args.entries.now _ e s, w.if-index-entries.false))
    ])
