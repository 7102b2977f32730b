use Rattle.collect.proofs.Common.{◌+◌, ◌≤◌, ◌-◌, length, ◌⇝◌, Gave, IsSteady, most_report_bytes}
use Rattle.collect.proofs.bounded.bytes_from.Given as goal

abbrev pub invariant-loop-bytes : goal.invariant-loop-bytes
invariant-loop-bytes g l = record {
  gave : Gave (g.Q.Source.state l.fn.source ⇝ g.Q.Source.state l.source) l.bytes.items;
  within : length l.bytes.items ≤ most_report_bytes + 1;
  steady : IsSteady (g.Q.Source.state l.fn.source ⇝ g.Q.Source.state l.source);
}

abbrev pub decreases-loop-bytes : goal.decreases-loop-bytes
decreases-loop-bytes g l = most_report_bytes + 2 - length l.bytes.items
