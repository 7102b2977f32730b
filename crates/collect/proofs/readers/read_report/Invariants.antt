use Rattle.collect.proofs.Common.{◌≡◌, ◌-◌, ◌≤◌, ◌++◌, length, IsReportList, head, race_lines}
use Rattle.collect.proofs.readers.read_report.Given as goal

abbrev pub invariant-loop-races : goal.invariant-loop-races
invariant-loop-races l = record {
  text : l.bytes ≡ head l.count ++ (race_lines l.races.items ++ l.rest);
  report : IsReportList l.races.items;
  within : length l.races.items ≤ l.count;
}

abbrev pub decreases-loop-races : goal.decreases-loop-races
decreases-loop-races l = l.count - length l.races.items
