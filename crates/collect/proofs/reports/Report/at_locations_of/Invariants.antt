use Rattle.std.proofs.Common.{◌≡◌}
use Rattle.collect.proofs.Located.{partly}
use Rattle.collect.proofs.reports.Report.at_locations_of.Given as goal

abbrev pub invariant-loop-index : goal.invariant-loop-index
invariant-loop-index l = l.races.items ≡ partly l.fn.part l.index l.fn.self
