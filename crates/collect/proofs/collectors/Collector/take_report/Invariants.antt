use Rattle.collect.proofs.Common.{List, ◌++◌, map, take, Back, Race, KeepsBest}
use Rattle.collect.proofs.collectors.Collector.take_report.Given as goal

abbrev pub invariant-loop-race : goal.invariant-loop-race
invariant-loop-race l = (g : List Back) → KeepsBest g l.fn.self → KeepsBest (g ++ map Race (take l.race-index l.report)) l.self
