use Rattle.online.proofs.Common.{List, ◌++◌, map, take, Back, Race, KeepsBest}
use Rattle.online.proofs.detector.take_all.Given as goal

abbrev pub invariant-loop-race : goal.invariant-loop-race
invariant-loop-race l = (g : List Back) → KeepsBest g l.fn.collector → KeepsBest (g ++ map Race (take l.race-index l.races)) l.collector
