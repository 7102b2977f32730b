use Rattle.trace.proofs.Common.{◌-◌, ◌<◌, Backs}
use Rattle.trace.proofs.parallel.opener_of.Given as goal

-- what the walk back knows before its step
abbrev pub invariant-loop-back : goal.invariant-loop-back
invariant-loop-back l = record {
  near : l.inside < l.back;
  walked : Backs l.records l.place (l.place - (l.back - 1)) l.inside;
}
