use Rattle.audit.specs.Pairing.{AddsPairs}
use Rattle.audit.proofs.location_races.add_pairs.Given as goal

abbrev pub invariant-loop-first : goal.invariant-loop-first
invariant-loop-first l = AddsPairs l.meetings l.kept l.second l.first-index l.initial.pairs.items l.pairs.items
