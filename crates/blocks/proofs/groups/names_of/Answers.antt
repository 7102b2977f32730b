use Rattle.blocks.proofs.Looks.{found_here}
use Rattle.blocks.proofs.groups.names_of.Goals as goal

pub returns-then-units-unit-eq1 : goal.returns-then-units-unit-eq1
returns-then-units-unit-eq1 c = found_here c.args.unit c.args.groups.now c.loop-index.index c.loop-index-test.true c.if-units-unit-eq1.true c.loop-index.invariant
