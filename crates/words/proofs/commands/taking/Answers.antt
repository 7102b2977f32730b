use Rattle.std.proofs.Common.{arith}
use Rattle.words.proofs.Building.{adds_more}
use Rattle.words.proofs.commands.taking.Goals as goal

pub loop-argument-preserved : goal.loop-argument-preserved
loop-argument-preserved c =
    adds_more c.args.name.now c.args.arguments.now c.loop-argument.argument-index _ c.loop-argument.command c.in_ok-command.command c.argument_of.result
    (omega arith) c.loop-argument.invariant c.argument_of.ensures c.in_ok-command.ensures
