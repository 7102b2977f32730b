use Rattle.std.proofs.Common.{map, take}
use Rattle.words.specs.CommandLine as line
use Rattle.words.specs.Building.{IsCommand, rule_for}
use Rattle.words.proofs.commands.taking.Given as goal

-- the command takes the arguments so far
abbrev pub invariant-loop-argument : goal.invariant-loop-argument
invariant-loop-argument l = IsCommand (line.taking l.name (map rule_for (take l.argument-index l.arguments))) l.command
