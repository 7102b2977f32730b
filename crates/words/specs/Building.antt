-- Private: what the calls that build the commands keep.
use Rattle.std.specs.Prelude.{◌≡◌, [], false, codes}
use Rattle.clap.specs.Walk.{Rule, rule_of}
use Rattle.clap.specs.Simple.{Shape, app_of}
use Rattle.clap.specs.declared.builder.arg.Arg.{Arg}
use Rattle.clap.specs.declared.builder.command.Command.{Command}
use Rattle.clap.specs.declared.builder.command.Command.TheViews.{out-Command}
use Rattle.words.specs.declared.commands.Argument.{Argument}
use Rattle.words.specs.declared.commands.Argument.TheVariants as argument
use Rattle.words.specs.CommandLine.{option, needed, needed_words}

-- an argument of one command alone
pub record IsArgument (r : Rule) (a : Arg) : Type 0 where
  pub rule : rule_of a ≡ r
  pub local : a.global ≡ false

-- a command without commands of its own
pub record IsCommand (s : Shape) (c : Command) : Type 0 where
  pub app : app_of c ≡ record { top = s; subs = [] }
  pub local : (out-Command c).has_globals ≡ false

abbrev pub rule_for : Argument → Rule
rule_for argument.Shards = option (codes "shards")
rule_for argument.Capacity = option (codes "capacity")
rule_for argument.Depth = option (codes "depth")
rule_for argument.Part = option (codes "part")
rule_for argument.File = needed (codes "FILE")
rule_for argument.Trace = needed (codes "TRACE")
rule_for argument.Report = needed (codes "REPORT")
rule_for argument.Reports = needed_words (codes "REPORT")
rule_for argument.Location = needed (codes "L")
