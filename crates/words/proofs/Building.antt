-- How the commands are built up.
use Rattle.std.proofs.Common.{◌≡◌, ◌∙◌, ℕ, ◌+◌, ◌<◌, List, [], ◌∷◌, ◌++◌, ap, ap₂, map, take, length, slice_index_or, sym, subst, ◌||◌}
use Rattle.std.proofs.lemmas.List.{map_more}
use Rattle.clap.specs.Walk.{Rule, Text}
use Rattle.clap.specs.Simple.{App, Shape, app_of, with_rule, with_subcommand}
use Rattle.clap.specs.Built.{AddsArg, AddsSubcommand}
use Rattle.clap.specs.declared.builder.arg.Arg.{Arg}
use Rattle.clap.specs.declared.builder.command.Command.{Command}
use Rattle.words.specs.CommandLine as line
use Rattle.words.specs.declared.commands.Argument.{Argument}
use Rattle.words.specs.Building.{IsArgument, IsCommand, rule_for}

-- one more argument
pub adds : (name : Text) (rules : List Rule) (r : Rule) (old new : Command) (a : Arg) → IsCommand (line.taking name rules) old
    → IsArgument r a → AddsArg old a new → IsCommand (line.taking name (rules ++ r ∷ [])) new
adds name rules r old new a built argument added = record {
  app = added.shape argument.local ∙ ap₂ with_rule built.app argument.rule;
  local = added.globals ∙ ap₂ ◌||◌ built.local argument.local;
}

-- one more argument of those listed
pub adds_more : (name : Text) (arguments : List Argument) (i : ℕ) (d : Argument) (old new : Command) (a : Arg) → i < length arguments
    → IsCommand (line.taking name (map rule_for (take i arguments))) old → IsArgument (rule_for (slice_index_or arguments i d)) a → AddsArg old a new
    → IsCommand (line.taking name (map rule_for (take (i + 1) arguments))) new
adds_more name arguments i d old new a within built taken added =
    subst (λ (rules : List Rule). IsCommand (line.taking name rules) new) (sym (map_more rule_for arguments i d within))
    (adds name (map rule_for (take i arguments)) (rule_for (slice_index_or arguments i d)) old new a built taken added)

-- one more command
pub enters : (a : App) (s : Shape) (old sub new : Command) → app_of old ≡ a → IsCommand s sub → AddsSubcommand old sub new
    → app_of new ≡ with_subcommand a s
enters a s old sub new built command added = added.shape command.local ∙ ap₂ with_subcommand built (ap (λ (x : App). x.top) command.app)
