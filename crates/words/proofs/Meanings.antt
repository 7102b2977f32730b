-- What was found of the words says what they mean.
use Rattle.std.proofs.Common.{◌≡◌, ◌∙◌, List, Option, Result, IfOk, ap, subst}
use Rattle.clap.specs.Walk.{Row, Text}
use Rattle.clap.specs.Simple.{App, HasMatchesOf, app_of, is_simple, subcommand_of, subcommand_rows_of}
use Rattle.clap.specs.declared.builder.command.Command.{Command}
use Rattle.clap.specs.declared.parser.matches.ArgMatches.{ArgMatches}
use Rattle.words.specs.declared.asking.Asked.{Asked}
use Rattle.words.specs.declared.reading.WordsFault.{WordsFault}
use Rattle.words.specs.CommandLine.{program}
use Rattle.words.specs.Meaning.{Means, MeansOf}

pub asked_by : (c : Command) (words : List Text) (m : ArgMatches) (r : Result Asked WordsFault) → app_of c ≡ program
    → HasMatchesOf (app_of c) words m → IfOk r (MeansOf (subcommand_rows_of m)) → IfOk r (Means words)
asked_by c words m r is matches asked =
    let found = matches (ap is_simple is) in
    subst (λ (entered : Option (Text × List Row)). IfOk r (MeansOf entered)) (found.1 ∙ ap (λ (a : App). subcommand_of a words) is) asked
