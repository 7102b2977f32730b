-- What the getters of the matches give, by what the walk over the words found.
use Rattle.std.proofs.Common.{◌≡◌}
use Rattle.std.specs.Prelude.{option_map}
use Rattle.clap.specs.Walk.{Text, first_of, all_of}
use Rattle.clap.specs.Matches.{first_value, found_of, matched_of, raw_values}
use Rattle.clap.specs.declared.parser.matches.ArgMatches.{ArgMatches}
use Rattle.clap.proofs.WalkLemmas.{first_value-rows, raw_values-rows}
use Rattle.words.specs.Matched.{rows_in}

pub value_matched : (m : ArgMatches) (argument : Text) → first_value (found_of m) argument ≡ first_of argument (rows_in m)
value_matched m argument = first_value-rows (found_of m) argument

pub values_matched : (m : ArgMatches) (argument : Text) → option_map raw_values (matched_of (found_of m) argument) ≡ all_of argument (rows_in m)
values_matched m argument = raw_values-rows (found_of m) argument
