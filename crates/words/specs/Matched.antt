-- Private: what `clap` found of one command.
use Rattle.std.specs.Prelude.{List}
use Rattle.clap.specs.Walk.{Row, rows_of}
use Rattle.clap.specs.Matches.{found_of}
use Rattle.clap.specs.declared.parser.matches.ArgMatches.{ArgMatches}

abbrev pub rows_in : ArgMatches → List Row
rows_in matches = rows_of (found_of matches)
