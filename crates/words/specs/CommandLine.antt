-- Promised: the program's commands and what each takes, as `clap` reads them.
use Rattle.std.specs.Prelude.{List, [], ◌∷◌, Some, true, false, codes}
use Rattle.clap.specs.Lexer.{usize_max}
use Rattle.clap.specs.Walk.{Rule, Text}
use Rattle.clap.specs.Simple.{App, Shape, new_rule, new_shape}
use Rattle.clap.specs.declared.builder.action.ArgAction.TheVariants.{Set}

-- an option and its word, as `--depth 7` or `--depth=7`; given once at most
abbrev pub option : Text → Rule
option name = record (new_rule name) { long = Some name; value_names = 1; action = Some Set }

-- a word that has to be there
abbrev pub needed : Text → Rule
needed name = record (new_rule name) { required = true; action = Some Set }

-- one such word or more
abbrev pub needed_words : Text → Rule
needed_words name = record (needed name) { range = Some (record { start_inclusive = 1; end_inclusive = usize_max }) }

-- a command with what it takes; words without an option stand in this order
abbrev pub taking : Text → List Rule → Shape
taking name rules = record (new_shape name) { rules = rules }

abbrev pub check : Shape
check = taking (codes "check") (option (codes "shards") ∷ option (codes "capacity") ∷ option (codes "depth")
    ∷ option (codes "part") ∷ needed (codes "FILE") ∷ [])

abbrev pub explain : Shape
explain = taking (codes "explain") (option (codes "depth") ∷ needed (codes "FILE") ∷ needed (codes "L") ∷ [])

abbrev pub pairs : Shape
pairs = taking (codes "pairs") (option (codes "depth") ∷ needed (codes "FILE") ∷ needed (codes "L") ∷ [])

abbrev pub measure : Shape
measure = taking (codes "measure") (option (codes "depth") ∷ needed (codes "FILE") ∷ [])

abbrev pub confirm : Shape
confirm = taking (codes "confirm") (option (codes "depth") ∷ needed (codes "TRACE") ∷ needed (codes "REPORT") ∷ [])

abbrev pub merge : Shape
merge = taking (codes "merge") (needed_words (codes "REPORT") ∷ [])

-- the program: its words don't begin with its name, and name one of the commands
abbrev pub program : App
program = record {
  top = record (new_shape (codes "spbags")) {
    is_leaf = false;
    no_binary_name = true;
    disable_help_subcommand = true;
    has_version = true;
    subcommand_required = true;
  };
  subs = check ∷ explain ∷ pairs ∷ measure ∷ confirm ∷ merge ∷ [];
}
