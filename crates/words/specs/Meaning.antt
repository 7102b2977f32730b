-- Promised: what the words of a command line mean. `clap` says which command they enter and which words each of its
-- arguments gets (`subcommand_of`); here stands what such a command asks.
use Rattle.std.specs.Prelude.{◌≡◌, ℕ, List, Option, None, Some, String, map, codes, decimal, string_bytes}
use Rattle.clap.specs.Walk.{Row, Text, first_of, all_of}
use Rattle.clap.specs.Simple.{subcommand_of}
use Rattle.words.specs.declared.asking.Question.TheVariants.{Check, Pairs, Explain, Measure}
use Rattle.words.specs.declared.asking.CheckWords.{CheckWords}
use Rattle.words.specs.declared.asking.LocationWords.{LocationWords}
use Rattle.words.specs.declared.asking.MeasureWords.{MeasureWords}
use Rattle.words.specs.declared.asking.ConfirmWords.{ConfirmWords}
use Rattle.words.specs.declared.asking.MergeWords.{MergeWords}
use Rattle.words.specs.declared.asking.Asked.{Asked}
use Rattle.words.specs.declared.asking.Asked.TheVariants as asked
use Rattle.words.specs.CommandLine.{program}
use Rattle.words.specs.Names.{IsPartAsked}

-- the number that an option's word spells; the usual one without the option
abbrev pub IsNumberAsked : ℕ → Option Text → ℕ → Type 0
IsNumberAsked usual None n = n ≡ usual
IsNumberAsked usual (Some word) n = word ≡ decimal n

abbrev pub IsDepthAsked : List Row → ℕ → Type 0
IsDepthAsked rows depth = IsNumberAsked 65536 (first_of (codes "depth") rows) depth

-- the argument's word is this name
abbrev pub IsNamedBy : {A : Type 0} → Text → List Row → String A → Type 0
IsNamedBy argument rows name = first_of argument rows ≡ Some (string_bytes name)

abbrev pub IsLocationAsked : List Row → ℕ → Type 0
IsLocationAsked rows location = first_of (codes "L") rows ≡ Some (decimal location)

pub record MeansCheck (c : CheckWords) (rows : List Row) : Type 0 where
  pub shards : IsNumberAsked 4 (first_of (codes "shards") rows) c.shards
  pub capacity : IsNumberAsked 1024 (first_of (codes "capacity") rows) c.capacity
  pub depth : IsDepthAsked rows c.depth
  pub part : IsPartAsked (first_of (codes "part") rows) c.part
  pub trace : IsNamedBy (codes "FILE") rows c.trace

pub record MeansLocation (l : LocationWords) (rows : List Row) : Type 0 where
  pub depth : IsDepthAsked rows l.depth
  pub trace : IsNamedBy (codes "FILE") rows l.trace
  pub location : IsLocationAsked rows l.location

pub record MeansMeasure (m : MeasureWords) (rows : List Row) : Type 0 where
  pub depth : IsDepthAsked rows m.depth
  pub trace : IsNamedBy (codes "FILE") rows m.trace

pub record MeansConfirm (c : ConfirmWords) (rows : List Row) : Type 0 where
  pub depth : IsDepthAsked rows c.depth
  pub trace : IsNamedBy (codes "TRACE") rows c.trace
  pub report : IsNamedBy (codes "REPORT") rows c.report

-- the reports are named by the words, in their order
abbrev pub MeansMerge : MergeWords → List Row → Type 0
MeansMerge m rows = all_of (codes "REPORT") rows ≡ Some (map string_bytes m.reports.items)

-- the words enter this command, with a property of what its arguments get
abbrev pub Enters : Option (Text × List Row) → Text → (List Row → Type 0) → Type 0
Enters entered command P = (rows : List Row) × (entered ≡ Some (command, rows)) × P rows

abbrev pub MeansOf : Option (Text × List Row) → Asked → Type 0
MeansOf entered (asked.Question (Check c)) = Enters entered (codes "check") (MeansCheck c)
MeansOf entered (asked.Question (Pairs p)) = Enters entered (codes "pairs") (MeansLocation p)
MeansOf entered (asked.Question (Explain e)) = Enters entered (codes "explain") (MeansLocation e)
MeansOf entered (asked.Question (Measure m)) = Enters entered (codes "measure") (MeansMeasure m)
MeansOf entered (asked.Confirm c) = Enters entered (codes "confirm") (MeansConfirm c)
MeansOf entered (asked.Merge m) = Enters entered (codes "merge") (MeansMerge m)

-- these words, without the program's name, ask this
abbrev pub Means : List Text → Asked → Type 0
Means words asked = MeansOf (subcommand_of program words) asked
