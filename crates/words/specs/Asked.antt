-- Promised: what the words of a command line may ask for.
use Rattle.std.specs.Prelude.{◌≡◌, ℕ, ◌<◌, List, All, AllPairs, codes, string_len, string_bytes, vec_len}
use Rattle.dag.specs.Bounds.{IsShardCount, IsCapacity, IsDepth}
use Rattle.words.specs.declared.asking.Question.{Question}
use Rattle.words.specs.declared.asking.Question.TheVariants.{Check, Pairs, Explain, Measure}
use Rattle.words.specs.declared.asking.ConfirmWords.{ConfirmWords}
use Rattle.words.specs.declared.asking.MergeWords.{MergeWords}
use Rattle.words.specs.declared.asking.Asked.{Asked}
use Rattle.words.specs.declared.asking.Asked.TheVariants as asked
use Rattle.words.specs.Names.{IsName, IsOneStandard}

-- each number lies in its range, as those of a part do by themselves, and the trace has a name
abbrev pub IsQuestionInRange : Question → Type 0
IsQuestionInRange (Check c) = IsShardCount c.shards × IsCapacity c.capacity × IsDepth c.depth × (0 < string_len c.trace)
IsQuestionInRange (Pairs p) = IsDepth p.depth × (0 < string_len p.trace)
IsQuestionInRange (Explain e) = IsDepth e.depth × (0 < string_len e.trace)
IsQuestionInRange (Measure m) = IsDepth m.depth × (0 < string_len m.trace)

-- the same of a report and its trace; at most one of them is standard input
pub record IsConfirmInRange (c : ConfirmWords) : Type 0 where
  pub depth : IsDepth c.depth
  pub trace_named : 0 < string_len c.trace
  pub report_named : 0 < string_len c.report
  pub one_standard : string_bytes c.trace ≡ codes "-" → string_bytes c.report ≡ codes "-" → ⊥

-- there is a report, each has a name, and standard input is one of them at most
pub record IsMergeInRange (m : MergeWords) : Type 0 where
  pub some : 0 < vec_len m.reports
  pub named : All IsName m.reports.items
  pub one_standard : AllPairs IsOneStandard m.reports.items

abbrev pub IsInRange : Asked → Type 0
IsInRange (asked.Question q) = IsQuestionInRange q
IsInRange (asked.Confirm c) = IsConfirmInRange c
IsInRange (asked.Merge m) = IsMergeInRange m

-- how deep procedures may nest
abbrev pub depth_of : Question → ℕ
depth_of (Check c) = c.depth
depth_of (Pairs p) = p.depth
depth_of (Explain e) = e.depth
depth_of (Measure m) = m.depth

-- the name of the trace's file
abbrev pub trace_name : Question → List ℕ
trace_name (Check c) = string_bytes c.trace
trace_name (Pairs p) = string_bytes p.trace
trace_name (Explain e) = string_bytes e.trace
trace_name (Measure m) = string_bytes m.trace
