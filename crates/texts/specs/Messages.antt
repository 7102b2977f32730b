-- Promised: what the program writes on standard error.
use Rattle.std.specs.Prelude.{ℕ, List, ◌++◌, codes, decimal}
use Rattle.trace.specs.declared.faults.TextKind.{TextKind}
use Rattle.trace.specs.declared.faults.TextKind.TheVariants as text
use Rattle.trace.specs.declared.faults.NestKind.{NestKind}
use Rattle.trace.specs.declared.faults.NestKind.TheVariants as nest
use Rattle.trace.specs.declared.faults.Fault.{Fault}
use Rattle.trace.specs.declared.faults.Fault.TheVariants.{Text, Nest, Read, NoMemory, NoThread}
use Rattle.collect.specs.declared.bounded.ReportRefusal.{ReportRefusal}
use Rattle.collect.specs.declared.bounded.ReportRefusal.TheVariants as reports

-- what is wrong with a line
abbrev pub text_ending : TextKind → List ℕ
text_ending text.Header = codes ": header\n"
text_ending text.Line = codes ": bad line\n"
text_ending text.TooMany = codes ": too many records\n"
text_ending text.Truncated = codes ": truncated\n"

-- what is wrong with a place
abbrev pub nest_ending : NestKind → List ℕ
nest_ending nest.AfterEnd = codes ": after end\n"
nest_ending nest.TooDeep = codes ": too deep\n"
nest_ending nest.Unfinished = codes ": unfinished\n"

-- the line for a fault
abbrev pub message : Fault → List ℕ
message (Text f) = codes "spbags: line " ++ decimal f.line ++ text_ending f.kind
message (Nest f) = codes "spbags: place " ++ decimal f.place ++ nest_ending f.kind
message Read = codes "spbags: cannot read\n"
message NoMemory = codes "spbags: out of memory\n"
message NoThread = codes "spbags: no thread\n"

-- the line for a report that isn't read
abbrev pub report_message : ReportRefusal → List ℕ
report_message reports.Read = codes "spbags: cannot read\n"
report_message reports.TooLarge = codes "spbags: report too large\n"
report_message (reports.Bad line) = codes "spbags: report line " ++ decimal line ++ codes ": bad\n"
report_message reports.NoMemory = codes "spbags: out of memory\n"

-- the line for one refused report of many; only the line for a faulty line says which report it is
abbrev pub merge_message : ℕ → ReportRefusal → List ℕ
merge_message number (reports.Bad line) = codes "spbags: report " ++ decimal number ++ codes " line " ++ decimal line
    ++ codes ": bad\n"
merge_message number reports.Read = report_message reports.Read
merge_message number reports.TooLarge = report_message reports.TooLarge
merge_message number reports.NoMemory = report_message reports.NoMemory

-- the line if the answer can't be written
abbrev pub cannot_write : List ℕ
cannot_write = codes "spbags: cannot write\n"
