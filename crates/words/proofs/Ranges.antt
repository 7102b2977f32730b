-- What is asked lies in its ranges.
use Rattle.std.proofs.Common.{Result, Ok, Err, IfOk}
use Rattle.words.specs.Asked.{IsQuestionInRange, IsInRange}
use Rattle.words.specs.declared.asking.Question.{Question}
use Rattle.words.specs.declared.asking.Question.TheVariants.{Check, Pairs, Explain, Measure}
use Rattle.words.specs.declared.asking.Asked.{Asked}
use Rattle.words.specs.declared.asking.Asked.TheVariants as asked
use Rattle.words.specs.declared.reading.WordsFault.{WordsFault}

question_in_range : (q : Question) → IsQuestionInRange q
question_in_range (Check c) = (c.shards_within, c.capacity_within, c.depth_within, c.trace_named)
question_in_range (Pairs p) = (p.depth_within, p.trace_named)
question_in_range (Explain e) = (e.depth_within, e.trace_named)
question_in_range (Measure m) = (m.depth_within, m.trace_named)

in_range : (a : Asked) → IsInRange a
in_range (asked.Question q) = question_in_range q
in_range (asked.Confirm c) = record { depth = c.depth_within; trace_named = c.trace_named; report_named = c.report_named; one_standard = c.one_standard }
in_range (asked.Merge m) = record { some = m.some; named = m.named; one_standard = m.one_standard }

pub all_in_range : (r : Result Asked WordsFault) → IfOk r IsInRange
all_in_range (Ok a) = in_range a
all_in_range (Err e) = tt
