use Rattle.std.proofs.Common.{map, string_bytes}
use Rattle.words.proofs.Meanings.{asked_by}
use Rattle.words.proofs.Ranges.{all_in_range}
use Rattle.words.proofs.reading.read_words.Goals as goal

pub returns-clause-asked : goal.returns-clause-asked
returns-clause-asked c =
    asked_by c.in_ok-program.program (map string_bytes c.args.words.now) c.in-Ok.matches c.asked_of.result c.in_ok-program.ensures
    c.in-Ok.ensures.matches c.asked_of.ensures

pub returns-clause-within : goal.returns-clause-within
returns-clause-within c = all_in_range c.asked_of.result
