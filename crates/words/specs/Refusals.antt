-- Promised: what is said of words that ask for nothing that can be answered.
use Rattle.std.specs.Prelude.{ℕ, List, codes, [], Option, None, Some, string_bytes}
use Rattle.words.specs.declared.reading.WordsFault.{WordsFault}
use Rattle.words.specs.declared.reading.WordsFault.TheVariants as words

-- the text that the words ask for
abbrev pub help_of : WordsFault → Option (List ℕ)
help_of words.Bad = None
help_of (words.Help t) = Some (string_bytes t)
help_of words.NoMemory = None

-- the line for words that ask for nothing that can be answered
abbrev pub refusal : WordsFault → List ℕ
refusal words.Bad = codes "spbags: bad command line\n"
refusal (words.Help t) = []
refusal words.NoMemory = codes "spbags: out of memory\n"
