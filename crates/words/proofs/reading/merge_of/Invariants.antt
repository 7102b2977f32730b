use Rattle.std.proofs.Common.{◌≡◌, false, All, AllPairs, map, string_bytes, take, codes}
use Rattle.words.specs.Names.{IsName, IsOneStandard}
use Rattle.words.proofs.reading.merge_of.Given as goal

-- each is a name, standard input is one of them at most, and none where none was seen; they are the words so far
abbrev pub invariant-loop-name : goal.invariant-loop-name
invariant-loop-name l = All IsName l.reports.items × AllPairs IsOneStandard l.reports.items
    × (l.has_standard ≡ false → All (λ name. string_bytes name ≡ codes "-" → ⊥) l.reports.items)
    × (map string_bytes l.reports.items ≡ map (λ word. word.now) (take l.name-index l.names))
