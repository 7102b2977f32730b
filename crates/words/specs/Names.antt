-- Promised: how the words of a command line name a part of the locations, and files.
use Rattle.std.specs.Prelude.{◌≡◌, ℕ, ◌<◌, ◌++◌, List, Option, None, Some}
use Rattle.std.specs.Prelude.{String, codes, decimal, string_len, string_bytes}
use Rattle.dag.specs.declared.part.Part.{Part}

-- the spelling of a part, as `2/16`
abbrev pub part_text : Part → List ℕ
part_text part = decimal part.index ++ codes "/" ++ decimal part.count

-- the part that a word names; the whole, part 0 of 1, if there is no word
abbrev pub IsPartAsked : Option (List ℕ) → Part → Type 0
IsPartAsked None part = part.count ≡ 1
IsPartAsked (Some word) part = word ≡ part_text part

-- a name isn't empty
abbrev pub IsName : {A : Type 0} → String A → Type 0
IsName name = 0 < string_len name

-- two names; at most one of them is standard input
abbrev pub IsOneStandard : {A : Type 0} → String A → String A → Type 0
IsOneStandard a b = string_bytes a ≡ codes "-" → string_bytes b ≡ codes "-" → ⊥
