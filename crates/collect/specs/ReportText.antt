-- Promised: the text of a report: a head line with the number of races, and a line for each race.
use Rattle.std.specs.Prelude.{ℕ, List, ◌∷◌, ◌++◌, length, codes, decimal}
use Rattle.std.specs.List.{flat_map}
use Rattle.dag.specs.declared.records.Kind.{Kind}
use Rattle.dag.specs.declared.records.Kind.TheVariants.{Read, Write}
use Rattle.dag.specs.declared.records.Access.{Access}
use Rattle.dag.specs.Accesses.{RaceAt}
use Rattle.trace.specs.Text.{ended}

abbrev pub space : ℕ
space = 32

abbrev pub word : Kind → List ℕ
word Read = codes "read"
word Write = codes "write"

-- an access, as it stands in the line of a race
abbrev pub access_text : Access → List ℕ
access_text a = word a.kind ++ space ∷ decimal a.place

abbrev pub head : ℕ → List ℕ
head n = ended (codes "races " ++ decimal n)

abbrev pub race_line : RaceAt → List ℕ
race_line r = ended (codes "race " ++ decimal r.location ++ space ∷ access_text r.first ++ space ∷ access_text r.second)

abbrev pub race_lines : List RaceAt → List ℕ
race_lines rs = flat_map race_line rs

-- the one text of a report
abbrev pub rtext : List RaceAt → List ℕ
rtext rs = head (length rs) ++ race_lines rs
