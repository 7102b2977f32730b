-- Promised: the first faulty line of bytes that should be the text of a report. Lines are counted from 1.
use Rattle.std.specs.Prelude.{◌≡◌, ◌≢◌, ℕ, ◌+◌, ◌<◌, ◌^◌, List, [], ◌∷◌, ◌++◌, length}
use Rattle.dag.specs.Accesses.{RaceAt}
use Rattle.collect.specs.declared.readers.ReportFault.{ReportFault}
use Rattle.collect.specs.declared.readers.ReportFault.TheVariants.{Bad, NoMemory}
use Rattle.collect.specs.Reports.{IsReportList}
use Rattle.collect.specs.ReportText.{head, race_line, race_lines, rtext}

-- The lines before the faulty one are a head and the lines of races as a report lists them. What follows
-- isn't a line that may stand there: it is of another form, has no line end, is missing, breaks the order,
-- or follows the last race.
pub data IsFirstBadLine (bytes : List ℕ) : ℕ → Type 0 where
  no_head : ((n : ℕ) (more : List ℕ) → n < 2 ^ 64 → bytes ≢ head n ++ more) → IsFirstBadLine bytes 1
  no_race : (n : ℕ) (rs : List RaceAt) (rest : List ℕ) → n < 2 ^ 64 → length rs < n → IsReportList rs
      → bytes ≡ head n ++ (race_lines rs ++ rest)
      → ((r : RaceAt) (more : List ℕ) → IsReportList (rs ++ r ∷ []) → rest ≢ race_line r ++ more)
      → IsFirstBadLine bytes (length rs + 2)
  no_end : (rs : List RaceAt) (rest : List ℕ) → length rs < 2 ^ 64 → IsReportList rs → bytes ≡ rtext rs ++ rest
      → rest ≢ []
      → IsFirstBadLine bytes (length rs + 2)

-- a fault is the first faulty line, or a refused growth
abbrev pub IsReportFault : List ℕ → ReportFault → Type 0
IsReportFault bytes (Bad line) = IsFirstBadLine bytes line
IsReportFault bytes NoMemory = Unit {0}

-- one text belongs to one list
abbrev pub OneList : Type 0
OneList = (rs ss : List RaceAt) → IsReportList rs → IsReportList ss → length rs < 2 ^ 64 → length ss < 2 ^ 64
    → rtext rs ≡ rtext ss → rs ≡ ss

-- bytes have one first faulty line at most
abbrev pub OneFault : Type 0
OneFault = (bytes : List ℕ) (m n : ℕ) → IsFirstBadLine bytes m → IsFirstBadLine bytes n → m ≡ n

-- the text of a report has no faulty line
abbrev pub NoFault : Type 0
NoFault = (rs : List RaceAt) (line : ℕ) → IsReportList rs → length rs < 2 ^ 64 → IsFirstBadLine (rtext rs) line → ⊥
