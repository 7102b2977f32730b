-- Promised: the texts of the answers; that of `check` is the text of its report.
use Rattle.std.specs.Prelude.{ℕ, List, [], ◌++◌, codes, decimal, length, Option, None, Some}
use Rattle.std.specs.List.{flat_map}
use Rattle.dag.specs.declared.records.Access.{Access}
use Rattle.collect.specs.ReportText.{access_text, race_line}
use Rattle.audit.specs.declared.answers.Measure.{Measure}
use Rattle.audit.specs.declared.answers.Confirm.{Confirm}
use Rattle.audit.specs.declared.answers.Confirm.TheVariants.{Yes, No}
use Rattle.audit.specs.declared.answers.Opening.{Opening}
use Rattle.audit.specs.declared.answers.Opening.TheVariants.{Spawn, Call}
use Rattle.audit.specs.declared.answers.Opener.{Opener}
use Rattle.audit.specs.declared.answers.Explained.{Explained}

-- a line of a word and a number
abbrev pub number_line : List ℕ → ℕ → List ℕ
number_line word n = word ++ decimal n ++ codes "\n"

-- the line of a race of the location that was asked for: its first access and its second
abbrev pub pair_line : Access × Access → List ℕ
pair_line p = (codes "pair " ++ access_text p.0 ++ codes " ") ++ (access_text p.1 ++ codes "\n")

abbrev pub pairs_text : List (Access × Access) → List ℕ
pairs_text ps = number_line (codes "pairs ") (length ps) ++ flat_map pair_line ps

abbrev pub measure_text : Measure → List ℕ
measure_text m = number_line (codes "work ") m.work ++ number_line (codes "span ") m.span
    ++ number_line (codes "spawns ") m.spawns ++ number_line (codes "depth ") m.depth

abbrev pub confirm_text : Confirm → List ℕ
confirm_text Yes = codes "yes\n"
confirm_text (No entry) = number_line (codes "no ") entry

abbrev pub opening_word : Opening → List ℕ
opening_word Spawn = codes "spawn "
opening_word Call = codes "call "

-- what opened a procedure, as it stands before an access that the procedure holds
abbrev pub opener_text : Opener → List ℕ
opener_text o = opening_word o.what ++ decimal o.place ++ codes " "

-- the line of one access of a race: the openers of the procedures that hold it, and the access
abbrev pub side_line : List ℕ → List Opener → Access → List ℕ
side_line word openers a = (word ++ flat_map opener_text openers) ++ (access_text a ++ codes "\n")

-- the line of the meeting procedure's next wait, if there is one
abbrev pub joined_text : Option ℕ → List ℕ
joined_text None = []
joined_text (Some k) = number_line (codes "joined ") k

-- why two accesses race: the line of the race as its report has it, where they meet, and the way to each
abbrev pub reason_text : Explained → List ℕ
reason_text e =
    race_line e.race ++ number_line (codes "meet ") e.meeting ++ side_line (codes "first ") e.first.items e.race.first
    ++ side_line (codes "second ") e.second.items e.race.second ++ joined_text e.joined

abbrev pub explained_text : Option Explained → List ℕ
explained_text None = codes "no race\n"
explained_text (Some e) = reason_text e
