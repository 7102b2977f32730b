-- Private: the records that were seen, and the traces that begin with them.
use Rattle.std.specs.Prelude.{◌≡◌, ℕ, List, ◌++◌}
use Rattle.dag.specs.declared.records.Record.{Record}
use Rattle.dag.specs.Traces.{IsWellNested}

-- of every well nested trace that begins with the records u
abbrev pub WhateverComes : List Record → (List Record → Type 0) → Type 0
WhateverComes u P = (w rest : List Record) → w ≡ u ++ rest → (records depths : ℕ) → IsWellNested w records depths → P w
