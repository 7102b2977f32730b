-- Private: where a line ends to which the bytes of a piece are added.
use Rattle.std.specs.Prelude.{◌≡◌, ℕ, ◌+◌, ◌-◌, ◌<◌, ◌≤◌, List, length, take, slice_index}
use Rattle.trace.specs.declared.cut.Cut.{Cut}
use Rattle.trace.specs.declared.cut.Cut.TheVariants.{LineEnd, Long, Open}
use Rattle.trace.specs.Text.{newline, IsUnended}
use Rattle.dag.specs.Bounds.{longest_line}

abbrev pub IsCut : ℕ → List ℕ → Cut → Type 0
IsCut held piece (LineEnd k) = (k < length piece) × (slice_index piece k ≡ newline) × IsUnended (take k piece)
    × (held + k ≤ longest_line)
IsCut held piece Long = (longest_line < held + length piece) × IsUnended (take (longest_line + 1 - held) piece)
IsCut held piece Open = IsUnended piece × (held + length piece ≤ longest_line)
