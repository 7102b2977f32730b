use Rattle.std.proofs.Common.{refl}
use Rattle.trace.proofs.Endings.{ends_refused, refused_for_want}
use Rattle.detect_plain.proofs.plain.detect_plain.Goals as goal

pub returns-in_err-detector : goal.returns-in_err-detector
returns-in_err-detector g c = ends_refused _ _ _ _ _ _ _ c.from_residual.ensures.1 (refused_for_want _ _ _ _ _ refl)

pub returns-in_err-read_to_end : goal.returns-in_err-read_to_end
returns-in_err-read_to_end g c = ends_refused _ _ _ _ _ _ _ c.from_residual-in_err-read_to_end.ensures.1 c.in_err-read_to_end.ensures

pub returns-in_err-finish : goal.returns-in_err-finish
returns-in_err-finish g c = ends_refused _ _ _ _ _ _ _ c.from_residual-in_err-finish.ensures.1 (refused_for_want _ _ _ _ _ refl)

pub returns : goal.returns
returns g c =
    let ends = c.in_ok-read_to_end.ensures in
    record { trace = ends.trace; read = ends.read; says = c.in_ok-finish.ensures.report ends.trace _ _ ends.says ends.read.whole.well_nested }
