use Rattle.audit.proofs.Common.{◌≤◌, arith, ends_refused}
use Rattle.audit.proofs.Measured.{measure_of, depth_fits}
use Rattle.audit.proofs.measures.measure.Goals as goal

pub returns-in_err-read_to_end : goal.returns-in_err-read_to_end
returns-in_err-read_to_end g c = ends_refused _ _ _ _ _ _ _ c.from_residual.ensures.1 c.in_err-read_to_end.ensures

pub overflow_cast-result : goal.overflow_cast-result
overflow_cast-result g c =
    let i = c.in_ok-read_to_end.ensures in
    let l : c.read_to_end.new.watch.depth ≤ c.args.limits.depth = depth_fits c.read_to_end.new.watch i.trace i.read.whole.well_nested i.says in
    omega (arith, c.well_formed)

pub returns : goal.returns
returns g c =
    let i = c.in_ok-read_to_end.ensures in
    record { trace = i.trace; read = i.read; says = measure_of c.read_to_end.new.watch i.trace i.read.whole.well_nested i.says }
