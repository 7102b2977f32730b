use Rattle.detect_plain.proofs.Common.{placed, records_of}
use Rattle.detect_plain.proofs.PartReports.{fit_part, part_report}
use Rattle.detect_plain.proofs.plain.detect_plain_part.Goals as goal

pub at_locations_of-requires : goal.at_locations_of-requires
at_locations_of-requires g c =
    let ends = c.in_ok-read_to_end.ensures in
    fit_part c.args.part ends.read.whole.version ends.trace _ ends.read.whole.fits (c.in_ok-numbered.ensures.races (records_of c.args.part (placed ends.trace)) ends.says.1.detected)

pub returns : goal.returns
returns g c =
    let ends = c.in_ok-read_to_end.ensures in
    let found = c.in_ok-numbered.ensures.races (records_of c.args.part (placed ends.trace)) ends.says.1.detected in
    record { trace = ends.trace; read = ends.read; says = part_report c.args.part ends.trace _ _ ends.read.whole.well_nested found c.at_locations_of.ensures }
