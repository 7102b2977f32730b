use Rattle.std.proofs.lemmas.Result.{IfOk-weaker}
use Rattle.words.specs.CommandLine as line
use Rattle.words.proofs.Building.{enters}
use Rattle.words.proofs.commands.program.Goals as goal

pub returns : goal.returns
returns c =
    let checks = enters _ line.check c.in_ok-bare_program.field-0 c.in_ok-check.field-0 c.in_ok-subcommand.field-0
    c.in_ok-bare_program.ensures c.in_ok-check.ensures c.in_ok-subcommand.ensures in
    let explains = enters _ line.explain c.in_ok-subcommand.field-0 c.in_ok-explain.field-0 c.in_ok-subcommand-2.field-0
    checks c.in_ok-explain.ensures c.in_ok-subcommand-2.ensures in
    let pairs = enters _ line.pairs c.in_ok-subcommand-2.field-0 c.in_ok-pairs.field-0 c.in_ok-subcommand-3.field-0
    explains c.in_ok-pairs.ensures c.in_ok-subcommand-3.ensures in
    let measures = enters _ line.measure c.in_ok-subcommand-3.field-0 c.in_ok-measure.field-0 c.in_ok-subcommand-4.field-0
    pairs c.in_ok-measure.ensures c.in_ok-subcommand-4.ensures in
    let confirms = enters _ line.confirm c.in_ok-subcommand-4.field-0 c.in_ok-confirm.field-0 c.in_ok-subcommand-5.field-0
    measures c.in_ok-confirm.ensures c.in_ok-subcommand-5.ensures in
    IfOk-weaker c.subcommand-6.result _ _
    (λ new added. enters _ line.merge c.in_ok-subcommand-5.field-0 c.in_ok-merge.field-0 new confirms c.in_ok-merge.ensures added) c.subcommand-6.ensures
