use Rattle.texts.proofs.Common.{◌≡◌, Err, rules, codes, length, number_line, pair_line, front_more, took_line, front_line}
use Rattle.texts.proofs.audits.put_pairs.Goals as goal

pub returns-in_err-put_at : goal.returns-in_err-put_at
returns-in_err-put_at g c =
    let failed : c.from_residual.result ≡ Err c.in_err-put_at.field-0.0 = search rules in
    rw failed (front_more _ c.in_err-put_at.ensures)

pub returns-in_err-put_pair : goal.returns-in_err-put_pair
returns-in_err-put_pair g c =
    let failed : c.from_residual-in_err-put_pair.result ≡ Err c.in_err-put_pair.field-0.0 = search rules in
    rw failed (front_line pair_line (number_line (codes "pairs ") (length c.args.pairs.now)) c.args.pairs.now c.loop-pair.pair-index _ c.loop-pair-test.true c.loop-pair.invariant c.in_err-put_pair.ensures)

pub loop-pair-preserved : goal.loop-pair-preserved
loop-pair-preserved g c = took_line pair_line (number_line (codes "pairs ") (length c.args.pairs.now)) c.args.pairs.now c.loop-pair.pair-index _ c.loop-pair-test.true c.loop-pair.invariant c.in_ok-put_pair.ensures
