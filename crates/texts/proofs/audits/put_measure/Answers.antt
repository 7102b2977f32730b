use Rattle.texts.proofs.Common.{◌≡◌, Err, sym, rules, front_more, took_both, took_into, puts_after}
use Rattle.texts.proofs.audits.put_measure.Goals as goal

pub returns-in_err-put_at : goal.returns-in_err-put_at
returns-in_err-put_at g c =
    let failed : c.from_residual.result ≡ Err c.in_err-put_at.field-0.0 = search rules in
    rw failed (front_more _ (front_more _ (front_more _ c.in_err-put_at.ensures)))

pub returns-in_err-put_at-2 : goal.returns-in_err-put_at-2
returns-in_err-put_at-2 g c =
    let failed : c.from_residual-in_err-put_at-2.result ≡ Err c.in_err-put_at-2.field-0.0 = search rules in
    rw failed (front_more _ (front_more _ (took_into c.in_ok-put_at.ensures c.in_err-put_at-2.ensures)))

pub returns-in_err-put_at-3 : goal.returns-in_err-put_at-3
returns-in_err-put_at-3 g c =
    let failed : c.from_residual-in_err-put_at-3.result ≡ Err c.in_err-put_at-3.field-0.0 = search rules in
    rw failed (front_more _ (took_into (took_both c.in_ok-put_at.ensures c.in_ok-put_at-2.ensures) c.in_err-put_at-3.ensures))

pub returns : goal.returns
returns g c = rw (sym c.from.ensures) (puts_after _ _ c.put_at-4.result (took_both (took_both c.in_ok-put_at.ensures c.in_ok-put_at-2.ensures) c.in_ok-put_at-3.ensures) c.put_at-4.ensures)
