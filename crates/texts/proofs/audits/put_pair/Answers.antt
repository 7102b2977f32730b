use Rattle.texts.proofs.Common.{◌≡◌, ◌++◌, Err, codes, rules, access_text, front_more, took_both, took_into, puts_after}
use Rattle.texts.proofs.audits.put_pair.Goals as goal

pub returns-in_err-put_all : goal.returns-in_err-put_all
returns-in_err-put_all g c =
    let failed : c.from_residual.result ≡ Err c.in_err-put_all.field-0.0 = search rules in
    rw failed (front_more (access_text c.args.pair.now.1 ++ codes "\n") (front_more (access_text c.args.pair.now.0 ++ codes " ") c.in_err-put_all.ensures))

pub returns-in_err-put_access : goal.returns-in_err-put_access
returns-in_err-put_access g c =
    let failed : c.from_residual-in_err-put_access.result ≡ Err c.in_err-put_access.field-0.0 = search rules in
    rw failed (front_more (access_text c.args.pair.now.1 ++ codes "\n") (took_into c.in_ok-put_all.ensures c.in_err-put_access.ensures))

pub returns : goal.returns
returns g c = puts_after _ _ c.put_access-2.result (took_both c.in_ok-put_all.ensures c.in_ok-put_access.ensures) c.put_access-2.ensures
