use Rattle.texts.proofs.Common.{◌≡◌, List, ◌++◌, Err, take, take_all, subst, rules, flat_map, ◌⇝◌, Took, Opener, opener_text, front_more, took_line, front_line, puts_after}
use Rattle.texts.proofs.explanations.put_side.Goals as goal

pub returns-in_err-put_all : goal.returns-in_err-put_all
returns-in_err-put_all g c =
    let failed : c.from_residual.result ≡ Err c.in_err-put_all.field-0.0 = search rules in
    rw failed (front_more _ (front_more _ c.in_err-put_all.ensures))

pub returns-in_err-put_opener : goal.returns-in_err-put_opener
returns-in_err-put_opener g c =
    let failed : c.from_residual-in_err-put_opener.result ≡ Err c.in_err-put_opener.field-0.0 = search rules in
    rw failed (front_more _ (front_line opener_text c.args.word.now c.args.openers.now c.loop-opener.opener-index _ c.loop-opener-test.true c.loop-opener.invariant c.in_err-put_opener.ensures))

pub loop-opener-preserved : goal.loop-opener-preserved
loop-opener-preserved g c = took_line opener_text c.args.word.now c.args.openers.now c.loop-opener.opener-index _ c.loop-opener-test.true c.loop-opener.invariant c.in_ok-put_opener.ensures

pub returns : goal.returns
returns g c =
    let whole : take c.loop-opener.opener-index c.args.openers.now ≡ c.args.openers.now = take_all c.loop-opener.opener-index c.args.openers.now c.loop-opener-test.false in
    let Got : List Opener → Type 0 = λ os. Took (c.args.word.now ++ flat_map opener_text os) (g.W.Sink.state c.args.sink.now ⇝ g.W.Sink.state c.loop-opener.sink) in
    puts_after _ _ c.put_access.result (subst Got whole c.loop-opener.invariant) c.put_access.ensures
