use Rattle.blocks.proofs.Common.{◌≡◌, ◌∙◌, ℕ, ◌<◌, ◌-◌, ◌&&◌, not, get_or, length, ap, sym, subst, arith, get_or_read, has, no_group, Group}
use Rattle.blocks.proofs.Forgets.{HasForgotten, same_group, forget_left, forget_gone}
use Rattle.blocks.proofs.groups.forget.Goals as goal

pub loop-index-preserved-then-left-eq0 : goal.loop-index-preserved-then-left-eq0
loop-index-preserved-then-left-eq0 c =
    let old = c.args.groups.now.items in
    let n = c.loop-index.index in
    let gs = c.loop-index.groups.items in
    let l = c.loop-index.invariant in
    let is : c.index.result.now ≡ get_or old (n - 1) no_group = get_or_read gs (n - 1) c.index.result.now (omega (arith, l.within, c.loop-index-test.true)) c.index.ensures no_group ∙ same_group c.args.units old n gs c.loop-index-test.true l in
    let left : (i : ℕ) → i < 64 → has c.without-left.result i ≡ (has (get_or old (n - 1) no_group).units i && not (has c.args.units i)) = λ i k. c.without-left.ensures i k ∙ ap (λ (g : Group). has g.units i && not (has c.args.units i)) is in
    subst (HasForgotten c.args.units old (n - 1)) (sym c.remove.ensures.by_index.2) (forget_gone c.args.units c.without-left.result old n gs c.loop-index-test.true l left c.if-left-eq0.true)

pub loop-index-preserved : goal.loop-index-preserved
loop-index-preserved c =
    let old = c.args.groups.now.items in
    let n = c.loop-index.index in
    let gs = c.loop-index.groups.items in
    let l = c.loop-index.invariant in
    let within : n - 1 < length gs = omega (arith, l.within, c.loop-index-test.true) in
    let is : c.index.result.now ≡ get_or old (n - 1) no_group = get_or_read gs (n - 1) c.index.result.now within c.index.ensures no_group ∙ same_group c.args.units old n gs c.loop-index-test.true l in
    let named : c.index_mut.result.now ≡ get_or old (n - 1) no_group = get_or_read gs (n - 1) c.index_mut.result.now within c.index_mut.ensures.value no_group ∙ same_group c.args.units old n gs c.loop-index-test.true l in
    let left : (i : ℕ) → i < 64 → has c.without-left.result i ≡ (has (get_or old (n - 1) no_group).units i && not (has c.args.units i)) = λ i k. c.without-left.ensures i k ∙ ap (λ (g : Group). has g.units i && not (has c.args.units i)) is in
    rw named (forget_left c.args.units c.without-left.result old n gs c.loop-index-test.true l left)
