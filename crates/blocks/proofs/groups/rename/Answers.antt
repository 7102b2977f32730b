use Rattle.std.proofs.Common.{rules}
use Rattle.blocks.proofs.Common.{◌≡◌, ◌∙◌, suc, ◌+◌, ◌<◌, ◌∷◌, ◌++◌, take, drop, set, get_or, length, length-set, add-one, Some, cond, ap, sym, arith, get_or_read, get_or-take, drop-cons, has, names_at, no_group, IsAlike, Group}
use Rattle.blocks.proofs.Puts.{with_units, without_units, grown_behind, put_before, parted, gone, none_later, drop_set, behind_all}
use Rattle.blocks.proofs.groups.rename.Goals as goal

pub put-requires-clause-apart : goal.put-requires-clause-apart
put-requires-clause-apart c i h e = none_later c.args.groups.now.items (c.args.index + 1) c.args.from i (omega (arith, c.requires.within.0)) (c.requires.last i h e)

pub returns-in_err-put-clause-err : goal.returns-in_err-put-clause-err
returns-in_err-put-clause-err c = search rules

pub returns-then-inside-units-clause-names : goal.returns-then-inside-units-clause-names
returns-then-inside-units-clause-names c i h =
    let gs = c.args.groups.now.items in
    let hs = c.put.new.groups.items in
    let n = c.args.index in
    let g = get_or gs n no_group in
    let within : n < length gs = omega (arith, c.requires.within.0, c.requires.within.1) in
    let within_new : n < length hs = omega (arith, c.requires.within.0, c.put.ensures.within) in
    let is : c.index.result.now ≡ g = get_or_read gs n c.index.result.now within c.index.ensures no_group in
    let same : c.index_mut.result.now ≡ g = get_or_read hs n c.index_mut.result.now within_new c.index_mut.ensures.value no_group
    ∙ sym (get_or-take c.args.from hs n no_group c.requires.within.0) ∙ ap (λ l. get_or l n no_group) c.put.ensures.first ∙ get_or-take c.args.from gs n no_group c.requires.within.0 in
    rw (is, same) (ap (λ l. names_at l i) (drop_set hs n (without_units c.args.inside g) within_new)
    ∙ parted g (drop (suc n) gs) (drop (suc n) hs) c.args.inside c.args.names i c.ranges.inside.fits h
    (put_before gs hs (suc n) c.args.from (has c.args.inside i) c.args.names i (omega (arith, c.requires.within.0)) c.put.ensures.first (c.in_ok-put.ensures.put i h))
    ∙ ap (λ l. cond (has c.args.inside i) (Some c.args.names) (names_at l i)) (sym (drop-cons gs n no_group within)))

pub returns-in-Some-clause-names : goal.returns-in-Some-clause-names
returns-in-Some-clause-names c i h =
    let gs = c.args.groups.now.items in
    let n = c.args.index in
    let g = get_or gs n no_group in
    let within : n < length gs = omega (arith, c.requires.within.0, c.requires.within.1) in
    let there : IsAlike gs c.args.from c.args.names c.in-Some.at = rw (← c.deref.ensures.value) c.in-Some.ensures in
    let is : c.index.result.now ≡ g = get_or_read gs n c.index.result.now within c.index.ensures no_group in
    let units : c.args.inside ≡ g.units = c.if-inside-units.false ∙ ap (λ (x : Group). x.units) is in
    let later : c.index_mut-in-Some.result.now ≡ get_or gs c.in-Some.at no_group = get_or_read gs c.in-Some.at c.index_mut-in-Some.result.now there.within c.index_mut-in-Some.ensures.value no_group in
    let after = set gs c.in-Some.at (with_units c.args.inside (get_or gs c.in-Some.at no_group)) in
    let removed : c.remove.new.self.items ≡ take n after ++ drop (n + 1) after = rw later at c.remove.ensures.by_index.2 in
    ap (λ l. names_at (drop n l) i) removed ∙ ap (λ l. names_at l i) (behind_all after (drop (n + 1) after) n (omega (arith, within, length-set gs c.in-Some.at (with_units c.args.inside (get_or gs c.in-Some.at no_group)))))
    ∙ grown_behind gs (n + 1) c.in-Some.at c.args.inside i there.within (omega (arith, c.requires.within.0, there.behind)) (c.requires.last i h)
    ∙ ap (λ m. cond (has c.args.inside i) (Some m) (names_at (drop (n + 1) gs) i)) there.names
    ∙ gone g (drop (n + 1) gs) c.args.inside c.args.names i units
    ∙ ap (λ l. cond (has c.args.inside i) (Some c.args.names) (names_at l i)) (ap (λ k. g ∷ drop k gs) (add-one n) ∙ sym (drop-cons gs n no_group within))
