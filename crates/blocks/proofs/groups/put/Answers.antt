use Rattle.blocks.proofs.Common.{◌≡◌, drop, set, get_or, Some, cond, subst, get_or_read, has, names_at, no_group, IsAlike, Names}
use Rattle.blocks.proofs.Puts.{with_units, grown_behind, added_behind}
use Rattle.blocks.proofs.groups.put.Goals as goal

pub returns-in-Some-clause-put : goal.returns-in-Some-clause-put
returns-in-Some-clause-put c i h =
    let gs = c.args.groups.now.items in
    let there : IsAlike gs c.args.count c.args.group.names c.in-Some.at = rw (← c.deref.ensures.value) c.in-Some.ensures in
    let is : c.index_mut.result.now ≡ get_or gs c.in-Some.at no_group = get_or_read gs c.in-Some.at c.index_mut.result.now there.within c.index_mut.ensures.value no_group in
    rw is (subst (λ (n : Names). names_at (drop c.args.count (set gs c.in-Some.at (with_units c.args.group.units (get_or gs c.in-Some.at no_group)))) i ≡ cond (has c.args.group.units i) (Some n) (names_at (drop c.args.count gs) i)) there.names
    (grown_behind gs c.args.count c.in-Some.at c.args.group.units i there.within there.behind (c.requires.apart i h)))

pub returns-in_ok-push-in-None-clause-put : goal.returns-in_ok-push-in-None-clause-put
returns-in_ok-push-in-None-clause-put c i h = rw c.in_ok-push-in-None.ensures.items (added_behind c.args.groups.now.items c.args.count c.args.group i c.requires.within)
