use Rattle.bags.proofs.Common.{◌≡◌, ◌^◌, suc, sym, subst, refl, arith, two-pow-succ, IsStart}
use Rattle.bags.proofs.Halving.{longest, long_of, from_middle, from_second}
use Rattle.bags.proofs.search.Start.of_more.Goals as goal

pub overflow_sub-older : goal.overflow_sub-older
overflow_sub-older c =
    let l = longest c.self.inside.longest c.requires.0 c.requires.2 (subst (IsStart c.requires.0) (sym c.self.view_is) c.requires.3).long in
    omega (arith, l.within, c.requires.1)

pub returns-then-older-self : goal.returns-then-older-self
returns-then-older-self c =
    let l = longest c.self.inside.longest c.requires.0 c.requires.2 (subst (IsStart c.requires.0) (sym c.self.view_is) c.requires.3).long in
    let is : c.args.len ≡ 2 ^ suc l.halvings = omega (arith, l.is, l.within, c.requires.1, two-pow-succ l.halvings, c.if-older-self.true) in
    from_second c.args.len c.args.len (omega (arith, c.requires.1, c.requires.2)) (long_of c.args.len c.args.len (suc l.halvings) is (omega arith) (omega (arith, c.requires.1))) refl

pub returns-else-older-self : goal.returns-else-older-self
returns-else-older-self c =
    let l = longest c.self.inside.longest c.requires.0 c.requires.2 (subst (IsStart c.requires.0) (sym c.self.view_is) c.requires.3).long in
    from_middle c.args.len c.self.inside.longest (omega (arith, c.requires.1))
    (long_of c.args.len c.self.inside.longest l.halvings l.is (omega (arith, l.within, c.requires.1)) (omega (arith, l.more_than_half, c.requires.1, c.if-older-self.false)))
    (λ same. omega (arith, l.within, c.requires.1))
