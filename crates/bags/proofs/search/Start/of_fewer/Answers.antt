use Rattle.bags.proofs.Common.{◌≡◌, ℕ, ◌*◌, ◌^◌, sym, subst, arith, digits, IsStart}
use Rattle.bags.proofs.Halving.{longest, long_of}
use Rattle.bags.proofs.search.Start.of_fewer.Goals as goal
use Rattle.bags.proofs.search.Start.of_fewer.Goals.{then-len-self, else-len-self}

pub middle_of-requires-clause-long : goal.middle_of-requires-clause-long
middle_of-requires-clause-long c =
    elim c.if-len-self.branch [
      | then-len-self w ↦ subst (λ (n : ℕ). 2 * n ≡ 2 ^ digits c.args.len) (sym w.longest-is) w.longest_step-longest.ensures
      | else-len-self w ↦
          let l = longest c.self.inside.longest c.requires.fewer.0 (omega (arith, c.requires.some, c.requires.fewer.1)) (subst (IsStart c.requires.fewer.0) (sym c.self.view_is) c.requires.fewer.2).long in
          subst (λ (n : ℕ). 2 * n ≡ 2 ^ digits c.args.len) (sym w.longest-is)
          (long_of c.args.len c.self.inside.longest l.halvings l.is (omega (arith, w.if-len-self.false)) (omega (arith, l.more_than_half, c.requires.fewer.1)))
    ]
