use Rattle.bags.proofs.Common.{◌≡◌, ◌*◌, ◌%◌, ◌^◌, suc, ap, sym, ◌∙◌, ℕ, arith, two-pow-succ, digits}
use Rattle.bags.proofs.Halving.{digits_are}
use Rattle.bags.proofs.search.longest_step.Goals as goal

pub returns : goal.returns
returns c =
    let j : ℕ = c.ilog2.result in
    let many : digits c.args.len ≡ suc j = digits_are c.args.len j c.ilog2.ensures.power_le (omega (arith, two-pow-succ j, c.ilog2.ensures.next_power_gt)) in
    let fits : 1 * 2 ^ j % 18446744073709551616 ≡ 2 ^ j = omega (arith, c.ilog2.ensures.power_le, c.ranges.len) in
    let twice : 2 * 2 ^ j ≡ 2 ^ suc j = omega (arith, two-pow-succ j) in
    ap (λ (n : ℕ). 2 * n) fits ∙ twice ∙ ap (λ (n : ℕ). 2 ^ n) (sym many)
