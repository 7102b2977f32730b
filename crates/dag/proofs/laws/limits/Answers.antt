use Rattle.std.proofs.Common.{arith}
use Rattle.dag.proofs.laws.limits.Goals as goal

pub returns : goal.returns
returns c = record {
  bound = λ w records depths i h p. (h.within, h.not_too_deep i p);
  greater = λ w records depths more deeper h le below. record {
    some = h.some;
    within = omega (arith, h.within, le);
    last = h.last;
    no_earlier = h.no_earlier;
    not_too_deep = λ i p. omega (arith, h.not_too_deep i p, below);
  };
}
