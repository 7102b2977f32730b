use Rattle.bags.proofs.Common.{◌∙◌, ◌≡◌, ap, length, arith, Procedures, stretches}
use Rattle.bags.proofs.Cuts.{length-procedures_of}
use Rattle.bags.proofs.Counting.{length-stretches, are_few}
use Rattle.bags.proofs.Bags.held.Goals as goal

pub overflow_mul-result : goal.overflow_mul-result
overflow_mul-result c =
    let few = are_few c.self.inside.count c.self.inside.stretches c.self.inside.nesting c.self.invariant in
    omega (arith, c.len.ensures, few.of_all, few.of_active)

pub overflow_add-result : goal.overflow_add-result
overflow_add-result c =
    let few = are_few c.self.inside.count c.self.inside.stretches c.self.inside.nesting c.self.invariant in
    omega (arith, c.len.ensures, c.len-2.ensures, few.of_all, few.of_active)

-- the lengths of both lists
record Lengths (c : goal.After-len-2) : Type 0 where
  active : c.len.result ≡ length c.args.self.now.active
  all : c.len-2.result ≡ stretches c.args.self.now

lengths : (c : goal.After-len-2) → Lengths c
lengths c = record {
  active = c.len.ensures
      ∙ length-procedures_of c.self.inside.count c.self.inside.stretches c.self.inside.nesting
      ∙ ap (λ (p : Procedures). length p.active) c.self.view_is;
  all = c.len-2.ensures
      ∙ length-stretches c.self.inside.count c.self.inside.stretches c.self.inside.nesting c.self.invariant
      ∙ ap stretches c.self.view_is;
}

pub returns-clause-exact : goal.returns-clause-exact
returns-clause-exact c = omega (arith, (lengths c).active, (lengths c).all)

pub returns-clause-most : goal.returns-clause-most
returns-clause-most c = omega (arith, (lengths c).active, (lengths c).all)
