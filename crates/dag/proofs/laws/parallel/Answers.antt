use Rattle.dag.proofs.Paths.{leads_or_parallel, parallel_either_way}
use Rattle.dag.proofs.laws.parallel.Goals as goal

pub returns : goal.returns
returns c = record {
  either_way = λ w i j p. parallel_either_way w i j p;
  or_path = λ w records depths i j h p q l. leads_or_parallel w h i j p q l;
}
