use Rattle.dag.proofs.Paths.{one_way_out}
use Rattle.bags.proofs.laws.out.Goals as goal

pub returns : goal.returns
returns c = record { one_way = λ w records depths h. one_way_out w h }
