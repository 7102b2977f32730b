use Rattle.collect.proofs.Listed.{one_list}
use Rattle.collect.proofs.laws.one_list.Goals as goal

pub returns : goal.returns
returns c = one_list
