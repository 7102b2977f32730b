use Rattle.bags.proofs.Halving.{longest}
use Rattle.bags.proofs.search.middle_of.Goals as goal

pub overflow_sub-len : goal.overflow_sub-len
overflow_sub-len c = (longest c.args.longest c.args.len c.requires.some c.requires.long).within
