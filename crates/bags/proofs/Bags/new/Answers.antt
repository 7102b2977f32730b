use Rattle.bags.proofs.Cuts.{at_first}
use Rattle.bags.proofs.Bags.new.Goals as goal

pub returns : goal.returns
returns c =
    (at_first c.in_ok-new.field-0 c.new-2.result c.new-3.result c.new.result c.in_ok-new.ensures c.new-2.ensures
    c.new-3.ensures.first c.new-3.ensures.bag c.new.ensures.begins c.new.ensures.number c.new.ensures.called).1
