use Rattle.collect.proofs.Merging.{parts_make_whole, parts_make_trace, merges_with_itself, order_is_free}
use Rattle.collect.proofs.laws.merging.Goals as goal

pub returns-clause-whole : goal.returns-clause-whole
returns-clause-whole c = parts_make_whole

pub returns-clause-trace : goal.returns-clause-trace
returns-clause-trace c = parts_make_trace

pub returns-clause-again : goal.returns-clause-again
returns-clause-again c = merges_with_itself

pub returns-clause-order : goal.returns-clause-order
returns-clause-order c = order_is_free
