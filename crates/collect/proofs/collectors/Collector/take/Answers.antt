use Rattle.collect.proofs.Best.{Holds-refused}
use Rattle.collect.proofs.collectors.Collector.take.Goals as goal

pub returns-in-NoMemory-clause-ok : goal.returns-in-NoMemory-clause-ok
returns-in-NoMemory-clause-ok c = λ g h. Holds-refused g c.args.self.now _ c.args.back c.in-NoMemory.is c.note_refused.ensures.races c.note_refused.ensures.refused h
