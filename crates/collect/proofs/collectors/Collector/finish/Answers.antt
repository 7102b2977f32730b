use Rattle.collect.proofs.Common.{rules, IsCollected}
use Rattle.collect.proofs.FirstLeast.{first_least}
use Rattle.collect.proofs.collectors.Collector.finish.Goals as goal

pub returns-clause-first_least : goal.returns-clause-first_least
returns-clause-first_least c = λ g h. let collected : IsCollected g c.in_ok-races.races.items = search rules in first_least g _ collected
