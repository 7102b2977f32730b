use Rattle.collect.proofs.Common.{false, Some, ap, ◌∙◌, leb, option_map_or}
use Rattle.collect.proofs.Kept.{race_on-values}
use Rattle.collect.proofs.collectors.Collector.has_better.Goals as goal

pub returns-in-Some : goal.returns-in-Some
returns-in-Some c =
    rw (← c.self.view_is, ← c.race.view_is) (ap (λ o. option_map_or (λ k. leb k.second.place c.race.inside.second.place) o false)
    (ap Some c.kept.view_is ∙ c.in-Some.ensures.value ∙ race_on-values _ _ c.self.invariant))

pub returns-in-None : goal.returns-in-None
returns-in-None c = rw (← c.self.view_is, ← c.race.view_is) (ap (λ o. option_map_or (λ k. leb k.second.place c.race.inside.second.place) o false) (c.in-None.ensures.value ∙ race_on-values _ _ c.self.invariant))
