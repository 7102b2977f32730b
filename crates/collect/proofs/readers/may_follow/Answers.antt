use Rattle.collect.proofs.Common.{true, Some, ap, ◌∙◌, ltb, option_map_or}
use Rattle.collect.proofs.readers.may_follow.Goals as goal

pub returns-in-Some : goal.returns-in-Some
returns-in-Some c = rw (← c.race.view_is) (ap (λ o. option_map_or (λ k. ltb k.location c.race.inside.location) o true) (ap Some c.highest.view_is ∙ c.in-Some.ensures.value))

pub returns-in-None : goal.returns-in-None
returns-in-None c = rw (← c.race.view_is) (ap (λ o. option_map_or (λ k. ltb k.location c.race.inside.location) o true) c.in-None.ensures.value)
