use Rattle.detect.proofs.Common.{rules, [], ◌∷◌, given_by}
use Rattle.detect.proofs.LanesBack.{further_kept, further_none, further_trans, within_given}
use Rattle.detect.proofs.gathering.Gathering.take_from.Goals as goal

pub returns-in-None : goal.returns-in-None
returns-in-None c = further_none c.args.self.now c.args.shard _ c.take.new.self (search rules) c.index_mut.ensures.value c.in-None.ensures.lane.0 c.in-None.ensures.none

pub returns-in-Some : goal.returns-in-Some
returns-in-Some c =
    let backs = c.args.self.now.backs.items in
    let one = further_kept c.args.self.now c.keep_item.new.self c.args.shard _ c.take.new.self (c.in-Some.item ∷ []) c.keep_item.ensures.backs (search rules) c.index_mut.ensures.value c.in-Some.ensures.lane.0 c.in-Some.ensures.some.0
    (λ h. c.keep_item.ensures.gathers (given_by backs) c.args.shard (within_given backs c.args.shard (search rules)) h) in
    further_trans _ _ _ one c.take_block_from.ensures
