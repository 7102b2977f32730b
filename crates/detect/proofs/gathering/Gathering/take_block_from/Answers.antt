use Rattle.detect.proofs.Common.{rules, take, given_by}
use Rattle.detect.proofs.LanesBack.{further_kept, within_given}
use Rattle.detect.proofs.gathering.Gathering.take_block_from.Goals as goal

pub returns : goal.returns
returns c =
    further_kept c.args.self.now c.keep_all.new.self c.args.shard _ c.take_block-count.new.self (take c.take_block-count.result c.take_block-count.new.items) c.keep_all.ensures.backs (search rules) c.index_mut.ensures.value c.take_block-count.ensures.lane.0 c.take_block-count.ensures.taken
    (λ h. c.keep_all.ensures.gathers (given_by c.args.self.now.backs.items) c.args.shard (within_given c.args.self.now.backs.items c.args.shard (search rules)) h)
