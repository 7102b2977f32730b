use Rattle.std.proofs.Common.{rules, sym, ◌∙◌}
use Rattle.detect.proofs.TiedEnds.{nothing_gathered}
use Rattle.detect.proofs.made.make.Goals as goal

pub returns-clause-ready : goal.returns-clause-ready
returns-clause-ready g c =
    let tied = c.in_ok-ends.ensures.tied in
    let router = c.in_ok-new.ensures in
    record {
      count = router.count ∙ tied.senders;
      jobs = tied.jobs;
      backs = tied.backs;
      idle = router.idle;
      none_refused = c.new-2.ensures.refused;
      none_sent = router.sent;
      to_shards_are = tied.to_shards_are ∙ sym router.lanes;
      from_shards_are = tied.from_shards_are;
      new = tied.new;
      gathered = nothing_gathered c.in_ok-ends.ends.backs.items c.new-2.result tied.none_taken c.new-2.ensures;
      no_handles = c.in_ok-with_room.ensures.0;
      handle_room = search rules;
      no_workers = c.in_ok-with_room-2.ensures.0;
      worker_room = search rules;
    }
