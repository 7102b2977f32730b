-- Promised: what a worker has done when it answers.
use Rattle.std.specs.Prelude.{◌≡◌, List, [], ◌∷◌, ◌++◌, length}
use Rattle.dag.specs.declared.records.Placed.{Placed}
use Rattle.lane.specs.declared.item.Item.{Item}
use Rattle.lane.specs.declared.item.Item.TheVariants.{Finish}
use Rattle.lane.specs.declared.sender.Sender.{Sender}
use Rattle.lane.specs.declared.taker.Taker.{Taker}
use Rattle.lane.specs.Items.{records, with_mark}
use Rattle.lane.specs.Lanes.{put_of}
use Rattle.dag.specs.declared.back.Back.{Back}
use Rattle.shard.specs.declared.worker_loop.Worked.{Worked}
use Rattle.shard.specs.Shards.{capped_count}
use Rattle.shard.specs.Working.{HasHandedBack, IsOfShare, PutsFound}

-- The worker took up to the mark, and marked its own lane. What it put are the answers to what it took.
pub record DidWork {S H : Type 0} (taker : Taker Placed) (back : Sender Back) (worked : Worked S H) : Type 0 where
  pub same_taker : worked.taker.lane ≡ taker.lane
  pub same_back : worked.back.lane ≡ back.lane
  pub to_mark : worked.taker.taken ≡ with_mark (records worked.taker.taken)
  pub count : worked.shard.taken ≡ capped_count (length (records worked.taker.taken))
  pub answers : (put : List (Item Back)) × (put_of worked.back ≡ put ++ Finish ∷ [])
      × HasHandedBack (records worked.taker.taken) put
  -- all that it put is shown to the taker of its lane
  pub shown : worked.back.shown ≡ put_of worked.back
  -- of a share of a well nested trace: the count is their number, and the answers are the races found
  pub of_share : IsOfShare (records worked.taker.taken)
      → (worked.shard.taken ≡ length (records worked.taker.taken))
      × PutsFound (records worked.taker.taken) (put_of worked.back)
