use Rattle.std.proofs.Common.{◌≡◌, ◌+◌, ◌≤◌, ◌++◌, map, take}
use Rattle.lane.specs.declared.item.Item.TheVariants.{One}
use Rattle.lane.specs.Lanes.{put_of, IsUnmarked, SameSender}
use Rattle.lane.proofs.sender.Sender.put_block.Given as goal

abbrev pub invariant-loop-value : goal.invariant-loop-value
invariant-loop-value g l = record {
  lane : SameSender l.initial.self l.self;
  put : put_of l.self ≡ put_of l.initial.self ++ map One (take l.value-index l.values);
  unmarked : IsUnmarked l.self;
  room : l.initial.self.room ≤ l.self.room + l.value-index;
  refusals : l.self.refusals ≡ l.initial.self.refusals;
}
