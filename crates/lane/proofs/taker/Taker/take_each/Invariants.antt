use Rattle.std.proofs.Common.{◌≡◌, ◌+◌, ◌≤◌, true, ◌++◌, take, length}
use Rattle.lane.specs.Items.{mark_last}
use Rattle.lane.specs.Lanes.{SameTaker}
use Rattle.lane.proofs.taker.Taker.take_each.Given as goal

abbrev pub invariant-loop-at : goal.invariant-loop-at
invariant-loop-at g l = record {
  lane : SameTaker l.fn.self l.self;
  taken : l.self.taken ≡ l.fn.self.taken ++ take l.at l.items;
  count : length l.items ≡ length l.fn.items;
  last : mark_last l.self.taken ≡ true;
  near : length l.fn.self.near ≤ length l.self.near + l.at;
}
