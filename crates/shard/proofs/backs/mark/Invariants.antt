use Rattle.shard.proofs.Common.{◌≡◌, put_of, IsUnmarked}
use Rattle.shard.proofs.backs.mark.Given as goal

abbrev pub invariant-loop : goal.invariant-loop
invariant-loop g l = record {
  lane : l.back.lane ≡ l.initial.back.lane;
  put : put_of l.back ≡ put_of l.initial.back;
  unmarked : IsUnmarked l.back;
}
