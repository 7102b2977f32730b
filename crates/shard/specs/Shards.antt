-- Promised: a shard: its bags and its shadow memory, and how many records it has taken.
use Rattle.std.specs.Prelude.{◌≡◌, ℕ, ◌-◌, ◌^◌, min}
use Rattle.shadow.specs.SpBags.{SpBags, IsAtStart, IsSameRun}

-- its number, the bags and the shadow memory after the records applied, and how many were taken
pub record ShardState : Type 0 where
  pub index : ℕ
  pub sp_bags : SpBags
  pub taken : ℕ

-- no record was taken
pub record IsFresh (s : ShardState) : Type 0 where
  pub at_start : IsAtStart s.sp_bags
  pub none_taken : s.taken ≡ 0

-- a count that stays at 2^64 - 1
abbrev pub capped_count : ℕ → ℕ
capped_count n = min n (2 ^ 64 - 1)

-- nothing changed
pub record IsSameShard (old new : ShardState) : Type 0 where
  pub index : new.index ≡ old.index
  pub sp_bags : IsSameRun old.sp_bags new.sp_bags
  pub taken : new.taken ≡ old.taken
