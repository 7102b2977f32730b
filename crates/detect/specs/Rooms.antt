-- Private: room for what a run answers of each shard.
use Rattle.std.specs.Prelude.{◌≡◌, ℕ, ◌≤◌, vec_len, vec_capacity}
use Rattle.detect.specs.declared.made.Lists.{Lists}

pub record HasRoom (n : ℕ) (lists : Lists) : Type 0 where
  pub no_taken : vec_len lists.taken ≡ 0
  pub taken_room : n ≤ vec_capacity lists.taken
  pub no_lanes : vec_len lists.lanes ≡ 0
  pub lane_room : n ≤ vec_capacity lists.lanes
