-- Private: what a run begins with.
use Rattle.std.specs.Prelude.{◌≡◌, IsFalse, ℕ, suc, ◌≤◌, ⊤, List, [], ◌∷◌, length, map, vec_len, vec_capacity}
use Rattle.std.specs.List.{All, AllByRecursion}
use Rattle.dag.specs.declared.records.Placed.{Placed}
use Rattle.lane.specs.declared.sender.Sender.{Sender}
use Rattle.lane.specs.declared.taker.Taker.{Taker}
use Rattle.lane.specs.Lanes.{put_of}
use Rattle.dag.specs.declared.back.Back.{Back}
use Rattle.route.specs.Steps.{IsIdle}
use Rattle.route.specs.Routers.{lane_count, HasSent}
use Rattle.detect.specs.declared.workers.Job.{Job}
use Rattle.detect.specs.declared.made.LaneEnds.{LaneEnds}
use Rattle.detect.specs.declared.made.Made.{Made}
use Rattle.detect.specs.LanesBack.{back_lanes, IsGathered}
use Rattle.detect.specs.Workers.{IsFreshJob, AllFresh, to_shards, from_shards}

module _ {S H : Type 0} where
  -- a new job stands between the sender of the lane to it and the taker of the lane back, on which nothing was put
  pub record IsBetween (sender : Sender Placed) (gatherer : Taker Back) (job : Job S H) : Type 0 where
    pub to_shard : job.taker.lane ≡ sender.lane
    pub from_shard : job.back.lane ≡ gatherer.lane
    pub new : IsFreshJob job
    pub none_put : put_of sender ≡ []
    pub none_taken : gatherer.taken ≡ []

  -- the job of the shard of this number, whose lanes hold so many items at most
  pub record IsJobOf (capacity index : ℕ) (job : Job S H) : Type 0 where
    pub number : job.shard.index ≡ index
    pub to_shard : job.taker.capacity ≡ capacity
    pub from_shard : job.back.capacity ≡ capacity

  -- the jobs of the shards from this number on
  abbrev pub AreJobsFrom : ℕ → ℕ → List (Job S H) → Type 0
  AreJobsFrom capacity index [] = ⊤
  AreJobsFrom capacity index (job ∷ jobs) = IsJobOf capacity index job × AreJobsFrom capacity (suc index) jobs

  -- the ends of the lanes of n shards, on which nothing was put
  pub record IsTied (n : ℕ) (ends : LaneEnds S H) : Type 0 where
    pub senders : length ends.senders.items ≡ n
    pub jobs : length ends.jobs.items ≡ n
    pub backs : length ends.backs.items ≡ n
    pub to_shards_are : to_shards ends.jobs.items ≡ map (λ s. s.lane) ends.senders.items
    pub from_shards_are : from_shards ends.jobs.items ≡ map (λ t. t.lane) ends.backs.items
    pub new : AllFresh ends.jobs.items
    pub none_put : All (λ s. put_of s ≡ []) ends.senders.items
    pub none_taken : AllByRecursion (λ t. t.taken ≡ []) ends.backs.items

  -- a router and n workers on its lanes, before the first record, and room for what comes of the workers
  pub record IsReady (n : ℕ) (made : Made S H) : Type 0 where
    pub count : lane_count made.reading.router ≡ n
    pub jobs : length made.jobs.items ≡ n
    pub backs : length made.reading.gathering.backs.items ≡ n
    pub idle : IsIdle made.reading.router
    pub none_refused : IsFalse made.reading.gathering.collector.refused
    pub none_sent : HasSent [] made.reading.router
    pub to_shards_are : to_shards made.jobs.items ≡ made.reading.router.lanes
    pub from_shards_are : from_shards made.jobs.items ≡ back_lanes made.reading.gathering
    pub new : AllFresh made.jobs.items
    pub gathered : IsGathered made.reading.gathering
    pub no_handles : vec_len made.handles ≡ 0
    pub handle_room : n ≤ vec_capacity made.handles
    pub no_workers : vec_len made.workers ≡ 0
    pub worker_room : n ≤ vec_capacity made.workers
