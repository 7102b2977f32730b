-- Private: what the workers are given, and what they have done.
use Rattle.std.specs.Prelude.{◌≡◌, List, [], ◌∷◌, map, ⊤}
use Rattle.std.specs.List.{AllByRecursion}
use Rattle.dag.specs.declared.records.Placed.{Placed}
use Rattle.lane.specs.declared.sender.Sender.{Sender}
use Rattle.lane.specs.declared.taker.Taker.{Taker}
use Rattle.lane.specs.Lanes.{LaneId, put_of}
use Rattle.std.specs.declared.thread.PromisedHandle.{PromisedHandle}
use Rattle.dag.specs.declared.back.Back.{Back}
use Rattle.shard.specs.declared.worker_loop.Worked.{Worked}
use Rattle.shard.specs.Shards.{IsFresh}
use Rattle.shard.specs.Worked.{DidWork}
use Rattle.detect.specs.declared.workers.Job.{Job}
use Rattle.detect.specs.declared.workers.WorkOf.{WorkOf}

module _ {S H : Type 0} where
  -- the shard is new, and nothing was taken or put
  pub record IsFreshJob (job : Job S H) : Type 0 where
    pub shard : IsFresh job.shard
    pub none_taken : job.taker.taken ≡ []
    pub none_put : put_of job.back ≡ []

  abbrev pub AllFresh : List (Job S H) → Type 0
  AllFresh jobs = AllByRecursion IsFreshJob jobs

  -- the lanes to the shards, and the lanes back
  abbrev pub to_shards : List (Job S H) → List LaneId
  to_shards jobs = map (λ j. j.taker.lane) jobs

  abbrev pub from_shards : List (Job S H) → List LaneId
  from_shards jobs = map (λ j. j.back.lane) jobs

  -- both lanes of a shard
  abbrev pub job_lanes : Job S H → LaneId × LaneId
  job_lanes job = (job.taker.lane, job.back.lane)

  abbrev pub handle_lanes : PromisedHandle (Worked S H) WorkOf → LaneId × LaneId
  handle_lanes handle = (handle.promise.taker.value.lane, handle.promise.back.value.lane)

  -- a worker that was given these lanes has done its work
  pub record DidOn (lanes : LaneId × LaneId) (worked : Worked S H) : Type 0 where
    pub taker : Taker Placed
    pub back : Sender Back
    pub lanes_are : lanes ≡ (taker.lane, back.lane)
    pub did : DidWork taker back worked

  abbrev pub AllDid : List (LaneId × LaneId) → List (Worked S H) → Type 0
  AllDid [] [] = ⊤
  AllDid [] (w ∷ ws) = ⊥
  AllDid (l ∷ ls) [] = ⊥
  AllDid (l ∷ ls) (w ∷ ws) = DidOn l w × AllDid ls ws
