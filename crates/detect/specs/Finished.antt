-- Private: what a run among its workers has come to.
use Rattle.std.specs.Prelude.{◌≡◌, ℕ, ◌<◌, List, length, map, vec_len, None}
use Rattle.dag.specs.declared.records.Placed.{Placed}
use Rattle.dag.specs.declared.part.Part.{Part}
use Rattle.dag.specs.Traces.{placed}
use Rattle.dag.specs.Parts.{records_of}
use Rattle.trace.specs.Devices.{Change}
use Rattle.trace.specs.Endings.{EndsReading, IsWantOfMemoryOrThread}
use Rattle.lane.specs.Items.{IsBeginning}
use Rattle.lane.specs.Lanes.{LaneId}
use Rattle.route.specs.Routers.{lane_count, HasSent}
use Rattle.dag.specs.declared.records.Limits.{Limits}
use Rattle.detect.specs.declared.closing.Done.{Done}
use Rattle.detect.specs.declared.made.Made.{Made}
use Rattle.detect.specs.Gathered.{given_by}
use Rattle.detect.specs.LanesBack.{back_lanes, HasBackMark, IsGathered}
use Rattle.detect.specs.Workers.{AllDid}
use Rattle.detect.specs.Closing.{taken_by, given_back, taker_lanes, given_lanes, AreSettled}

module _ {S H : Type 0} where
  -- the records u were sent and the marks after them; n workers have done their work, and all they gave back came
  pub record IsFinished (n : ℕ) (done : Done S H) (u : List Placed) : Type 0 where
    pub sent : HasSent u done.reading.router
    pub count : lane_count done.reading.router ≡ n
    pub idle : done.reading.router.pending ≡ None
    pub marked : done.reading.router.marked ≡ n
    pub lanes : List (LaneId × LaneId)
    pub to_shards : map (λ l. l.0) lanes ≡ done.reading.router.lanes
    pub from_shards : map (λ l. l.1) lanes ≡ back_lanes done.reading.gathering
    pub did : AllDid lanes done.workers.items
    pub workers : length done.workers.items ≡ n
    pub ended : (k : ℕ) → k < n → HasBackMark done.reading.gathering k
    pub backs : length (given_by done.reading.gathering.backs.items) ≡ n
    pub gathered : IsGathered done.reading.gathering

  -- the receipts may be compared: all lanes have their marks, and the workers' ends are those of the first lanes
  pub record IsClosed (done : Done S H) : Type 0 where
    pub marked : done.reading.router.marked ≡ lane_count done.reading.router
    pub to_shards : IsBeginning (taker_lanes done.workers.items) done.reading.router.lanes
    pub from_shards : IsBeginning (given_lanes done.workers.items) (back_lanes done.reading.gathering)

  -- the receipts were compared: what each of n workers took with what was put on its lane, and what came back on its
  -- lane with what it put there
  pub record IsCompared (n : ℕ) (done : Done S H) : Type 0 where
    pub to_shards : AreSettled n (taken_by done.workers.items) done.reading.router.puts
    pub from_shards : AreSettled n (given_by done.reading.gathering.backs.items) (given_back done.workers.items)

  -- reading ended well, what the part has of the trace was sent, and all n workers ended; or the fault is why it didn't
  abbrev pub IsDone : Part → ℕ → ℕ → ℕ → Change → Done S H → Type 0
  IsDone part n records depths change done =
      EndsReading IsWantOfMemoryOrThread records depths change
      (λ _ w. IsFinished n done (records_of part (placed w))) done.outcome

  -- that, with the part and as many workers as the run was made with, within these limits
  abbrev pub HasRun : Made S H → Limits → Change → Done S H → Type 0
  HasRun made limits = IsDone made.reading.part (vec_len made.jobs) limits.records limits.depth
