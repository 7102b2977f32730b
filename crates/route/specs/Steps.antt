-- Promised: what each call of a router does.
use Rattle.std.specs.Prelude.{◌≡◌, ◌↔◌, ◌+◌, List, [], ◌∷◌, ◌++◌, length, map, Some, None}
use Rattle.lane.specs.declared.item.Item.TheVariants.{One, Finish}
use Rattle.lane.specs.declared.sender.Sender.{Sender}
use Rattle.dag.specs.declared.records.Placed.{Placed}
use Rattle.route.specs.Senders.{lanes, capacities}
use Rattle.route.specs.Sending.{first_lane, with_put, sent_whole}
use Rattle.route.specs.Routers.{RouterState, lane_count, HasSent, IsOnLanes, IsLastLane, IsStuck, WasRefused}
use Rattle.route.specs.Runs.{put, put_event, sending_of}
use Rattle.route.specs.RouterRuns.{begun, run_of}

-- no record is pending, and no lane has its mark
pub record IsIdle (r : RouterState) : Type 0 where
  pub none_pending : r.pending ≡ None
  pub none_marked : r.marked ≡ 0

-- a router over these senders, which has sent nothing
pub record IsNewOver (senders : List (Sender Placed)) (r : RouterState) : Type 0 where
  pub lanes : r.lanes ≡ lanes senders
  pub capacities : r.capacities ≡ capacities senders
  pub count : lane_count r ≡ length senders
  pub idle : IsIdle r
  pub sent : HasSent [] r

-- the record is the pending one, and nothing was put
pub record HasOffered (p : Placed) (old new : RouterState) : Type 0 where
  pub on : IsOnLanes old new
  pub puts : new.puts ≡ old.puts
  pub pending : new.pending ≡ Some p
  pub next : new.next ≡ first_lane (lane_count old) p.what
  pub marked : new.marked ≡ 0
  pub sent : (w : List Placed) → HasSent w old → HasSent w new
  pub run : (w : List Placed) → run_of w new ≡ run_of w old

-- with w sent whole before, the pending record is sent too, or is still pending
pub record HasGoneOn (old new : RouterState) : Type 0 where
  pub on : IsOnLanes old new
  pub marked : new.marked ≡ old.marked
  pub sent : (w : List Placed) → HasSent w old → HasSent (sent_whole w old.pending new.pending) new

-- The pending record was put on the next lane. The lane after it is then the next, if the record goes there. That put
-- is one event at the end of the run.
pub record HasPutNext (old new : RouterState) (p : Placed) : Type 0 where
  pub puts : new.puts ≡ with_put old.puts old.next (One p)
  pub next : (q : Placed) → new.pending ≡ Some q → (old.pending ≡ Some q) × (new.next ≡ old.next + 1)
  pub last : (new.pending ≡ None) ↔ IsLastLane (lane_count old) old.next p
  pub event : (w : List Placed) → run_of (sent_whole w old.pending new.pending) new
      ≡ run_of w old ++ put old.next (One p) ∷ []

-- the record was sent whole
pub record HasSentRecord (p : Placed) (old new : RouterState) : Type 0 where
  pub idle : IsIdle new
  pub sent : (w : List Placed) → HasSent w old → HasSent (w ++ p ∷ []) new
  pub events : (w : List Placed) → run_of (w ++ p ∷ []) new
      ≡ run_of w old ++ map put_event (sending_of (lane_count old) p)

-- the record was sent to the lanes before the next one, whose sender refused it in this call, and is pending
pub record HasStuck (p : Placed) (old new : RouterState) : Type 0 where
  pub pending : new.pending ≡ Some p
  pub marked : new.marked ≡ 0
  pub stuck : IsStuck new new.next
  pub refused : WasRefused old new new.next
  pub sent : (w : List Placed) → HasSent w old → HasSent w new
  pub events : (w : List Placed) → run_of w new
      ≡ run_of w old ++ map put_event (begun (lane_count old) (Some p) new.next)

-- on the same lanes no record is pending, and what was sent whole is
pub record HasMarkedOn (old new : RouterState) : Type 0 where
  pub on : IsOnLanes old new
  pub pending : new.pending ≡ None
  pub sent : (w : List Placed) → HasSent w old → HasSent w new

-- The next lane without a mark has one. That put is one event at the end of the run.
pub record HasMarkedNext (old new : RouterState) : Type 0 where
  pub puts : new.puts ≡ with_put old.puts old.marked Finish
  pub marked : new.marked ≡ old.marked + 1
  pub event : (w : List Placed) → run_of w new ≡ run_of w old ++ put old.marked Finish ∷ []
