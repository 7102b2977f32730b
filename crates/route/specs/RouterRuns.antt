-- Promised: the run of a router: an event for each item that it has put.
use Rattle.std.specs.Prelude.{◌≡◌, ℕ, ◌<◌, nat_lt, true, List, [], ◌++◌, map, filter, Option, Some, None}
use Rattle.std.specs.List.{range_with_len, flat_map}
use Rattle.lane.specs.declared.item.Item.{Item}
use Rattle.lane.specs.declared.item.Item.TheVariants.{Finish}
use Rattle.lane.specs.Items.{has_mark, with_mark, IsBeginning}
use Rattle.dag.specs.declared.records.Placed.{Placed}
use Rattle.dag.specs.Shares.{share}
use Rattle.route.specs.Sending.{put_on}
use Rattle.route.specs.Routers.{RouterState, lane_count, HasSent}
use Rattle.route.specs.Routed.{IsRising, IsRouted, in_hand}
use Rattle.route.specs.Runs.{Event, IsRun, sending_of, put_event, put_list, taken_list}

-- the puts of the pending record on the lanes before the next one
abbrev pub begun : ℕ → Option Placed → ℕ → List (ℕ × Item Placed)
begun n None next = []
begun n (Some p) next = filter (λ e. nat_lt e.0 next) (sending_of n p)

-- the marks on the first lanes
abbrev pub first_marks : ℕ → List (ℕ × Item Placed)
first_marks marked = map (λ k. (k, Finish)) (range_with_len 0 marked)

-- all puts of w, then what was begun, then the marks
abbrev pub sent_so_far : ℕ → List Placed → Option Placed → ℕ → ℕ → List (ℕ × Item Placed)
sent_so_far n w pending next marked = flat_map (sending_of n) w ++ (begun n pending next ++ first_marks marked)

-- the run of a router that has sent the records w whole
abbrev pub run_of : List Placed → RouterState → List Event
run_of w r = map put_event (sent_so_far (lane_count r) w r.pending r.next r.marked)

-- in these events all that the router put is put
abbrev pub HavePuts : RouterState → List Event → Type 0
HavePuts r es = (k : ℕ) → k < lane_count r → put_list es k ≡ put_on r.puts k

-- a run of the router's lanes by the records w, in which all that it put is put, and `taken k` is taken of lane k
pub record IsTakenFrom (r : RouterState) (w : List Placed) (taken : ℕ → List (Item Placed)) : Type 0 where
  pub events : List Event
  pub run : IsRun (lane_count r) w events
  pub puts : HavePuts r events
  pub takes : (k : ℕ) → k < lane_count r → taken_list events k ≡ taken k

-- what was taken of each lane, a prefix of what was put there, was taken in a run of the router's lanes
abbrev pub AreTakesOfRun : RouterState → List Placed → Type 0
AreTakesOfRun r w = (taken : ℕ → List (Item Placed))
    → ((k : ℕ) → k < lane_count r → IsBeginning (taken k) (put_on r.puts k))
    → IsTakenFrom r (in_hand w r.pending) taken

-- of a lane whose mark was taken, the items taken are its whole share of w
abbrev pub TakeWholeShares : ℕ → List Placed → List Event → Type 0
TakeWholeShares n w es = (k : ℕ) → k < n → has_mark (taken_list es k) ≡ true → taken_list es k ≡ with_mark (share k n w)

-- what is said of every run of n lanes by the records w
abbrev pub OfRuns : (ℕ → List Placed → List Event → Type 0) → Type 0
OfRuns Says = (n : ℕ) (w : List Placed) (es : List Event) → IsRun n w es → Says n w es

-- what is said of its lane k, and of the list u that was routed
abbrev pub AtLanesOfRuns : (ℕ → ℕ → List Placed → List Event → Type 0) → Type 0
AtLanesOfRuns Says = OfRuns (λ n w es. (k : ℕ) (u : List Placed) → IsRouted n (put_list es) u → k < n → Says n k u es)

-- what is said of every router that was offered records whose places ascend, and has sent the records w whole
abbrev pub OfRouters : (RouterState → List Placed → Type 0) → Type 0
OfRouters Says = (r : RouterState) (w : List Placed) → HasSent w r → IsRising (in_hand w r.pending) → Says r w

-- what is said of lane k of its n, with `on j` put on lane j, and of the list u that was routed
abbrev pub AtLanesOfRouters : (ℕ → (ℕ → List (Item Placed)) → ℕ → List Placed → Type 0) → Type 0
AtLanesOfRouters Says = OfRouters (λ r w. (k : ℕ) (u : List Placed) → IsRouted (lane_count r) (put_on r.puts) u
    → k < lane_count r → Says (lane_count r) (put_on r.puts) k u)
