-- What a run among its workers comes to.
use Rattle.detect.proofs.Common.{◌≡◌, ℕ, ◌<◌, List, [], ◌∷◌, length, map, vec_len, None, Result, Ok, Err, OnOk, inl, inr, refl, suc, sym, ap, subst, ◌∙◌, arith, All, AllByRecursion, length-map, All-from_recursion, map-map, PromisedHandle, Placed, Part, Fault, NoThread, all-front, placed, records_of, Device, Change, ◌⇝◌, EndsReading, IsWantOfMemory, IsWantOfMemoryOrThread, refused_for_want, IsBeginning, Taker, LaneId, lane_capacity, RouterState, lane_count, HasSent, IsOnLanes, Worked, Job, WorkOf, Done, HasRoom, HasBackMark, IsFurther, to_shards, job_lanes, handle_lanes, AllDid, AreJobsFrom, IsReady, taker_lanes, IsFinished, IsClosed, IsDone, Gathering, ReadingThread, GoesOn}
use Rattle.detect.specs.declared.made.Made.{Made}
use Rattle.detect.specs.declared.made.Lists.{Lists}
use Rattle.detect.proofs.Receipts.{front_same, front_map}
use Rattle.detect.proofs.Endings.{ends_with}
use Rattle.detect.proofs.Sendings.{on_lanes_trans}
use Rattle.detect.proofs.LanesBack.{further_trans}
use Rattle.detect.proofs.RunEnds.{did_count, did_taker_lanes, did_given_lanes}

takers_hold : (capacity : ℕ) (takers : List (Taker Placed)) → AllByRecursion (λ l. lane_capacity l ≡ capacity) (map (λ t. t.lane) takers) → AllByRecursion (λ t. t.capacity ≡ capacity) takers
takers_hold capacity [] h = tt
takers_hold capacity (t ∷ takers) h = (t.of_lane ∙ h.0, takers_hold capacity takers h.1)

module _ {S H : Type 0} where
  lanes_hold : (capacity index : ℕ) (jobs : List (Job S H)) → AreJobsFrom capacity index jobs → AllByRecursion (λ l. lane_capacity l ≡ capacity) (to_shards jobs)
  lanes_hold capacity index [] h = tt
  lanes_hold capacity index (job ∷ jobs) h = (sym job.taker.of_lane ∙ h.0.to_shard, lanes_hold capacity (suc index) jobs h.1)

  -- takers of the first of the jobs' lanes hold as many items as these
  pub run_capacity : (capacity : ℕ) (jobs : List (Job S H)) (lanes : List LaneId) (takers : List (Taker Placed)) → AreJobsFrom capacity 0 jobs → IsBeginning lanes (to_shards jobs)
      → map (λ t. t.lane) takers ≡ lanes → All (λ t. t.capacity ≡ capacity) takers
  run_capacity capacity jobs lanes takers from (rest, e) same =
      let OfLane : LaneId → Type 0 = λ l. lane_capacity l ≡ capacity in
      let P : List LaneId → Type 0 = AllByRecursion OfLane in
      let held : P lanes = all-front OfLane lanes rest (subst P e (lanes_hold capacity 0 jobs from)) in
      All-from_recursion (λ (t : Taker Placed). t.capacity ≡ capacity) takers (takers_hold capacity takers (subst P (sym same) held))

  pub finished : (n : ℕ) (made : Made S H) (done : Done S H) (router : RouterState) (hs : List (PromisedHandle (Worked S H) WorkOf)) (u : List Placed)
      → IsReady n made → map handle_lanes hs ≡ map job_lanes made.jobs.items → HasSent u router → ((v : List Placed) → HasSent v router → HasSent v done.reading.router)
      → done.reading.router.pending ≡ None → done.reading.router.marked ≡ lane_count done.reading.router → IsOnLanes made.reading.router done.reading.router → IsFurther made.reading.gathering done.reading.gathering
      → ((k : ℕ) → k < length hs → HasBackMark done.reading.gathering k) → AllDid (map handle_lanes hs) done.workers.items → IsFinished n done u
  finished n made done router hs u ready started sent marks idle marked on further ended did =
      let P : List (LaneId × LaneId) → Type 0 = λ ls. AllDid ls done.workers.items in
      let all : AllDid (map job_lanes made.jobs.items) done.workers.items = subst P started did in
      let handles : length hs ≡ n = sym (length-map hs handle_lanes) ∙ ap length started ∙ length-map made.jobs.items job_lanes ∙ ready.jobs in
      record {
        sent = marks _ sent;
        count = on.count ∙ ready.count;
        idle = idle;
        marked = marked ∙ on.count ∙ ready.count;
        lanes = map job_lanes made.jobs.items;
        to_shards = map-map (λ l. l.0) job_lanes made.jobs.items ∙ ready.to_shards_are ∙ sym on.lanes;
        from_shards = map-map (λ l. l.1) job_lanes made.jobs.items ∙ ready.from_shards_are ∙ sym further.lanes;
        did = all;
        workers = did_count (map job_lanes made.jobs.items) done.workers.items all ∙ length-map made.jobs.items job_lanes ∙ ready.jobs;
        ended = λ k lt. ended k (omega (arith, lt, handles));
        backs = length-map done.reading.gathering.backs.items (λ t. t.taken) ∙ sym (length-map done.reading.gathering.backs.items (λ t. t.lane)) ∙ ap length further.lanes ∙ length-map made.reading.gathering.backs.items (λ t. t.lane) ∙ ready.backs;
        gathered = further.gathers ready.gathered;
      }

  -- the workers have the lanes of the first jobs
  pub worker_lanes : (jobs : List (Job S H)) (hs : List (PromisedHandle (Worked S H) WorkOf)) (ws : List (Worked S H)) → IsBeginning (map handle_lanes hs) (map job_lanes jobs)
      → AllDid (map handle_lanes hs) ws → IsBeginning (taker_lanes ws) (to_shards jobs)
  worker_lanes jobs hs ws first did =
      let to_shard : LaneId × LaneId → LaneId = λ l. l.0 in
      front_same _ _ _ _ (did_taker_lanes (map handle_lanes hs) ws did) (sym (map-map to_shard job_lanes jobs)) (front_map to_shard _ _ first)

  -- the receipts may be compared
  pub closed : (n : ℕ) (made : Made S H) (done : Done S H) (hs : List (PromisedHandle (Worked S H) WorkOf)) → IsReady n made → IsBeginning (map handle_lanes hs) (map job_lanes made.jobs.items)
      → done.reading.router.marked ≡ lane_count done.reading.router → IsOnLanes made.reading.router done.reading.router → IsFurther made.reading.gathering done.reading.gathering
      → AllDid (map handle_lanes hs) done.workers.items → IsClosed done
  closed n made done hs ready first marked on further did =
      let from_shard : LaneId × LaneId → LaneId = λ l. l.1 in
      record {
        marked = marked;
        to_shards = front_same _ _ _ _ refl (on.lanes ∙ sym ready.to_shards_are) (worker_lanes made.jobs.items hs done.workers.items first did);
        from_shards = front_same _ _ _ _ (did_given_lanes (map handle_lanes hs) done.workers.items did) (further.lanes ∙ sym ready.from_shards_are ∙ sym (map-map from_shard job_lanes made.jobs.items)) (front_map from_shard _ _ first);
      }

  -- no worker could be started
  pub done_refused : (part : Part) (n records depths : ℕ) (change : Change) (done : Done S H) (f : Fault) → done.outcome ≡ Err f → f ≡ NoThread → IsDone part n records depths change done
  done_refused part n records depths change done f is refused =
      let P : Result (Unit {0}) Fault → Type 0 = EndsReading IsWantOfMemoryOrThread records depths change (λ _ w. IsFinished n done (records_of part (placed w))) in
      subst P (sym is) (refused_for_want IsWantOfMemoryOrThread records depths change f (inr refused))

  -- the workers were started, the trace was read, and all ended
  pub done_started : {X : Type 0} (part : Part) (state : X → Device) (n records depths : ℕ) (before : Device) (made : Made S H) (done : Done S H) (hs : List (PromisedHandle (Worked S H) WorkOf))
      (x x' : X) (s s' : ReadingThread) (g : Gathering) (o : Result (Unit {0}) Fault) → x' ≡ x → s' ≡ s → done.outcome ≡ o
      → IsReady n made → map handle_lanes hs ≡ map job_lanes made.jobs.items
      → EndsReading IsWantOfMemory records depths (before ⇝ state x) (λ _ w. HasSent (records_of part (placed w)) s.router) o → GoesOn made.reading s
      → ((w : List Placed) → HasSent w s'.router → HasSent w done.reading.router) → done.reading.router.pending ≡ None → done.reading.router.marked ≡ lane_count done.reading.router
      → IsOnLanes s'.router done.reading.router → IsFurther s'.gathering g → IsFurther g done.reading.gathering
      → ((k : ℕ) → k < length hs → HasBackMark done.reading.gathering k) → AllDid (map handle_lanes hs) done.workers.items
      → IsDone part n records depths (before ⇝ state x') done
  done_started {X = X} part state n records depths before made done hs x x' s s' g o same_x same_s outcome ready started ends on marks idle marked on' further further' ended did =
      let P : X → Type 0 = λ y. IsDone part n records depths (before ⇝ state y) done in
      let Q : ReadingThread → Type 0 = λ q. (w : List Placed) → HasSent w q.router → HasSent w done.reading.router in
      let R : ReadingThread → Type 0 = λ q. IsOnLanes q.router done.reading.router in
      let G : ReadingThread → Type 0 = λ q. IsFurther q.gathering g in
      let O : Result (Unit {0}) Fault → Type 0 = EndsReading IsWantOfMemory records depths (before ⇝ state x) (λ _ w. HasSent (records_of part (placed w)) s.router) in
      subst P (sym same_x)
      (ends_with IsWantOfMemory IsWantOfMemoryOrThread records depths (before ⇝ state x) (λ _ w. HasSent (records_of part (placed w)) s.router) (λ _ w. IsFinished n done (records_of part (placed w))) done.outcome (λ f want. inl want)
      (λ v w sent. finished n made done s.router hs (records_of part (placed w)) ready started sent (subst Q same_s marks) idle marked
      (on_lanes_trans made.reading.router s.router done.reading.router on.lanes (subst R same_s on'))
      (further_trans made.reading.gathering s.gathering done.reading.gathering on.further (further_trans s.gathering g done.reading.gathering (subst G same_s further) further')) ended did)
      (subst O (sym outcome) ends))

  -- there is room for what the workers answer
  pub room_if : (part : Part) (n records depths : ℕ) (change : Change) (done : Done S H) (lists : Lists) → HasRoom n lists → IsDone part n records depths change done → OnOk done.outcome (HasRoom (vec_len done.workers) lists)
  room_if part n records depths change done lists room h = go done.outcome h
    where
      go : (r : Result (Unit {0}) Fault) → EndsReading IsWantOfMemoryOrThread records depths change (λ _ w. IsFinished n done (records_of part (placed w))) r → OnOk r (HasRoom (vec_len done.workers) lists)
      go (Ok v) ends = let P : ℕ → Type 0 = λ m. HasRoom m lists in subst P (sym (done.workers.ok.0 ∙ ends.says.workers)) room
      go (Err e) ends = tt
