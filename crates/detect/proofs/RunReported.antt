-- What a run has found, from what was compared at its end.
use Rattle.detect.proofs.Common.{◌≡◌, ℕ, ◌<◌, ◌≤◌, true, false, List, [], ◌∷◌, length, map, get_or, sym, ap, subst, ◌∙◌, append-nil, arith, Placed, share, length-map, by_location, found, Item, Taker, has_mark, with_mark, RouterState, lane_count, Back, RiseFrom, KeepsBest, IsCollected, Done, Run, given_by, taken_by, given_back, counts_of, IsEmptied, IsFinished, IsCompared, TookSharesOf, RunFinds}
use Rattle.dag.proofs.Once.{AllAbove, Rises, increasing-from_rises}
use Rattle.route.specs.Routed.{IsRising, in_hand}
use Rattle.route.specs.RouterRuns.{IsTakenFrom, OfRuns, TakeWholeShares, OfRouters, AreTakesOfRun}
use Rattle.detect.proofs.RunEnds.{IsEnd, OrderlyShares, did_at, marked_work, counted_share, given_share}
use Rattle.detect.proofs.Verdicts.{verdict_of_shares}

abbrev place_of : Placed → ℕ
place_of p = p.place

above : (m n : ℕ) (u : List Placed) → m ≤ n → RiseFrom n u → AllAbove place_of m u
above m n [] le h = tt
above m n (p ∷ u) le h = (omega (arith, le, h.0), above m p.place u (omega (arith, le, h.0)) h.2)

rises : (n : ℕ) (u : List Placed) → RiseFrom n u → Rises place_of u
rises n [] h = tt
rises n (p ∷ u) h = (above p.place p.place u (omega arith) h.2, rises p.place u h.2)

-- records whose places rise from a number
pub rising_from : (n : ℕ) (u : List Placed) → RiseFrom n u → IsRising u
rising_from n u h = increasing-from_rises place_of u (rises n u h)

-- by the run of the lanes in which the takers took what they took: each has its share whole, since each has its mark
shares_of : (r : RouterState) (u : List Placed) (taken : ℕ → List (Item Placed)) → IsTakenFrom r u taken → ((k : ℕ) → k < lane_count r → has_mark (taken k) ≡ true)
    → OfRuns TakeWholeShares → (k : ℕ) → k < lane_count r → taken k ≡ with_mark (share k (lane_count r) u)
shares_of r u taken from marked whole k lt =
    let is = from.takes k lt in sym is ∙ whole (lane_count r) u from.events from.run k lt (ap has_mark is ∙ marked k lt)

module _ {S H : Type 0} where
  -- what was taken of lane k
  abbrev taken_at : Done S H → ℕ → List (Item Placed)
  taken_at done k = get_or (taken_by done.workers.items) k []

  -- a run of the lanes, by the law of routers, in which the takers took what they took
  pub run_of_takers : (n : ℕ) (done : Done S H) (u : List Placed) → IsRising u → IsFinished n done u → IsCompared n done
      → OfRouters AreTakesOfRun → IsTakenFrom done.reading.router u (taken_at done)
  run_of_takers n done u rising f h law =
      let r = done.reading.router in
      let at_rest : in_hand u r.pending ≡ u = ap (in_hand u) f.idle ∙ append-nil u in
      let P : List Placed → Type 0 = λ w. IsTakenFrom r w (taken_at done) in
      subst P at_rest (law r u f.sent (subst IsRising (sym at_rest) rising) (taken_at done) (λ k lt. (h.to_shards k (omega (arith, lt, f.count))).prefix))

  -- each worker took its share, by the law of runs
  pub took_shares : (n : ℕ) (done : Done S H) (u : List Placed) → IsFinished n done u → IsTakenFrom done.reading.router u (taken_at done)
      → OfRuns TakeWholeShares → (k : ℕ) → k < n → taken_at done k ≡ with_mark (share k n u)
  took_shares n done u f from law =
      let OfCount : ℕ → Type 0 = λ m. (k : ℕ) → k < m → taken_at done k ≡ with_mark (share k m u) in
      let marked : (k : ℕ) → k < lane_count done.reading.router → has_mark (taken_at done k) ≡ true = λ k lt. marked_work _ _ _ (did_at f.lanes done.workers.items k f.did (omega (arith, lt, f.count, f.workers))) in
      subst OfCount f.count (shares_of done.reading.router u (taken_at done) from marked law)

  -- of what the takers of the shards' lanes know, nothing waits
  pub record IsClosing (n : ℕ) (done : Done S H) (u : List Placed) (run : Run) : Type 0 where
    pub share_taken : (k : ℕ) → k < n → taken_at done k ≡ with_mark (share k n u)
    pub compared : IsCompared n done
    pub takers : List (Taker Placed)
    pub lanes : run.lanes.items ≡ takers
    pub same : map (λ t. t.taken) takers ≡ taken_by done.workers.items
    pub emptied : (k : ℕ) → k < n → IsEmptied takers k
    pub counts : run.taken.items ≡ counts_of done.workers.items
    pub lane_count_is : length run.lanes.items ≡ n

  ends : (n : ℕ) (done : Done S H) (u : List Placed) (run : Run) → IsFinished n done u → IsClosing n done u run
      → IsEnd n u (taken_by done.workers.items) (given_by done.reading.gathering.backs.items) (given_back done.workers.items) (counts_of done.workers.items)
  ends n done u run f h = record {
    works = λ k lt. did_at f.lanes done.workers.items k f.did (omega (arith, lt, f.workers));
    share_taken = h.share_taken;
    settled_back = h.compared.from_shards;
    ended = f.ended;
  }

  took : (n : ℕ) (done : Done S H) (u : List Placed) (run : Run) → IsFinished n done u → OrderlyShares n u → IsClosing n done u run → TookSharesOf n u run
  took n done u run f orders h =
      let e = ends n done u run f h in
      let taken_is : map (λ t. t.taken) run.lanes.items ≡ taken_by done.workers.items = ap (map (λ t. t.taken)) h.lanes ∙ h.same in
      let P : List (List (Item Placed)) → Type 0 = λ ts. (k : ℕ) → k < n → get_or ts k [] ≡ with_mark (share k n u) in
      let Q : List ℕ → Type 0 = λ cs. (k : ℕ) → k < n → get_or cs k 0 ≡ length (share k n u) in
      let marked : (k : ℕ) → k < n → has_mark (get_or (map (λ t. t.taken) h.takers) k []) ≡ true = λ k lt.
      ap (λ l. has_mark (get_or l k [])) h.same ∙ marked_work _ _ _ (e.works k lt) in
      record {
        lanes = h.lane_count_is;
        counts = ap length h.counts ∙ length-map done.workers.items (λ w. w.shard.taken) ∙ f.workers;
        shares = subst P (sym taken_is) h.share_taken;
        taken = subst Q (sym h.counts) (λ k lt. counted_share n u _ _ _ _ orders e k lt);
        settled = λ k lt. ap (λ l. get_or (map (λ t. t.waiting) l) k []) h.lanes ∙ h.emptied k lt (marked k lt);
      }

  -- what the run has found
  pub run_finds : (n : ℕ) (done : Done S H) (u : List Placed) (run : Run) → 1 ≤ n → OrderlyShares n u → IsFinished n done u → IsClosing n done u run
      → done.reading.gathering.collector.refused ≡ false → ((g : List Back) → KeepsBest g done.reading.gathering.collector → IsCollected g run.report) → RunFinds n run u
  run_finds n done u run some orders f h good collected =
      let e = ends n done u run f h in
      let is : run.report ≡ by_location (found u) =
      verdict_of_shares n (given_by done.reading.gathering.backs.items) u done.reading.gathering.collector run.report some f.backs
      (λ k lt. given_share n u _ _ _ _ orders e (f.gathered.none_failed good) k lt) f.gathered good collected in
      record { races = is; took = took n done u run f orders h }
