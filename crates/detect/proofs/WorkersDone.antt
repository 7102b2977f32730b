-- The workers that have done their work: one more, and what they say lane by lane.
use Rattle.detect.proofs.Common.{◌≡◌, ℕ, List, [], ◌∷◌, ◌++◌, map, refl, sym, ap, ap₂, subst, ◌∙◌, append_assoc, append-nil, map-append, Placed, Taker, IsBeginning, LaneId, Worked, Job, job_lanes, handle_lanes, DidOn, AllDid, takers_of, counts_of, PromisedHandle, WorkOf}
use Rattle.shard.specs.Worked.{DidWork}

-- one element more of a list that is gone through
pub split_more : {X : Type 0} (done : List X) (x : X) (rest before all : List X) → before ≡ x ∷ rest → done ++ before ≡ all → (done ++ x ∷ []) ++ rest ≡ all
split_more done x rest before all step split = append_assoc done (x ∷ []) rest ∙ ap (λ l. done ++ l) (sym step) ∙ split

-- and all of it was
pub gone_through : {X : Type 0} (done rest all : List X) → rest ≡ [] → done ++ rest ≡ all → done ≡ all
gone_through done rest all none split = sym (append-nil done) ∙ ap (λ l. done ++ l) (sym none) ∙ split

module _ {S H : Type 0} where
  all_did-push : (ls : List (LaneId × LaneId)) (ws : List (Worked S H)) (l : LaneId × LaneId) (w : Worked S H) → AllDid ls ws → DidOn l w → AllDid (ls ++ l ∷ []) (ws ++ w ∷ [])
  all_did-push [] [] l w h d = (d, tt)
  all_did-push [] (v ∷ ws) l w h d = absurd h
  all_did-push (k ∷ ls) [] l w h d = absurd h
  all_did-push (k ∷ ls) (v ∷ ws) l w h d = (h.0, all_did-push ls ws l w h.1 d)

  -- one worker more was joined
  pub did_more : (hs : List (PromisedHandle (Worked S H) WorkOf)) (h : PromisedHandle (Worked S H) WorkOf) (ws : List (Worked S H)) (w : Worked S H) (later : List (Worked S H)) → later ≡ ws ++ w ∷ []
      → AllDid (map handle_lanes hs) ws → DidWork h.promise.taker.value h.promise.back.value w → AllDid (map handle_lanes (hs ++ h ∷ [])) later
  did_more hs h ws w later is all did =
      let P : List (Worked S H) → Type 0 = λ l. AllDid (map handle_lanes (hs ++ h ∷ [])) l in
      let Q : List (LaneId × LaneId) → Type 0 = λ l. AllDid l (ws ++ w ∷ []) in
      subst P (sym is) (subst Q (sym (map-append handle_lanes hs (h ∷ []))) (all_did-push (map handle_lanes hs) ws (handle_lanes h) w all (record { taker = h.promise.taker.value; back = h.promise.back.value; lanes_are = refl; did = did })))

  -- one worker more was started
  pub started_more : (hs : List (PromisedHandle (Worked S H) WorkOf)) (h : PromisedHandle (Worked S H) WorkOf) (later : List (PromisedHandle (Worked S H) WorkOf)) (jobs : List (Job S H)) (job : Job S H) → later ≡ hs ++ h ∷ []
      → handle_lanes h ≡ job_lanes job → map handle_lanes hs ≡ map job_lanes jobs → map handle_lanes later ≡ map job_lanes (jobs ++ job ∷ [])
  started_more hs h later jobs job is one all =
      ap (map handle_lanes) is ∙ map-append handle_lanes hs (h ∷ []) ∙ ap₂ (λ ls l. ls ++ l ∷ []) all one ∙ sym (map-append job_lanes jobs (job ∷ []))

  -- a worker was started for each job
  pub started_all : (hs : List (PromisedHandle (Worked S H) WorkOf)) (done rest all : List (Job S H)) → rest ≡ [] → done ++ rest ≡ all → map handle_lanes hs ≡ map job_lanes done → map handle_lanes hs ≡ map job_lanes all
  started_all hs done rest all none split lanes = lanes ∙ ap (map job_lanes) (gone_through done rest all none split)

  -- the count of one worker more
  pub counts_more : (done : List (Worked S H)) (w : Worked S H) (counts later : List ℕ) (count : ℕ) → later ≡ counts ++ count ∷ [] → count ≡ w.shard.taken → counts ≡ counts_of done → later ≡ counts_of (done ++ w ∷ [])
  counts_more done w counts later count is one all =
      is ∙ ap₂ (λ ns n. ns ++ n ∷ []) all one ∙ sym (map-append (λ (x : Worked S H). x.shard.taken) done (w ∷ []))

  -- the lane of one worker more
  pub lanes_more : (done : List (Worked S H)) (w : Worked S H) (lanes later : List (Taker Placed)) (lane : Taker Placed) → later ≡ lanes ++ lane ∷ [] → lane ≡ w.taker → lanes ≡ takers_of done → later ≡ takers_of (done ++ w ∷ [])
  lanes_more done w lanes later lane is one all =
      is ∙ ap₂ (λ ls l. ls ++ l ∷ []) all one ∙ sym (map-append (λ (x : Worked S H). x.taker) done (w ∷ []))

  -- workers were started for the first jobs
  pub started_first : (hs : List (PromisedHandle (Worked S H) WorkOf)) (done rest all : List (Job S H)) → done ++ rest ≡ all → map handle_lanes hs ≡ map job_lanes done → IsBeginning (map handle_lanes hs) (map job_lanes all)
  started_first hs done rest all split lanes =
      (map job_lanes rest, ap (map job_lanes) (sym split) ∙ map-append job_lanes done rest ∙ ap (λ l. l ++ map job_lanes rest) (sym lanes))
