-- The ends of one shard's lanes more.
use Rattle.detect.proofs.Common.{◌≡◌, ℕ, suc, ◌+◌, List, [], ◌∷◌, ◌++◌, length, length-append, map, refl, sym, ap, ap₂, subst, ◌∙◌, arith, All, AllByRecursion, map-append, Placed, all-push, Taker, put_of, Item, records, Back, Collection, KeepsBest, given_by, all_given, Gathers, Job, IsFreshJob, AllFresh, to_shards, from_shards, AreJobsFrom, IsBetween, IsJobOf, IsTied, All-push, All-nil}
use Rattle.lane.specs.declared.sender.Sender.{Sender}
use Rattle.dag.specs.Backs.{fails}
use Rattle.detect.specs.declared.made.LaneEnds.{LaneEnds}

-- what f says of the one list, g says of the other, and of one element more too
same_more : {X Y Z : Type 0} (f : X → Z) (g : Y → Z) (xs xs' : List X) (x : X) (ys ys' : List Y) (y : Y) → xs' ≡ xs ++ x ∷ [] → ys' ≡ ys ++ y ∷ [] → f x ≡ g y → map f xs ≡ map g ys → map f xs' ≡ map g ys'
same_more f g xs xs' x ys ys' y is is' one all =
    ap (map f) is ∙ map-append f xs (x ∷ []) ∙ ap₂ (λ l z. l ++ z ∷ []) all one ∙ sym (map-append g ys (y ∷ [])) ∙ ap (map g) (sym is')

-- one element more, by its list
one_more : {X : Type 0} (xs xs' : List X) (x : X) (n : ℕ) → xs' ≡ xs ++ x ∷ [] → length xs ≡ n → length xs' ≡ n + 1
one_more xs xs' x n is h = let e = ap length is in omega (arith, e, h, length-append xs (x ∷ []))

none_given : (backs : List (Taker Back)) → AllByRecursion (λ t. t.taken ≡ []) backs → all_given (given_by backs) ≡ []
none_given [] h = refl
none_given (t ∷ backs) h = ap₂ (λ (l : List (Item Back)) (g : List Back). records l ++ g) h.0 (none_given backs h.1)

pub nothing_gathered : (backs : List (Taker Back)) (c : Collection) → AllByRecursion (λ t. t.taken ≡ []) backs → KeepsBest [] c → Gathers (given_by backs) c
nothing_gathered backs c none holds = record {
  none_failed = λ e. ap fails (none_given backs none);
  holds = λ e home. let P : List Back → Type 0 = λ g. KeepsBest g c in subst P (sym (none_given backs none)) holds;
}

module _ {S H : Type 0} where
  pub jobs_more : (capacity index : ℕ) (jobs : List (Job S H)) (job : Job S H) → AreJobsFrom capacity index jobs → IsJobOf capacity (index + length jobs) job → AreJobsFrom capacity index (jobs ++ job ∷ [])
  jobs_more capacity index [] job h is =
      let here : index + 0 ≡ index = omega arith in
      (subst (λ (n : ℕ). IsJobOf capacity n job) here is, tt)
  jobs_more capacity index (j ∷ jobs) job h is =
      let behind : index + suc (length jobs) ≡ suc index + length jobs = omega arith in
      (h.0, jobs_more capacity (suc index) jobs job h.1 (subst (λ (n : ℕ). IsJobOf capacity n job) behind is))

  pub tied_none : (ends : LaneEnds S H) → ends.senders.items ≡ [] → ends.jobs.items ≡ [] → ends.backs.items ≡ [] → IsTied 0 ends
  tied_none ends senders jobs backs =
      let P : List (Job S H) → Type 0 = AllFresh in
      let Q : List (Sender Placed) → Type 0 = All (λ s. put_of s ≡ []) in
      let R : List (Taker Back) → Type 0 = AllByRecursion (λ t. t.taken ≡ []) in
      record {
        senders = ap length senders;
        jobs = ap length jobs;
        backs = ap length backs;
        to_shards_are = ap to_shards jobs ∙ sym (ap (map (λ s. s.lane)) senders);
        from_shards_are = ap from_shards jobs ∙ sym (ap (map (λ t. t.lane)) backs);
        new = subst P (sym jobs) tt;
        none_put = subst Q (sym senders) (All-nil (λ (s : Sender Placed). put_of s ≡ []));
        none_taken = subst R (sym backs) tt;
      }

  pub tied_more : (n : ℕ) (old new : LaneEnds S H) (sender : Sender Placed) (job : Job S H) (back : Taker Back)
      → new.senders.items ≡ old.senders.items ++ sender ∷ [] → new.jobs.items ≡ old.jobs.items ++ job ∷ [] → new.backs.items ≡ old.backs.items ++ back ∷ []
      → IsBetween sender back job → IsTied n old → IsTied (n + 1) new
  tied_more n old new sender job back senders jobs backs between h =
      let P : List (Job S H) → Type 0 = AllFresh in
      let Q : List (Sender Placed) → Type 0 = All (λ s. put_of s ≡ []) in
      let R : List (Taker Back) → Type 0 = AllByRecursion (λ t. t.taken ≡ []) in
      record {
        senders = one_more old.senders.items new.senders.items sender n senders h.senders;
        jobs = one_more old.jobs.items new.jobs.items job n jobs h.jobs;
        backs = one_more old.backs.items new.backs.items back n backs h.backs;
        to_shards_are = same_more (λ (j : Job S H). j.taker.lane) (λ s. s.lane) old.jobs.items new.jobs.items job old.senders.items new.senders.items sender jobs senders between.to_shard h.to_shards_are;
        from_shards_are = same_more (λ (j : Job S H). j.back.lane) (λ t. t.lane) old.jobs.items new.jobs.items job old.backs.items new.backs.items back jobs backs between.from_shard h.from_shards_are;
        new = subst P (sym jobs) (all-push IsFreshJob old.jobs.items job h.new between.new);
        none_put = subst Q (sym senders) (All-push (λ (s : Sender Placed). put_of s ≡ []) old.senders.items sender h.none_put between.none_put);
        none_taken = subst R (sym backs) (all-push (λ (t : Taker Back). t.taken ≡ []) old.backs.items back h.none_taken between.none_taken);
      }
