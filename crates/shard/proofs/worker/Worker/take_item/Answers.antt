use Rattle.shard.proofs.Common.{◌≡◌, Bool, ◌+◌, ◌++◌, [], ◌∷◌, List, Option, Some, None, map, true, false, refl, sym, ap, subst, ◌∙◌, append-nil, option_to_list, RaceAt, Placed, Back, Item, One, race_of, state_of, records, put_of, ShardState, Accepts, capped_count, HasWorked}
use Rattle.shard.proofs.Works.{worked_applied, worked_refused, worked_skipped}
use Rattle.shard.proofs.worker.Worker.take_item.Goals as goal
use Rattle.shard.proofs.worker.Worker.take_item.Goals.{then-self-via-then-self, then-self-via-else-self+then-not-accepts}

-- an item that has a record
of_item : (u : List Placed) (item : Item Placed) (p : Placed) (s : ShardState) (put : List (Item Back)) (stopped : Bool) → item ≡ One p → HasWorked (u ++ p ∷ []) s put stopped → HasWorked (u ++ records (item ∷ [])) s put stopped
of_item u item p s put stopped is h = subst (λ x. HasWorked (u ++ records (x ∷ [])) s put stopped) (sym is) h

pub returns-in_default-clause-worked : goal.returns-in_default-clause-worked
returns-in_default-clause-worked g c u h =
    let P : Item Placed → Type 0 = λ x. HasWorked (u ++ records (x ∷ [])) c.args.self.now.shard (put_of c.args.self.now.back ++ []) c.args.self.now.stopped in
    let Q : List Placed → Type 0 = λ l. HasWorked l c.args.self.now.shard (put_of c.args.self.now.back ++ []) c.args.self.now.stopped in
    let R : List (Item Back) → Type 0 = λ put. HasWorked u c.args.self.now.shard put c.args.self.now.stopped in
    subst P (sym c.in_default.is) (subst Q (sym (append-nil u)) (subst R (sym (append-nil _)) h))

pub returns-then-self-clause-worked : goal.returns-then-self-clause-worked
returns-then-self-clause-worked g c u h =
    let refuses : c.args.self.now.stopped ≡ false → Accepts c.args.self.now.shard.sp_bags c.in-One.placed.place → ⊥ = elim c.then-self.branch [
      | then-self-via-then-self w ↦ λ e a. absurd (let t = w.if-self.true in cc)
      | then-self-via-else-self+then-not-accepts w ↦ λ e a. absurd (let t = w.accepts.ensures.1 a in let f = w.if-not-accepts.true in cc)
    ] in
    let P : List (Item Back) → Type 0 = λ put. HasWorked (u ++ c.in-One.placed ∷ []) c.count_one.new.self put true in
    of_item u c.args.item c.in-One.placed _ _ _ c.in-One.is (subst P (sym (append-nil _)) (worked_skipped u c.in-One.placed c.args.self.now.shard c.count_one.new.self _ c.args.self.now.stopped refuses (ap (λ (s : ShardState). s.taken) c.count_one.ensures) h))

pub returns-in_err-race-in-Ok-clause-worked : goal.returns-in_err-race-in-Ok-clause-worked
returns-in_err-race-in-Ok-clause-worked g c u h =
    let P : Option RaceAt → Type 0 = λ o. o ≡ race_of (state_of c.args.self.now.shard.sp_bags) c.in-One.placed.place c.in-One.placed.what in
    let Q : Option Back → Type 0 = λ o. HasWorked (u ++ c.in-One.placed ∷ []) c.apply.new.self (put_of c.args.self.now.back ++ map One (option_to_list o)) c.args.self.now.stopped in
    let none : c.from_residual.result ≡ None = c.from_residual.ensures in
    of_item u c.args.item c.in-One.placed _ _ _ c.in-One.is (subst Q (sym none) (worked_applied u c.in-One.placed c.args.self.now.shard c.apply.new.self (put_of c.args.self.now.back) _ None c.args.self.now.stopped refl c.if-self.false (c.accepts.ensures.0 c.if-not-accepts.false)
    c.in-Ok.ensures.applied c.in-Ok.ensures.taken (subst P c.in_err-race-in-Ok.was c.in-Ok.ensures.race) h))

pub returns-in_ok-race-in-Ok-clause-worked : goal.returns-in_ok-race-in-Ok-clause-worked
returns-in_ok-race-in-Ok-clause-worked g c u h =
    let P : Option RaceAt → Type 0 = λ o. o ≡ race_of (state_of c.args.self.now.shard.sp_bags) c.in-One.placed.place c.in-One.placed.what in
    of_item u c.args.item c.in-One.placed _ _ _ c.in-One.is (worked_applied u c.in-One.placed c.args.self.now.shard c.apply.new.self (put_of c.args.self.now.back) _ (Some c.in_ok-race-in-Ok.field-0) c.args.self.now.stopped refl c.if-self.false (c.accepts.ensures.0 c.if-not-accepts.false)
    c.in-Ok.ensures.applied c.in-Ok.ensures.taken (subst P c.in_ok-race-in-Ok.was c.in-Ok.ensures.race) h)

pub returns-in-Err-clause-worked : goal.returns-in-Err-clause-worked
returns-in-Err-clause-worked g c u h =
    of_item u c.args.item c.in-One.placed _ _ _ c.in-One.is (worked_refused u c.in-One.placed c.args.self.now.shard c.count_one-in-Err.new.self (put_of c.args.self.now.back) _ c.args.self.now.stopped refl c.if-self.false (c.accepts.ensures.0 c.if-not-accepts.false)
    (ap (λ (s : ShardState). s.taken) c.count_one-in-Err.ensures ∙ ap (λ n. capped_count (n + 1)) c.in-Err.ensures.refused.taken) h)
