use Rattle.shard.proofs.Common.{◌≡◌, ◌+◌, List, [], ◌∷◌, ◌++◌, Option, map, take, sym, ap, subst, ◌∙◌, append_assoc, append-nil, option_to_list, Placed, Back, Item, One, records, put_of, records_next, HasWorked}
use Rattle.shard.proofs.worker.Worker.apply_block.Goals as goal
use Rattle.shard.proofs.worker.Worker.apply_block.Goals.{in-Some, in_default}

pub loop-item-preserved : goal.loop-item-preserved
loop-item-preserved g c =
    let i = c.loop-item.item-index in
    let block = c.args.block.now in
    let P : List Placed → Type 0 = λ l. HasWorked l c.take_item.new.self.shard (put_of c.loop-item.self.back ++ map One (option_to_list c.take_item.result)) c.take_item.new.self.stopped in
    let worked : (u : List Placed) → HasWorked u c.args.self.now.shard (put_of c.args.self.now.back) c.args.self.now.stopped → P (u ++ records (take (i + 1) block)) =
    λ u h. subst P (append_assoc u (records (take i block)) _ ∙ ap (λ (l : List Placed). u ++ l) (sym (records_next block i _ c.loop-item-test.true))) (c.take_item.ensures.worked (u ++ records (take i block)) (c.loop-item.invariant.worked u h)) in
    let put = put_of c.loop-item.self.back in
    let Q : List (Item Back) → Type 0 = λ all. (u : List Placed) → HasWorked u c.args.self.now.shard (put_of c.args.self.now.back) c.args.self.now.stopped → HasWorked (u ++ records (take (i + 1) block)) c.take_item.new.self.shard all c.take_item.new.self.stopped in
    elim c.match-take_item.branch [
      | in-Some w ↦
          (let adds : put_of w.put_back.new.back ≡ put ++ map One (option_to_list c.take_item.result) =
          w.put_back.ensures.put ∙ ap (λ b. put_of b ++ One w.in-Some.back ∷ []) c.take_item.ensures.back ∙ ap (λ (o : Option Back). put ++ map One (option_to_list o)) (sym w.in-Some.is) in
          record {
            same_back = ap (λ s. s.back.lane) w.self-is ∙ w.put_back.ensures.lane ∙ ap (λ s. s.lane) c.take_item.ensures.back ∙ c.loop-item.invariant.same_back;
            worked = λ u h. subst (λ s. HasWorked (u ++ records (take (i + 1) block)) s.shard (put_of s.back) s.stopped) (sym w.self-is) (subst Q (sym adds) worked u h);
          })
      | in_default w ↦
          (let adds : put_of c.take_item.new.self.back ≡ put ++ map One (option_to_list c.take_item.result) =
          ap put_of c.take_item.ensures.back ∙ sym (append-nil put) ∙ ap (λ (o : Option Back). put ++ map One (option_to_list o)) (sym w.in_default.is) in
          record {
            same_back = ap (λ s. s.back.lane) w.self-is ∙ ap (λ s. s.lane) c.take_item.ensures.back ∙ c.loop-item.invariant.same_back;
            worked = λ u h. subst (λ s. HasWorked (u ++ records (take (i + 1) block)) s.shard (put_of s.back) s.stopped) (sym w.self-is) (subst Q (sym adds) worked u h);
          })
    ]
