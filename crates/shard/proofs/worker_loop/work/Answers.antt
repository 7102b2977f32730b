use Rattle.shard.proofs.Common.{rules, ◌≡◌, List, [], ◌++◌, length, false, refl, sym, ap, subst, ◌∙◌, Placed, Item, has_mark, records, put_of, records_append, all_to_mark, Back, HasWorked, IsOfShare, PutsFound}
use Rattle.shard.proofs.Works.{worked_new, answers, puts_share}
use Rattle.shard.proofs.worker_loop.work.Goals as goal

pub loop-init : goal.loop-init
loop-init g c =
    let P : List (Item Placed) → Type 0 = λ x. HasWorked (records x) c.args.shard (put_of c.args.back) false in
    let Q : List (Item Back) → Type 0 = λ y. HasWorked [] c.args.shard y false in
    record {
      same_taker = refl;
      same_back = refl;
      before_mark = ap has_mark c.requires.none_taken;
      worked = subst P (sym c.requires.none_taken) (subst Q (sym c.requires.none_put) (worked_new c.args.shard c.requires.new));
    }

pub loop-preserved : goal.loop-preserved
loop-preserved g c =
    let i = c.loop.invariant in
    let same : records c.take_list-count.new.self.taken ≡ records c.loop.taker.taken ++ records c.list.result.now =
    ap records c.take_list-count.ensures.taken ∙ records_append c.loop.taker.taken _ ∙ ap (λ l. records c.loop.taker.taken ++ records l) (sym c.list.ensures) in
    let P : List Placed → Type 0 = λ u. HasWorked u c.apply_block.new.self.shard (put_of c.apply_block.new.self.back) c.apply_block.new.self.stopped in
    record {
      same_taker = c.take_list-count.ensures.lane.0 ∙ i.same_taker;
      same_back = c.apply_block.ensures.lane ∙ i.same_back;
      before_mark = search rules;
      worked = subst P (sym same) (c.apply_block.ensures.worked (records c.loop.taker.taken) i.worked);
    }

pub loop-preserved-then-count-eq0 : goal.loop-preserved-then-count-eq0
loop-preserved-then-count-eq0 g c =
    let i = c.loop.invariant in
    let same : records c.take_list-count.new.self.taken ≡ records c.loop.taker.taken ++ records c.list.result.now =
    ap records c.take_list-count.ensures.taken ∙ records_append c.loop.taker.taken _ ∙ ap (λ l. records c.loop.taker.taken ++ records l) (sym c.list.ensures) in
    let P : List Placed → Type 0 = λ u. HasWorked u c.apply_block.new.self.shard (put_of c.apply_block.new.self.back) c.apply_block.new.self.stopped in
    record {
      same_taker = c.take_list-count.ensures.lane.0 ∙ i.same_taker;
      same_back = c.apply_block.ensures.lane ∙ i.same_back;
      before_mark = search rules;
      worked = subst P (sym same) (c.apply_block.ensures.worked (records c.loop.taker.taken) i.worked);
    }

pub returns-then-ended : goal.returns-then-ended
returns-then-ended g c =
    let i = c.loop.invariant in
    let taken = c.take_list-count.new.self.taken in
    let put = put_of c.apply_block.new.self.back in
    let same : records taken ≡ records c.loop.taker.taken ++ records c.list.result.now =
    ap records c.take_list-count.ensures.taken ∙ records_append c.loop.taker.taken _ ∙ ap (λ l. records c.loop.taker.taken ++ records l) (sym c.list.ensures) in
    let P : List Placed → Type 0 = λ u. HasWorked u c.apply_block.new.self.shard put c.apply_block.new.self.stopped in
    let worked = subst P (sym same) (c.apply_block.ensures.worked (records c.loop.taker.taken) i.worked) in
    let Q : List (Item Back) → Type 0 = λ all. IsOfShare (records taken) → (c.apply_block.new.self.shard.taken ≡ length (records taken)) × PutsFound (records taken) all in
    record {
      same_taker = c.take_list-count.ensures.lane.0 ∙ i.same_taker;
      same_back = c.mark.ensures.lane ∙ c.apply_block.ensures.lane ∙ i.same_back;
      to_mark = all_to_mark taken c.take_list-count.ensures.last (search rules);
      count = worked.taken;
      answers = (put, c.mark.ensures.put, answers _ _ put _ worked);
      shown = c.mark.ensures.shown;
      of_share = subst Q (sym c.mark.ensures.put) (puts_share _ _ put _ worked);
    }
