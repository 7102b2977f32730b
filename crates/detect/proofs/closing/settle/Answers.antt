use Rattle.detect.proofs.Common.{ℕ, ◌<◌, vec_len, List, refl, sym, subst, arith, Placed, Back, Item, taken_by, IsSettled, IsEmptied, given_by}
use Rattle.detect.proofs.Receipts.{front_same, same_work_trans}
use Rattle.detect.proofs.closing.settle.Goals as goal

pub into_ends-ends-requires : goal.into_ends-ends-requires
into_ends-ends-requires g c = c.requires.closed.marked

pub settle_shards-requires : goal.settle_shards-requires
settle_shards-requires g c = front_same _ _ _ _ refl c.into_ends-ends.ensures.lanes c.requires.closed.to_shards

pub settle_backs-requires : goal.settle_backs-requires
settle_backs-requires g c = front_same _ _ _ _ c.settle_shards.ensures.same.from_shards refl c.requires.closed.from_shards

pub returns : goal.returns
returns g c =
    let done = c.args.done in
    let same = c.settle_shards.ensures.same in
    let P : List (List (Item Placed)) → Type 0 = λ puts. (k : ℕ) → k < vec_len done.workers → IsSettled (taken_by done.workers.items) puts k in
    let Q : List (List (Item Back)) → Type 0 = λ backs. (k : ℕ) → k < vec_len done.workers → IsSettled (given_by done.reading.gathering.backs.items) backs k in
    record {
      compared = record {
        to_shards = subst P c.into_ends-ends.ensures.puts c.settle_shards.ensures.settled;
        from_shards = subst Q same.backs (λ k lt. c.settle_backs.ensures.settled k (omega (arith, lt, done.workers.ok.0, same.count, c.settle_shards.new.workers.ok.0)));
      };
      emptied = λ k lt. subst (λ takers. IsEmptied takers k) (sym c.settle_backs.ensures.takers) (c.settle_shards.ensures.emptied k lt);
      same = same_work_trans _ _ _ same c.settle_backs.ensures.same;
      outcome = refl;
      collector = refl;
    }
