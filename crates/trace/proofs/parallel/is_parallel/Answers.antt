use Rattle.trace.proofs.Common.{ℕ, ◌+◌, ◌-◌, ◌≡◌, Bool, false, List, get_or, take, drop, refl, arith, Record, Spawn}
use Rattle.trace.proofs.Walks.{Item, Walks, item_at, walk_next, walk_last, walk_opener, walk_return, walk_return_out, walk_sync, walk_sync_in, walk_access}
use Rattle.trace.proofs.parallel.is_parallel.Goals as goal
use Rattle.trace.proofs.parallel.is_parallel.Goals.{in-Return, in-Return-2, in-Sync, in-Sync-2, in-Read, in-Read-2, in-Spawn}

pub loop-record-preserved : goal.loop-record-preserved
loop-record-preserved c = record {
  near = elim c.match-record.branch [
    | in-Return b ↦ omega (arith, c.loop-record.invariant.near)
    | in-Return-2 b ↦ omega (arith, c.loop-record.invariant.near)
    | in-Sync b ↦ omega (arith, c.loop-record.invariant.near)
    | in-Sync-2 b ↦ omega (arith, c.loop-record.invariant.near)
    | in-Read b ↦ omega (arith, c.loop-record.invariant.near)
    | in-Read-2 b ↦ omega (arith, c.loop-record.invariant.near)
    | in-Spawn b ↦ omega (arith, c.loop-record.invariant.near)
  ];
  earlier = elim c.match-record.branch [
    | in-Return b ↦ omega (arith, c.loop-record.invariant.earlier, b.opener_of-shallow.ensures.before, b.shallow-is)
    | in-Return-2 b ↦ omega (arith, c.loop-record.invariant.earlier)
    | in-Sync b ↦ omega (arith, c.loop-record.invariant.earlier)
    | in-Sync-2 b ↦ omega (arith, c.loop-record.invariant.earlier)
    | in-Read b ↦ omega (arith, c.loop-record.invariant.earlier)
    | in-Read-2 b ↦ omega (arith, c.loop-record.invariant.earlier)
    | in-Spawn b ↦ omega (arith, c.loop-record.invariant.earlier)
  ];
  walked = elim c.match-record.branch [
    | in-Return b ↦ walk_next w i k a _ _ _ _ _
        (walk_return_out w i t a low _ p _ _ c.requires.some (omega (arith, c.requires.some)) (item _ refl) b.in-Return.is b.if-above-eq0.true b.opener_of-shallow.ensures.opener b.is_spawn-pending.ensures s)
        b.above-is b.shallow-is b.pending-is
    | in-Return-2 b ↦ walk_next w i k (a - 1) _ low _ p _ (walk_return w i t a low p _ (item _ refl) b.in-Return-2.is (omega (arith, b.if-above-eq0.false)) s) b.above-is b.shallow-is b.pending-is
    | in-Sync b ↦ walk_next w i k a _ low _ false _ (walk_sync w i t a low p _ c.requires.some (item _ refl) b.in-Sync.is b.if-above-eq0-2.true s) b.above-is b.shallow-is b.pending-is
    | in-Sync-2 b ↦ walk_next w i k a _ low _ p _ (walk_sync_in w i t a low p _ (item _ refl) b.in-Sync-2.is (omega (arith, b.if-above-eq0-2.false)) s) b.above-is b.shallow-is b.pending-is
    | in-Read b ↦ walk_next w i k a _ low _ p _ (walk_access w i t a low p _ (item _ refl) b.in-Read.is s) b.above-is b.shallow-is b.pending-is
    | in-Read-2 b ↦ walk_next w i k a _ low _ p _ (walk_access w i t a low p _ (item _ refl) b.in-Read.is s) b.above-is b.shallow-is b.pending-is
    | in-Spawn b ↦ walk_next w i k (a + 1) _ low _ p _ (walk_opener w i t a low p _ (item _ refl) b.in-Spawn.is s) b.above-is b.shallow-is b.pending-is
  ];
}
  where
    w : List Record
    w = c.args.records.now

    i : ℕ
    i = c.args.i

    k : ℕ
    k = c.loop-record.record-index

    t : ℕ
    t = c.args.i - 1 + c.loop-record.record-index

    a : ℕ
    a = c.loop-record.above

    low : ℕ
    low = c.loop-record.shallow

    p : Bool
    p = c.loop-record.pending

    s : Walks c.args.records.now c.args.i (c.args.i - 1 + c.loop-record.record-index) c.loop-record.above c.loop-record.shallow c.loop-record.pending
    s = c.loop-record.invariant.walked

    item : (r : Record) → get_or (take (c.args.j - 1 - (c.args.i - 1)) (drop (c.args.i - 1) c.args.records.now)) c.loop-record.record-index Spawn ≡ r
        → Item c.args.records.now (c.args.i - 1 + c.loop-record.record-index) r
    item r e = item_at c.args.records.now c.args.i c.args.j c.loop-record.record-index r Spawn c.requires.some c.requires.in_order c.requires.within c.loop-record-test.true e

pub returns : goal.returns
returns c = walk_last c.args.records.now c.args.i c.args.j c.loop-record.record-index c.loop-record.above c.loop-record.shallow c.loop-record.pending c.requires.some c.requires.in_order c.requires.within
    c.loop-record.auto.record-index-end c.loop-record-test.false c.loop-record.invariant.walked
