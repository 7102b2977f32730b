use Rattle.trace.proofs.Common.{ℕ, suc, ◌≡◌, ◌-◌, List, get_or, refl, arith, Record, Spawn, Backs, Before, before_at, back_first, back_from, back_next, back_opener, back_return, back_stays, back_found, back_last}
use Rattle.trace.proofs.parallel.opener_of.Goals as goal
use Rattle.trace.proofs.parallel.opener_of.Goals.{in-Spawn-2, in-Return, in-Sync}

pub loop-back-init : goal.loop-back-init
loop-back-init c = record { near = omega arith; walked = back_first c.args.records.now c.args.place }

pub returns-in-Spawn-clause-opener : goal.returns-in-Spawn-clause-opener
returns-in-Spawn-clause-opener c =
    let l = c.loop-back in
    back_found c.args.records.now c.args.place (c.args.place - l.back) l.inside _ (before_at c.args.records.now c.args.place l.back _ Spawn l.auto.back c.loop-back-test.true c.requires.within refl)
    c.in-Spawn.is c.if-inside-eq0.true (back_from c.args.records.now c.args.place l.back l.inside l.auto.back c.loop-back-test.true l.invariant.walked)

pub overflow_add-inside : goal.overflow_add-inside
overflow_add-inside c = omega (arith, c.loop-back.invariant.near, c.loop-back-test.true, c.ranges.place.fits)

pub loop-back-preserved : goal.loop-back-preserved
loop-back-preserved c = record {
  near = elim c.match-records-place.branch [
    | in-Spawn-2 b ↦ omega (arith, c.loop-back.invariant.near, b.inside-is)
    | in-Return b ↦ omega (arith, c.loop-back.invariant.near, b.inside-is)
    | in-Sync b ↦ omega (arith, c.loop-back.invariant.near, b.inside-is)
  ];
  walked = elim c.match-records-place.branch [
    | in-Spawn-2 b ↦ back_next w place back _ _ b.inside-is (back_opener w place (place - back) inside _ (item _ refl) b.in-Spawn-2.is (omega (arith, b.if-inside-eq0.false)) s)
    | in-Return b ↦ back_next w place back _ _ b.inside-is (back_return w place (place - back) inside _ (item _ refl) b.in-Return.is s)
    | in-Sync b ↦ back_next w place back _ _ b.inside-is (back_stays w place (place - back) inside _ (item _ refl) b.in-Sync.is s)
  ];
}
  where
    w : List Record
    w = c.args.records.now

    place : ℕ
    place = c.args.place

    back : ℕ
    back = c.loop-back.back

    inside : ℕ
    inside = c.loop-back.inside

    s : Backs c.args.records.now c.args.place (suc (c.args.place - c.loop-back.back)) c.loop-back.inside
    s = back_from c.args.records.now c.args.place c.loop-back.back c.loop-back.inside c.loop-back.auto.back c.loop-back-test.true c.loop-back.invariant.walked

    item : (r : Record) → get_or c.args.records.now (c.args.place - c.loop-back.back - 1) Spawn ≡ r → Before c.args.records.now c.args.place (c.args.place - c.loop-back.back) r
    item r e = before_at c.args.records.now c.args.place c.loop-back.back r Spawn c.loop-back.auto.back c.loop-back-test.true c.requires.within e

pub returns-clause-opener : goal.returns-clause-opener
returns-clause-opener c = back_last c.args.records.now c.args.place c.loop-back.back c.loop-back.inside c.loop-back.auto.back-end c.loop-back-test.false c.loop-back.invariant.walked
