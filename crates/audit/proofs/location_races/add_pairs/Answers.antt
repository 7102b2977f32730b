use Rattle.audit.proofs.Common.{◌≡◌, ◌+◌, ℕ, List, length, subst, sym, ◌∙◌, ap, arith, slice_get-get_or, Access, AddsPairs}
use Rattle.audit.proofs.PairLemmas.{adds_pair, adds_no_read, adds_no_parallel}
use Rattle.audit.proofs.location_races.add_pairs.Goals as goal
use Rattle.audit.proofs.location_races.add_pairs.Goals.{then-one_writes+then-is_parallel+in_ok-push, else-one_writes, else-one_writes-via-then-one_writes+else-is_parallel, else-one_writes-via-else-one_writes}

pub loop-first-preserved : goal.loop-first-preserved
loop-first-preserved c = elim c.if-one_writes.branch [
  | then-one_writes+then-is_parallel+in_ok-push w ↦
      (let P : List (Access × Access) → Type 0 = AddsPairs c.args.meetings.now c.args.kept.now c.args.second (c.loop-first.first-index + 1) c.args.pairs.now.items in
      subst P (sym (ap (λ v. v.items) w.pairs-is ∙ w.in_ok-push.ensures.items))
      (adds_pair c.args.meetings.now c.args.kept.now c.args.second c.loop-first.first-index _ (slice_get-get_or c.args.kept.now c.loop-first.first-index _ c.loop-first-test.true)
      c.args.pairs.now.items c.loop-first.pairs.items (sym w.if-one_writes.ensures) w.if-is_parallel.ensures c.loop-first.invariant))
  | else-one_writes w ↦
      (let P : List (Access × Access) → Type 0 = AddsPairs c.args.meetings.now c.args.kept.now c.args.second (c.loop-first.first-index + 1) c.args.pairs.now.items in
      subst P (sym (ap (λ v. v.items) w.pairs-is)) (elim w.else-one_writes.branch [
        | else-one_writes-via-then-one_writes+else-is_parallel w' ↦ adds_no_parallel c.args.meetings.now c.args.kept.now c.args.second c.loop-first.first-index _
            (slice_get-get_or c.args.kept.now c.loop-first.first-index _ c.loop-first-test.true) c.args.pairs.now.items c.loop-first.pairs.items w'.if-is_parallel.ensures c.loop-first.invariant
        | else-one_writes-via-else-one_writes w' ↦ adds_no_read c.args.meetings.now c.args.kept.now c.args.second c.loop-first.first-index _
            (slice_get-get_or c.args.kept.now c.loop-first.first-index _ c.loop-first-test.true) c.args.pairs.now.items c.loop-first.pairs.items (sym w'.if-one_writes.ensures) c.loop-first.invariant
      ]))
]

pub returns : goal.returns
returns c =
    let e : c.loop-first.first-index ≡ length c.args.kept.now = omega (arith, c.loop-first.auto.first-index-end) in
    let P : ℕ → Type 0 = λ n. AddsPairs c.args.meetings.now c.args.kept.now c.args.second n c.args.pairs.now.items c.loop-first.pairs.items in
    subst P e c.loop-first.invariant
