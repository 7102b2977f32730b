use Rattle.audit.proofs.Common.{◌≡◌, ◌≤◌, List, length, drop, nat_lt, refl, arith, subst, rules, IsPartitionPoint-from_clause, Opener}
use Rattle.audit.proofs.TrailLemmas.{IsOpenerCount, IsLastOpener, last_opener, no_opener}
use Rattle.audit.proofs.ExplainLemmas.{reports_it}
use Rattle.audit.proofs.explanations.reported_of.Goals as goal
use Rattle.audit.proofs.explanations.reported_of.Goals.{in-Some, in-None}

pub returns : goal.returns
returns c w l t n d h is r trail =
    let xs : List Opener = c.args.openers.now in
    let count : IsOpenerCount xs c.args.first.now.place c.partition_point-level.result = (λ sorted. IsPartitionPoint-from_clause (λ (f : Opener). nat_lt f.place c.args.first.now.place) xs c.partition_point-level.result c.partition_point-level.ensures.partitioned sorted
    (λ a q f called. search rules)) in
    let last : IsLastOpener xs c.partition_point-level.result c.match-checked_sub.meeting = elim c.match-checked_sub.branch [
      | in-Some w ↦ last_opener xs c.partition_point-level.result w.in-Some.last c.match-checked_sub.meeting _ (omega (arith, w.in-Some.ensures)) (omega (arith, w.in-Some.ensures, c.partition_point-level.ensures.bound)) w.meeting-is
      | in-None w ↦ no_opener xs c.partition_point-level.result c.match-checked_sub.meeting (omega (arith, w.in-None.ensures)) w.meeting-is
    ] in
    let Firsts : List Opener → Type 0 = λ ys. c.partition_point-level.result ≤ length ys → c.in_ok-openers_below.field-0.items ≡ drop c.partition_point-level.result ys in
    reports_it _ xs c.args.first.now.openers.items c.partition_point-level.ensures.bound count last (subst Firsts c.deref.ensures.value c.in_ok-openers_below.ensures) c.in_ok-openers_below-2.ensures refl w l t h is r.reported r.race r.trail trail
