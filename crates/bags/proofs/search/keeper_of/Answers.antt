use Rattle.std.proofs.lemmas.List.{length-drop}
use Rattle.std.proofs.Common.{Bor, Bool, IsTrue, ◌↔◌, false, take, take_all, refl, ◌≡◌, ℕ, ◌+◌, ◌-◌, ◌/◌, ◌<◌, ◌≤◌, length, drop, sym, subst, ap, ◌∙◌, List, arith}
use Rattle.std.proofs.Math.Nat.{lt_of_not-le}
use Rattle.std.proofs.lemmas.Bool.{both_ways}
use Rattle.bags.specs.Stretch.{Stretch}
use Rattle.bags.specs.Search.{first_at, Start, IsStart}
use Rattle.bags.proofs.Segments.{first_at_is}
use Rattle.bags.proofs.Halving.{Stepped, longest, at_newer, at_older, more_than_one, at_second, after_yes, after_no, found, digits_most}
use Rattle.bags.proofs.search.keeper_of.Goals as goal
use Rattle.bags.proofs.search.keeper_of.Goals.{then-begins_by, else-begins_by+else-start-eq1+then-start-step+else-not-begins_by, else-begins_by+else-start-eq1+else-start-step, then-begins_by-2, else-begins_by-2}

-- a slice up to the end
rest : (ss : List Stretch) (start : ℕ) → start ≤ length ss → take (length ss - start) (drop start ss) ≡ drop start ss
rest ss start within = take_all (length ss - start) (drop start ss) (omega (arith, length-drop start ss))

-- a stretch that doesn't begin by a procedure
above : (s : Stretch) (procedure : ℕ) (by : Bool) → (IsTrue by ↔ (s.first ≤ procedure)) → by ≡ false → procedure < s.first
above s procedure by says false_is = lt_of_not-le (λ q. both_ways _ false_is (says.1 q))

pub overflow_sub-part : goal.overflow_sub-part
overflow_sub-part c =
    let ss : List Stretch = c.args.stretches.now in
    let starts = subst (IsStart (length ss)) (sym c.start.view_is) c.requires.start in
    (longest c.start.inside.longest (length ss) (omega (arith, starts.within)) starts.long).within

-- the same step and count by other names
stepped : (ss part : List Stretch) (s t n m p : ℕ) → s ≡ t → n ≡ m → Stepped ss part t m p → Stepped ss part s n p
stepped ss part s t n m p step count h = subst (λ (k : ℕ). Stepped ss part k n p) (sym step) (subst (λ (k : ℕ). Stepped ss part t k p) (sym count) h)

pub loop-step-init : goal.loop-step-init
loop-step-init c =
    let ss : List Stretch = c.args.stretches.now in
    let p : ℕ = c.args.procedure in
    let start : Start = record { longest = c.start.inside.longest; middle = c.start.inside.middle } in
    let starts : IsStart (length ss) start = subst (IsStart (length ss)) (sym c.start.view_is) c.requires.start in
    let some : 0 < length ss = omega (arith, starts.within) in
    let l = longest start.longest (length ss) some starts.long in
    let first : c.index-stretches-start.result.first ≡ first_at ss start.middle
    = ap (λ (s : Stretch). s.first) c.index-stretches-start.is ∙ first_at_is ss start.middle c.index-stretches-start.result starts.within in
    let one : c.begins_by.new.probes ≡ 1 = omega (arith, c.begins_by.ensures.counted, c.requires.uncounted) in
    elim c.if-begins_by.branch [
      | then-begins_by w ↦ stepped ss c.if-begins_by.part.now c.if-begins_by.step (start.longest / 2) c.if-begins_by.probes 1 p w.step-is (w.probes-is ∙ one)
          (at_newer ss c.if-begins_by.part.now start.longest p some starts.long
          (ap (λ (b : Bor (List Stretch)). b.now) w.part-is ∙ rest ss (length ss - start.longest) (omega arith))
          (omega (arith, first, w.if-begins_by.ensures.by.0 refl, c.requires.ascending (length ss - start.longest) start.middle (omega (arith, starts.newer)) starts.within)))
      | else-begins_by+else-start-eq1+then-start-step+else-not-begins_by w ↦
          let before : p < first_at ss start.middle = omega (arith, first, above c.index-stretches-start.result p c.begins_by.result c.begins_by.ensures.by w.if-begins_by.false) in
          let more : 1 < length ss = more_than_one ss start p starts.within w.if-start-eq1.false c.requires.first before in
          let second : w.index-stretches-1.result.first ≡ first_at ss 1
          = ap (λ (s : Stretch). s.first) w.index-stretches-1.is ∙ first_at_is ss 1 w.index-stretches-1.result more in
          stepped ss c.if-begins_by.part.now c.if-begins_by.step (start.longest / 2 / 2) c.if-begins_by.probes 2 p (w.step-is ∙ omega arith)
          (w.probes-is ∙ omega (arith, w.begins_by-then-start-step.ensures.counted, one))
          (at_second ss c.if-begins_by.part.now start (start.longest / 2) p starts refl w.if-start-step.true w.if-start-eq1.false
          (ap (λ (b : Bor (List Stretch)). b.now) w.part-is ∙ rest ss 1 (omega arith))
          c.requires.first
          (omega (arith, second, w.if-not-begins_by.false)) before c.requires.ascending)
      | else-begins_by+else-start-eq1+else-start-step w ↦ stepped ss c.if-begins_by.part.now c.if-begins_by.step (start.longest / 2) c.if-begins_by.probes 1 p w.step-is (w.probes-is ∙ one)
          (subst (λ (b : Bor (List Stretch)). Stepped ss b.now (start.longest / 2) 1 p) (sym w.part-is)
          (let same : start.middle ≡ length ss - start.longest = omega (arith, starts.exact w.if-start-eq1.false) in
          at_older ss start.longest p some starts.long c.requires.first
          (subst (λ (n : ℕ). p < first_at ss n) same
          (omega (arith, first, above c.index-stretches-start.result p c.begins_by.result c.begins_by.ensures.by w.if-begins_by.false))) c.requires.ascending))
    ]

pub begins_by-requires-in-loop-step : goal.begins_by-requires-in-loop-step
begins_by-requires-in-loop-step c = omega (arith, c.loop-step.invariant.counted, digits_most (length c.args.stretches.now) (omega arith))

pub loop-step-preserved : goal.loop-step-preserved
loop-step-preserved c =
    let ss : List Stretch = c.args.stretches.now in
    let first : c.index-part-step.result.first ≡ first_at c.loop-step.part.now c.loop-step.step
    = ap (λ (s : Stretch). s.first) c.index-part-step.is ∙ first_at_is c.loop-step.part.now c.loop-step.step c.index-part-step.result (omega (arith, c.loop-step.invariant.inside)) in
    subst (λ (n : ℕ). Stepped ss c.if-begins_by-2.part.now (c.loop-step.step / 2) n c.args.procedure) (sym c.begins_by-in-loop-step.ensures.counted)
    (elim c.if-begins_by-2.branch [
      | then-begins_by-2 w ↦ after_yes ss c.loop-step.part.now c.if-begins_by-2.part.now c.loop-step.step c.loop-step.probes c.args.procedure c.loop-step.invariant c.loop-step-test.true
          (ap (λ (b : Bor (List Stretch)). b.now) w.part-is ∙ rest c.loop-step.part.now c.loop-step.step (omega (arith, c.loop-step.invariant.inside)))
          (omega (arith, first, w.if-begins_by-2.ensures.by.0 refl))
      | else-begins_by-2 w ↦ subst (λ (b : Bor (List Stretch)). Stepped ss b.now (c.loop-step.step / 2) (c.loop-step.probes + 1) c.args.procedure) (sym w.part-is)
          (after_no ss c.loop-step.part.now c.loop-step.step c.loop-step.probes c.args.procedure c.loop-step.invariant c.loop-step-test.true
          (omega (arith, first, above c.index-part-step.result c.args.procedure c.begins_by-in-loop-step.result c.begins_by-in-loop-step.ensures.by w.if-begins_by-2.false)))
    ])

pub returns-clause-keeper : goal.returns-clause-keeper
returns-clause-keeper c =
    found c.args.stretches.now c.loop-step.part.now c.loop-step.step c.loop-step.probes c.args.procedure c.index-part-0.result c.loop-step.invariant
    (omega (arith, c.loop-step-test.false)) c.index-part-0.is

pub returns-clause-probes : goal.returns-clause-probes
returns-clause-probes c = omega (arith, c.loop-step.invariant.counted)
