use Rattle.detect.proofs.Common.{◌≡◌, ℕ, vec_len, List, map, inl, refl, sym, ap, subst, ◌∙◌, arith, map-map, RaceAt, placed, records_of, Collection, KeepsBest, IsCollected, ends_refused, refused_for_want, HasRoom, takers_of, IsCompared}
use Rattle.detect.proofs.RunAnswers.{trouble_of, failed_run, none_refused, finished_of, of_good}
use Rattle.shard.proofs.Shares.{in_order_of_part, rise-part}
use Rattle.detect.proofs.RunReported.{rising_from, run_of_takers, took_shares, run_finds}
use Rattle.detect.proofs.closing.close.Goals as goal

pub returns-in_err-first_trouble-clause-answers : goal.returns-in_err-first_trouble-clause-answers
returns-in_err-first_trouble-clause-answers g c = λ part n records depths change some most h.
    let done = c.args.done in
    let reason = trouble_of _ done.reading.gathering.collector.refused _ done.outcome c.first_trouble.result (ap (λ (k : Collection). k.refused) c.settle-outcome.ensures.collector) c.settle-outcome.ensures.outcome c.first_trouble.ensures.refused c.first_trouble.ensures.none_refused in
    failed_run part n records depths change done done.reading.gathering.collector.refused c.first_trouble.result c.from_residual.result _ c.in_err-first_trouble.was c.from_residual.ensures.1 reason.0 reason.1 h

pub returns-in_err-report-clause-answers : goal.returns-in_err-report-clause-answers
returns-in_err-report-clause-answers g c = λ part n records depths change some most h. ends_refused _ _ _ _ _ _ _ c.from_residual-in_err-report.ensures.1 (refused_for_want _ _ _ _ _ (inl refl))

pub returns-clause-answers : goal.returns-clause-answers
returns-clause-answers g c = λ part n records depths change some most h.
    let done = c.args.done in
    let settled = c.settle-outcome in
    let why = trouble_of _ done.reading.gathering.collector.refused _ done.outcome c.first_trouble.result (ap (λ (k : Collection). k.refused) settled.ensures.collector) settled.ensures.outcome c.first_trouble.ensures.refused c.first_trouble.ensures.none_refused in
    let good = none_refused done.reading.gathering.collector.refused done.outcome c.first_trouble.result _ c.in_ok-first_trouble.was why.0 why.1 in
    let ends = finished_of part n records depths change done done.reading.gathering.collector.refused c.first_trouble.result _ c.in_ok-first_trouble.was why.0 why.1 h in
    let f = ends.says in
    let same = settled.ensures.same in
    let u = records_of part (placed ends.trace) in
    let rising = rising_from 0 _ (rise-part part ends.trace most ends.read.whole.well_nested) in
    let count : vec_len done.workers ≡ n = omega (arith, f.workers, done.workers.ok.0) in
    let compared = subst (λ m. IsCompared m done) count settled.ensures.compared in
    let from = run_of_takers n done u rising f compared c.routers.ensures.takes in
    let answers = run_finds n done u c.into_run.result some (λ k. in_order_of_part k n part ends.trace most ends.read.whole.well_nested) f
    (record {
      share_taken = took_shares n done u f from c.runs.ensures.whole;
      compared = compared;
      takers = takers_of settled.result.workers.items;
      lanes = c.into_run.ensures.lanes;
      same = map-map (λ t. t.taken) (λ w. w.taker) settled.result.workers.items ∙ same.taken;
      emptied = λ k lt. settled.ensures.emptied k (omega (arith, lt, count));
      counts = c.into_run.ensures.taken ∙ same.counts;
      lane_count_is = omega (arith, c.into_run.result.lanes.ok.0, c.into_run.ensures.lane_count, settled.result.workers.ok.0, same.count, f.workers);
    })
    good
    (λ held holds.
    let P : List RaceAt → Type 0 = IsCollected held in
    subst P (sym c.into_run.ensures.report) (c.in_ok-report.ensures.ok held (subst (KeepsBest held) (sym settled.ensures.collector) holds))) in
    record { trace = ends.trace; read = ends.read; says = answers }

pub returns-clause-lanes : goal.returns-clause-lanes
returns-clause-lanes g c =
    let workers = c.settle-outcome.result.workers.items in
    ap (map (λ t. t.lane)) c.into_run.ensures.lanes ∙ map-map (λ t. t.lane) (λ w. w.taker) workers ∙ c.settle-outcome.ensures.same.to_shards

pub into_run-requires : goal.into_run-requires
into_run-requires g c =
    let done = c.args.done in
    let P : ℕ → Type 0 = λ m. HasRoom m c.args.lists in
    let count : vec_len done.workers ≡ vec_len c.settle-outcome.result.workers = omega (arith, done.workers.ok.0, c.settle-outcome.ensures.same.count, c.settle-outcome.result.workers.ok.0) in
    let cause = trouble_of _ done.reading.gathering.collector.refused _ done.outcome c.first_trouble.result (ap (λ (k : Collection). k.refused) c.settle-outcome.ensures.collector) c.settle-outcome.ensures.outcome c.first_trouble.ensures.refused c.first_trouble.ensures.none_refused in
    record { room = subst P count (of_good _ done.reading.gathering.collector.refused done.outcome c.first_trouble.result _ c.in_ok-first_trouble.was cause.0 cause.1 c.requires.room) }
