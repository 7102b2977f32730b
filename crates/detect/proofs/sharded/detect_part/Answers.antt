use Rattle.detect.proofs.Common.{◌≡◌, ◌≤◌, ℕ, inl, refl, sym, ◌∙◌, vec_len, subst, arith, rules, Part, ◌⇝◌, EndsReading, IsWantOfMemoryOrThread, ends_refused, refused_for_want, HasRoom, RunFindsPart, fit_part}
use Rattle.detect.proofs.Endings.{trace_of, refusal_of}
use Rattle.detect.proofs.RunDone.{run_capacity, room_if}
use Rattle.detect.proofs.RunAnswers.{run_ends}
use Rattle.detect.proofs.PartReports.{part_ends}
use Rattle.detect.proofs.sharded.detect_part.Goals as goal

pub close-requires-clause-room : goal.close-requires-clause-room
close-requires-clause-room g c =
    let P : ℕ → Type 0 = λ m. HasRoom m c.in_ok-lists.lists in
    let jobs : vec_len c.args.hashers ≡ vec_len c.in_ok-made.made.jobs = sym (c.in_ok-made.made.jobs.ok.0 ∙ c.in_ok-made.ensures.ready.jobs) in
    room_if c.in_ok-made.made.reading.part _ _ _ _ c.scoped-done.result.0 c.in_ok-lists.lists (subst P (c.len.ensures ∙ jobs) c.in_ok-lists.ensures) c.scoped-done.ensures.1.0

pub close-requires-clause-closed : goal.close-requires-clause-closed
close-requires-clause-closed g c = c.scoped-done.ensures.1.1.0

pub returns-in_err-lists-clause-ends : goal.returns-in_err-lists-clause-ends
returns-in_err-lists-clause-ends g c = ends_refused _ _ _ _ _ _ _ c.from_residual.ensures.1 (refused_for_want _ _ _ _ _ (inl refl))

pub returns-in_err-made-clause-ends : goal.returns-in_err-made-clause-ends
returns-in_err-made-clause-ends g c = ends_refused _ _ _ _ _ _ _ c.from_residual-in_err-made.ensures.1 (refused_for_want _ _ _ _ _ (inl refl))

pub returns-in_err-found-clause-ends : goal.returns-in_err-found-clause-ends
returns-in_err-found-clause-ends g c =
    let jobs : vec_len c.in_ok-made.made.jobs ≡ c.args.plan.shards = c.in_ok-made.made.jobs.ok.0 ∙ c.in_ok-made.ensures.ready.jobs ∙ c.requires in
    let some : 1 ≤ vec_len c.in_ok-made.made.jobs = omega (arith, jobs, c.args.plan.shards_within.0) in
    let P : Part → Type 0 = λ p. EndsReading IsWantOfMemoryOrThread c.args.plan.limits.records c.args.plan.limits.depth (g.R.Source.state c.args.source.now ⇝ g.R.Source.state c.scoped-done.result.1.now) (RunFindsPart p (vec_len c.in_ok-made.made.jobs)) c.close.result in
    ends_refused _ _ _ _ _ _ _ c.from_residual-in_err-found.ensures.1
    (refusal_of _ _ _ _ (RunFindsPart c.args.part c.args.plan.shards) c.close.result
    (run_ends c.args.part g.R.Source.state _ _ _ _ _ _ _ c.close.result jobs (search rules) (subst P c.in_ok-made.ensures.part (c.close.ensures.answers c.in_ok-made.made.reading.part _ _ _ _ some c.args.plan.limits.within c.scoped-done.ensures.1.0)))
    _ c.in_err-found.was)

pub at_locations_of-requires : goal.at_locations_of-requires
at_locations_of-requires g c =
    let jobs : vec_len c.in_ok-made.made.jobs ≡ c.args.plan.shards = c.in_ok-made.made.jobs.ok.0 ∙ c.in_ok-made.ensures.ready.jobs ∙ c.requires in
    let some : 1 ≤ vec_len c.in_ok-made.made.jobs = omega (arith, jobs, c.args.plan.shards_within.0) in
    let P : Part → Type 0 = λ p. EndsReading IsWantOfMemoryOrThread c.args.plan.limits.records c.args.plan.limits.depth (g.R.Source.state c.args.source.now ⇝ g.R.Source.state c.scoped-done.result.1.now) (RunFindsPart p (vec_len c.in_ok-made.made.jobs)) c.close.result in
    let t = trace_of _ _ _ _ _ c.close.result (subst P c.in_ok-made.ensures.part (c.close.ensures.answers c.in_ok-made.made.reading.part _ _ _ _ some c.args.plan.limits.within c.scoped-done.ensures.1.0)) _ c.in_ok-found.was in
    fit_part c.args.part t.read.whole.version t.trace _ t.read.whole.fits t.says.races

pub returns-clause-ends : goal.returns-clause-ends
returns-clause-ends g c =
    let jobs : vec_len c.in_ok-made.made.jobs ≡ c.args.plan.shards = c.in_ok-made.made.jobs.ok.0 ∙ c.in_ok-made.ensures.ready.jobs ∙ c.requires in
    let some : 1 ≤ vec_len c.in_ok-made.made.jobs = omega (arith, jobs, c.args.plan.shards_within.0) in
    let P : Part → Type 0 = λ p. EndsReading IsWantOfMemoryOrThread c.args.plan.limits.records c.args.plan.limits.depth (g.R.Source.state c.args.source.now ⇝ g.R.Source.state c.scoped-done.result.1.now) (RunFindsPart p (vec_len c.in_ok-made.made.jobs)) c.close.result in
    let t = trace_of _ _ _ _ _ c.close.result (subst P c.in_ok-made.ensures.part (c.close.ensures.answers c.in_ok-made.made.reading.part _ _ _ _ some c.args.plan.limits.within c.scoped-done.ensures.1.0)) _ c.in_ok-found.was in
    part_ends g.R.Source.state c.args.part _ _ _ _ _ _ _ c.in_ok-found.found c.at_locations_of.result jobs (search rules) t c.at_locations_of.ensures

pub returns-clause-capacity : goal.returns-clause-capacity
returns-clause-capacity g c = run_capacity c.args.plan.capacity c.in_ok-made.made.jobs.items _ _ c.in_ok-made.ensures.jobs c.scoped-done.ensures.1.1.1.0 c.in_ok-found.ensures.lanes
