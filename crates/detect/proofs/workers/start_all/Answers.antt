use Rattle.detect.proofs.Common.{List, length, sym, ap, subst, arith, ◌∙◌, nil_from_length, Job, AllFresh}
use Rattle.detect.proofs.WorkersDone.{started_more, started_all, started_first, split_more}
use Rattle.detect.proofs.workers.start_all.Goals as goal

pub start-requires-after_bounds : goal.start-requires-after_bounds
start-requires-after_bounds g c κs within =
    let P : List (Job g.row.S.Denot g.row.S-Hasher.Denot) → Type 0 = AllFresh in
    (subst P c.in-Some.ensures.steps.0 c.loop-job.invariant.new).0

pub push_reserved-requires : goal.push_reserved-requires
push_reserved-requires g c =
    let i = c.loop-job.invariant in
    omega (arith, i.count, i.room, c.requires.room, ap length c.in-Some.ensures.steps.0)

pub loop-job-preserved : goal.loop-job-preserved
loop-job-preserved g c =
    let i = c.loop-job.invariant in
    let P : List (Job g.row.S.Denot g.row.S-Hasher.Denot) → Type 0 = AllFresh in
    record {
      split = split_more c.loop-job.yielded c.in-Some.job c.next.new.self.rest.items _ _ c.in-Some.ensures.steps.0 i.split;
      new = (subst P c.in-Some.ensures.steps.0 i.new).1;
      lanes = started_more c.loop-job.handles.items c.in_ok-handle.handle _ c.loop-job.yielded c.in-Some.job c.push_reserved.ensures.items c.in_ok-handle.ensures i.lanes;
      count = omega (arith, i.count, c.push_reserved.ensures.len, ap length c.in-Some.ensures.steps.0);
      room = c.push_reserved.ensures.capacity ∙ i.room;
    }

pub returns-clause-started : goal.returns-clause-started
returns-clause-started g c = started_all c.loop-job.handles.items c.loop-job.yielded _ _ (nil_from_length _ (sym c.loop-job.job-iterator.rest.ok.0 ∙ c.in-None.ensures.steps.0)) c.loop-job.invariant.split c.loop-job.invariant.lanes

pub returns-clause-first_ones : goal.returns-clause-first_ones
returns-clause-first_ones g c = let i = c.loop-job.invariant in started_first c.loop-job.handles.items c.loop-job.yielded _ _ i.split i.lanes

pub returns-in_err-handle-clause-first_ones : goal.returns-in_err-handle-clause-first_ones
returns-in_err-handle-clause-first_ones g c = let i = c.loop-job.invariant in started_first c.loop-job.handles.items c.loop-job.yielded _ _ i.split i.lanes
