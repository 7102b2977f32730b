use Rattle.detect.proofs.Common.{rules, refl, length, length-append, [], ◌∷◌, sym, ap, ◌∙◌, arith, nil_from_length, takers_of, counts_of}
use Rattle.detect.proofs.WorkersDone.{split_more, gone_through, counts_more, lanes_more}
use Rattle.detect.proofs.closing.into_run.Goals as goal

pub loop-worked-init : goal.loop-worked-init
loop-worked-init g c =
    let room = c.requires.room in
    record {
      split = search rules;
      taken = nil_from_length _ (sym c.args.lists.taken.ok.0 ∙ room.no_taken);
      lanes = nil_from_length _ (sym c.args.lists.lanes.ok.0 ∙ room.no_lanes);
      taken_count = search rules;
      lane_count = search rules;
      taken_room = refl;
      lane_room = refl;
    }

pub loop-worked-preserved : goal.loop-worked-preserved
loop-worked-preserved g c =
    let i = c.loop-worked.invariant in
    record {
      split = split_more c.loop-worked.yielded c.in-Some.worked c.next.new.self.rest.items _ _ c.in-Some.ensures.steps.0 i.split;
      taken = counts_more c.loop-worked.yielded c.in-Some.worked c.loop-worked.taken.items _ _ c.push_reserved.ensures.items c.count_and_lane-count.ensures.count i.taken;
      lanes = lanes_more c.loop-worked.yielded c.in-Some.worked c.loop-worked.lanes.items _ _ c.push_reserved-in-loop-worked.ensures.items c.count_and_lane-count.ensures.lane i.lanes;
      taken_count = omega (arith, i.taken_count, c.push_reserved.ensures.len, length-append c.loop-worked.yielded (c.in-Some.worked ∷ []));
      lane_count = omega (arith, i.lane_count, c.push_reserved-in-loop-worked.ensures.len, length-append c.loop-worked.yielded (c.in-Some.worked ∷ []));
      taken_room = c.push_reserved.ensures.capacity ∙ i.taken_room;
      lane_room = c.push_reserved-in-loop-worked.ensures.capacity ∙ i.lane_room;
    }

pub returns-clause-taken : goal.returns-clause-taken
returns-clause-taken g c =
    c.loop-worked.invariant.taken ∙ ap counts_of (gone_through c.loop-worked.yielded _ _ (nil_from_length _ (sym c.loop-worked.worked-iterator.rest.ok.0 ∙ c.in-None.ensures.steps.0)) c.loop-worked.invariant.split)

pub returns-clause-lanes : goal.returns-clause-lanes
returns-clause-lanes g c =
    c.loop-worked.invariant.lanes ∙ ap takers_of (gone_through c.loop-worked.yielded _ _ (nil_from_length _ (sym c.loop-worked.worked-iterator.rest.ok.0 ∙ c.in-None.ensures.steps.0)) c.loop-worked.invariant.split)

pub returns-clause-lane_count : goal.returns-clause-lane_count
returns-clause-lane_count g c =
    let all = gone_through c.loop-worked.yielded _ _ (nil_from_length _ (sym c.loop-worked.worked-iterator.rest.ok.0 ∙ c.in-None.ensures.steps.0)) c.loop-worked.invariant.split in
    c.loop-worked.invariant.lane_count ∙ ap length all ∙ sym c.args.workers.ok.0
