use Rattle.detect.proofs.Common.{rules, length, sym, ap, subst, arith, AreJobsFrom}
use Rattle.detect.proofs.TiedEnds.{tied_none}
use Rattle.detect.proofs.made.make_ends.Goals as goal

pub loop-hasher-init : goal.loop-hasher-init
loop-hasher-init g c = record {
  tied = tied_none _ c.new.ensures.items c.new-2.ensures.items c.new-3.ensures.items;
  jobs = subst (λ jobs. AreJobsFrom c.args.capacity 0 jobs) (sym c.new-2.ensures.items) tt;
  count = search rules;
}

pub loop-hasher-preserved : goal.loop-hasher-preserved
loop-hasher-preserved g c =
    let i = c.loop-hasher.invariant in
    record { tied = c.in_ok-add_shard.ensures.tied _ i.tied; jobs = c.in_ok-add_shard.ensures.jobs i.jobs i.tied.jobs; count = omega (arith, i.count, ap length c.in-Some.ensures.steps.0) }
