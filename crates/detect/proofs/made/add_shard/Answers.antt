use Rattle.detect.proofs.Common.{◌≡◌, ◌+◌, length, sym, subst, arith, AreJobsFrom, IsJobOf}
use Rattle.detect.proofs.TiedEnds.{jobs_more, tied_more}
use Rattle.detect.proofs.made.add_shard.Goals as goal

pub returns-clause-tied : goal.returns-clause-tied
returns-clause-tied g c n h =
    tied_more n c.args.ends.now _ c.in_ok-sender.sender c.in_ok-sender.job c.in_ok-sender.gatherer
    c.in_ok-push.ensures.items c.in_ok-push-3.ensures.items c.in_ok-push-2.ensures.items c.in_ok-sender.ensures.between h

pub returns-clause-jobs : goal.returns-clause-jobs
returns-clause-jobs g c h is =
    let here : c.args.index ≡ 0 + length c.args.ends.now.jobs.items = omega (arith, is) in
    subst (λ jobs. AreJobsFrom c.args.capacity 0 jobs) (sym c.in_ok-push-3.ensures.items)
    (jobs_more c.args.capacity 0 c.args.ends.now.jobs.items c.in_ok-sender.job h
    (subst (λ n. IsJobOf c.args.capacity n c.in_ok-sender.job) here c.in_ok-sender.ensures.job))
