use Rattle.route.proofs.Common.{◌++◌, put_list, taken_list}
use Rattle.route.proofs.Headline.{takes_share}
use Rattle.route.proofs.LaneShares.{routes_of, has_routed}
use Rattle.route.proofs.RunLists.{taken_front, taken_before, earlier, front_of, outcome_of, whole_run}
use Rattle.route.proofs.RouterRuns.{run_took}
use Rattle.route.proofs.laws.runs.Goals as goal

pub returns-clause-some : goal.returns-clause-some
returns-clause-some c = whole_run

pub returns-clause-points : goal.returns-clause-points
returns-clause-points c = earlier

pub returns-clause-routed : goal.returns-clause-routed
returns-clause-routed c = λ n w es run.
    let f = front_of n w es run in has_routed n (put_list es) f.v w f.pending (outcome_of n w es run f) (f.rest, f.whole)

pub returns-clause-shares : goal.returns-clause-shares
returns-clause-shares c = λ n w es run k u routed l.
    let f = front_of n w es run in (routes_of n (put_list es) f.v u f.pending (outcome_of n w es run f) routed).shares k l

pub returns-clause-marks : goal.returns-clause-marks
returns-clause-marks c = λ n w es run k u routed l h.
    let f = front_of n w es run in (routes_of n (put_list es) f.v u f.pending (outcome_of n w es run f) routed).marks k l h

pub returns-clause-headline : goal.returns-clause-headline
returns-clause-headline c = λ n w es run k u routed l.
    let f = front_of n w es run in takes_share n (put_list es) u k (taken_list es k) l (routes_of n (put_list es) f.v u f.pending (outcome_of n w es run f) routed) (taken_front k es run.allowed)

pub returns-clause-ended : goal.returns-clause-ended
returns-clause-ended c = λ n k w before after run l h.
    let f = front_of n w (before ++ after) run in
    let o = outcome_of n w (before ++ after) run f in
    (takes_share n (put_list (before ++ after)) o.list k (taken_list before k) l o.routes (taken_before k before after run.allowed)).none_more h

pub returns-clause-taken : goal.returns-clause-taken
returns-clause-taken c = λ n w es run k. taken_front k es run.allowed

pub returns-clause-whole : goal.returns-clause-whole
returns-clause-whole c = λ n w es run k l marked. run_took n k w es (taken_list es k) run l (taken_front k es run.allowed) marked
