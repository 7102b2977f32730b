use Rattle.online.proofs.Common.{◌+◌, ◌≤◌, sym, subst, IsErr, OnErr, count_ones, most_records, map_OnOk, block_records, HasTakenMore}
use Rattle.online.proofs.Found.{where_ok, where_err}
use Rattle.online.proofs.Running.{after_block}
use Rattle.online.proofs.detector.Detector.take_block.Goals as goal

pub returns-clause-taken : goal.returns-clause-taken
returns-clause-taken g c = map_OnOk c.settle.result _ _ (λ is.
    let touched = c.touch_both-followed in
    let room : c.args.self.now.sp_bags.last_place + (count_ones c.args.reads + count_ones c.args.writes) ≤ most_records = subst (λ n. c.args.self.now.sp_bags.last_place + n ≤ most_records) c.from.ensures c.in_ok-admit.ensures.ok.2 in
    subst (HasTakenMore (block_records c.args.location c.args.reads c.args.writes) c.args.self.now) (sym is.0)
    (λ u lives h. after_block u lives c.args.location c.args.reads c.args.writes c.args.self.now touched.new.self c.ranges.reads.fits c.ranges.writes.fits room h
    (where_ok touched.result _ is.1 touched.ensures.met) (where_ok touched.result _ is.1 touched.ensures.last) touched.ensures.only)) c.settle.ensures.ok

pub returns-clause-want : goal.returns-clause-want
returns-clause-want g c u lives h refused =
    let failed : IsErr c.touch_both-followed.result = subst (λ r. OnErr r (IsErr c.touch_both-followed.result)) refused c.settle.ensures.refused in
    where_err c.touch_both-followed.result _ failed c.touch_both-followed.ensures.want
