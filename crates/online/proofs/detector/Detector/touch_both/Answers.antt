use Rattle.online.proofs.Common.{◌≡◌, ◌+◌, subst, arith, count_ones, map_OnOk, accesses, TakesPlaced}
use Rattle.dag.specs.declared.records.Kind.TheVariants.{Read, Write}
use Rattle.online.proofs.Found.{met_both}
use Rattle.online.proofs.detector.Detector.touch_both.Goals as goal

pub returns-clause-met : goal.returns-clause-met
returns-clause-met g c = map_OnOk c.touch-2.result _ _ (λ met.
    let place = c.args.self.now.sp_bags.last_place + 1 in
    let second : c.touch.new.self.sp_bags.last_place + 1 ≡ place + count_ones c.args.reads = omega (arith, c.in_ok-touch.ensures.last) in
    met_both (accesses c.args.location Read place c.args.reads) (accesses c.args.location Write (place + count_ones c.args.reads) c.args.writes) c.args.self.now c.touch.new.self c.touch-2.new.self
    c.in_ok-touch.ensures.met (subst (λ n. TakesPlaced (accesses c.args.location Write n c.args.writes) c.touch.new.self c.touch-2.new.self) second met)) c.touch-2.ensures.met
