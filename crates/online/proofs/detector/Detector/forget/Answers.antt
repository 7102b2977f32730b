use Rattle.online.proofs.Common.{refl, sym, subst, arith, Online, IsAfter}
use Rattle.online.proofs.Reborn.{after_reborn, even_forgotten, odd_forgotten}
use Rattle.online.proofs.detector.Detector.forget.Goals as goal

pub returns-then-location-eq1-clause-forgotten : goal.returns-then-location-eq1-clause-forgotten
returns-then-location-eq1-clause-forgotten g c u lives h =
    let d : Online = record { sp_bags = c.self.inside.sp_bags; blocks = c.self.inside.blocks; kept = c.self.inside.collector; stopped = c.self.inside.stopped } in
    after_reborn u lives c.args.location c.args.units d _ (subst (IsAfter u lives) (sym c.self.view_is) h) (record { bags = c.forget_cells.ensures.bags; ended = c.forget_cells.ensures.ended; going = refl }) refl c.forget_cells.ensures.last_place
    (odd_forgotten d.sp_bags.shadow c.forget_cells.new.sp_bags.shadow d.blocks c.args.location c.args.units (λ e. omega (arith, e, c.if-location-eq1.true)) c.forget_cells.ensures.kept)

pub returns-else-location-eq1-clause-forgotten : goal.returns-else-location-eq1-clause-forgotten
returns-else-location-eq1-clause-forgotten g c u lives h =
    let d : Online = record { sp_bags = c.self.inside.sp_bags; blocks = c.self.inside.blocks; kept = c.self.inside.collector; stopped = c.self.inside.stopped } in
    after_reborn u lives c.args.location c.args.units d _ (subst (IsAfter u lives) (sym c.self.view_is) h) (record { bags = refl; ended = refl; going = refl }) refl refl
    (even_forgotten d.sp_bags.shadow d.blocks c.forget.new.self c.args.location c.args.units (omega (arith, c.if-location-eq1.false)) c.forget.ensures.kept)
