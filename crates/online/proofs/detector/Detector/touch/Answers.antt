use Rattle.online.proofs.Common.{◌≡◌, ◌+◌, ◌++◌, List, [], map, sym, subst, ap, ◌∙◌, append-nil, eqb-true, nil_from_length, Placed, RaceAt, map_OnOk, block_of, races_in_block, kept_in_blocks, accesses, placed_in_life, SpBags, Online, HasTakenPlaced, TakesPlaced}
use Rattle.std.specs.Vec.{vec_len}
use Rattle.online.proofs.Alone.{none_accessed}
use Rattle.online.proofs.Found.{met_block, takes_none}
use Rattle.online.proofs.detector.Detector.touch.Goals as goal

pub returns-then-units-eq0-clause-met : goal.returns-then-units-eq0-clause-met
returns-then-units-eq0-clause-met g c u lives h =
    let v : List Placed = accesses c.args.location c.args.kind (c.args.self.now.sp_bags.last_place + 1) c.args.units in
    let is : u ≡ u ++ map (placed_in_life lives) v = sym (append-nil u) ∙ ap (λ (w : List Placed). u ++ map (placed_in_life lives) w) (sym (none_accessed c.args.location c.args.kind (c.args.self.now.sp_bags.last_place + 1) c.args.units c.if-units-eq0.true)) in
    subst (λ (w : List Placed). HasTakenPlaced w lives c.args.self.now) is h

pub returns-then-is_empty-clause-met : goal.returns-then-is_empty-clause-met
returns-then-is_empty-clause-met g c =
    let d : Online = record { sp_bags = c.self.inside.sp_bags; blocks = c.self.inside.blocks; kept = c.self.inside.collector; stopped = c.self.inside.stopped } in
    let e : Online = record { sp_bags = c.pass-place.new.self; blocks = c.touch.new.self; kept = c.self.inside.collector; stopped = c.self.inside.stopped } in
    let passed = c.pass-place.ensures.passed in
    let in_block : List RaceAt = races_in_block c.bags.result.now.active c.args.kind c.pass-place.result c.args.units (block_of c.args.location) (kept_in_blocks d.blocks) in
    let reported : c.touch.new.races.items ≡ in_block = c.in_ok-touch.ensures.races ∙ ap (λ (rs : List RaceAt). rs ++ in_block) c.new-races.ensures.items in
    let none : c.touch.new.races.items ≡ [] = nil_from_length c.touch.new.races.items (sym c.touch.new.races.ok.0 ∙ eqb-true (vec_len c.touch.new.races) 0 (sym c.if-is_empty.ensures)) in
    subst (λ d. TakesPlaced (accesses c.args.location c.args.kind (d.sp_bags.last_place + 1) c.args.units) d e) c.self.view_is
    (met_block d e c.args.location c.args.kind c.args.units c.pass-place.result c.bags.result.now c.touch.new.races.items c.pass-place.ensures.first (c.bags.ensures ∙ ap (λ (s : SpBags). s.bags) passed) (ap (λ (s : SpBags). s.bags) passed) (ap (λ (s : SpBags). s.shadow) passed)
    c.requires.even c.ranges.location.fits c.in_ok-touch.ensures.kept reported (takes_none d.kept c.touch.new.races.items none))

pub returns-clause-met : goal.returns-clause-met
returns-clause-met g c = map_OnOk c.take_all.result _ _ (λ taken.
    let d : Online = record { sp_bags = c.self.inside.sp_bags; blocks = c.self.inside.blocks; kept = c.self.inside.collector; stopped = c.self.inside.stopped } in
    let e : Online = record { sp_bags = c.pass-place.new.self; blocks = c.touch.new.self; kept = c.take_all.new.collector; stopped = c.self.inside.stopped } in
    let passed = c.pass-place.ensures.passed in
    let in_block : List RaceAt = races_in_block c.bags.result.now.active c.args.kind c.pass-place.result c.args.units (block_of c.args.location) (kept_in_blocks d.blocks) in
    let reported : c.touch.new.races.items ≡ in_block = c.in_ok-touch.ensures.races ∙ ap (λ (rs : List RaceAt). rs ++ in_block) c.new-races.ensures.items in
    subst (λ d. TakesPlaced (accesses c.args.location c.args.kind (d.sp_bags.last_place + 1) c.args.units) d e) c.self.view_is
    (met_block d e c.args.location c.args.kind c.args.units c.pass-place.result c.bags.result.now c.touch.new.races.items c.pass-place.ensures.first (c.bags.ensures ∙ ap (λ (s : SpBags). s.bags) passed) (ap (λ (s : SpBags). s.bags) passed) (ap (λ (s : SpBags). s.shadow) passed)
    c.requires.even c.ranges.location.fits c.in_ok-touch.ensures.kept reported (rw c.as_slice.ensures.value at taken))) c.take_all.ensures
