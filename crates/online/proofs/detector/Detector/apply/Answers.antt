use Rattle.online.proofs.Common.{◌+◌, ◌++◌, Option, map, refl, sym, subst, ap, option_to_list, Race, RaceAt, map_OnOk, KeepsBest, Online, HasFollowedNext, Wants}
use Rattle.collect.proofs.Kept.{on_err}
use Rattle.online.proofs.Found.{followed_one, wants_growth, wants_race, takes_none}
use Rattle.online.proofs.detector.Detector.apply.Goals as goal

pub returns-in_err-apply-clause-want : goal.returns-in_err-apply-clause-want
returns-in_err-apply-clause-want g c =
    let d : Online = record { sp_bags = c.self.inside.sp_bags; blocks = c.self.inside.blocks; kept = c.self.inside.collector; stopped = c.self.inside.stopped } in
    on_err c.from_residual.result (subst (Wants c.args.what) c.self.view_is (wants_growth c.args.what d c.requires.apart c.in_err-apply.ensures.may_grow))

pub returns-in-None-clause-followed : goal.returns-in-None-clause-followed
returns-in-None-clause-followed g c =
    let d : Online = record { sp_bags = c.self.inside.sp_bags; blocks = c.self.inside.blocks; kept = c.self.inside.collector; stopped = c.self.inside.stopped } in
    let e : Online = record { sp_bags = c.apply.new.self; blocks = c.self.inside.blocks; kept = c.self.inside.collector; stopped = c.self.inside.stopped } in
    subst (λ d. HasFollowedNext c.args.what d e) c.self.view_is
    (followed_one c.args.what d e (c.last_place-place.result + 1) c.in_ok-apply.field-0 (ap (λ n. n + 1) c.last_place-place.ensures) c.requires.apart c.in_ok-apply.ensures.race c.in_ok-apply.ensures.applied refl refl (takes_none d.kept (option_to_list c.in_ok-apply.field-0) (ap option_to_list c.in-None.is)))

pub returns-in-Some-clause-followed : goal.returns-in-Some-clause-followed
returns-in-Some-clause-followed g c = map_OnOk c.take.result _ _ (λ taken.
    let d : Online = record { sp_bags = c.self.inside.sp_bags; blocks = c.self.inside.blocks; kept = c.self.inside.collector; stopped = c.self.inside.stopped } in
    let e : Online = record { sp_bags = c.apply.new.self; blocks = c.self.inside.blocks; kept = c.take.new.self; stopped = c.self.inside.stopped } in
    subst (λ d. HasFollowedNext c.args.what d e) c.self.view_is
    (followed_one c.args.what d e (c.last_place-place.result + 1) c.in_ok-apply.field-0 (ap (λ n. n + 1) c.last_place-place.ensures) c.requires.apart c.in_ok-apply.ensures.race c.in_ok-apply.ensures.applied refl refl
    (λ kept keeps. subst (λ (o : Option RaceAt). KeepsBest (kept ++ map Race (option_to_list o)) c.take.new.self) (sym c.in-Some.is) (taken kept keeps)))) c.take.ensures.ok

pub returns-in-Some-clause-want : goal.returns-in-Some-clause-want
returns-in-Some-clause-want g c =
    let d : Online = record { sp_bags = c.self.inside.sp_bags; blocks = c.self.inside.blocks; kept = c.self.inside.collector; stopped = c.self.inside.stopped } in
    on_err c.take.result (subst (Wants c.args.what) c.self.view_is (wants_race c.args.what d (c.last_place-place.result + 1) c.in_ok-apply.field-0 c.in-Some.race (ap (λ n. n + 1) c.last_place-place.ensures) c.requires.apart c.in_ok-apply.ensures.race c.in-Some.is))
