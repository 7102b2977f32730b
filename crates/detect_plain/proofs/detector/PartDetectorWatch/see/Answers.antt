use Rattle.detect_plain.proofs.Common.{◌≡◌, [], ◌∷◌, subst, Part, records_of, map_OnOk, option_to_list}
use Rattle.detect_plain.proofs.PartRecords.{own_place}
use Rattle.detect_plain.proofs.Detected.{part_passed, part_followed}
use Rattle.detect_plain.proofs.detector.PartDetectorWatch.see.Goals as goal

pub returns-in-None : goal.returns-in-None
returns-in-None g c first u h after =
    let P : Part → Type 0 = λ part. option_to_list c.of_record.result ≡ records_of part (c.args.placed ∷ []) in
    (h.0, part_passed first.part u c.args.placed c.of_record.result _ c.in-None.is (subst P h.0 c.of_record.ensures) after h.1)

pub returns-in-Some : goal.returns-in-Some
returns-in-Some g c = map_OnOk c.follow.result _ _ (λ follows first u h after.
    let P : Part → Type 0 = λ part. option_to_list c.of_record.result ≡ records_of part (c.args.placed ∷ []) in
    let place = own_place c.args.self.now.part c.args.placed c.in-Some.own c.of_record.result c.in-Some.is c.of_record.ensures in
    (h.0, part_followed first.part u c.args.placed c.in-Some.own c.of_record.result c.args.self.now.detector c.follow.new.self c.in-Some.is (subst P h.0 c.of_record.ensures) place after follows h.1)) c.follow.ensures
