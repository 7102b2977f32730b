use Rattle.std.proofs.Common.{refl}
use Rattle.detect_plain.proofs.Detected.{detected_none, detected_race}
use Rattle.detect_plain.proofs.detector.PlainDetector.follow.Goals as goal

pub returns-in_ok-take : goal.returns-in_ok-take
returns-in_ok-take g c = record {
  detected = λ u h. detected_race u c.args.placed c.in_ok-race.field-0 _ _ _ _ h c.in_ok-race.ensures.applied c.in_ok-race.ensures.race c.in-Some.race c.in-Some.is c.in_ok-take.ensures.ok;
  last = c.in_ok-race.ensures.applied.last_place;
}

pub returns-in_default : goal.returns-in_default
returns-in_default g c = record {
  detected = λ u h. detected_none u c.args.placed c.in_ok-race.field-0 _ _ _ _ h c.in_ok-race.ensures.applied c.in_ok-race.ensures.race c.in_default.is refl;
  last = c.in_ok-race.ensures.applied.last_place;
}
