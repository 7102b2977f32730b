use Rattle.shadow.proofs.StateLemmas.{map_OnOk}
use Rattle.detect_plain.proofs.Detected.{read_next}
use Rattle.detect_plain.proofs.detector.PlainDetectorWatch.see.Goals as goal

pub returns : goal.returns
returns g c = map_OnOk c.follow.result _ _ (λ follows first u h after. read_next u c.args.placed c.args.self.now c.follow.new.self after h follows) c.follow.ensures
