use Rattle.std.proofs.Common.{refl, ap, false}
use Rattle.online.proofs.Common.{State}
use Rattle.online.proofs.Found.{untouched_in_both}
use Rattle.online.proofs.Running.{after_none}
use Rattle.online.proofs.detector.Detector.new.Goals as goal

pub returns : goal.returns
returns g c =
    let start = c.in_ok-new.ensures in
    after_none (record { sp_bags = c.in_ok-new.field-0; blocks = c.with_hasher.result; kept = c.new-2.result; stopped = false }) start
    (untouched_in_both c.in_ok-new.field-0.shadow c.with_hasher.result (λ l. ap (λ (s : State). s.kept l) start.state) c.with_hasher.ensures.kept) c.new-2.ensures refl
