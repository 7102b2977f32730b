use Rattle.online.proofs.Common.{◌∙◌, sym, subst, OnErr, Record, Wants}
use Rattle.online.proofs.detector.Detector.follow.Goals as goal
use Rattle.online.proofs.detector.Detector.follow.Goals.{in-Read+else-location-eq0, in-Write+else-location-eq0-2}

pub returns-in-Read-2-clause-want : goal.returns-in-Read-2-clause-want
returns-in-Read-2-clause-want g c =
    elim c.in-Read-2-1.branch [
      | in-Read+else-location-eq0 w ↦ subst (λ (what : Record). OnErr c.apply-in-Read-2.result (Wants what c.args.self.now)) (w.what-is ∙ sym w.in-Read.is) c.apply-in-Read-2.ensures.want
      | in-Write+else-location-eq0-2 w ↦ subst (λ (what : Record). OnErr c.apply-in-Read-2.result (Wants what c.args.self.now)) (w.what-is ∙ sym w.in-Write.is) c.apply-in-Read-2.ensures.want
    ]
