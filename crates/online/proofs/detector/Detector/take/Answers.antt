use Rattle.online.proofs.Common.{[], ◌∷◌, ◌+◌, sym, subst, IsErr, OnErr, placed, map_OnOk, in_life, HasTakenMore, WantsMemory}
use Rattle.online.proofs.Found.{where_ok, where_err}
use Rattle.online.proofs.Running.{after_next}
use Rattle.online.proofs.detector.Detector.take.Goals as goal

pub returns-clause-taken : goal.returns-clause-taken
returns-clause-taken g c = map_OnOk c.settle.result _ _ (λ is.
    let followed = where_ok c.follow-followed.result _ is.1 c.follow-followed.ensures.followed in
    subst (HasTakenMore (c.args.what ∷ []) c.args.self.now) (sym is.0) (λ u lives h. after_next u lives c.args.what c.args.self.now c.follow-followed.new.self c.in_ok-admit.ensures.ok.2 h followed)) c.settle.ensures.ok

pub returns-clause-want : goal.returns-clause-want
returns-clause-want g c u lives h refused =
    let failed : IsErr c.follow-followed.result = subst (λ r. OnErr r (IsErr c.follow-followed.result)) refused c.settle.ensures.refused in
    subst (λ n. WantsMemory (placed u) (record { place = n + 1; what = in_life lives c.args.what })) h.last (where_err c.follow-followed.result _ failed c.follow-followed.ensures.want (placed u) lives h.met)
