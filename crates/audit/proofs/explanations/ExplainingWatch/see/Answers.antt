use Rattle.audit.proofs.Common.{subst, ◌∙◌, ap, OnOk, Meetings, Explaining, Moves}
use Rattle.audit.proofs.ExplainLemmas.{explaining_reported_if, explaining_sought_if}
use Rattle.audit.proofs.explanations.ExplainingWatch.see.Goals as goal
use Rattle.audit.proofs.explanations.ExplainingWatch.see.Goals.{in-Some, in-None+in_ok-seek-in-None}

pub returns : goal.returns
returns c =
    let now : Explaining = c.match-self.self in
    let after : Explaining = record now { meetings = c.see.new.self } in
    let Moved : Meetings → Type 0 = λ m. OnOk c.see.result (Moves c.args.placed.place c.args.placed.what m c.see.new.self) in
    elim c.match-self.branch [
      | in-Some w ↦
          explaining_reported_if c.args.self.now after c.args.placed w.in-Some.reported w.pass.new.self c.depth-depth.result c.see.result (ap (λ (s : Explaining). s.location) w.self-is) w.in-Some.is
          (ap (λ (s : Explaining). s.reported) w.self-is) w.pass.ensures.rest c.depth-depth.ensures w.pass.ensures.joined (subst Moved (ap (λ (s : Explaining). s.meetings) w.self-is) c.see.ensures)
      | in-None+in_ok-seek-in-None w ↦
          explaining_sought_if c.args.self.now after c.args.placed w.seek.new.self c.see.result (ap (λ (s : Explaining). s.location) w.self-is ∙ w.seek.ensures.location) w.in-None.is w.in_ok-seek-in-None.ensures.seeks
          (ap (λ (s : Explaining). s.reported) w.self-is) (ap (λ (s : Explaining). s.last_write) w.self-is) (ap (λ (s : Explaining). s.kept_reader) w.self-is)
          (ap (λ (s : Explaining). s.openers.items) w.self-is) (subst Moved (ap (λ (s : Explaining). s.meetings) w.self-is ∙ w.seek.ensures.meetings) c.see.ensures)
    ]
