use Rattle.audit.proofs.Common.{◌+◌, sym, ◌∙◌, ap, max, Measuring}
use Rattle.audit.proofs.Measured.{measured_if, spawns-more, spawns-same}
use Rattle.audit.proofs.measures.MeasuringWatch.see.Goals as goal
use Rattle.audit.proofs.measures.MeasuringWatch.see.Goals.{in-Spawn, in_default}

pub returns : goal.returns
returns c = elim c.match-placed.branch [
  | in-Spawn w ↦ measured_if c.args.self.now c.advance.new.self c.args.placed c.through-length.result _ _ c.advance.result
      (ap (λ (s : Measuring). s.executing) w.self-is) (ap (λ (s : Measuring). s.suspended.items) w.self-is) c.through-length.ensures c.advance.ensures.paths
      (c.advance.ensures.work ∙ ap (λ (s : Measuring). s.work) w.self-is)
      (c.advance.ensures.span ∙ ap (λ (s : Measuring). s.span) w.self-is ∙ c.max-self.ensures)
      (c.advance.ensures.depth ∙ ap (λ (s : Measuring). s.depth) w.self-is ∙ c.max-self-2.ensures ∙ ap (max c.args.self.now.depth) (c.len.ensures ∙ c.args.self.now.suspended.ok.0))
      (λ u e. c.advance.ensures.spawns ∙ ap (λ (s : Measuring). s.spawns) w.self-is ∙ ap (λ n. n + 1) e ∙ sym (spawns-more u c.args.placed.what w.in-Spawn.is))
  | in_default w ↦ measured_if c.args.self.now c.advance.new.self c.args.placed c.through-length.result _ _ c.advance.result
      (ap (λ (s : Measuring). s.executing) w.self-is) (ap (λ (s : Measuring). s.suspended.items) w.self-is) c.through-length.ensures c.advance.ensures.paths
      (c.advance.ensures.work ∙ ap (λ (s : Measuring). s.work) w.self-is)
      (c.advance.ensures.span ∙ ap (λ (s : Measuring). s.span) w.self-is ∙ c.max-self.ensures)
      (c.advance.ensures.depth ∙ ap (λ (s : Measuring). s.depth) w.self-is ∙ c.max-self-2.ensures ∙ ap (max c.args.self.now.depth) (c.len.ensures ∙ c.args.self.now.suspended.ok.0))
      (λ u e. c.advance.ensures.spawns ∙ ap (λ (s : Measuring). s.spawns) w.self-is ∙ e ∙ sym (spawns-same u c.args.placed.what w.in_default.not-Spawn))
]
