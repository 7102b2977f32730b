use Rattle.std.proofs.Common.{ℕ, List, ◌++◌, ap, ◌∙◌}
use Rattle.dag.specs.Traces.{placed}
use Rattle.collect.specs.ReportText.{rtext}
use Rattle.inside.proofs.session.text_of.Goals as goal

pub returns-in-Ok-clause-text : goal.returns-in-Ok-clause-text
returns-in-Ok-clause-text c u lives h =
    let said = c.in_ok-report.ensures in record {
      races = c.in_ok-report.report;
      spelled = c.in-Ok.ensures.bytes ∙ ap (λ (xs : List ℕ). xs ++ rtext c.in_ok-report.report) c.new.ensures.items;
      of_lives = said.races (placed u) lives h.met;
      racy = λ records depths nested. said.racy u lives records depths h nested;
      once = said.once u lives h;
      report = λ records depths. said.once_report u lives records depths h;
    }
