use Rattle.inside.proofs.Runs.{one_run, named_step}
use Rattle.inside.proofs.session.Session.step.Goals as goal

pub returns : goal.returns
returns c = named_step c.args.kind c.args.location c.min.result _ _ _ c.min.ensures (one_run _ _ _ _ c.run.ensures)
