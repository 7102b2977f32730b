use Rattle.std.proofs.Common.{refl}
use Rattle.audit.proofs.ExplainLemmas.{on_ok, seeks_access, seeks_other}
use Rattle.audit.proofs.explanations.Explaining.seek.Goals as goal

pub returns-in-Some-clause-seeks : goal.returns-in-Some-clause-seeks
returns-in-Some-clause-seeks c = on_ok _ (seeks_access c.args.self.now c.see_access.new.self c.args.placed c.in-Some.access c.in-Some.ensures.0 c.in-Some.ensures.1) c.see_access.ensures.sees

pub returns-in-None-clause-seeks : goal.returns-in-None-clause-seeks
returns-in-None-clause-seeks c = on_ok _ (seeks_other c.args.self.now (record c.args.self.now { openers = c.follow.new.openers }) c.args.placed c.in-None.ensures refl refl refl) c.follow.ensures
