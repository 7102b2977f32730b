use Rattle.audit.proofs.Common.{subst, ◌∙◌, ap, map, IsReportList, entry_of}
use Rattle.audit.proofs.ConfirmLemmas.{confirming_none}
use Rattle.audit.proofs.confirms.Confirming.new.Goals as goal

pub returns : goal.returns
returns c = confirming_none c.args.report.now _ (subst IsReportList c.races.ensures.races c.races.ensures.report) (c.in_ok-entries_of.ensures ∙ ap (map entry_of) c.races.ensures.races) c.new.ensures
