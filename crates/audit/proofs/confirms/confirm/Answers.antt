use Rattle.audit.proofs.Common.{List, refl, subst, RaceAt, ends_refused, refused_for_want, HasConfirmed}
use Rattle.audit.proofs.ConfirmLemmas.{answer_of}
use Rattle.audit.proofs.confirms.confirm.Goals as goal

pub returns-in_err-confirming : goal.returns-in_err-confirming
returns-in_err-confirming g c = ends_refused _ _ _ _ _ _ _ c.from_residual.ensures.1 (refused_for_want _ _ _ _ _ refl)

pub returns-in_err-read_to_end : goal.returns-in_err-read_to_end
returns-in_err-read_to_end g c = ends_refused _ _ _ _ _ _ _ c.from_residual-in_err-read_to_end.ensures.1 c.in_err-read_to_end.ensures

pub returns : goal.returns
returns g c =
    let i = c.in_ok-read_to_end.ensures in
    let P : List RaceAt → Type 0 = λ rs. HasConfirmed rs i.trace c.read_to_end.new.watch in
    record { trace = i.trace; read = i.read; says = answer_of c.read_to_end.new.watch c.args.report.now _ i.trace i.read.whole.well_nested (subst P c.in_ok-confirming.ensures.same_races i.says) (rw c.deref.ensures.value at c.answer_of.ensures) }
