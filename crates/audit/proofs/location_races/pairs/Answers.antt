use Rattle.audit.proofs.Common.{ℕ, subst, ends_refused, HasPaired}
use Rattle.audit.proofs.PairLemmas.{pairs_of}
use Rattle.audit.proofs.location_races.pairs.Goals as goal

pub returns-in_err-read_to_end : goal.returns-in_err-read_to_end
returns-in_err-read_to_end g c = ends_refused _ _ _ _ _ _ _ c.from_residual.ensures.1 c.in_err-read_to_end.ensures

pub returns : goal.returns
returns g c =
    let i = c.in_ok-read_to_end.ensures in
    let P : ℕ → Type 0 = λ l. HasPaired l i.trace c.read_to_end.new.watch in
    record { trace = i.trace; read = i.read; says = pairs_of c.read_to_end.new.watch c.args.location i.trace i.read.whole.well_nested (subst P c.new-pairing.ensures.location_is i.says) }
