use Rattle.audit.proofs.Common.{ℕ, subst, HasExplained}
use Rattle.audit.proofs.ExplainLemmas.{explains, race_shape}
use Rattle.audit.proofs.explanations.explain.Goals as goal

pub explained-requires : goal.explained-requires
explained-requires g c =
    let i = c.in_ok-read_to_end.ensures in
    race_shape c.read_to_end.new.watch c.new-explaining.result.location i.trace i.read.whole.well_nested c.args.limits.within i.says

pub returns : goal.returns
returns g c =
    let i = c.in_ok-read_to_end.ensures in
    let P : ℕ → Type 0 = λ l. HasExplained l i.trace c.read_to_end.new.watch in
    record { trace = i.trace; read = i.read; says = explains c.read_to_end.new.watch c.args.location _ i.trace i.read.whole.well_nested (subst P c.new-explaining.ensures.location_is i.says) c.explained.ensures }
