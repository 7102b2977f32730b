use Rattle.bags.proofs.Common.{◌∙◌, ap, length, Procedures}
use Rattle.bags.proofs.Cuts.{length-procedures_of}
use Rattle.bags.proofs.Bags.active.Goals as goal

pub returns-clause-procedures : goal.returns-clause-procedures
returns-clause-procedures c =
    c.len.ensures
    ∙ length-procedures_of c.self.inside.count c.self.inside.stretches c.self.inside.nesting
    ∙ ap (λ (p : Procedures). length p.active) c.self.view_is
