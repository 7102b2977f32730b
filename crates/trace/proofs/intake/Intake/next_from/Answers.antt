use Rattle.trace.proofs.Common.{rules, ◌≡◌, subst, ◌⇝◌, Feeding, IsNext}
use Rattle.trace.proofs.intake.Intake.next_from.Goals as goal

pub returns-in-Some-clause-next : goal.returns-in-Some-clause-next
returns-in-Some-clause-next g c = c.in-Some.ensures.next (g.S.Source.state c.args.source.now)

pub returns-in-None-clause-next : goal.returns-in-None-clause-next
returns-in-None-clause-next g c =
    let same : c.next_known.new.self ≡ c.args.self.now = search rules in
    let P : Feeding → Type 0 = λ s. IsNext s c.next_of_all.new.self (g.S.Source.state c.args.source.now ⇝ g.S.Source.state c.next_of_all.new.source) c.next_of_all.result in
    subst P same c.next_of_all.ensures.next
