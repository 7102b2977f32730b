use Rattle.audit.proofs.Common.{List, length, subst, ◌∙◌, ap, OnOk, KeptAccess, Pairing, Meetings, Moves, AddsPairs}
use Rattle.audit.proofs.PairLemmas.{paired_access_if, paired_other_if}
use Rattle.audit.proofs.location_races.PairingWatch.see.Goals as goal
use Rattle.audit.proofs.location_races.PairingWatch.see.Goals.{in-Some+in_ok-add_pairs+in_ok-push, in_default}

pub returns : goal.returns
returns c =
    let Moved : Meetings → Type 0 = λ m. OnOk c.see.result (Moves c.args.placed.place c.args.placed.what m c.see.new.self) in
    elim c.match-access_of.branch [
      | in-Some+in_ok-add_pairs+in_ok-push w ↦
          (let P : List KeptAccess → Type 0 = λ ks. AddsPairs c.args.self.now.meetings ks w.in-Some.access (length ks) c.args.self.now.pairs.items w.add_pairs.new.pairs.items in
          paired_access_if c.args.self.now _ c.args.placed w.in-Some.access w.depth-depth.result w.add_pairs.new.pairs.items c.see.result (ap (λ (s : Pairing). s.location) w.self-is) w.in-Some.ensures.0 w.in-Some.ensures.1
          w.depth-depth.ensures (subst P w.deref.ensures.value w.in_ok-add_pairs.ensures) (ap (λ (s : Pairing). s.kept.items) w.self-is ∙ w.in_ok-push.ensures.items)
          (ap (λ (s : Pairing). s.pairs.items) w.self-is) (subst Moved (ap (λ (s : Pairing). s.meetings) w.self-is) c.see.ensures))
      | in_default w ↦
          paired_other_if c.args.self.now _ c.args.placed c.see.result (ap (λ (s : Pairing). s.location) w.self-is) w.in_default.ensures
          (ap (λ (s : Pairing). s.kept.items) w.self-is) (ap (λ (s : Pairing). s.pairs.items) w.self-is) (subst Moved (ap (λ (s : Pairing). s.meetings) w.self-is) c.see.ensures)
    ]
