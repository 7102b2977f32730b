use Rattle.audit.proofs.Common.{List, subst, sym, ◌∙◌, ap, refl, OnOk, Read, Write, Meetings, Entry, Confirming, Moves, SeesEntries, entry_races}
use Rattle.audit.proofs.ConfirmLemmas.{confirming_access_if, confirming_other_if, not_access}
use Rattle.audit.proofs.confirms.ConfirmingWatch.see.Goals as goal
use Rattle.audit.proofs.confirms.ConfirmingWatch.see.Goals.{in-Read, in-Write, in-Spawn}

pub returns : goal.returns
returns c =
    let Moved : Meetings → Type 0 = λ m. OnOk c.see.result (Moves c.args.placed.place c.args.placed.what m c.see.new.self) in
    elim c.match-placed.branch [
      | in-Read w ↦
          (let P : List Entry → Type 0 = SeesEntries c.args.self.now.meetings w.in-Read.location (record { kind = Read; place = c.args.placed.place }) c.args.self.now.entries.items in
          confirming_access_if c.args.self.now _ c.args.placed w.in-Read.location (record { kind = Read; place = c.args.placed.place }) c.see.result w.in-Read.is refl
          (ap (λ (s : Confirming). entry_races s.entries.items) w.self-is ∙ w.see_access.ensures.same_races) (subst P (sym (ap (λ (s : Confirming). s.entries.items) w.self-is)) w.see_access.ensures.entries)
          (subst Moved (ap (λ (s : Confirming). s.meetings) w.self-is ∙ w.see_access.ensures.meetings) c.see.ensures))
      | in-Write w ↦
          (let P : List Entry → Type 0 = SeesEntries c.args.self.now.meetings w.in-Write.location (record { kind = Write; place = c.args.placed.place }) c.args.self.now.entries.items in
          confirming_access_if c.args.self.now _ c.args.placed w.in-Write.location (record { kind = Write; place = c.args.placed.place }) c.see.result w.in-Write.is refl
          (ap (λ (s : Confirming). entry_races s.entries.items) w.self-is ∙ w.see_access-in-Write.ensures.same_races) (subst P (sym (ap (λ (s : Confirming). s.entries.items) w.self-is)) w.see_access-in-Write.ensures.entries)
          (subst Moved (ap (λ (s : Confirming). s.meetings) w.self-is ∙ w.see_access-in-Write.ensures.meetings) c.see.ensures))
      | in-Spawn w ↦ confirming_other_if c.args.self.now _ c.args.placed c.see.result (not_access _ w.in-Spawn.is) (ap (λ (s : Confirming). s.entries.items) w.self-is)
          (subst Moved (ap (λ (s : Confirming). s.meetings) w.self-is) c.see.ensures)
    ]
