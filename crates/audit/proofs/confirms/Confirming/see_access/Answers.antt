use Rattle.audit.proofs.Common.{◌≡◌, ◌<◌, ℕ, List, length, refl, subst, ◌∙◌, ap, slice_get, Some, slice_get_read, Entry, AreAscending}
use Rattle.audit.proofs.ConfirmLemmas.{seen_at, unseen, entry_races-set}
use Rattle.audit.proofs.confirms.Confirming.see_access.Goals as goal

pub returns-in-Some-clause-entries : goal.returns-in-Some-clause-entries
returns-in-Some-clause-entries c =
    let es : List Entry = c.args.self.now.entries.items in
    let same = c.deref.ensures.value in
    let within : c.in-Some.index < length es = rw same at c.in-Some.ensures.within in
    let there : slice_get es c.in-Some.index ≡ Some c.index.result.now = slice_get_read es _ _ _ refl within c.index.ensures in
    let again : slice_get es c.in-Some.index ≡ Some c.index_mut.result.now = slice_get_read es _ _ _ refl within c.index_mut.ensures.value in
    seen_at c.args.self.now.meetings c.args.location c.args.access es c.in-Some.index c.index.result.now c.index_mut.result.now c.next_standing-standing.result there again
    (c.in-Some.ensures.found c.index.result.now (ap (λ (xs : List Entry). slice_get xs c.in-Some.index) same ∙ there)) c.next_standing-standing.ensures

pub returns-in-Some-clause-same_races : goal.returns-in-Some-clause-same_races
returns-in-Some-clause-same_races c =
    let es : List Entry = c.args.self.now.entries.items in
    let within : c.in-Some.index < length es = rw c.deref.ensures.value at c.in-Some.ensures.within in
    entry_races-set es c.in-Some.index c.index_mut.result.now _ (slice_get_read es _ _ _ refl within c.index_mut.ensures.value) refl

pub returns-in_default-clause-entries : goal.returns-in_default-clause-entries
returns-in_default-clause-entries c =
    let P : List Entry → Type 0 = λ es. AreAscending es → (k : ℕ) (e : Entry) → slice_get es k ≡ Some e → e.location ≡ c.args.location → ⊥ in
    unseen c.args.self.now.meetings c.args.location c.args.access c.args.self.now.entries.items (subst P c.deref.ensures.value c.in_default.ensures.nowhere)
