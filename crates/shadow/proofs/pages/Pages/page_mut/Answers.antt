use Rattle.shadow.proofs.Common.{sym, ◌∙◌, refl, updates-with_value_at, IsPageAt}
use Rattle.std.proofs.lemmas.Cmp.{nat_eq_equiv}
use Rattle.shadow.proofs.PageLemmas.{value_there}
use Rattle.shadow.proofs.pages.Pages.page_mut.Goals as goal

pub returns : goal.returns
returns g c =
    let es = c.self.inside.map.entries in
    let there : IsPageAt es c.args.at c.args.page = rw c.self.view_is c.requires.there in
    let is = value_there es c.args.at c.args.page c.index_mut.result.now there (sym c.index_mut.ensures.value) in (
      (refl, λ w. rw c.self.view_is refl),
      record {
        writes_back = tt;
        value = rw (← c.self.view_is) (is ∙ sym there.found);
        set = λ left. rw (← c.self.view_is) (updates-with_value_at c.self.inside.map c.args.at left nat_eq_equiv c.len.ensures.unique c.args.page there.kept there.at).0;
      },
    )
