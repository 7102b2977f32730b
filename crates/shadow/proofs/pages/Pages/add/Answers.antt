use Rattle.shadow.proofs.Common.{◌∙◌, ap, subst, sym, nat_eq, lookup, insert_entry-new, IsPageAt}
use Rattle.shadow.proofs.PageLemmas.{at_the_end}
use Rattle.shadow.proofs.pages.Pages.add.Goals as goal

pub returns-clause-there : goal.returns-clause-there
returns-clause-there g c =
    let none = ap (λ xs. lookup (nat_eq c.args.page) xs) c.self.view_is ∙ c.requires in
    let last = c.in_ok-insert.ensures.entries ∙ insert_entry-new nat_eq c.self.inside.map c.args.page c.untouched.result none in
    subst (λ n. IsPageAt c.insert.new.self.entries n c.args.page) (sym c.len-index.ensures.len) (at_the_end c.self.inside.map.entries c.insert.new.self.entries c.args.page c.untouched.result last c.in_ok-insert.ensures.updates.0)
