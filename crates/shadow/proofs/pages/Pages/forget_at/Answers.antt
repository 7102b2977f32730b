use Rattle.shadow.proofs.pages.Pages.forget_at.Goals as goal
use Rattle.shadow.proofs.Common.{◌∙◌, untouched}
use Rattle.shadow.proofs.PageLemmas.{put_changed, set_here}

pub returns-clause-forgotten : goal.returns-clause-forgotten
returns-clause-forgotten g c = put_changed g.P.CellPage.cell c.args.self.now _ c.args.page untouched (g.P.CellPage.has c.args.seats) c.page_mut-page.result.now c.forget.new.self c.page_mut-page.ensures.value (c.page_mut-page.ensures.set c.forget.new.self) c.forget.ensures

pub returns-clause-empty : goal.returns-clause-empty
returns-clause-empty g c e k = set_here g.P.CellPage.cell c.args.self.now _ c.args.page c.forget.new.self (c.page_mut-page.ensures.set c.forget.new.self) k ∙ c.is_untouched.ensures e k
