use Rattle.shadow.proofs.Common.{sym}
use Rattle.shadow.proofs.PageLemmas.{at_its_index}
use Rattle.shadow.proofs.pages.Pages.look_up.Goals as goal

pub returns : goal.returns
returns g c = rw (← c.self.view_is) (at_its_index c.self.inside.map.entries c.in_ok-index.index c.args.page (sym c.in_ok-index.ensures.index))
