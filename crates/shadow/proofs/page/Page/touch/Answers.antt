use Rattle.shadow.proofs.Common.{rules, get_or_default, no_names}
use Rattle.shadow.proofs.page.Page.touch.Goals as goal

pub update-requires : goal.update-requires
update-requires c = rw (get_or_default c.self.inside.names c.args.seat c.index-self-seat.result no_names (search rules)) (search rules)
