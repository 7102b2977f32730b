use Rattle.std.proofs.Common.{rules, ◌++◌, ◌∙◌, ap}
use Rattle.lane.specs.declared.item.Item.TheVariants.{One}
use Rattle.lane.specs.Given.{items_sent}
use Rattle.lane.specs.Items.{has_mark}
use Rattle.lane.specs.Lanes.{put_of}
use Rattle.lane.proofs.Marks.{has_mark_staged}
use Rattle.lane.proofs.sender.Sender.put.Goals as goal

pub show-requires-after_bounds : goal.show-requires-after_bounds
show-requires-after_bounds g c κs within =
    let s = c.self.inside in
    record {
      some = search rules;
      enough = search rules;
      one = search rules;
      unmarked = ap (λ l. has_mark (items_sent s.giving ++ l)) c.push_reserved.ensures.items
          ∙ has_mark_staged (items_sent s.giving) s.staged.items (One c.args.value) (ap (λ s. has_mark (put_of s)) c.self.view_is ∙ c.requires);
      list = search rules;
      within = search rules;
    }
