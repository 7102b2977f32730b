use Rattle.blocks.proofs.Common.{◌/◌, untouched, cell_in_blocks, block_of, is_unit, all_with, none_before}
use Rattle.blocks.proofs.block_shadow.BlockShadow.forget.Goals as goal

pub invariant_of-self : goal.invariant_of-self
invariant_of-self g c =
    all_with c.self.inside.next_place c.self.inside.least_count (is_unit c.args.location c.args.units) untouched (cell_in_blocks c.self.inside.pages) _ c.self.invariant (none_before c.self.inside.next_place c.self.inside.least_count) (λ l. c.forget.ensures (block_of l) (l / 2))
