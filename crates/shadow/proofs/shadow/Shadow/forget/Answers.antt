use Rattle.shadow.proofs.Common.{◌+◌, ◌==◌, untouched, cell_of}
use Rattle.shadow.proofs.CellLemmas.{all_with, none_before, kept_put}
use Rattle.shadow.proofs.SeatLemmas.{put_is_of}
use Rattle.shadow.proofs.shadow.Shadow.forget.Goals as goal

pub invariant_of-self : goal.invariant_of-self
invariant_of-self g c =
    let n = c.self.inside.layout in
    let es = c.self.inside.pages in
    let put = rw (c.spot_of-spot.ensures.page, c.spot_of-spot.ensures.seat) at c.forget.ensures in
    all_with (c.self.inside.last_place + 1) c.self.inside.least_count (λ q. q == c.args.location) untouched (cell_of n es) _ c.self.invariant (none_before (c.self.inside.last_place + 1) c.self.inside.least_count) (put_is_of n es c.forget.new.self c.args.location untouched c.self.inside.shards_within put)

pub returns-clause-kept : goal.returns-clause-kept
returns-clause-kept g c =
    let n = c.self.inside.layout in
    let es = c.self.inside.pages in
    let put = rw (c.spot_of-spot.ensures.page, c.spot_of-spot.ensures.seat) at c.forget.ensures in
    rw (← c.self.view_is) (kept_put (cell_of n es) _ c.args.location untouched c.ranges.location.fits (put_is_of n es c.forget.new.self c.args.location untouched c.self.inside.shards_within put))
