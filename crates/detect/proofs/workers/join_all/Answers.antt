use Rattle.std.proofs.Common.{◌∷◌, [], length-append, arith, ◌∙◌}
use Rattle.detect.proofs.WorkersDone.{did_more}
use Rattle.detect.proofs.workers.join_all.Goals as goal

pub loop-handle-preserved : goal.loop-handle-preserved
loop-handle-preserved g c =
    let i = c.loop-handle.invariant in (
      did_more c.loop-handle.yielded c.in-Some.handle c.loop-handle.workers.items c.join.result c.push_reserved.new.self.items c.push_reserved.ensures.items i.0 c.join.ensures,
      omega (arith, i.1, c.push_reserved.ensures.len, length-append c.loop-handle.yielded (c.in-Some.handle ∷ [])),
      c.push_reserved.ensures.capacity ∙ i.2,
    )
