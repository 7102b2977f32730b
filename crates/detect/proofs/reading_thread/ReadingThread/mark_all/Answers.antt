use Rattle.std.proofs.Common.{◌∙◌}
use Rattle.detect.proofs.Sendings.{goes_on_refl, goes_on_trans, goes_on_router}
use Rattle.detect.proofs.reading_thread.ReadingThread.mark_all.Goals as goal

pub loop-init : goal.loop-init
loop-init g c = record { sent = λ w h. h; idle = c.requires; goes_on = goes_on_refl _ }

pub loop-preserved-in-Moved : goal.loop-preserved-in-Moved
loop-preserved-in-Moved g c =
    let i = c.loop.invariant in
    record {
      sent = λ w h. c.mark_all_step.ensures.goes_on.sent w (i.sent w h);
      idle = c.mark_all_step.ensures.goes_on.pending;
      goes_on = goes_on_trans _ _ _ i.goes_on (goes_on_router c.loop.self c.mark_all_step.new.self c.mark_all_step.ensures.goes_on.on);
    }

pub loop-preserved : goal.loop-preserved
loop-preserved g c =
    let i = c.loop.invariant in
    record {
      sent = λ w h. c.wait.ensures.unchanged.sent w (c.mark_all_step.ensures.goes_on.sent w (i.sent w h));
      idle = c.wait.ensures.unchanged.pending ∙ c.mark_all_step.ensures.goes_on.pending;
      goes_on = goes_on_trans _ _ _ i.goes_on (goes_on_trans _ _ _ (goes_on_router c.loop.self c.mark_all_step.new.self c.mark_all_step.ensures.goes_on.on) c.wait.ensures.goes_on);
    }
