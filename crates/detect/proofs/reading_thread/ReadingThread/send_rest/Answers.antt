use Rattle.detect.proofs.Common.{List, Option, Some, refl, sym, subst, ◌∙◌, Placed, sent_whole, HasSent}
use Rattle.detect.proofs.LanesBack.{further_refl}
use Rattle.detect.proofs.Sendings.{goes_on_trans, sent_step, sent_idle, still_pending}
use Rattle.detect.proofs.reading_thread.ReadingThread.send_rest.Goals as goal

pub loop-init : goal.loop-init
loop-init g c = record {
  sent = λ w p is h.
      let P : Option Placed → Type 0 = λ o. HasSent (sent_whole w (Some p) o) c.wait.new.self.router in
      subst P (sym (c.wait.ensures.unchanged.pending ∙ is)) (c.wait.ensures.unchanged.sent w h);
  pending = λ p is. sym c.wait.ensures.unchanged.pending ∙ is;
  unmarked = c.wait.ensures.unchanged.marked ∙ c.requires.unmarked;
  goes_on = c.wait.ensures.goes_on;
}

pub returns-in-Idle-clause-sent : goal.returns-in-Idle-clause-sent
returns-in-Idle-clause-sent g c w h =
    let P : List Placed → Type 0 = λ u. HasSent u c.step.new.self in
    subst P h.all (sent_idle h.last h.before _ _ c.step.new.self (c.in-Idle.ensures.idle.0 refl) (c.step.ensures.goes_on.sent _ (c.loop.invariant.sent h.before h.last h.pending h.sent)))

pub loop-preserved-in-Moved : goal.loop-preserved-in-Moved
loop-preserved-in-Moved g c =
    let i = c.loop.invariant in
    record {
      sent = λ w p is h. sent_step p w _ _ _ c.step.new.self is i.pending (λ e. let same = c.in-Moved.ensures.idle.1 e in absurd cc) (c.step.ensures.goes_on.sent _ (i.sent w p is h));
      pending = λ p e. i.pending p (still_pending _ _ _ refl (λ none. let same = c.in-Moved.ensures.idle.1 none in absurd cc) c.in-Moved.ensures.put p e);
      unmarked = c.step.ensures.goes_on.marked ∙ i.unmarked;
      goes_on = goes_on_trans _ _ _ i.goes_on (record { part = refl; lanes = c.step.ensures.goes_on.on; further = further_refl c.loop.self.gathering });
    }
