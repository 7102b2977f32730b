use Rattle.detect.proofs.Common.{vec_len, ap, subst, sym, ◌∙◌, arith, ReadingThread, GoesOn}
use Rattle.detect.proofs.Endings.{lacks_no_thread}
use Rattle.detect.proofs.LanesBack.{further_trans}
use Rattle.detect.proofs.Sendings.{goes_on_refl, goes_on_trans}
use Rattle.detect.proofs.RunDone.{worker_lanes, closed, done_refused, done_started}
use Rattle.detect.proofs.sharded.run_workers.Goals.{in-Ok, in-Err}
use Rattle.detect.proofs.sharded.run_workers.Goals as goal

pub mark_all-requires : goal.mark_all-requires
mark_all-requires g c = elim c.match-start_all.branch [
  | in-Ok w ↦ ap (λ (s : ReadingThread). s.router.pending) w.reading-is ∙ w.send_all-outcome.ensures.idle
  | in-Err w ↦ ap (λ (s : ReadingThread). s.router.pending) w.reading-is ∙ c.requires.idle.none_pending
]

pub finish_lanes-requires : goal.finish_lanes-requires
finish_lanes-requires g c = elim c.match-start_all.branch [
  | in-Ok w ↦ omega (arith, c.len.ensures, c.start_all.ensures.most, c.mark_all.ensures.goes_on.further.count, ap (λ (s : ReadingThread). vec_len s.gathering.backs) w.reading-is, w.send_all-outcome.ensures.goes_on.further.count, c.args.made.reading.gathering.backs.ok.0, c.requires.backs)
  | in-Err w ↦ omega (arith, c.len.ensures, c.start_all.ensures.most, c.mark_all.ensures.goes_on.further.count, ap (λ (s : ReadingThread). vec_len s.gathering.backs) w.reading-is, c.args.made.reading.gathering.backs.ok.0, c.requires.backs)
]

pub returns-clause-done : goal.returns-clause-done
returns-clause-done g c = elim c.match-start_all.branch [
  | in-Ok w ↦ done_started c.args.made.reading.part g.R.Source.state _ _ _ _ c.args.made _ c.start_all.new.handles.items _ _ _ _ _ _ w.source-is w.reading-is w.outcome-is
      c.requires w.in-Ok.ensures.started w.send_all-outcome.ensures.sent w.send_all-outcome.ensures.goes_on
      c.mark_all.ensures.sent c.mark_all.ensures.idle c.mark_all.ensures.marked c.mark_all.ensures.goes_on.lanes c.mark_all.ensures.goes_on.further c.finish_lanes.ensures.further
      (λ k h. c.finish_lanes.ensures.ended k (omega (arith, h, c.len.ensures, c.start_all.new.handles.ok.0))) c.join_all.ensures
  | in-Err w ↦ done_refused c.args.made.reading.part _ _ _ _ _ _ w.outcome-is w.in-Err.ensures.refused
]

pub returns-clause-closed : goal.returns-clause-closed
returns-clause-closed g c =
    let P : ReadingThread → Type 0 = GoesOn c.args.made.reading in
    let on : GoesOn c.args.made.reading c.mark_all.new.self = goes_on_trans _ _ _ (elim c.match-start_all.branch [
      | in-Ok w ↦ subst P (sym w.reading-is) w.send_all-outcome.ensures.goes_on
      | in-Err w ↦ subst P (sym w.reading-is) (goes_on_refl c.args.made.reading)
    ]) c.mark_all.ensures.goes_on in
    closed _ c.args.made _ c.start_all.new.handles.items c.requires c.start_all.ensures.first_ones c.mark_all.ensures.marked on.lanes (further_trans _ _ _ on.further c.finish_lanes.ensures.further) c.join_all.ensures

pub returns-clause-lanes : goal.returns-clause-lanes
returns-clause-lanes g c = worker_lanes c.args.made.jobs.items c.start_all.new.handles.items _ c.start_all.ensures.first_ones c.join_all.ensures

pub returns-clause-unread : goal.returns-clause-unread
returns-clause-unread g c no_thread = elim c.match-start_all.branch [
  | in-Ok w ↦ absurd (lacks_no_thread _ _ _ _ _ w.send_all-outcome.ensures.sent (sym w.outcome-is ∙ no_thread))
  | in-Err w ↦ w.source-is
]
