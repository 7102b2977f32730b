use Rattle.detect.proofs.Common.{rules, ◌≡◌, ℕ, [], ◌∷◌, ◌++◌, refl, sym, ap, subst, ◌∙◌, placed, records_of, Change, ◌⇝◌, IsWantOfMemory, Feeding, HasFed, IsWhole, ends_refused, refused_by_fault, given_next, given_end, ReadingThread}
use Rattle.trace.proofs.Feedings.{consumes_none, consumes_more, fed_none, at_limits}
use Rattle.detect.proofs.Sendings.{goes_on_refl, goes_on_trans, goes_on_both, fewer_left, sent_more}
use Rattle.detect.proofs.reading_thread.ReadingThread.send_all.Goals as goal

pub records-init : goal.records-init
records-init g c =
    let P : Feeding → Type 0 = HasFed [] [] in
    record {
      trace = [];
      came = [];
      gave = consumes_none _;
      fed = subst P (sym c.new-intake.ensures) (fed_none c.args.limits.records c.args.limits.depth);
      sent = c.requires.none_sent;
      ready = c.requires.ready;
      goes_on = goes_on_refl _;
      steady = refl;
      records = ap (λ (s : Feeding). s.reading.limit) c.new-intake.ensures;
      depths = ap (λ (s : Feeding). s.nesting.max_depth) c.new-intake.ensures;
    }

pub records-smaller-in-Continue-1 : goal.records-smaller-in-Continue-1
records-smaller-in-Continue-1 g c =
    let i = c.records.invariant in
    let answer = c.in-Some.ensures.next (g.R.Source.state c.records.source) in
    let next = answer.fed i.trace i.came i.fed in
    fewer_left _ i.trace _ _ _ c.records.intake _ i.fed next.2.1 answer.limits.records i.records

pub records-preserved-in-Continue-1 : goal.records-preserved-in-Continue-1
records-preserved-in-Continue-1 g c =
    let i = c.records.invariant in
    let answer = c.in-Some.ensures.next (g.R.Source.state c.records.source) in
    let next = answer.fed i.trace i.came i.fed in
    record {
      trace = i.trace ++ c.in-Some.placed.what ∷ [];
      came = i.came ++ next.0;
      gave = consumes_more _ _ _ i.came next.0 i.gave next.1;
      fed = next.2.1;
      sent = sent_more c.args.self.now c.records.self c.send.new.self i.trace c.in-Some.placed next.2.0 i.goes_on (c.send.ensures.sent (placed i.trace)) i.sent;
      ready = c.in_ok-send-in-Some.ensures.ready;
      goes_on = goes_on_trans _ _ _ i.goes_on c.send.ensures.goes_on;
      steady = next.2.2 ∙ i.steady;
      records = answer.limits.records ∙ i.records;
      depths = answer.limits.depths ∙ i.depths;
    }

pub records-smaller : goal.records-smaller
records-smaller g c =
    let i = c.records.invariant in
    let same : c.next_known.new.self ≡ c.records.intake = search rules in
    let kept : HasFed i.trace i.came c.next_known.new.self = subst (HasFed i.trace i.came) (sym same) i.fed in
    let fed = c.in_ok-read_on-in-None.ensures.fed i.trace i.came kept in
    let change : Change = g.R.Source.state c.records.source ⇝ g.R.Source.state c.read_on.new.source in
    let next = given_next _ _ _ _ change _ _ _ c.in-Some-2.is fed.2 in
    fewer_left _ i.trace _ _ _ c.records.intake _ i.fed next.1 (c.read_on.ensures.limits.records ∙ ap (λ (s : Feeding). s.reading.limit) same) i.records

pub records-preserved : goal.records-preserved
records-preserved g c =
    let i = c.records.invariant in
    let same : c.next_known.new.self ≡ c.records.intake = search rules in
    let kept : HasFed i.trace i.came c.next_known.new.self = subst (HasFed i.trace i.came) (sym same) i.fed in
    let fed = c.in_ok-read_on-in-None.ensures.fed i.trace i.came kept in
    let change : Change = g.R.Source.state c.records.source ⇝ g.R.Source.state c.read_on.new.source in
    let next = given_next _ _ _ _ change _ _ _ c.in-Some-2.is fed.2 in
    let taken : ReadingThread = record c.records.self { router = c.flush.new.self; gathering = c.take_backs.new.self } in
    let goes_on = goes_on_trans _ _ _ i.goes_on (goes_on_both c.records.self c.flush.new.self c.take_backs.new.self c.flush.ensures.unchanged.on c.take_backs.ensures.further) in
    let before = c.flush.ensures.unchanged.sent (records_of c.args.self.now.part (placed i.trace)) i.sent in
    record {
      trace = i.trace ++ c.in-Some-2.placed.what ∷ [];
      came = i.came ++ fed.0;
      gave = consumes_more _ _ _ i.came fed.0 i.gave fed.1;
      fed = next.1;
      sent = sent_more c.args.self.now taken c.send-in-Some-2.new.self i.trace c.in-Some-2.placed next.0 goes_on (c.send-in-Some-2.ensures.sent (placed i.trace)) before;
      ready = c.in_ok-send-in-Some-2.ensures.ready;
      goes_on = goes_on_trans _ _ _ goes_on c.send-in-Some-2.ensures.goes_on;
      steady = next.2 ∙ i.steady;
      records = c.read_on.ensures.limits.records ∙ ap (λ (s : Feeding). s.reading.limit) same ∙ i.records;
      depths = c.read_on.ensures.limits.depths ∙ ap (λ (s : Feeding). s.nesting.max_depth) same ∙ i.depths;
    }

pub returns-in_err-read_on-in-None-clause-sent : goal.returns-in_err-read_on-in-None-clause-sent
returns-in_err-read_on-in-None-clause-sent g c =
    let i = c.records.invariant in
    let same : c.next_known.new.self ≡ c.records.intake = search rules in
    let kept : HasFed i.trace i.came c.next_known.new.self = subst (HasFed i.trace i.came) (sym same) i.fed in
    let fed = c.in_err-read_on-in-None.ensures.fed i.trace i.came kept in
    ends_refused _ _ _ _ _ _ _ c.from_residual-in_err-read_on-in-None.ensures.1
    (refused_by_fault IsWantOfMemory _ _ _ _ (g.R.Source.state c.args.source.now) (g.R.Source.state c.records.source) (g.R.Source.state c.read_on.new.source) i.came fed.0 _
    (ap (λ (s : Feeding). s.reading.limit) same ∙ i.records) (ap (λ (s : Feeding). s.nesting.max_depth) same ∙ i.depths) i.steady i.gave fed.1 fed.2.0)

pub returns-in-None-2-clause-sent : goal.returns-in-None-2-clause-sent
returns-in-None-2-clause-sent g c =
    let i = c.records.invariant in
    let same : c.next_known.new.self ≡ c.records.intake = search rules in
    let kept : HasFed i.trace i.came c.next_known.new.self = subst (HasFed i.trace i.came) (sym same) i.fed in
    let fed = c.in_ok-read_on-in-None.ensures.fed i.trace i.came kept in
    let change : Change = g.R.Source.state c.records.source ⇝ g.R.Source.state c.read_on.new.source in
    let end = given_end _ _ _ _ change _ _ c.in-None-2.is fed.2 in
    let P : ℕ → ℕ → Type 0 = λ r d. IsWhole r d i.trace (i.came ++ fed.0) (g.R.Source.state c.read_on.new.source) in
    record {
      trace = i.trace;
      read = record {
        came = i.came ++ fed.0;
        gave = consumes_more _ _ _ i.came fed.0 i.gave fed.1;
        whole = at_limits P _ _ _ _ (ap (λ (s : Feeding). s.reading.limit) same ∙ i.records) (ap (λ (s : Feeding). s.nesting.max_depth) same ∙ i.depths) end;
      };
      says = c.flush.ensures.unchanged.sent (records_of c.args.self.now.part (placed i.trace)) i.sent;
    }

pub returns-in_err-read_on-in-None-clause-goes_on : goal.returns-in_err-read_on-in-None-clause-goes_on
returns-in_err-read_on-in-None-clause-goes_on g c = goes_on_trans _ _ _ c.records.invariant.goes_on (goes_on_both c.records.self c.flush.new.self c.take_backs.new.self c.flush.ensures.unchanged.on c.take_backs.ensures.further)

pub returns-in-None-2-clause-goes_on : goal.returns-in-None-2-clause-goes_on
returns-in-None-2-clause-goes_on g c = goes_on_trans _ _ _ c.records.invariant.goes_on (goes_on_both c.records.self c.flush.new.self c.take_backs.new.self c.flush.ensures.unchanged.on c.take_backs.ensures.further)
