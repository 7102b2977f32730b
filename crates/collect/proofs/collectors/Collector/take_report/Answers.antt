use Rattle.collect.proofs.Common.{◌≡◌, ℕ, suc, ◌<◌, List, ◌∷◌, ◌++◌, map, length, get_or, take, drop, ap, sym, ◌∙◌, subst, take-append-drop, drop-cons, Back, Race, RaceAt, IsFirstOnLocation, IsTakenInPart, Collection, KeepsBest}
use Rattle.collect.proofs.Kept.{on_err}
use Rattle.collect.proofs.collectors.Collector.take_report.Goals as goal

cut_at : (rs : List RaceAt) (i : ℕ) (r : RaceAt) → i < length rs → r ≡ get_or rs i r → rs ≡ take i rs ++ r ∷ drop (suc i) rs
cut_at rs i r h e = sym (take-append-drop i rs) ∙ ap (λ l. take i rs ++ l) (drop-cons rs i r h ∙ ap (λ x. x ∷ drop (suc i) rs) (sym e))

-- the races before place i were taken, and then the growth for the race there was refused
taken_in_part : (report races : List RaceAt) (i : ℕ) (r : RaceAt) (c m d : Collection) → races ≡ report → i < length races → r ≡ get_or races i r → d ≡ m
    → ((g : List Back) → KeepsBest g c → KeepsBest (g ++ map Race (take i report)) m) → IsFirstOnLocation m (Race r) → IsTakenInPart report c d
taken_in_part report races i r c m d same h e unchanged took first =
    let at : i < length report = subst (λ (rs : List RaceAt). i < length rs) same h in
    let is : r ≡ get_or report i r = subst (λ (rs : List RaceAt). r ≡ get_or rs i r) same e in
    record {
      before = take i report;
      refused_at = r;
      after = drop (suc i) report;
      came = cut_at report i r at is;
      took = subst (λ (k : Collection). (g : List Back) → KeepsBest g c → KeepsBest (g ++ map Race (take i report)) k) (sym unchanged) took;
      is_first = subst (λ (k : Collection). IsFirstOnLocation k (Race r)) (sym unchanged) first;
    }

pub returns-in_err-keep-clause-err : goal.returns-in_err-keep-clause-err
returns-in_err-keep-clause-err c =
    let report = c.args.report.now in
    let races = c.races-race-items.result.now in
    let at = c.loop-race.race-index in
    on_err c.from_residual.result
    (taken_in_part report races at c.race-item.result c.args.self.now c.loop-race.self c.keep.new.self c.races-race-items.ensures.races c.loop-race-test.true c.race-item.is
    c.in_err-keep.ensures.err c.loop-race.invariant c.in_err-keep.ensures.cause)
