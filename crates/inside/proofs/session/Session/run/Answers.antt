use Rattle.std.proofs.Common.{◌≡◌, ℕ, ◌+◌, List, [], ◌∷◌, ◌++◌, map, take, drop, slice_index_or, sym, ap, subst, ◌∙◌, append_assoc}
use Rattle.std.proofs.lemmas.List.{take-append-drop, map_more, map-append}
use Rattle.inside.specs.Naming.{named_with}
use Rattle.inside.specs.Sessions.{taken, HasStepped, HaveStepped}
use Rattle.inside.proofs.Runs.{runs_more, runs_refused}
use Rattle.inside.proofs.session.Session.run.Goals as goal

pub returns-then-status-ne-TAKEN : goal.returns-then-status-ne-TAKEN
returns-then-status-ne-TAKEN c =
    let i = c.loop-record.record-index in let rs = c.args.records.now in let name = named_with c.args.bits in let r = name (slice_index_or rs i 0) in
    let whole : map name (take i rs) ++ r ∷ map name (drop (i + 1) rs) ≡ map name rs = sym (append_assoc (map name (take i rs)) (r ∷ []) (map name (drop (i + 1) rs))) ∙ ap (λ (l : List (ℕ × ℕ)). l ++ map name (drop (i + 1) rs)) (sym (map_more name rs i 0 c.loop-record-test.true)) ∙ sym (map-append name (take (i + 1) rs) (drop (i + 1) rs)) ∙ ap (map name) (take-append-drop (i + 1) rs) in
    subst (λ (l : List (ℕ × ℕ)). HaveStepped c.args.self.now l c.take-status.new.self c.take-status.result) whole
    (runs_refused (map name (take i rs)) (map name (drop (i + 1) rs)) r _ _ _ _ c.loop-record.invariant c.take-status.ensures c.if-status-ne-TAKEN.true)

pub loop-record-preserved : goal.loop-record-preserved
loop-record-preserved c =
    let i = c.loop-record.record-index in let rs = c.args.records.now in let name = named_with c.args.bits in let r = name (slice_index_or rs i 0) in
    let step : HasStepped c.loop-record.self r.0 r.1 c.take-status.new.self taken = subst (λ (s : ℕ). HasStepped c.loop-record.self r.0 r.1 c.take-status.new.self s) c.if-status-ne-TAKEN.false c.take-status.ensures in
    subst (λ (l : List (ℕ × ℕ)). HaveStepped c.args.self.now l c.take-status.new.self taken) (sym (map_more name rs i 0 c.loop-record-test.true))
    (runs_more (map name (take i rs)) r _ _ _ c.loop-record.invariant step)
