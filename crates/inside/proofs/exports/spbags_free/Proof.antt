-- Reads the session out of its room, and closes it.
use Rattle.inside.proofs.Steps.{List, [], ◌∷◌, refl, ap, proved, full_share, id⊢, ftrue, fat, Val, vunit, tables, WpFn, ‵, raw, ◌⊛◌, some, later, prop, ◌$◌, ◌∵◌, !, qed, done, move, keep, drop, use1, use2, split, join, fsplit, feq_i, feq_l, pick, await, regoal, suffices, group, whole, sub, enter, of_opd, unit_lit, load, look, stop, fld, no_more, and_then, returns, alloc_all, pass_all, free_all, look_at, get, get_in, through, sets, lands_as, part_out, unit, yes, Is, shows, lone, Ptr, block_ptr, lies_at, room_at, in_a_block, plain, nothing, only, peeks, calls_at, ensured, triple_of, framed, Stays, walk_of, stay_dropped, Goes-dropped, ends_at}
use Rattle.inside.specs.declared.handle.Handle.{Handle}
use Rattle.inside.specs.contracts.session.Session.{the_row as S}
use Rattle.inside.specs.contracts.handle.Handle.{the_row as R}
use Rattle.inside.proofs.session.Session.TheLaws as laws
use Rattle.inside.proofs.handle.Handle.TheLaws.{lowers}
use Rattle.inside.specs.contracts.exports.spbags_free as f
use Rattle.inside.proofs.exports.spbags_free.Statement.{statement}
use Rattle.inside.proofs.exports.spbags_free.Code as code
use Rattle.inside.specs.contracts.session.Session.close as g
use Rattle.inside.proofs.session.Session.close.Met.{met}

abbrev stayed : Stays f.ended.signature.params f.ended.kept
stayed = (stay_dropped _ yes, tt)

abbrev vals : Handle → List Val
vals h = lowers.lowered h ∷ []

pub spbags_free_spec : {M : Type 1} → statement M
spbags_free_spec 𝓤 𝓛 𝓜 𝓡 wired =
    let c = f.clauses 𝓛 𝓜.mem 𝓡.returns in let W = walk_of 𝓛 f.ended stayed c in let 𝓣 = tables 𝓤 𝓛.H 𝓜 𝓡 𝓡.env in
    proved 𝓛 f.ended stayed c 𝓜 𝓡 (Goes-dropped 𝓛 0 (plain (λ _. R)) yes (λ κs x w. refl), tt)
    f.Key.name code.function (code.unfolded 𝓤 𝓛.H 𝓜 𝓡 wired)
    (λ κs. (vals, tt)) (λ κs. (lowers.val_is, tt)) (λ κs qs bounds a _ are.
    let h = a.0 in let s = h.session in
    let y : Ptr → W.Ghost = λ p. ((κs, qs, bounds, (record h { at = p }, tt), (vals (record h { at = p }), tt)), tt) in
    qed 𝓛 ((‵ ftrue ⊛ ‵ (R.own_val h (vals h)) ⊛ ‵ ftrue) ∷ ‵ ftrue ∷ []) ∵ split ! $ drop ! $ split ! $ fsplit ! $ keep ! (1 ∷ []) $
    in_a_block ! h.at (λ p. lies_at S full_share p s) (id⊢ 𝓤 _) (λ b o e.
    regoal ! (λ p. prop (WpFn 𝓤 𝓛.H 𝓣.C 𝓣.Λ code.function (vals (record h { at = p })) (W.post (y p)))) e refl $
    use1 𝓛 (some (λ (v : Val). ‵ (fat full_share (lone S.mir) b o v) ⊛ ‵ (S.own_val s (v ∷ [])))) (part_out 𝓛 S refl full_share s b o) $ pick ! (λ v. split ! $ move ! (1 ∷ []) $
    peeks ! S (Is S) (shows 𝓛 S) s (v ∷ []) (λ is. let good = ((laws.the_row_laws.lawful 𝓛).typed s (v ∷ []) is).0 in
    enter ! _ _ _ _ _ $ alloc_all ! (λ l. pass_all ! refl ((tt, (tt, tt)), tt) $
    -- [what the session owns; its cell; the locals]
    sets ! (of_opd ! (get_in ! (fld ! refl (stop !)) (sub ! 0 refl (whole !)))) refl (tt, tt) $
    sets ! (of_opd ! (get ! refl)) refl (tt, tt) $
    sets ! (of_opd ! (load ! (through ! refl (stop !)) (look ! 1 refl))) refl good $
    let G = triple_of 𝓛 g.signature (g.spec 𝓛 𝓜.mem 𝓡.returns) in
    let z : G.Ghost = ((κs, qs, bounds, (s, tt), (v ∷ [], tt)), tt) in
    nothing ! $ move ! (1 ∷ 0 ∷ []) $ join ! $ nothing ! $ join ! $ nothing ! $ move ! (1 ∷ 0 ∷ []) $ use2 𝓛 (raw (G.pre z)) (id⊢ 𝓤 _) $
    calls_at ! (framed 𝓤 𝓛.H 𝓜 (tables 𝓤 𝓛.H 𝓜 𝓡 𝓡.env)) G (met 𝓤 𝓛 𝓜 𝓡 (code.calls-inside::session::Session::close 𝓡.env wired)) z
    (and_then ! (get ! refl) (no_more !)) (λ w.
    use1 𝓛 (later (some (λ (u : Unit {0}). (‵ ftrue ⊛ ‵ (unit.own_val u (w ∷ []))) ⊛ raw (ensured 𝓛 g.ended (g.clauses 𝓛 𝓜.mem 𝓡.returns) κs (s, tt) tt u)))) (id⊢ 𝓤 _) $
    await ! tt $ pick ! (λ u. split ! $ split ! $ drop ! $ feq_l ! (λ is_unit. lands_as ! (ap only is_unit) refl (tt, tt) $
    sets ! (of_opd ! (unit_lit !)) refl (tt, tt) $
    -- [the clauses; the cell]
    returns ! (look_at ! 0 refl) $ free_all ! refl $ keep ! (1 ∷ []) $
    use1 𝓛 (‵ (room_at S (block_ptr b o))) (𝓛.laws.at_room (lone S.mir) b o v) $
    suffices ! _ (ends_at 𝓛 f.ended stayed c (y (block_ptr b o)) vunit tt (tt, tt) (tt, tt)) $
    feq_i ! _ (vunit ∷ []) _ refl $ nothing ! $ nothing ! $ join ! $ nothing ! $ group ! 3 $ done !))))))))
