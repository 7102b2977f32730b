-- Writes a new session into the room, and its handle where C wants it.
use Rattle.inside.proofs.Steps.{◌≢◌, List, [], ◌∷◌, ◌++◌, refl, proved, full_share, id⊢, ftrue, fsep, fex, Val, vunit, vptr, vstruct, vcons, vnil, fact, tables, WpFn, ‵, raw, ◌⊛◌, some, later, prop, ◌$◌, ◌∵◌, !, qed, done, move, keep, drop, use1, use2, split, join, fjoin, fpack, feq_i, pick, await, regoal, suffices, group, enter, init, of_opd, unit_lit, stop, no_more, and_then, assigns, returns, alloc_all, pass_all, free_all, look_at, get, through, sets, lands_as, agg, part_in, yes, Is, Tells, shows, Valss, Ptr, RawPtr, block_ptr, lies_at, room_at, in_a_block, rawptr_vals, rawptr_Tells, plain, nothing, heard, peeks, shape, within, calls_at, lasts, triple_of, framed, Stays, walk_of, stay_dropped, Goes-dropped, ends_at}
use denote.Struct.Laws as struct_laws
use Rattle.std.specs.contracts.alloc.Global as heap
use Rattle.std.proofs.alloc.Global.TheLaws as heap_laws
use Rattle.inside.specs.declared.session.Session.{Session}
use Rattle.inside.specs.declared.session.Session.TheVariants.{Stopped}
use Rattle.inside.specs.declared.handle.Handle.{Handle}
use Rattle.inside.specs.contracts.session.Session.{the_row as S}
use Rattle.inside.specs.contracts.handle.Handle.{the_row as R, the_type}
use Rattle.inside.proofs.session.Session.TheLaws as laws
use Rattle.online.specs.Lives.{first_lives}
use Rattle.inside.specs.Sessions.{HasTaken}
use Rattle.inside.specs.Handles.{IsNewIn}
use Rattle.inside.specs.contracts.exports.spbags_new as f
use Rattle.inside.proofs.exports.spbags_new.Statement.{statement}
use Rattle.inside.proofs.exports.spbags_new.Code as code
use Rattle.inside.specs.contracts.session.Session.new as g
use Rattle.inside.proofs.session.Session.new.Met.{met}

abbrev stayed : Stays f.ended.signature.params f.ended.kept
stayed = (stay_dropped _ yes, (stay_dropped _ yes, (stay_dropped _ yes, tt)))

-- the heap's handle is one value
abbrev heap_val : Val
heap_val = vstruct (vcons (vstruct (vcons vunit vnil)) vnil)

heap_Tells : Tells heap.the_row (Is heap.the_row) (λ _. heap_val ∷ [])
heap_Tells = struct_laws.tells heap.the_type heap_laws.the_laws

pub spbags_new_spec : {M : Type 1} → statement M
spbags_new_spec 𝓤 𝓛 𝓜 𝓡 wired =
    let c = f.clauses 𝓛 𝓜.mem 𝓡.returns in let W = walk_of 𝓛 f.ended stayed c in let 𝓣 = tables 𝓤 𝓛.H 𝓜 𝓡 𝓡.env in
    proved 𝓛 f.ended stayed c 𝓜 𝓡 (Goes-dropped 𝓛 0 (plain (λ _. heap.the_row)) yes (λ κs x w. refl), (Goes-dropped 𝓛 0 (plain (λ _. RawPtr)) yes (λ κs x w. refl), (Goes-dropped 𝓛 0 (plain (λ _. RawPtr)) yes (λ κs x w. refl), tt)))
    f.Key.name code.function (code.unfolded 𝓤 𝓛.H 𝓜 𝓡 wired)
    (λ κs. ((λ _. heap_val ∷ []), (rawptr_vals, (rawptr_vals, tt)))) (λ κs. (heap_Tells, (rawptr_Tells, (rawptr_Tells, tt)))) (λ κs qs bounds a n are.
    let hv = heap_val ∷ [] in let room = a.1.0 in let at = a.1.1.0 in
    let y : Ptr → Ptr → W.Ghost = λ p p'. ((κs, qs, bounds, (a.0, (p, (p', tt))), (hv, (rawptr_vals p, (rawptr_vals p', tt)))), n) in
    qed 𝓛 ((‵ ftrue ⊛ ‵ (heap.the_row.own_val a.0 hv) ⊛ ‵ (RawPtr.own_val room (rawptr_vals room)) ⊛ ‵ (RawPtr.own_val at (rawptr_vals at)) ⊛ ‵ ftrue) ∷ (‵ (room_at S room) ⊛ ‵ (room_at R at)) ∷ []) ∵
    split ! $ drop ! $ split ! $ keep ! (2 ∷ 0 ∷ []) $ split ! $
    in_a_block ! room (λ p. room_at S p) (id⊢ 𝓤 _) (λ b o e. move ! (1 ∷ []) $
    in_a_block ! at (λ p. room_at R p) (id⊢ 𝓤 _) (λ b' o' e'.
    regoal ! (λ p. prop (WpFn 𝓤 𝓛.H 𝓣.C 𝓣.Λ code.function (heap_val ∷ (rawptr_vals p ++ rawptr_vals at)) (W.post (y p at)))) e refl $
    regoal ! (λ p. prop (WpFn 𝓤 𝓛.H 𝓣.C 𝓣.Λ code.function (heap_val ∷ (rawptr_vals (block_ptr b o) ++ rawptr_vals p)) (W.post (y (block_ptr b o) p)))) e' refl $
    enter ! _ _ _ _ _ $ alloc_all ! (λ l. pass_all ! refl (((heap_laws.the_row_laws.lawful 𝓛).typed a.0 hv are.0).0, ((tt, tt), ((tt, tt), tt))) $
    -- [the handle's place; the room; the heap's handle; the locals]
    sets ! (of_opd ! (get ! refl)) refl (tt, tt) $
    let G = triple_of 𝓛 g.signature (g.spec 𝓛 𝓜.mem 𝓡.returns) in
    let z : G.Ghost = ((κs, qs, bounds, (a.0, tt), (hv, tt)), tt) in
    nothing ! $ move ! (3 ∷ 0 ∷ []) $ join ! $ nothing ! $ join ! $ nothing ! $ move ! (1 ∷ 0 ∷ []) $ use2 𝓛 (raw (G.pre z)) (id⊢ 𝓤 _) $
    calls_at ! (framed 𝓤 𝓛.H 𝓜 (tables 𝓤 𝓛.H 𝓜 𝓡 𝓡.env)) G (met 𝓤 𝓛 𝓜 𝓡 (code.calls-inside::session::Session::new 𝓡.env wired)) z
    (and_then ! (get ! refl) (no_more !)) (λ v.
    use1 𝓛 (later (some (λ (s : Session). (‵ ftrue ⊛ ‵ (S.own_val s (v ∷ []))) ⊛
    some (λ (ws : Unit {0} × Unit {0}). ‵ (lasts g.ended κs (a.0, tt) ws) ⊛ raw (fact 𝓤 (s ≢ Stopped → HasTaken [] first_lives s)))))) (id⊢ 𝓤 _) $
    await ! tt $ pick ! (λ s. split ! $ split ! $ drop ! $
    peeks ! S (Is S) (shows 𝓛 S) s (v ∷ []) (λ is. let good = ((laws.the_row_laws.lawful 𝓛).typed s (v ∷ []) is).0 in
    lands_as ! refl refl good $ move ! (1 ∷ []) $ pick ! (λ ws. split ! $ move ! (1 ∷ []) $ heard ! _ (λ said.
    -- [nothing; what the session owns; the handle's place; the room]
    let h : Handle = record { at = block_ptr b o; session = s } in let word : Val = vstruct (vcons (vptr b o) vnil) in
    assigns ! (of_opd ! (get ! refl)) (through ! refl (stop !)) (init ! 3 refl good) $
    sets ! (agg ! (and_then ! (get ! refl) (no_more !))) refl (tt, (tt, tt)) $
    assigns ! (of_opd ! (get ! refl)) (through ! refl (stop !)) (init ! 2 refl (tt, (tt, tt))) $
    sets ! (of_opd ! (unit_lit !)) refl (tt, tt) $
    returns ! (look_at ! 0 refl) $ free_all ! refl $ keep ! (3 ∷ 1 ∷ 2 ∷ []) $
    use2 𝓛 (‵ (lies_at S full_share (block_ptr b o) s)) (part_in 𝓛 S refl full_share s b o v) $
    nothing ! $ feq_i ! (List Val) (vptr b o ∷ []) (vptr b o ∷ []) refl $ fjoin ! $ feq_i ! (List Val) (word ∷ []) (word ∷ []) refl $ fjoin ! $
    fpack ! (Valss (RawPtr ∷ [])) (within (shape the_type) (block_ptr b o, tt) (word ∷ [])) (vptr b o ∷ [], tt) $ fjoin ! $ move ! (1 ∷ 0 ∷ []) $
    use2 𝓛 (‵ (lies_at R full_share (block_ptr b' o') h)) (part_in 𝓛 R refl full_share h b' o' word) $
    nothing ! $ fpack ! (IsNewIn (block_ptr b o) h) (λ _. ftrue) (refl, said) $ move ! (1 ∷ 0 ∷ []) $ fjoin ! $
    fpack ! Handle (λ d. fsep (lies_at R full_share (block_ptr b' o') d) (fex (IsNewIn (block_ptr b o) d) (λ _. ftrue))) h $
    suffices ! _ (ends_at 𝓛 f.ended stayed c (y (block_ptr b o) (block_ptr b' o')) vunit tt (tt, (tt, (tt, tt))) (tt, (tt, (tt, tt)))) $
    feq_i ! _ (vunit ∷ []) _ refl $ nothing ! $ nothing ! $ join ! $ nothing ! $ join ! $ nothing ! $ join ! $ nothing ! $ group ! 3 $ done !)))))))))
