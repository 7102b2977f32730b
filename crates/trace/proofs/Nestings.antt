-- What each step of a nest leaves of `HasNested`, and what its end says.
use Rattle.trace.proofs.Common.{◌≡◌, ◌≢◌, ℕ, zero, suc, ◌+◌, ◌-◌, ◌<◌, ◌≤◌, Bool, true, false, IsTrue, List, [], ◌∷◌, ◌++◌, length, ◌⊎◌, inl, inr, ⊎_elim, arith, refl, sym, ap, ◌∙◌, subst, length-append, ◌↔◌, sum_by, false≢true, sum_by-append, Record, Spawn, Call, Return, Sync, Write, NestKind, AfterEnd, TooDeep, Unfinished, depth, opens, closes, IsPlace, IsRootReturn, IsWellNested, HasEnded, IsMisplaced, after_end, too_deep, AreNested, none, next, Nesting, HasNested}
use native.Mathlib.Decide.{dec_le}
use Rattle.dag.specs.declared.records.Record.TheVariants.{Read}
use Rattle.trace.proofs.Places.{at-front, depth-front, depth-next, depth-pushed, ended_before, ended_by, ended_after}

-- where no record is misplaced and the root hasn't returned, no more procedures have returned than were opened
pub balanced : (d : ℕ) {u : List Record} → AreNested d u → (HasEnded u → ⊥) → sum_by closes u ≤ sum_by opens u
balanced d none running = omega arith
balanced d (next {u} {r} before placed) running =
    let earlier : sum_by closes u ≤ sum_by opens u = balanced d before (λ e. running (ended_before u r e)) in
    go r earlier running
  where
    go : (r' : Record) → sum_by closes u ≤ sum_by opens u → (HasEnded (u ++ r' ∷ []) → ⊥) → sum_by closes (u ++ r' ∷ []) ≤ sum_by opens (u ++ r' ∷ [])
    go Spawn le run = omega (arith, sum_by-append closes u (Spawn ∷ []), sum_by-append opens u (Spawn ∷ []))
    go Call le run = omega (arith, sum_by-append closes u (Call ∷ []), sum_by-append opens u (Call ∷ []))
    go Sync le run = omega (arith, sum_by-append closes u (Sync ∷ []), sum_by-append opens u (Sync ∷ []))
    go (Read l) le run = omega (arith, sum_by-append closes u (Read l ∷ []), sum_by-append opens u (Read l ∷ []))
    go (Write l) le run = omega (arith, sum_by-append closes u (Write l ∷ []), sum_by-append opens u (Write l ∷ []))
    go Return le run =
        let deep : depth u (suc (length u)) ≢ 0 = λ z. run (ended_by u z) in
        let deep' : sum_by opens u - sum_by closes u ≢ 0 = λ z. deep (depth-next u ∙ z) in
        omega (arith, sum_by-append closes u (Return ∷ []), sum_by-append opens u (Return ∷ []))

-- no record follows the root's return
pub ended_last : (d : ℕ) {u : List Record} → AreNested d u → (i : ℕ) → i < length u → IsPlace u i → IsRootReturn u i → ⊥
ended_last d none i lt p e = absurd (omega arith)
ended_last d (next {u} {r} before placed) i lt p e =
    let le : i ≤ length u = omega (arith, length-append u (r ∷ [])) in
    placed AfterEnd (after_end (i, (p.0, le), record { a_return = sym (at-front u (r ∷ []) i le) ∙ e.a_return; at_zero = sym (depth-front u (r ∷ []) i (omega arith)) ∙ e.at_zero }))

running_before : (d : ℕ) (u : List Record) (r : Record) → ((k : NestKind) → IsMisplaced d u r k → ⊥) → HasEnded u → ⊥
running_before d u r fine e = fine AfterEnd (after_end e)

depth_after : (d : ℕ) {u : List Record} → AreNested d u → (r : Record) → ((k : NestKind) → IsMisplaced d u r k → ⊥) → depth u (suc (length u)) ≤ d → depth (u ++ r ∷ []) (suc (length (u ++ r ∷ []))) ≤ d
depth_after d {u} nested Spawn fine below = go (dec_le d (depth u (suc (length u))))
  where
    go : Dec (d ≤ depth u (suc (length u))) → depth (u ++ Spawn ∷ []) (suc (length (u ++ Spawn ∷ []))) ≤ d
    go (yes full) = absurd (fine TooDeep (too_deep (running_before d u Spawn fine) refl full))
    go (no room) = omega (arith, depth-pushed u Spawn, depth-next u, balanced d nested (running_before d u Spawn fine))
depth_after d {u} nested Call fine below = go (dec_le d (depth u (suc (length u))))
  where
    go : Dec (d ≤ depth u (suc (length u))) → depth (u ++ Call ∷ []) (suc (length (u ++ Call ∷ []))) ≤ d
    go (yes full) = absurd (fine TooDeep (too_deep (running_before d u Call fine) refl full))
    go (no room) = omega (arith, depth-pushed u Call, depth-next u, balanced d nested (running_before d u Call fine))
depth_after d {u} nested Return fine below = omega (arith, depth-pushed u Return, depth-next u)
depth_after d {u} nested Sync fine below = omega (arith, depth-pushed u Sync, depth-next u)
depth_after d {u} nested (Read l) fine below = omega (arith, depth-pushed u (Read l), depth-next u)
depth_after d {u} nested (Write l) fine below = omega (arith, depth-pushed u (Write l), depth-next u)

-- no place is deeper than the limit, the next one included
pub depth_limited : (d : ℕ) {u : List Record} → AreNested d u → (i : ℕ) → i ≤ suc (length u) → depth u i ≤ d
depth_limited d none zero le = omega arith
depth_limited d none (suc zero) le = omega arith
depth_limited d none (suc (suc i)) le = absurd (omega arith)
depth_limited d (next {u} {r} before placed) i le = go (depth_limited d before) (dec_le i (suc (length u)))
  where
    go : ((j : ℕ) → j ≤ suc (length u) → depth u j ≤ d) → Dec (i ≤ suc (length u)) → depth (u ++ r ∷ []) i ≤ d
    go ih (yes front) = let e : depth (u ++ r ∷ []) i ≡ depth u i = depth-front u (r ∷ []) i front in omega (arith, ih i front)
    go ih (no last) =
        let is : i ≡ suc (length (u ++ r ∷ [])) = omega (arith, length-append u (r ∷ [])) in
        let P : ℕ → Type 0 = λ j. depth (u ++ r ∷ []) j ≤ d in
        subst P (sym is) (depth_after d before r placed (ih (suc (length u)) (omega arith)))

from_one : (u : List Record) (j : ℕ) → IsRootReturn u j → 1 ≤ j
from_one u zero e = absurd (let z = e.a_return in cc)
from_one u (suc j) e = omega arith

pub nested_none : (d : ℕ) → HasNested [] (record { max_depth = d; count = 0; depth = 0; ended = false })
nested_none d = record { nested = none; count_is = refl; depth_is = refl; ended_is = (λ e. absurd (false≢true e), λ e. absurd (omega (arith, e.1))) }

opens_one : (r : Record) → (r ≡ Spawn) ⊎ (r ≡ Call) → opens r ≡ 1
opens_one r (inl e) = ap opens e
opens_one r (inr e) = ap opens e

closes_zero : (r : Record) → (r ≡ Spawn) ⊎ (r ≡ Call) → closes r ≡ 0
closes_zero r (inl e) = ap closes e
closes_zero r (inr e) = ap closes e

no_return : (r : Record) → (r ≡ Spawn) ⊎ (r ≡ Call) → r ≡ Return → ⊥
no_return r (inl e) f = cc
no_return r (inr e) f = cc

module _ (u : List Record) (n : Nesting) (h : HasNested u n) where
  pub misplaced_after_end : n.ended ≡ true → (r : Record) → IsMisplaced n.max_depth u r AfterEnd
  misplaced_after_end ended r = after_end (h.ended_is.0 ended)

  running : n.ended ≡ false → HasEnded u → ⊥
  running open_yet e = false≢true (sym open_yet ∙ h.ended_is.1 e)

  pub misplaced_deep : n.ended ≡ false → n.max_depth ≤ n.depth → (r : Record) → opens r ≡ 1 → IsMisplaced n.max_depth u r TooDeep
  misplaced_deep open_yet full r one = too_deep (running open_yet) one (omega (arith, h.depth_is))

  -- one more record, which isn't misplaced
  accepted : n.ended ≡ false → (r : Record) → ((k : NestKind) → IsMisplaced n.max_depth u r k → ⊥) → (deep : ℕ) (ended : Bool) → deep ≡ (n.depth + opens r) - closes r → (IsTrue ended ↔ ((r ≡ Return) × (n.depth ≡ 0)))
      → HasNested (u ++ r ∷ []) (record { max_depth = n.max_depth; count = n.count + 1; depth = deep; ended = ended })
  accepted open_yet r fine deep ended deep_is ended_is =
      record {
        nested = next h.nested fine;
        count_is = omega (arith, h.count_is, length-append u (r ∷ []));
        depth_is = omega (arith, h.depth_is, deep_is, depth-pushed u r, depth-next u, balanced n.max_depth h.nested (running open_yet));
        ended_is = (to, from);
      }
    where
      to : IsTrue ended → HasEnded (u ++ r ∷ [])
      to t = let is = ended_is.0 t in let P : Record → Type 0 = λ x. HasEnded (u ++ x ∷ []) in subst P (sym is.0) (ended_by u (omega (arith, h.depth_is, is.1)))

      from : HasEnded (u ++ r ∷ []) → IsTrue ended
      from e = ⊎_elim (λ was. absurd (running open_yet was)) (λ is. ended_is.1 (is.0, omega (arith, h.depth_is, is.1))) (ended_after u r e)

  not_deep : (r : Record) → opens r ≡ 0 → n.ended ≡ false → (k : NestKind) → IsMisplaced n.max_depth u r k → ⊥
  not_deep r flat open_yet AfterEnd (after_end e) = running open_yet e
  not_deep r flat open_yet TooDeep (too_deep run opening full) = absurd (omega arith)
  not_deep r flat open_yet Unfinished none_such = elim none_such [ ]

  -- a spawn or a call
  pub accepted_opener : n.ended ≡ false → n.depth < n.max_depth → (r : Record) → (r ≡ Spawn) ⊎ (r ≡ Call) → HasNested (u ++ r ∷ []) (record { max_depth = n.max_depth; count = n.count + 1; depth = n.depth + 1; ended = false })
  accepted_opener open_yet room r kind =
      let one : opens r ≡ 1 = opens_one r kind in
      let none : closes r ≡ 0 = closes_zero r kind in
      accepted open_yet r fine (n.depth + 1) false (omega arith) (λ t. absurd (false≢true t), λ e. absurd (no_return r kind e.0))
    where
      fine : (k : NestKind) → IsMisplaced n.max_depth u r k → ⊥
      fine AfterEnd (after_end e) = running open_yet e
      fine TooDeep (too_deep run opening full) = absurd (omega (arith, h.depth_is))
      fine Unfinished none_such = elim none_such [ ]

  pub accepted_return : n.ended ≡ false → 0 < n.depth → HasNested (u ++ Return ∷ []) (record { max_depth = n.max_depth; count = n.count + 1; depth = n.depth - 1; ended = false })
  accepted_return open_yet deep = accepted open_yet Return (not_deep Return refl open_yet) (n.depth - 1) false (omega arith) (λ t. absurd (false≢true t), λ e. absurd (omega (arith, e.1)))

  pub accepted_root_return : n.ended ≡ false → n.depth ≡ 0 → HasNested (u ++ Return ∷ []) (record { max_depth = n.max_depth; count = n.count + 1; depth = n.depth; ended = true })
  accepted_root_return open_yet flat = accepted open_yet Return (not_deep Return refl open_yet) n.depth true (omega arith) (λ t. (refl, flat), λ e. refl)

  -- a record that neither opens nor closes a procedure
  pub accepted_other : n.ended ≡ false → (r : Record) → (r ≡ Sync) ⊎ (((l : ℕ) × (r ≡ Read l)) ⊎ ((l : ℕ) × (r ≡ Write l))) → HasNested (u ++ r ∷ []) (record { max_depth = n.max_depth; count = n.count + 1; depth = n.depth; ended = false })
  accepted_other open_yet r kind = go r kind
    where
      flat : (r' : Record) → opens r' ≡ 0 → closes r' ≡ 0 → (r' ≡ Return → ⊥) → HasNested (u ++ r' ∷ []) (record { max_depth = n.max_depth; count = n.count + 1; depth = n.depth; ended = false })
      flat r' o c other = accepted open_yet r' (not_deep r' o open_yet) n.depth false (omega arith) (λ t. absurd (false≢true t), λ e. absurd (other e.0))

      go : (r' : Record) → (r' ≡ Sync) ⊎ (((l : ℕ) × (r' ≡ Read l)) ⊎ ((l : ℕ) × (r' ≡ Write l))) → HasNested (u ++ r' ∷ []) (record { max_depth = n.max_depth; count = n.count + 1; depth = n.depth; ended = false })
      go Sync k = flat Sync refl refl (λ e. cc)
      go (Read l) k = flat (Read l) refl refl (λ e. cc)
      go (Write l) k = flat (Write l) refl refl (λ e. cc)
      go Spawn (inl e) = absurd (cc)
      go Spawn (inr (inl (l, e))) = absurd (cc)
      go Spawn (inr (inr (l, e))) = absurd (cc)
      go Call (inl e) = absurd (cc)
      go Call (inr (inl (l, e))) = absurd (cc)
      go Call (inr (inr (l, e))) = absurd (cc)
      go Return (inl e) = absurd (cc)
      go Return (inr (inl (l, e))) = absurd (cc)
      go Return (inr (inr (l, e))) = absurd (cc)

  -- after the root's return the records are well nested
  pub well_nested : n.ended ≡ true → IsWellNested u n.count n.max_depth
  well_nested ended = go (h.ended_is.0 ended)
    where
      go : HasEnded u → IsWellNested u n.count n.max_depth
      go (i, p, e) = go' (dec_le (suc i) (length u))
        where
          go' : Dec (i < length u) → IsWellNested u n.count n.max_depth
          go' (yes lt) = absurd (ended_last n.max_depth h.nested i lt p e)
          go' (no last) =
              record {
                some = omega (arith, p.0, p.1);
                within = omega (arith, h.count_is);
                last = subst (IsRootReturn u) (omega (arith, p.1)) e;
                no_earlier = λ j lt r. ended_last n.max_depth h.nested j lt (from_one u j r, omega arith) r;
                not_too_deep = λ j q. depth_limited n.max_depth h.nested j (omega (arith, q.1));
              }
