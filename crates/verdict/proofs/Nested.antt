-- Where only accesses go the rest of a well nested trace is well nested.
use Rattle.verdict.proofs.Common.{◌≡◌, ℕ, zero, suc, ◌+◌, ◌-◌, ◌<◌, ◌≤◌, Bool, true, false, List, length, Some, inl, inr, sym, ap, subst, ◌∙◌, arith, cases_Bool, cases_lt, Record, Return, at, depth, IsPlace, IsRootReturn, IsWellNested, IsAccessPlace, element_at, IsPlace-at, rest}
use Rattle.verdict.proofs.Structure.{same_depth}
use Rattle.verdict.proofs.Strands.{no_structure}
use Rattle.verdict.proofs.Lists.{passed, AccessesGo, accesses_go, passed-structure, rest-at, rest-shorter, passed-le, passed-next, passed-all, comes_from}

-- each place that doesn't stay holds an access
abbrev pub AccessPlacesGo : List Record → (ℕ → Bool) → Type 0
AccessPlacesGo w stays = (k : ℕ) → IsPlace w k → stays k ≡ false → IsAccessPlace w k

pub access_places_go : (w : List Record) (stays : ℕ → Bool) → AccessPlacesGo w stays → AccessesGo stays 1 w
access_places_go w stays go = accesses_go stays 1 w (λ t r g n.
    (let e : 1 + t ≡ suc t = omega arith in
    no_structure w (suc t) r (go (suc t) (IsPlace-at w (suc t) r g) (subst (λ (z : ℕ). stays z ≡ false) e n)) g))

-- what stands at a place of the rest
pub record CameFrom (w : List Record) (stays : ℕ → Bool) (p : ℕ) : Type 0 where
  pub t : ℕ
  pub same : at w (suc t) ≡ at (rest stays w) (suc p)
  pub place : IsPlace w (suc t)
  pub counts : passed stays 1 t w ≡ p

pub came_from : (w : List Record) (stays : ℕ → Bool) (p : ℕ) → IsPlace (rest stays w) (suc p) → CameFrom w stays p
came_from w stays p h =
    let q = element_at (rest stays w) p (omega (arith, h.1)) in
    let c = comes_from stays 1 w p q.0 q.1 in
    record { t = c.t; same = c.there ∙ sym q.1; place = IsPlace-at w (suc c.t) q.0 c.there; counts = c.counts }

module _ (w : List Record) (n d : ℕ) (stays : ℕ → Bool) (h : IsWellNested w n d) (go : AccessPlacesGo w stays) (t : ℕ) (e : suc t ≡ length w) where
  last_return : at w (suc t) ≡ Some Return
  last_return = subst (λ (z : ℕ). at w z ≡ Some Return) (sym e) h.last.a_return

  last_stays : stays (suc t) ≡ true
  last_stays = elim (cases_Bool (stays (suc t))) [
    | inl y ↦ y
    | inr f ↦ (let n : true ≡ false = no_structure w (suc t) Return (go (suc t) (IsPlace-at w (suc t) Return last_return) f) last_return in absurd (cc))
  ]

  rest_return : at (rest stays w) (suc (passed stays 1 t w)) ≡ Some Return
  rest_return = rest-at stays 1 t (suc t) w Return (omega arith) last_stays last_return

  rest_length : length (rest stays w) ≡ suc (passed stays 1 t w)
  rest_length =
      let a = IsPlace-at (rest stays w) (suc (passed stays 1 t w)) Return rest_return in
      let b : passed stays 1 (suc t) w ≡ length (rest stays w) = ap (λ (z : ℕ). passed stays 1 z w) e ∙ passed-all stays 1 w in
      omega (arith, a.1, b, passed-next stays 1 t w)

  rest_depth : (s : ℕ) → depth (rest stays w) (suc (passed stays 1 s w)) ≡ depth w (suc s)
  rest_depth s = same_depth (rest stays w) w (passed stays 1 s w) s (passed-structure stays 1 s w (access_places_go w stays go))

  rest_last : IsRootReturn (rest stays w) (length (rest stays w))
  rest_last = subst (IsRootReturn (rest stays w)) (sym rest_length) (record { a_return = rest_return; at_zero = rest_depth t ∙ (ap (depth w) e ∙ h.last.at_zero) })

  came_depth : (p : ℕ) (c : CameFrom w stays p) → depth w (suc c.t) ≡ depth (rest stays w) (suc p)
  came_depth p c = sym (rest_depth c.t) ∙ ap (λ (z : ℕ). depth (rest stays w) (suc z)) c.counts

  rest_no_earlier : (i : ℕ) → i < length (rest stays w) → IsRootReturn (rest stays w) i → ⊥
  rest_no_earlier zero l x = let z = x.a_return in absurd (cc)
  rest_no_earlier (suc p) l x =
      let c = came_from w stays p (omega arith, omega arith) in
      let y : IsRootReturn w (suc c.t) = record { a_return = c.same ∙ x.a_return; at_zero = came_depth p c ∙ x.at_zero } in
      elim (cases_lt c.t t) [
        | inl a ↦ h.no_earlier (suc c.t) (omega arith) y
        | inr a ↦ absurd (omega (arith, passed-le stays 1 t c.t w a, c.counts, rest_length))
      ]

  rest_not_too_deep : (i : ℕ) → IsPlace (rest stays w) i → depth (rest stays w) i ≤ d
  rest_not_too_deep zero l = absurd (omega (arith, l.0))
  rest_not_too_deep (suc p) l =
      let c = came_from w stays p l in
      omega (arith, h.not_too_deep (suc c.t) c.place, came_depth p c)

  rest_nested : IsWellNested (rest stays w) n d
  rest_nested = record {
    some = omega (arith, rest_length);
    within = omega (arith, rest-shorter stays 1 w, h.within);
    last = rest_last;
    no_earlier = λ i l x. rest_no_earlier i l x;
    not_too_deep = λ i l. rest_not_too_deep i l;
  }

pub rest-nested : (w : List Record) (n d : ℕ) (stays : ℕ → Bool) → IsWellNested w n d → AccessPlacesGo w stays → IsWellNested (rest stays w) n d
rest-nested w n d stays h go = rest_nested w n d stays h go (length w - 1) (omega (arith, h.some))
