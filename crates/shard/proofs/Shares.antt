-- A beginning of a share of a well nested trace is in order.
use Rattle.shard.proofs.Common.{◌≡◌, ℕ, suc, ◌+◌, ◌-◌, ◌≤◌, ◌^◌, false, List, [], ◌∷◌, length, map, ⊎_elim, refl, sym, ap, subst, arith, cases_Bool, cond-true, cond-false, Record, Spawn, Call, Return, Sync, Read, Write, Placed, opens, closes, placed, placed_from, IsWellNested, whats, RiseFrom, Follow, AreInOrder, IsOfShare}
use Rattle.dag.specs.declared.part.Part.{Part}
use Rattle.dag.specs.Shares.{goes, share}
use Rattle.dag.specs.Parts.{numbered, numbered_at, records_of}
use Rattle.shard.proofs.Follows.{EndsLast, ends_last, to_follow, following}
use Rattle.shard.proofs.Orders.{Follow-front, Follow-earlier}

rise-placed : (i : ℕ) (v : List Record) → i + length v ≤ 2 ^ 48 → RiseFrom i (placed_from (suc i) v)
rise-placed i [] le = tt
rise-placed i (r ∷ v) le = (omega arith, omega arith, rise-placed (suc i) v (omega arith))

whats-placed : (i : ℕ) (v : List Record) → whats (placed_from i v) ≡ v
whats-placed i [] = refl
whats-placed i (r ∷ v) = ap (λ (x : List Record). r ∷ x) (whats-placed (suc i) v)

-- a trace is in order
follow-placed : (w : List Record) {n d : ℕ} → n ≤ 2 ^ 48 → IsWellNested w n d → Follow 0 1 (placed w)
follow-placed w le h =
    let P : List Record → Type 0 = EndsLast 0 in
    to_follow 0 1 0 (placed w) refl (rise-placed 0 w (omega (arith, h.within))) (subst P (sym (whats-placed 1 w)) (ends_last w h.no_earlier))

-- what a share leaves out neither opens nor closes a procedure
left_out : (k n : ℕ) (r : Record) → goes k n r ≡ false → (opens r ≡ 0) × (closes r ≡ 0)
left_out k n Spawn e = absurd (cc)
left_out k n Call e = absurd (cc)
left_out k n Return e = absurd (cc)
left_out k n Sync e = absurd (cc)
left_out k n (Read l) e = (refl, refl)
left_out k n (Write l) e = (refl, refl)

Follow-share : (k n m active : ℕ) (u : List Placed) → Follow m active u → Follow m active (share k n u)
Follow-share k n m active [] h = tt
Follow-share k n m active (p ∷ u) h =
    let P : List Placed → Type 0 = Follow m active in
    let ih = Follow-share k n p.place _ u h.3 in
    ⊎_elim
    (λ e. subst P (sym (cond-true (goes k n p.what) (p ∷ share k n u) (share k n u) e)) (h.0, h.1, (λ is one. ap (share k n) (h.2 is one)), ih))
    (λ e.
    let none = left_out k n p.what e in
    let same : (active + opens p.what) - closes p.what ≡ active = omega (arith, none.0, none.1) in
    let Q : ℕ → Type 0 = λ a. Follow p.place a (share k n u) in
    let lt = h.0 in
    subst P (sym (cond-false (goes k n p.what) (p ∷ share k n u) (share k n u) e)) (Follow-earlier p.place m active (share k n u) (omega arith) (subst Q same ih)))
    (cases_Bool (goes k n p.what))

-- so a shard accepts each record of a share
pub in_order : (u : List Placed) → IsOfShare u → AreInOrder u
in_order u h =
    let P : List Placed → Type 0 = Follow 0 1 in
    (following u).1 (Follow-front 0 1 u h.begins.0 (subst P h.begins.1 (Follow-share h.shard h.shards 0 1 (placed h.trace) (follow-placed h.trace h.to_limit h.nested))))

-- ---- a share of a part's records

-- an access by its location's number opens and closes no more than the access
same_depths : (n : ℕ) (r : Record) → (opens (numbered n r) ≡ opens r) × (closes (numbered n r) ≡ closes r)
same_depths n Spawn = (refl, refl)
same_depths n Call = (refl, refl)
same_depths n Return = (refl, refl)
same_depths n Sync = (refl, refl)
same_depths n (Read l) = (refl, refl)
same_depths n (Write l) = (refl, refl)

a_return : (n : ℕ) (r : Record) → numbered n r ≡ Return → r ≡ Return
a_return n Spawn e = e
a_return n Call e = e
a_return n Return e = e
a_return n Sync e = e
a_return n (Read l) e = absurd (cc)
a_return n (Write l) e = absurd (cc)

Follow-numbered : (n m active : ℕ) (u : List Placed) → Follow m active u → Follow m active (map (numbered_at n) u)
Follow-numbered n m active [] h = tt
Follow-numbered n m active (p ∷ u) h =
    let same = same_depths n p.what in
    let depth : (active + opens p.what) - closes p.what ≡ (active + opens (numbered n p.what)) - closes (numbered n p.what) = omega (arith, same.0, same.1) in
    let Q : ℕ → Type 0 = λ a. Follow p.place a (map (numbered_at n) u) in
    (h.0, h.1, (λ is one. ap (map (numbered_at n)) (h.2 (a_return n p.what is) one)), subst Q depth (Follow-numbered n p.place _ u h.3))

follow-part : (part : Part) (w : List Record) {limit depths : ℕ} → limit ≤ 2 ^ 48 → IsWellNested w limit depths → Follow 0 1 (records_of part (placed w))
follow-part part w le h = Follow-numbered part.count 0 1 _ (Follow-share part.index part.count 0 1 (placed w) (follow-placed w le h))

-- the places of a part's records rise
pub rise-part : (part : Part) (w : List Record) {limit depths : ℕ} → limit ≤ 2 ^ 48 → IsWellNested w limit depths → RiseFrom 0 (records_of part (placed w))
rise-part part w le h = ((following _).1 (follow-part part w le h)).rising

-- and a shard accepts each record of a share of them
pub in_order_of_part : (k n : ℕ) (part : Part) (w : List Record) {limit depths : ℕ} → limit ≤ 2 ^ 48 → IsWellNested w limit depths → AreInOrder (share k n (records_of part (placed w)))
in_order_of_part k n part w le h = (following _).1 (Follow-share k n 0 1 _ (follow-part part w le h))
