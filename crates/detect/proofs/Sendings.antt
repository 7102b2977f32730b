-- ReadingThread one record, step by step.
use Rattle.detect.proofs.Common.{arith, ◌≡◌, ◌+◌, ◌-◌, ◌<◌, ℕ, length, length-append, List, [], ◌∷◌, ◌++◌, Option, Some, None, refl, sym, subst, ◌∙◌, Feeding, HasFed, Placed, Record, placed, placed-next, Part, records_of, RouterState, HasSent, IsOnLanes, sent_whole, Gathering, IsFurther, ReadingThread, GoesOn}
use Rattle.route.specs.Steps.{HasPutNext}
use Rattle.detect.proofs.LanesBack.{further_refl, further_trans}

pub on_lanes_refl : (r : RouterState) → IsOnLanes r r
on_lanes_refl r = record { lanes = refl; capacities = refl; count = refl }

pub on_lanes_trans : (a b c : RouterState) → IsOnLanes a b → IsOnLanes b c → IsOnLanes a c
on_lanes_trans a b c h k = record { lanes = k.lanes ∙ h.lanes; capacities = k.capacities ∙ h.capacities; count = k.count ∙ h.count }

pub goes_on_refl : (s : ReadingThread) → GoesOn s s
goes_on_refl s = record { part = refl; lanes = on_lanes_refl s.router; further = further_refl s.gathering }

pub goes_on_trans : (a b c : ReadingThread) → GoesOn a b → GoesOn b c → GoesOn a c
goes_on_trans a b c h k = record {
  part = k.part ∙ h.part;
  lanes = on_lanes_trans a.router b.router c.router h.lanes k.lanes;
  further = further_trans a.gathering b.gathering c.gathering h.further k.further;
}

-- the router alone did something
pub goes_on_router : (s : ReadingThread) (r : RouterState) → IsOnLanes s.router r → GoesOn s (record s { router = r })
goes_on_router s r on = record { part = refl; lanes = on; further = further_refl s.gathering }

-- the router did something, and more was taken of the lanes back
pub goes_on_both : (s : ReadingThread) (r : RouterState) (g : Gathering) → IsOnLanes s.router r → IsFurther s.gathering g → GoesOn s (record s { router = r; gathering = g })
goes_on_both s r g on further = record { part = refl; lanes = on; further = further }

-- while the record is pending, a step more sends it whole or leaves it pending
pub sent_step : (p : Placed) (w : List Placed) (first before after : Option Placed) (r : RouterState) → first ≡ Some p → ((q : Placed) → before ≡ Some q → first ≡ Some q) → (before ≡ None → ⊥)
    → HasSent (sent_whole (sent_whole w (Some p) before) before after) r → HasSent (sent_whole w (Some p) after) r
sent_step p w first None after r is same pending h = absurd (pending refl)
sent_step p w first (Some q) after r is same pending h =
    let one : q ≡ p = let e = sym (same q refl) ∙ is in cc in
    let P : Placed → Type 0 = λ x. HasSent (sent_whole w (Some x) after) r in
    subst P one h

-- where nothing is left to put, the record was sent whole
pub sent_idle : (p : Placed) (w : List Placed) (before after : Option Placed) (r : RouterState) → before ≡ None → HasSent (sent_whole (sent_whole w (Some p) before) before after) r → HasSent (w ++ p ∷ []) r
sent_idle p w None after r idle h = h
sent_idle p w (Some q) after r idle h = absurd cc

-- a record that a step leaves pending was pending
pub still_pending : (o : Option Placed) (old new : RouterState) → old.pending ≡ o → (old.pending ≡ None → ⊥) → ((q : Placed) → old.pending ≡ Some q → HasPutNext old new q) → (p : Placed) → new.pending ≡ Some p → old.pending ≡ Some p
still_pending None old new is some h p e = absurd (some is)
still_pending (Some q) old new is some h p e = ((h q is).next p e).0

-- with a record more fewer are left
pub fewer_left : (limit : ℕ) (w : List Record) (x : Record) (came came' : List ℕ) (a b : Feeding) → HasFed w came a → HasFed (w ++ x ∷ []) came' b → b.reading.limit ≡ a.reading.limit → a.reading.limit ≡ limit → limit - b.reading.count < limit - a.reading.count
fewer_left limit w x came came' a b before after same at = omega (arith, after.has_used.has_read.count_is, after.has_used.has_read.within, before.has_used.has_read.count_is, same, at, length-append w (x ∷ []))

-- a record more of the part, which is the same
pub sent_more : (old before after : ReadingThread) (w : List Record) (p : Placed) → p.place ≡ length w + 1 → GoesOn old before
    → (HasSent (records_of before.part (placed w)) before.router → HasSent (records_of before.part (placed w ++ p ∷ [])) after.router) → HasSent (records_of old.part (placed w)) before.router
    → HasSent (records_of old.part (placed (w ++ p.what ∷ []))) after.router
sent_more old before after w p at on sent h =
    let P : Part → Type 0 = λ x. HasSent (records_of x (placed w)) before.router → HasSent (records_of x (placed w ++ p ∷ [])) after.router in
    let Q : List Placed → Type 0 = λ u. HasSent (records_of old.part u) after.router in
    subst Q (sym (placed-next w p at)) (subst P on.part sent h)
