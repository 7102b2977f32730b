-- Kept names stay earlier than later places, and what an access leaves of each location.
use Rattle.shadow.proofs.Common.{◌≡◌, if◌then◌else◌, ℕ, ◌<◌, ◌≤◌, ◌^◌, map, Bool, true, false, cond, refl, sym, subst, arith, ⊎_elim, cases_lt, ne_eqb, get_or, Name, Cell, untouched, IsNameBefore, IsCellBefore, AreBefore, with_cell}
use Rattle.shadow.specs.Seats.{cells_of}
use Rattle.std.specs.List.{range_with_len}
use Rattle.std.proofs.lemmas.List.{get_or_past}
use Rattle.std.proofs.lemmas.List.FromFn.{get_or-map-range_with_len, length-map-range_with_len}

pub name_later : (p q m n : ℕ) (x : Name) → p ≤ q → m ≤ n → IsNameBefore p m x → IsNameBefore q n x
name_later p q m n x pq mn h = record { from_one = h.from_one; earlier = omega arith; known = omega arith }

pub cell_later : (p q m n : ℕ) (c : Cell) → p ≤ q → m ≤ n → IsCellBefore p m c → IsCellBefore q n c
cell_later p q m n c pq mn h = record { writer = λ x is. name_later p q m n x pq mn (h.writer x is); reader = λ x is. name_later p q m n x pq mn (h.reader x is) }

-- cells that are of earlier places than one are of earlier ones than each later place
pub all_later : (p q m n : ℕ) (kept : ℕ → Cell) → p ≤ q → m ≤ n → AreBefore p m kept → AreBefore q n kept
all_later p q m n kept pq mn before l = cell_later p q m n (kept l) pq mn (before l)

-- and so they are with another one in some places
pub all_with : (place count : ℕ) (has : ℕ → Bool) (c : Cell) (kept new : ℕ → Cell) → AreBefore place count kept → IsCellBefore place count c → ((q : ℕ) → new q ≡ (if has q then c else kept q)) → AreBefore place count new
all_with place count has c kept new before here is q = rw is (go (has q))
  where
    go : (b : Bool) → IsCellBefore place count (cond b c (kept q))
    go true = here
    go false = before q

pub none_before : (place count : ℕ) → IsCellBefore place count untouched
none_before place count = record { writer = λ n e. absurd (cc); reader = λ n e. absurd (cc) }

-- what is kept of a location, and of a number that is none
pub kept_here : (kept : ℕ → Cell) (l : ℕ) → l < 2 ^ 64 → get_or (cells_of kept) l untouched ≡ kept l
unfolding cells_of
kept_here kept l within = get_or-map-range_with_len kept 0 (2 ^ 64) l l untouched within (omega arith)

kept_past : (kept : ℕ → Cell) (l : ℕ) → 2 ^ 64 ≤ l → get_or (cells_of kept) l untouched ≡ untouched
unfolding cells_of
kept_past kept l past = get_or_past (map kept (range_with_len 0 (2 ^ 64))) l untouched (subst (λ n. n ≤ l) (sym (length-map-range_with_len kept 0 (2 ^ 64))) past)

pub none_kept : (l : ℕ) → get_or (cells_of (λ _. untouched)) l untouched ≡ untouched
none_kept l = ⊎_elim (kept_here (λ _. untouched) l) (kept_past (λ _. untouched) l) (cases_lt l (2 ^ 64))

-- where the cell of one location was put, nothing else is kept otherwise
pub kept_put : (kept new : ℕ → Cell) (l : ℕ) (c : Cell) → l < 2 ^ 64 → ((q : ℕ) → new q ≡ with_cell l c kept q) → (q : ℕ) → get_or (cells_of new) q untouched ≡ with_cell l c (λ k. get_or (cells_of kept) k untouched) q
kept_put kept new l c within is q = ⊎_elim here past (cases_lt q (2 ^ 64))
  where
    Put : Type 0
    Put = get_or (cells_of new) q untouched ≡ with_cell l c (λ k. get_or (cells_of kept) k untouched) q

    here : q < 2 ^ 64 → Put
    here h = rw (kept_here new q h, kept_here kept q h) (is q)

    past : 2 ^ 64 ≤ q → Put
    past h = rw (kept_past new q h, kept_past kept q h, ne_eqb q l (λ e. absurd (omega (arith, within, h, e)))) refl
