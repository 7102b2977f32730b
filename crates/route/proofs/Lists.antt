-- Lists of senders after one of them has put an item.
use Rattle.route.proofs.Common.{◌≡◌, ℕ, ◌+◌, ◌<◌, ◌⊎◌, ⊎_elim, subst, arith, slice_index_or, Bool, true, false, List, [], ◌∷◌, ◌++◌, length, get_or, set, map, sym, refl, ap, ◌∙◌, ◌≤◌, Result, Ok, Err, OnOk, IfErr, is_err, vec_len, cases_order, map-set, get_or-map, get_or-set_same, get_or-set_other, length-map, length-set, Item, One, put_of, one_more, HasAdded, WasFull, Placed, lanes, puts, shown, capacities, rooms, refusals, with_refusal, put_on, with_put}
use Rattle.std.specs.Prelude.{Vec}
use Rattle.std.specs.declared.alloc.Global.{Global}
use Rattle.std.proofs.Math.Seq.{map-set_same}
use Rattle.lane.specs.declared.sender.Sender.{Sender}

-- a put list for each
pub puts_counted : (ss : Vec (Sender Placed) Global) → length (puts ss.items) ≡ vec_len ss
puts_counted ss = omega (arith, length-map ss.items put_of, ss.ok.0)

-- the place holds s, and t comes there, which f maps as it maps s
pub map-set_like : {L : Type 0} (f : Sender Placed → L) (ss : List (Sender Placed)) (k : ℕ) (s t : Sender Placed) → s ≡ get_or ss k s → f t ≡ f s → map f (set ss k t) ≡ map f ss
map-set_like f ss k s t at same = map-set_same f ss k t s (same ∙ ap f at)

puts-set : (ss : List (Sender Placed)) (k : ℕ) (s t : Sender Placed) (x : Item Placed) → k < length ss → s ≡ get_or ss k s → put_of t ≡ put_of s ++ x ∷ [] → puts (set ss k t) ≡ with_put (puts ss) k x
puts-set ss k s t x h at more =
    map-set put_of ss k t
    ∙ ap (λ (l : List (Item Placed)). set (puts ss) k l) (more ∙ ap (λ (l : List (Item Placed)). l ++ x ∷ []) (ap put_of at ∙ sym (get_or-map put_of ss k s [] h)))

-- the room that the sender at the place knows
pub room_set : (ss : List (Sender Placed)) (k : ℕ) (t : Sender Placed) → k < length ss → slice_index_or (rooms (set ss k t)) k 0 ≡ t.room
room_set ss k t h = ap (λ (l : List ℕ). slice_index_or l k 0) (map-set (λ s. s.room) ss k t) ∙ get_or-set_same (rooms ss) k t.room 0 (omega (arith, h, length-map ss (λ s. s.room)))

-- a lane with a put list has a sender
sender_at : (ss : List (Sender Placed)) (k : ℕ) → k < length (puts ss) → k < length ss
sender_at ss k among = omega (arith, among, length-map ss put_of)

-- what was put on the lane of the sender at the place
pub put_at : (ss : List (Sender Placed)) (k : ℕ) (s : Sender Placed) → k < length (puts ss) → s ≡ get_or ss k s → put_on (puts ss) k ≡ put_of s
put_at ss k s among at = get_or-map put_of ss k s [] (sender_at ss k among) ∙ ap put_of (sym at)

pub capacity_at : (ss : List (Sender Placed)) (k : ℕ) (s : Sender Placed) → k < length ss → s ≡ get_or ss k s → slice_index_or (capacities ss) k 0 ≡ s.capacity
capacity_at ss k s h at = get_or-map (λ s. s.capacity) ss k s 0 h ∙ ap (λ s. s.capacity) (sym at)

-- all that was put on the lane is shown
pub shown_here : (ss : List (Sender Placed)) (k : ℕ) (t : Sender Placed) → k < length ss → t.shown ≡ put_of t → slice_index_or (shown (set ss k t)) k [] ≡ put_on (puts (set ss k t)) k
shown_here ss k t h all =
    ap (λ (l : List (List (Item Placed))). slice_index_or l k []) (map-set (λ s. s.shown) ss k t) ∙ get_or-set_same (shown ss) k t.shown [] (omega (arith, h, length-map ss (λ s. s.shown)))
    ∙ all ∙ sym (ap (λ (l : List (List (Item Placed))). slice_index_or l k []) (map-set put_of ss k t) ∙ get_or-set_same (puts ss) k (put_of t) [] (omega (arith, h, length-map ss put_of)))

pub shown_others : (ss : List (Sender Placed)) (i k : ℕ) (t : Sender Placed) → (k ≡ i → ⊥) → slice_index_or (shown (set ss i t)) k [] ≡ slice_index_or (shown ss) k []
shown_others ss i k t apart = ap (λ (l : List (List (Item Placed))). slice_index_or l k []) (map-set (λ s. s.shown) ss i t) ∙ get_or-set_other (shown ss) i k t.shown [] apart

-- the lanes up to this one are shown
pub all_shown : (ss : List (Sender Placed)) (at : ℕ) (s t : Sender Placed) → at < length ss → s ≡ get_or ss at s → put_of t ≡ put_of s → t.shown ≡ put_of s
    → ((k : ℕ) → k < at → slice_index_or (shown ss) k [] ≡ put_on (puts ss) k) → (k : ℕ) → k < at + 1 → slice_index_or (shown (set ss at t)) k [] ≡ put_on (puts (set ss at t)) k
all_shown ss at s t within there same shows before k h =
    let P : ℕ → Type 0 = λ j. slice_index_or (shown (set ss at t)) j [] ≡ put_on (puts (set ss at t)) j in
    ⊎_elim (λ (e : k ≡ at). subst P (sym e) (shown_here ss at t within (shows ∙ sym same)))
    (λ (x : (k < at) ⊎ (at < k)). ⊎_elim
    (λ (less : k < at). shown_others ss at k t (λ e. omega (arith, less, e)) ∙ before k less ∙ sym (ap (λ (l : List (List (Item Placed))). put_on l k) (map-set_like put_of ss at s t there same)))
    (λ (more : at < k). absurd (omega (arith, h, more))) x)
    (cases_order k at)

-- after a put
pub record Put (ss ts : List (Sender Placed)) (k : ℕ) (x : Item Placed) : Type 0 where
  pub on : lanes ts ≡ lanes ss
  pub holds : capacities ts ≡ capacities ss
  pub more : puts ts ≡ with_put (puts ss) k x
  pub counts : refusals ts ≡ refusals ss
  pub among : k < length (puts ss)
  pub as_many : length (puts ts) ≡ length (puts ss)

pub has_put : (ss : List (Sender Placed)) (k : ℕ) (s t : Sender Placed) (x : Item Placed) → k < length (puts ss) → s ≡ get_or ss k s → HasAdded (x ∷ []) s t → Put ss (set ss k t) k x
has_put ss k s t x among at put = record {
  on = map-set_like (λ s. s.lane) ss k s t at put.lane.0;
  holds = map-set_like (λ s. s.capacity) ss k s t at put.lane.1;
  more = puts-set ss k s t x (sender_at ss k among) at put.put;
  counts = map-set_like (λ s. s.refusals) ss k s t at put.refusals;
  among = among;
  as_many = ap length (map-set put_of ss k t) ∙ length-set (puts ss) k (put_of t);
}

-- after a refusal
pub record Refused (ss ts : List (Sender Placed)) (k : ℕ) : Type 0 where
  pub on : lanes ts ≡ lanes ss
  pub holds : capacities ts ≡ capacities ss
  pub same : puts ts ≡ puts ss
  pub counts : refusals ts ≡ with_refusal (refusals ss) k
  pub knew : slice_index_or (rooms ss) k 0 ≡ 0
  pub knows : slice_index_or (rooms ts) k 0 ≡ 0
  pub full : slice_index_or (capacities ss) k 0 ≤ length (put_on (puts ss) k)
  pub among : k < length (puts ss)

pub has_refused : (ss : List (Sender Placed)) (k : ℕ) (s t : Sender Placed) → k < length (puts ss) → s ≡ get_or ss k s → WasFull s t → Refused ss (set ss k t) k
has_refused ss k s t among at full =
    let no = full.refused in
    record {
      on = map-set_like (λ s. s.lane) ss k s t at no.lane.0;
      holds = map-set_like (λ s. s.capacity) ss k s t at no.lane.1;
      same = map-set_like put_of ss k s t at no.put;
      counts = map-set (λ s. s.refusals) ss k t ∙ ap (λ (n : ℕ). set (refusals ss) k n) (no.refusals ∙ ap one_more (ap (λ s. s.refusals) at ∙ sym (get_or-map (λ s. s.refusals) ss k s 0 (sender_at ss k among))));
      knew = get_or-map (λ s. s.room) ss k s 0 (sender_at ss k among) ∙ ap (λ s. s.room) (sym at) ∙ full.knew_of_none;
      knows = room_set ss k t (sender_at ss k among) ∙ full.knows_of_none;
      full = omega (arith, full.was, capacity_at ss k s (sender_at ss k among) at, ap length (put_at ss k s among at));
      among = among;
    }

-- the same of a sender's answer to a put, on one of n lanes
pub put_ok : (ss : List (Sender Placed)) (k n : ℕ) (s t : Sender Placed) (x : Placed) (r : Result (Unit {0}) Placed) (b : Bool) → k < n → n ≡ length (puts ss) → s ≡ get_or ss k s → b ≡ is_err r → b ≡ false
    → OnOk r (HasAdded (One x ∷ []) s t) → Put ss (set ss k t) k (One x)
put_ok ss k n s t x (Ok v) b among all at is err put = has_put ss k s t (One x) (omega (arith, among, all)) at put
put_ok ss k n s t x (Err v) b among all at is err put = absurd (cc)

pub put_err : (ss : List (Sender Placed)) (k n : ℕ) (s t : Sender Placed) (x : Placed) (r : Result (Unit {0}) Placed) (b : Bool) → k < n → n ≡ length (puts ss) → s ≡ get_or ss k s → b ≡ is_err r → b ≡ true
    → IfErr r (λ y. (y ≡ x) × WasFull s t) → Refused ss (set ss k t) k
put_err ss k n s t x (Ok v) b among all at is err full = absurd (cc)
put_err ss k n s t x (Err v) b among all at is err full = has_refused ss k s t (omega (arith, among, all)) at full.1
