-- Active procedures by their stretches: what a spawn, a call, a sync, a return and a look-up do to them.
use Rattle.bags.proofs.Common.{◌≡◌, ℕ, suc, ◌+◌, ◌-◌, ◌<◌, ◌≤◌, Bool, true, false, not, ◌||◌, List, [], ◌∷◌, ◌++◌, reverse, length, take, drop, get_or, inl, inr, ◌⊎◌, refl, sym, ap, subst, ◌∙◌, arith, take-append-drop, length-take-le, length-drop, length-append, length-reverse, reverse-append, get_or-reverse, get_or-append-add, append_assoc, Nested, Procedures, at_start, opened, entered, adopts, after_sync, after_return, in_p, event, current, Sync, Return, Stretch, most_records, first_at, start, active_of, actives_of, procedures_of, AreAlternating, AreCut, AreHeld}
use Rattle.std.proofs.Math.Seq.{take-append_seam, drop-append_seam, take-append-add, get_or-append_seam}
use Rattle.std.proofs.Math.ListN.{get_or-append}
use Rattle.bags.proofs.Segments.{Ascends, AreGrown, any_of, after, turns_ascend, start_most, contains-bag_of, opened_is, synced_is, adopted, grown_wider, grown_longer, last_kind, first_at-start, start-both, at_keeper, first_at_is, first_at-drop, any_of-append, ascends-append}

-- the executing procedure's stretches follow those of all others
pub actives-cut : (next : ℕ) (low ss : List Stretch) (f : Nested) (fs : List Nested) → f.begins ≡ length low
    → actives_of next (low ++ ss) (f ∷ fs) ≡ active_of next f.is_called ss ∷ actives_of (start next ss) low fs
actives-cut next low ss f fs e =
    let front : take f.begins (low ++ ss) ≡ low = ap (λ n. take n (low ++ ss)) e ∙ take-append_seam low ss in
    let back : drop f.begins (low ++ ss) ≡ ss = ap (λ n. drop n (low ++ ss)) e ∙ drop-append_seam low ss in
    λ i. active_of next f.is_called (back i) ∷ actives_of (start next (back i)) (front i) fs

pub are-cut : (next : ℕ) (low ss : List Stretch) (f : Nested) (fs : List Nested) → f.begins ≡ length low → 0 < length ss → AreAlternating false next ss → AreCut (start next ss) low fs
    → f.number ≡ start next ss → AreCut next (low ++ ss) (f ∷ fs)
are-cut next low ss f fs e some turns cut number =
    let front : take f.begins (low ++ ss) ≡ low = ap (λ n. take n (low ++ ss)) e ∙ take-append_seam low ss in
    let back : drop f.begins (low ++ ss) ≡ ss = ap (λ n. drop n (low ++ ss)) e ∙ drop-append_seam low ss in (
      omega (arith, length-append low ss),
      subst (AreAlternating false next) (sym back) turns,
      subst (λ xs. AreCut (start next xs) (take f.begins (low ++ ss)) fs) (sym back) (subst (λ xs. AreCut (start next ss) xs fs) (sym front) cut),
      subst (λ xs. f.number ≡ start next xs) (sym back) number,
    )

-- the parts
pub record Parts (next : ℕ) (ss : List Stretch) (f : Nested) (fs : List Nested) : Type 0 where
  pub low : List Stretch
  pub first : Stretch
  pub rest : List Stretch
  pub whole : ss ≡ low ++ first ∷ rest
  pub from : f.begins ≡ length low
  pub turns : AreAlternating false next (first ∷ rest)
  pub cut : AreCut first.first low fs
  pub number : f.number ≡ first.first

pub parts : (next : ℕ) (ss : List Stretch) (f : Nested) (fs : List Nested) → AreCut next ss (f ∷ fs) → Parts next ss f fs
parts next ss f fs h = with_rest (drop f.begins ss) refl
  where
    with_rest : (xs : List Stretch) → drop f.begins ss ≡ xs → Parts next ss f fs
    with_rest [] e = let none : length (drop f.begins ss) ≡ 0 = ap length e in absurd (omega (arith, h.0, length-drop f.begins ss))
    with_rest (s ∷ rest) e = record {
      low = take f.begins ss;
      first = s;
      rest = rest;
      whole = sym (take-append-drop f.begins ss) ∙ ap (λ xs. take f.begins ss ++ xs) e;
      from = sym (length-take-le f.begins ss (omega (arith, h.0)));
      turns = subst (AreAlternating false next) e h.1;
      cut = subst (λ xs. AreCut (start next xs) (take f.begins ss) fs) e h.2;
      number = subst (λ xs. f.number ≡ start next xs) e h.3;
    }

pub reverse-last : (fs : List Nested) (g : Nested) → reverse (fs ++ g ∷ []) ≡ g ∷ reverse fs
reverse-last fs g = reverse-append fs (g ∷ [])

pub length-actives_of : (next : ℕ) (ss : List Stretch) (fs : List Nested) → length (actives_of next ss fs) ≡ length fs
length-actives_of next ss [] = refl
length-actives_of next ss (f ∷ fs) = ap suc (length-actives_of (start next (drop f.begins ss)) (take f.begins ss) fs)

pub length-procedures_of : (count : ℕ) (ss : List Stretch) (nested : List Nested) → length nested ≡ length (procedures_of count ss nested).active
length-procedures_of count ss nested = sym (length-reverse nested) ∙ sym (length-actives_of count ss (reverse nested))

-- a spawn and a call
pub entered_held : (count : ℕ) (ss : List Stretch) (nested : List Nested) (s : Stretch) (f : Nested) → AreHeld count ss nested → count ≤ most_records → s.first ≡ count → s.is_parallel ≡ false → f.begins ≡ length ss
    → f.number ≡ count → AreHeld (count + 1) (ss ++ s ∷ []) (nested ++ f ∷ []) × (procedures_of (count + 1) (ss ++ s ∷ []) (nested ++ f ∷ []) ≡ entered (procedures_of count ss nested) f.is_called)
entered_held count ss nested s f held few e k b number =
    let back : reverse (nested ++ f ∷ []) ≡ f ∷ reverse nested = reverse-last nested f in
    let turns : AreAlternating false (count + 1) (s ∷ []) = (k, omega arith, tt) in
    let cut : AreCut (count + 1) (ss ++ s ∷ []) (f ∷ reverse nested) = are-cut (count + 1) ss (s ∷ []) f (reverse nested) b (omega arith) turns (subst (λ n. AreCut n ss (reverse nested)) (sym e) held.cut) (number ∙ sym e) in
    let is : actives_of (count + 1) (ss ++ s ∷ []) (f ∷ reverse nested) ≡ (entered (procedures_of count ss nested) f.is_called).active
    = actives-cut (count + 1) ss (s ∷ []) f (reverse nested) b ∙ (λ i. opened_is count f.is_called s e k i ∷ actives_of (e i) ss (reverse nested)) in (
      record { some = omega arith; most = omega arith; cut = subst (AreCut (count + 1) (ss ++ s ∷ [])) (sym back) cut },
      λ i. record { count = count + 1; active = (ap (actives_of (count + 1) (ss ++ s ∷ [])) back ∙ is) i },
    )

-- the last of a list is the first of the list turned round
pub record IsLast (nested : List Nested) (f : Nested) : Type 0 where
  pub others : List Nested
  pub is : reverse nested ≡ f ∷ others

pub last_is : (nested : List Nested) (f : Nested) (n : ℕ) → 0 < length nested → n ≡ length nested → f ≡ get_or nested (n - 1) f → IsLast nested f
last_is nested f n some e at = turned (reverse nested) refl
  where
    turned : (fs : List Nested) → reverse nested ≡ fs → IsLast nested f
    turned [] b = let none : length (reverse nested) ≡ 0 = ap length b in absurd (omega (arith, length-reverse nested))
    turned (g ∷ fs) b =
        let first : length nested - 1 - 0 ≡ n - 1 = omega arith in
        let same : g ≡ f = ap (λ xs. get_or xs 0 f) (sym b) ∙ get_or-reverse nested 0 f (omega arith) ∙ ap (λ k. get_or nested k f) first ∙ sym at in
        record { others = fs; is = b ∙ ap (λ x. x ∷ fs) same }

pub held_some : (count : ℕ) (ss : List Stretch) (nested : List Nested) → AreHeld count ss nested → 0 < length nested
held_some count ss [] held = let none : count ≡ 0 = held.cut.0 in absurd (omega (arith, held.some))
held_some count ss (f ∷ fs) held = omega arith

pub record Executing (count : ℕ) (ss : List Stretch) (nested : List Nested) (f : Nested) : Type 0 where
  pub last : IsLast nested f
  pub parts : Parts count ss f last.others

pub executing : (count : ℕ) (ss : List Stretch) (nested : List Nested) (f : Nested) (n : ℕ) → AreHeld count ss nested → n ≡ length nested → f ≡ get_or nested (n - 1) f → Executing count ss nested f
executing count ss nested f n held e at =
    let last : IsLast nested f = last_is nested f n (held_some count ss nested held) e at in
    record { last = last; parts = parts count ss f last.others (subst (AreCut count ss) last.is held.cut) }

pub begins_within : (count : ℕ) (ss : List Stretch) (nested : List Nested) (f : Nested) → Executing count ss nested f → f.begins < length ss
begins_within count ss nested f x =
    let len : length ss ≡ length (x.parts.low ++ x.parts.first ∷ x.parts.rest) = ap length x.parts.whole in
    omega (arith, length-append x.parts.low (x.parts.first ∷ x.parts.rest), x.parts.from)

-- a sync
pub synced_held : (count : ℕ) (ss : List Stretch) (nested : List Nested) (f : Nested) → AreHeld count ss nested → Executing count ss nested f
    → AreHeld count (take (f.begins + 1) ss) nested × (procedures_of count (take (f.begins + 1) ss) nested ≡ event (procedures_of count ss nested) Sync)
synced_held count ss nested f held x =
    let p : Parts count ss f x.last.others = x.parts in
    let up : Ascends count (p.first ∷ p.rest) = turns_ascend false count (p.first ∷ p.rest) p.turns in
    let most : start count p.rest ≤ count = start_most count p.rest up.1 in
    let front : take (f.begins + 1) ss ≡ p.low ++ p.first ∷ []
    = (λ i. take (p.from i + 1) (p.whole i)) ∙ take-append-add p.low (p.first ∷ p.rest) 1 in
    let turns : AreAlternating false count (p.first ∷ []) = (p.turns.0, omega (arith, p.turns.1), tt) in
    let cut : AreCut count (p.low ++ p.first ∷ []) (f ∷ x.last.others) = are-cut count p.low (p.first ∷ []) f x.last.others p.from (omega arith) turns p.cut p.number in
    let old : actives_of count ss (f ∷ x.last.others) ≡ active_of count f.is_called (p.first ∷ p.rest) ∷ actives_of p.first.first p.low x.last.others
    = ap (λ xs. actives_of count xs (f ∷ x.last.others)) p.whole ∙ actives-cut count p.low (p.first ∷ p.rest) f x.last.others p.from in
    let new : actives_of count (p.low ++ p.first ∷ []) (f ∷ x.last.others) ≡ active_of count f.is_called (p.first ∷ []) ∷ actives_of p.first.first p.low x.last.others
    = actives-cut count p.low (p.first ∷ []) f x.last.others p.from in
    let is : actives_of count (p.low ++ p.first ∷ []) (f ∷ x.last.others) ≡ after_sync (actives_of count ss (f ∷ x.last.others))
    = new ∙ ap (λ a. a ∷ actives_of p.first.first p.low x.last.others) (synced_is count f.is_called p.first p.rest p.turns) ∙ ap after_sync (sym old) in (
      record { some = held.some; most = held.most; cut = subst (λ fs. AreCut count (take (f.begins + 1) ss) fs) (sym x.last.is) (subst (λ xs. AreCut count xs (f ∷ x.last.others)) (sym front) cut) },
      λ i. record { count = count; active = ((λ j. actives_of count (front j) (x.last.is j)) ∙ is ∙ ap (λ fs. after_sync (actives_of count ss fs)) (sym x.last.is)) i },
    )

-- what a return leaves: the parent's stretches, with what the child kept
pub record Left (new low old : List Stretch) (is_parallel : Bool) (from next : ℕ) : Type 0 where
  pub own : List Stretch
  pub is : new ≡ low ++ own
  pub some : 0 < length own
  pub grown : AreGrown is_parallel from next old own

pub returned_held : (count : ℕ) (ss new : List Stretch) (ys : List Nested) (g : Nested) → AreHeld count ss (ys ++ g ∷ []) → 0 < length ys
    → ((f : Nested) (fs : List Nested) (p : Parts count ss g (f ∷ fs)) (q : Parts p.first.first p.low f fs) → Left new q.low (q.first ∷ q.rest) (not g.is_called) p.first.first count)
    → AreHeld count new ys × (procedures_of count new ys ≡ event (procedures_of count ss (ys ++ g ∷ [])) Return)
returned_held count ss new ys g held some says = turned (reverse ys) refl
  where
    Turned : List Nested → Type 0
    Turned fs = AreCut count new fs × (actives_of count new fs ≡ after_return (actives_of count ss (g ∷ fs)))

    with_parent : (f : Nested) (fs : List Nested) → AreCut count ss (g ∷ f ∷ fs) → Turned (f ∷ fs)
    with_parent f fs cut =
        let p : Parts count ss g (f ∷ fs) = parts count ss g (f ∷ fs) cut in
        let q : Parts p.first.first p.low f fs = parts p.first.first p.low f fs p.cut in
        let s = says f fs p q in
        let xs : List Stretch = s.own in
        let is : new ≡ q.low ++ xs = s.is in
        let grown : AreGrown (not g.is_called) p.first.first count (q.first ∷ q.rest) xs = s.grown in
        let same : start count xs ≡ q.first.first = grown.same_start in
        let old : actives_of count ss (g ∷ f ∷ fs) ≡ active_of count g.is_called (p.first ∷ p.rest) ∷ active_of p.first.first f.is_called (q.first ∷ q.rest) ∷ actives_of q.first.first q.low fs
        = ap (λ zs. actives_of count zs (g ∷ f ∷ fs)) p.whole
        ∙ actives-cut count p.low (p.first ∷ p.rest) g (f ∷ fs) p.from
        ∙ ap (λ a. active_of count g.is_called (p.first ∷ p.rest) ∷ a)
        (ap (λ zs. actives_of p.first.first zs (f ∷ fs)) q.whole ∙ actives-cut p.first.first q.low (q.first ∷ q.rest) f fs q.from) in
        let now : actives_of count (q.low ++ xs) (f ∷ fs) ≡ active_of count f.is_called xs ∷ actives_of q.first.first q.low fs
        = actives-cut count q.low xs f fs q.from ∙ ap (λ n. active_of count f.is_called xs ∷ actives_of n q.low fs) same in
        let adopt : active_of count f.is_called xs ≡ adopts (active_of p.first.first f.is_called (q.first ∷ q.rest)) (active_of count g.is_called (p.first ∷ p.rest))
        = adopted p.first.first count f.is_called g.is_called (q.first ∷ q.rest) xs (p.first ∷ p.rest) grown q.turns p.turns refl in
        let cut_new : AreCut count (q.low ++ xs) (f ∷ fs) = are-cut count q.low xs f fs q.from s.some grown.turns (subst (λ n. AreCut n q.low fs) (sym same) q.cut) (q.number ∙ sym same) in (
          subst (λ zs. AreCut count zs (f ∷ fs)) (sym is) cut_new,
          ap (λ zs. actives_of count zs (f ∷ fs)) is ∙ now ∙ ap (λ a. a ∷ actives_of q.first.first q.low fs) adopt ∙ ap after_return (sym old),
        )

    turned : (fs : List Nested) → reverse ys ≡ fs → AreHeld count new ys × (procedures_of count new ys ≡ event (procedures_of count ss (ys ++ g ∷ [])) Return)
    turned [] e = let none : length (reverse ys) ≡ 0 = ap length e in absurd (omega (arith, length-reverse ys))
    turned (f ∷ fs) e =
        let back : reverse (ys ++ g ∷ []) ≡ g ∷ f ∷ fs = reverse-last ys g ∙ ap (λ xs. g ∷ xs) e in
        let both : Turned (f ∷ fs) = with_parent f fs (subst (AreCut count ss) back held.cut) in (
          record { some = held.some; most = held.most; cut = subst (AreCut count new) (sym e) both.0 },
          λ i. record { count = count; active = (ap (actives_of count new) e ∙ both.1 ∙ ap (λ xs. after_return (actives_of count ss xs)) (sym back)) i },
        )

-- the last stretch before those of a child is the last one of its parent
before_child : (count : ℕ) (ss : List Stretch) (g f : Nested) (fs : List Nested) (d : Stretch) (p : Parts count ss g (f ∷ fs)) (q : Parts p.first.first p.low f fs)
    → (get_or ss (g.begins - 1) d).is_parallel ≡ not (after false (q.first ∷ q.rest))
before_child count ss g f fs d p q =
    let seg : List Stretch = q.first ∷ q.rest in
    let len : length p.low ≡ length q.low + length seg = ap length q.whole ∙ length-append q.low seg in
    let within : g.begins - 1 < length p.low = omega (arith, p.from) in
    let place : g.begins - 1 ≡ length q.low + (length seg - 1) = omega (arith, p.from) in
    ap (λ (s : Stretch). s.is_parallel)
    (ap (λ xs. get_or xs (g.begins - 1) d) p.whole
    ∙ get_or-append p.low (p.first ∷ p.rest) d (g.begins - 1) within
    ∙ (λ i. get_or (q.whole i) (place i) d)
    ∙ get_or-append-add q.low seg (length seg - 1) d)
    ∙ last_kind false p.first.first seg d (omega arith) q.turns

-- a child's stretches, but for its first, end where its parent's do, at the latest
child_below : (count : ℕ) (ss : List Stretch) (g : Nested) (fs : List Nested) (p : Parts count ss g fs) → p.first.first < count
child_below count ss g fs p =
    let up : Ascends count (p.first ∷ p.rest) = turns_ascend false count (p.first ∷ p.rest) p.turns in
    omega (arith, p.turns.1, start_most count p.rest up.1)

all_but_one : (nested ys : List Nested) (g : Nested) → nested ≡ ys ++ g ∷ [] → 1 < length nested → 0 < length ys
all_but_one nested ys g is more = let len : length nested ≡ length (ys ++ g ∷ []) = ap length is in omega (arith, length-append ys (g ∷ []))

-- how the bags are held doesn't depend on whether the executing procedure was called
pub held_as : (count : ℕ) (ss : List Stretch) (ys : List Nested) (g : Nested) (is_called : Bool) → AreHeld count ss (ys ++ g ∷ [])
    → AreHeld count ss (ys ++ (record { begins = g.begins; number = g.number; is_called = is_called }) ∷ [])
held_as count ss ys g is_called held =
    let same : Nested = record { begins = g.begins; number = g.number; is_called = is_called } in
    let cut : AreCut count ss (g ∷ reverse ys) = subst (AreCut count ss) (reverse-last ys g) held.cut in
    record { some = held.some; most = held.most; cut = subst (AreCut count ss) (sym (reverse-last ys same)) (cut.0, cut.1, cut.2, cut.3) }

-- where the parent's last stretch is of the bag that takes in the child, it grows
pub joined_held : (count : ℕ) (ss : List Stretch) (nested ys : List Nested) (g : Nested) (d : Stretch) → AreHeld count ss nested → nested ≡ ys ++ g ∷ [] → 1 < length nested
    → (get_or ss (g.begins - 1) d).is_parallel ≡ not g.is_called
    → AreHeld count (take g.begins ss) ys × (procedures_of count (take g.begins ss) ys ≡ event (procedures_of count ss nested) Return)
joined_held count ss nested ys g d held is more same =
    subst (λ xs. AreHeld count (take g.begins ss) ys × (procedures_of count (take g.begins ss) ys ≡ event (procedures_of count ss xs) Return)) (sym is)
    (returned_held count ss (take g.begins ss) ys g (subst (AreHeld count ss) is held) (all_but_one nested ys g is more)
    (λ f fs p q. record {
      own = q.first ∷ q.rest;
      is = (λ i. take (p.from i) (p.whole i)) ∙ take-append_seam p.low (p.first ∷ p.rest) ∙ q.whole;
      some = omega arith;
      grown = grown_wider (not g.is_called) p.first.first count (q.first ∷ q.rest) (omega arith) q.turns (omega (arith, child_below count ss g (f ∷ fs) p))
          (sym same ∙ before_child count ss g f fs d p q);
    }))

-- else what the child keeps is a stretch more
pub moved_held : (count : ℕ) (ss : List Stretch) (nested ys : List Nested) (g : Nested) (d x : Stretch) → AreHeld count ss nested → nested ≡ ys ++ g ∷ [] → 1 < length nested
    → (get_or ss (g.begins - 1) d).is_parallel ≡ not (not g.is_called) → x.first ≡ g.number → x.is_parallel ≡ not g.is_called
    → AreHeld count (take g.begins ss ++ x ∷ []) ys × (procedures_of count (take g.begins ss ++ x ∷ []) ys ≡ event (procedures_of count ss nested) Return)
moved_held count ss nested ys g d x held is more other first kind =
    subst (λ xs. AreHeld count (take g.begins ss ++ x ∷ []) ys × (procedures_of count (take g.begins ss ++ x ∷ []) ys ≡ event (procedures_of count ss xs) Return)) (sym is)
    (returned_held count ss (take g.begins ss ++ x ∷ []) ys g (subst (AreHeld count ss) is held) (all_but_one nested ys g is more)
    (λ f fs p q.
    let same : x.first ≡ p.first.first = first ∙ p.number in
    let follows : not g.is_called ≡ after false (q.first ∷ q.rest) = not_both (not g.is_called) (after false (q.first ∷ q.rest)) (sym other ∙ before_child count ss g f fs d p q) in
    let grown : AreGrown (not g.is_called) x.first count (q.first ∷ q.rest) ((q.first ∷ q.rest) ++ x ∷ [])
    = grown_longer (not g.is_called) count (q.first ∷ q.rest) x (subst (λ n. AreAlternating false n (q.first ∷ q.rest)) (sym same) q.turns) kind follows (omega (arith, child_below count ss g (f ∷ fs) p)) in record {
      own = (q.first ∷ q.rest) ++ x ∷ [];
      is = ap (λ xs. xs ++ x ∷ []) ((λ i. take (p.from i) (p.whole i)) ∙ take-append_seam p.low (p.first ∷ p.rest) ∙ q.whole) ∙ append_assoc q.low (q.first ∷ q.rest) (x ∷ []);
      some = omega arith;
      grown = subst (λ n. AreGrown (not g.is_called) n count (q.first ∷ q.rest) ((q.first ∷ q.rest) ++ x ∷ [])) same grown;
    }))
  where
    not_both : (a b : Bool) → not a ≡ not b → a ≡ b
    not_both true true e = refl
    not_both false false e = refl
    not_both true false e = absurd (cc)
    not_both false true e = absurd (cc)

-- of two kinds, each is the other or the other turned round
pub same_or_other : (a b : Bool) → (a ≡ b) ⊎ ((a ≡ b → ⊥) × (a ≡ not b))
same_or_other true true = inl refl
same_or_other false false = inl refl
same_or_other true false = inr (λ e. absurd (cc), refl)
same_or_other false true = inr (λ e. absurd (cc), refl)

pub more_than_root : (count : ℕ) (ss : List Stretch) (nested : List Nested) (p : Procedures) → procedures_of count ss nested ≡ p → 1 < length p.active → 1 < length nested
more_than_root count ss nested p is more =
    let active : length nested ≡ length p.active = length-procedures_of count ss nested ∙ ap (λ (q : Procedures). length q.active) is in
    omega arith

-- a child's stretches come after one of its parent
pub parent_before : (count : ℕ) (ss : List Stretch) (nested : List Nested) (g : Nested) (x : Executing count ss nested g) → AreHeld count ss nested → 1 < length nested → 1 ≤ g.begins
parent_before count ss nested g x held more = before x.last.others x.last.is x.parts
  where
    before : (fs : List Nested) → reverse nested ≡ g ∷ fs → Parts count ss g fs → 1 ≤ g.begins
    before [] e p = let one : length (reverse nested) ≡ 1 = ap length e in absurd (omega (arith, length-reverse nested))
    before (f ∷ fs) e p = omega (arith, p.cut.0, p.from)

-- the executing procedure, as the last of those that were active before it was closed
pub closed : (count : ℕ) (ss : List Stretch) (nested ys : List Nested) (g : Nested) → AreHeld count ss nested → nested ≡ ys ++ g ∷ [] → Executing count ss nested g
closed count ss nested ys g held is =
    let last : IsLast nested g = record { others = reverse ys; is = ap reverse is ∙ reverse-last ys g } in
    record { last = last; parts = parts count ss g last.others (subst (AreCut count ss) last.is held.cut) }

-- a look-up

pub all_ascend : (next : ℕ) (ss : List Stretch) (fs : List Nested) → AreCut next ss fs → Ascends next ss
all_ascend next ss [] h = subst (Ascends next) (sym h.1) tt
all_ascend next ss (f ∷ fs) h =
    let p : Parts next ss f fs = parts next ss f fs h in
    subst (Ascends next) (sym p.whole) (ascends-append next p.low (p.first ∷ p.rest) (all_ascend p.first.first p.low fs p.cut) (turns_ascend false next (p.first ∷ p.rest) p.turns))

pub in_p-actives : (next : ℕ) (ss : List Stretch) (fs : List Nested) (p : ℕ) → AreCut next ss fs → in_p (actives_of next ss fs) p ≡ any_of true next ss p
in_p-actives next ss [] p h = ap (λ xs. any_of true next xs p) (sym h.1)
in_p-actives next ss (f ∷ fs) p h =
    let q : Parts next ss f fs = parts next ss f fs h in
    let seg : List Stretch = q.first ∷ q.rest in
    ap (λ xs. in_p (actives_of next xs (f ∷ fs)) p) q.whole
    ∙ ap (λ bs. in_p bs p) (actives-cut next q.low seg f fs q.from)
    ∙ (λ i. contains-bag_of true next seg p (turns_ascend false next seg q.turns) i || in_p-actives q.first.first q.low fs p q.cut i)
    ∙ turned_round (any_of true next seg p) (any_of true q.first.first q.low p)
    ∙ sym (any_of-append true next q.low seg p)
    ∙ ap (λ xs. any_of true next xs p) (sym q.whole)
  where
    turned_round : (a b : Bool) → (a || b) ≡ (b || a)
    turned_round a b = grind arith

-- the last stretch whose first number is not above p decides whether p stands in a P-bag
pub in_p-keeper : (count : ℕ) (ss : List Stretch) (nested : List Nested) (k p : ℕ) (d : Stretch) → AreHeld count ss nested → k < length ss → p < count → first_at ss k ≤ p
    → (k + 1 < length ss → p < first_at ss (k + 1)) → (get_or ss k d).is_parallel ≡ in_p (procedures_of count ss nested).active p
in_p-keeper count ss nested k p d held low known from upto =
    sym (in_p-actives count ss (reverse nested) p held.cut ∙ at_keeper count ss k p d (all_ascend count ss (reverse nested) held.cut) low known from upto)

-- the root's stretches come first, and begin with 0
pub first_root : (next : ℕ) (ss : List Stretch) (fs : List Nested) → AreCut next ss fs → start next ss ≡ 0
first_root next ss [] h = ap (start next) h.1 ∙ h.0
first_root next ss (f ∷ fs) h =
    let p : Parts next ss f fs = parts next ss f fs h in
    ap (start next) p.whole ∙ start-both next p.low (p.first ∷ p.rest) ∙ first_root p.first.first p.low fs p.cut

pub stretch_some : (count : ℕ) (ss : List Stretch) (nested : List Nested) → AreHeld count ss nested → 0 < length ss
stretch_some count [] nested held = let none : count ≡ 0 = first_root count [] (reverse nested) held.cut in absurd (omega (arith, held.some))
stretch_some count (s ∷ ss) nested held = omega arith

pub first_at_root : (count : ℕ) (ss : List Stretch) (nested : List Nested) → AreHeld count ss nested → first_at ss 0 ≡ 0
first_at_root count ss nested held = first_at-start count ss (stretch_some count ss nested held) ∙ first_root count ss (reverse nested) held.cut

-- the executing procedure has its number
pub executes : (count : ℕ) (ss : List Stretch) (nested : List Nested) (f : Nested) (x : Executing count ss nested f)
    → (f.number ≡ current (procedures_of count ss nested).active) × (f.number < count)
executes count ss nested f x =
    let p : Parts count ss f x.last.others = x.parts in
    let own : current (procedures_of count ss nested).active ≡ p.first.first
    = ap (λ fs. current (actives_of count ss fs)) x.last.is
    ∙ ap (λ xs. current (actives_of count xs (f ∷ x.last.others))) p.whole
    ∙ ap current (actives-cut count p.low (p.first ∷ p.rest) f x.last.others p.from) in (
      p.number ∙ sym own,
      omega (arith, child_below count ss f x.last.others p, p.number),
    )

-- the root alone
pub at_first : (ss : List Stretch) (nested : List Nested) (s : Stretch) (f : Nested) → ss ≡ s ∷ [] → nested ≡ f ∷ [] → s.first ≡ 0 → s.is_parallel ≡ false → f.begins ≡ 0 → f.number ≡ 0 → f.is_called ≡ false
    → AreHeld 1 ss nested × (procedures_of 1 ss nested ≡ at_start)
at_first ss nested s f is ns first kind begins number is_called =
    let root : AreCut 0 [] [] = (refl, refl) in
    let turns : AreAlternating false 1 (s ∷ []) = (kind, omega arith, tt) in
    let cut : AreCut 1 (s ∷ []) (f ∷ []) = are-cut 1 [] (s ∷ []) f [] begins (omega arith) turns (subst (λ n. AreCut n [] []) (sym first) root) (number ∙ sym first) in
    let active : actives_of 1 (s ∷ []) (f ∷ []) ≡ at_start.active
    = actives-cut 1 [] (s ∷ []) f [] begins ∙ ap (λ a. a ∷ []) (opened_is 0 f.is_called s first kind ∙ ap (λ b. opened b 0) is_called) in (
      record { some = omega arith; most = omega arith; cut = subst (λ fs. AreCut 1 ss (reverse fs)) (sym ns) (subst (λ xs. AreCut 1 xs (f ∷ [])) (sym is) cut) },
      λ i. record { count = 1; active = ((λ j. actives_of 1 (is j) (reverse (ns j))) ∙ active) i },
    )

-- which stands in no P-bag
pub executing_serial : (count : ℕ) (ss : List Stretch) (nested : List Nested) (f : Nested) → AreHeld count ss nested → Executing count ss nested f
    → in_p (procedures_of count ss nested).active f.number ≡ false
executing_serial count ss nested f held x =
    let p : Parts count ss f x.last.others = x.parts in
    let within : f.begins < length ss = begins_within count ss nested f x in
    let at : get_or ss f.begins p.first ≡ p.first = (λ i. get_or (p.whole i) (p.from i) p.first) ∙ get_or-append_seam p.low p.first p.rest p.first in
    let first : first_at ss f.begins ≡ f.number = sym (first_at_is ss f.begins p.first within) ∙ ap (λ (s : Stretch). s.first) at ∙ sym p.number in
    let back : drop f.begins ss ≡ p.first ∷ p.rest = (λ i. drop (p.from i) (p.whole i)) ∙ drop-append_seam p.low (p.first ∷ p.rest) in
    let second : first_at ss (f.begins + 1) ≡ first_at p.rest 0 = sym (first_at-drop f.begins 1 ss) ∙ ap (λ xs. first_at xs 1) back in
    let more : length ss - f.begins ≡ suc (length p.rest) = sym (length-drop f.begins ss) ∙ ap length back in
    sym (in_p-keeper count ss nested f.begins f.number p.first held within (executes count ss nested f x).1 (omega arith)
    (λ low. omega (arith, second, first_at-start count p.rest (omega arith), p.turns.1, p.number)))
    ∙ ap (λ (s : Stretch). s.is_parallel) at
    ∙ p.turns.0
