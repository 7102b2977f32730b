-- Stretches that lie side by side: what they hold, and what joining and cutting them does.
use Rattle.bags.proofs.Common.{◌≡◌, ℕ, zero, suc, ◌+◌, ◌-◌, ◌<◌, ◌≤◌, Bool, true, false, not, ◌||◌, ◌&&◌, eqb, ltb, leb, List, [], ◌∷◌, ◌++◌, length, take, drop, get_or, refl, sym, ap, subst, ◌∙◌, arith, if◌then◌else◌, lt-ltb, le-ltb, lt-leb, le-leb, list_any, range_with_len, nat_cmp_total, nat_cmp, Bag, opened, synced, adopts, Stretch, first_at, IsAscending, run, start, is_of, bag_of, active_of, AreAlternating}
use Rattle.std.proofs.lemmas.Bool.Decides.{nat_tests}
use Rattle.std.specs.Prelude.{⊤}
use Rattle.std.specs.FinSet as bag

any-range : (from len q : ℕ) → list_any (λ y. eqb y q) (range_with_len from len) ≡ (leb from q && ltb q (from + len))
any-range from zero q = grind (arith, nat_tests)
any-range from (suc len) q = ap (λ b. eqb from q || b) (any-range (from + 1) len q) ∙ one_more from len q
  where
    one_more : (from len q : ℕ) → (eqb from q || (leb (from + 1) q && ltb q (from + 1 + len))) ≡ (leb from q && ltb q (from + suc len))
    one_more from len q = grind (arith, nat_tests)

pub contains-run : (from to q : ℕ) → from ≤ to → bag.contains (run from to) q ≡ (leb from q && ltb q to)
contains-run from to q up =
    let reached : from + (to - from) ≡ to = omega arith in
    bag.contains-from_list_nat (range_with_len from (to - from)) q ∙ any-range from (to - from) q ∙ ap (λ n. leb from q && ltb q n) reached

side_by_side : (a b c q : ℕ) → a ≤ b → b ≤ c → ((leb a q && ltb q b) || (leb b q && ltb q c)) ≡ (leb a q && ltb q c)
side_by_side a b c q ab bc = grind (arith, nat_tests)

same_bag : (x y : Bag) → ((q : ℕ) → bag.contains x q ≡ bag.contains y q) → x ≡ y
same_bag x y h = bag.same_set nat_cmp_total bag.nat_cmp-IsAntisymmetric x y h

-- what a list of stretches holds of one kind, said of one procedure
abbrev pub any_of : Bool → ℕ → List Stretch → ℕ → Bool
any_of k next [] p = false
any_of k next (s ∷ ss) p = (is_of k s && (leb s.first p && ltb p (start next ss))) || any_of k next ss p

-- no stretch is empty
abbrev pub Ascends : ℕ → List Stretch → Type 0
Ascends next [] = ⊤
Ascends next (s ∷ ss) = (s.first < start next ss) × Ascends next ss

pub turns_ascend : (b : Bool) (next : ℕ) (ss : List Stretch) → AreAlternating b next ss → Ascends next ss
turns_ascend b next [] h = h
turns_ascend b next (s ∷ ss) h = (h.1, turns_ascend (not b) next ss h.2)

pub start_most : (next : ℕ) (ss : List Stretch) → Ascends next ss → start next ss ≤ next
start_most next [] h = omega arith
start_most next (s ∷ ss) h = omega (arith, start_most next ss h.1)

pub contains-bag_of : (k : Bool) (next : ℕ) (ss : List Stretch) (p : ℕ) → Ascends next ss → bag.contains (bag_of k next ss) p ≡ any_of k next ss p
contains-bag_of k next [] p h = bag.contains-empty nat_cmp p
contains-bag_of k next (s ∷ ss) p h =
    by_kind (is_of k s) s.first (start next ss) (bag_of k next ss) (any_of k next ss p) p (omega (arith, h.0)) (contains-bag_of k next ss p h.1)
  where
    by_kind : (c : Bool) (a b : ℕ) (x : Bag) (y : Bool) (p : ℕ) → a ≤ b → bag.contains x p ≡ y
        → bag.contains (if c then bag.union (run a b) x else x) p ≡ ((c && (leb a p && ltb p b)) || y)
    by_kind true a b x y p up e = bag.contains-union nat_cmp_total (run a b) x p ∙ (λ i. contains-run a b p up i || e i)
    by_kind false a b x y p up e = e

-- both bags together
both_of : (next : ℕ) (ss : List Stretch) (p : ℕ) → Ascends next ss → (any_of false next ss p || any_of true next ss p) ≡ (leb (start next ss) p && ltb p next)
both_of next [] p h = grind (arith, nat_tests)
both_of next (s ∷ ss) p h =
    regroup s.is_parallel (leb s.first p && ltb p (start next ss)) (any_of false next ss p) (any_of true next ss p)
    ∙ ap (λ x. (leb s.first p && ltb p (start next ss)) || x) (both_of next ss p h.1)
    ∙ side_by_side s.first (start next ss) next p (omega (arith, h.0)) (start_most next ss h.1)
  where
    regroup : (c r a b : Bool) → (((not c && r) || a) || ((c && r) || b)) ≡ (r || (a || b))
    regroup c r a b = grind arith

union_all : (next : ℕ) (ss : List Stretch) → Ascends next ss → bag.union (bag_of false next ss) (bag_of true next ss) ≡ run (start next ss) next
union_all next ss h =
    same_bag _ _ (λ q.
    bag.contains-union nat_cmp_total (bag_of false next ss) (bag_of true next ss) q
    ∙ (λ i. contains-bag_of false next ss q h i || contains-bag_of true next ss q h i)
    ∙ both_of next ss q h
    ∙ sym (contains-run (start next ss) next q (start_most next ss h)))

or_none : (b : Bool) → (b || false) ≡ b
or_none true = refl
or_none false = refl

-- a stretch alone
alone : (next : ℕ) (s : Stretch) → s.is_parallel ≡ false → s.first < next → bag_of false next (s ∷ []) ≡ run s.first next
alone next s e l =
    ap (λ (c : Bool). if not c then bag.union (run s.first next) bag.empty else bag.empty) e
    ∙ same_bag _ _ (λ q. bag.contains-union nat_cmp_total (run s.first next) bag.empty q
    ∙ ap (λ b. bag.contains (run s.first next) q || b) (bag.contains-empty nat_cmp q)
    ∙ or_none (bag.contains (run s.first next) q))

alone_parallel : (next : ℕ) (s : Stretch) → s.is_parallel ≡ false → bag_of true next (s ∷ []) ≡ bag.empty
alone_parallel next s e = ap (λ (c : Bool). if c then bag.union (run s.first next) bag.empty else bag.empty) e

-- a new procedure
pub opened_is : (count : ℕ) (is_called : Bool) (s : Stretch) → s.first ≡ count → s.is_parallel ≡ false → active_of (count + 1) is_called (s ∷ []) ≡ opened is_called count
opened_is count is_called s e f =
    let below : s.first < count + 1 = omega arith in
    λ i. record {
      own = e i;
      is_called = is_called;
      serial = (alone (count + 1) s f below ∙ ap (λ n. run n (count + 1)) e ∙ one count) i;
      parallel = alone_parallel (count + 1) s f i;
    }
  where
    eq_between : (n q : ℕ) → (leb n q && ltb q (n + 1)) ≡ (eqb n q || false)
    eq_between n q = grind (arith, nat_tests)

    one : (n : ℕ) → run n (n + 1) ≡ bag.insert bag.empty n
    one n = same_bag _ _ (λ q. contains-run n (n + 1) q (omega arith) ∙ eq_between n q ∙ sym (bag.contains-from_list_nat (n ∷ []) q))

-- a sync leaves the first stretch, and all that follows joins it
pub synced_is : (next : ℕ) (is_called : Bool) (s : Stretch) (ss : List Stretch) → AreAlternating false next (s ∷ ss)
    → active_of next is_called (s ∷ []) ≡ synced (active_of next is_called (s ∷ ss))
synced_is next is_called s ss h =
    let up : Ascends next (s ∷ ss) = turns_ascend false next (s ∷ ss) h in
    let most : start next ss ≤ next = start_most next ss up.1 in
    λ i. record {
      own = s.first;
      is_called = is_called;
      serial = (alone next s h.0 (omega (arith, h.1)) ∙ sym (union_all next (s ∷ ss) up)) i;
      parallel = alone_parallel next s h.0 i;
    }

-- a return

-- the kind of stretch that follows by turns
abbrev pub after : Bool → List Stretch → Bool
after b [] = b
after b (s ∷ ss) = after (not b) ss

-- the new stretches of a parent hold what the old ones did, and of one kind a run more
pub record AreGrown (is_parallel : Bool) (a c : ℕ) (old new : List Stretch) : Type 0 where
  pub same_start : start c new ≡ start a old
  pub turns : AreAlternating false c new
  pub held : (k : Bool) (p : ℕ) → any_of k c new p ≡ (any_of k a old p || ((if k then is_parallel else not is_parallel) && (leb a p && ltb p c)))

or_assoc : (a b c : Bool) → (a || (b || c)) ≡ ((a || b) || c)
or_assoc a b c = grind arith

kind : Bool → Bool → Bool
kind k m = if k then m else not m

-- the last stretch grows
wider : (b m k : Bool) (a c : ℕ) (s : Stretch) (ss : List Stretch) (p : ℕ) → AreAlternating b a (s ∷ ss) → a ≤ c → m ≡ not (after b (s ∷ ss))
    → any_of k c (s ∷ ss) p ≡ (any_of k a (s ∷ ss) p || ((if k then m else not m) && (leb a p && ltb p c)))
wider b m k a c s [] p h l e =
    let same : s.is_parallel ≡ m = h.0 ∙ sym (not_not b) ∙ sym e in
    ap (λ (x : Bool). ((if k then x else not x) && (leb s.first p && ltb p c)) || false) same
    ∙ last (if k then m else not m) s.first a c p (omega (arith, h.1)) l
    ∙ ap (λ (x : Bool). (((if k then x else not x) && (leb s.first p && ltb p a)) || false) || ((if k then m else not m) && (leb a p && ltb p c))) (sym same)
  where
    not_not : (b : Bool) → not (not b) ≡ b
    not_not true = refl
    not_not false = refl

    last : (d : Bool) (x a c p : ℕ) → x ≤ a → a ≤ c → ((d && (leb x p && ltb p c)) || false) ≡ (((d && (leb x p && ltb p a)) || false) || (d && (leb a p && ltb p c)))
    last true x a c p u v = or_none (leb x p && ltb p c) ∙ sym (side_by_side x a c p u v) ∙ ap (λ z. z || (leb a p && ltb p c)) (sym (or_none (leb x p && ltb p a)))
    last false x a c p u v = refl
wider b m k a c s (t ∷ ss) p h l e =
    ap (λ z. (is_of k s && (leb s.first p && ltb p t.first)) || z) (wider (not b) m k a c t ss p h.2 l e)
    ∙ or_assoc (is_of k s && (leb s.first p && ltb p t.first)) (any_of k a (t ∷ ss) p) ((if k then m else not m) && (leb a p && ltb p c))

wider_turns : (b : Bool) (a c : ℕ) (s : Stretch) (ss : List Stretch) → AreAlternating b a (s ∷ ss) → a ≤ c → AreAlternating b c (s ∷ ss)
wider_turns b a c s [] h l = (h.0, omega (arith, h.1), h.2)
wider_turns b a c s (t ∷ ss) h l = (h.0, h.1, wider_turns (not b) a c t ss h.2 l)

pub grown_wider : (m : Bool) (a c : ℕ) (ss : List Stretch) → 0 < length ss → AreAlternating false a ss → a ≤ c → m ≡ not (after false ss) → AreGrown m a c ss ss
grown_wider m a c [] some h l e = absurd (omega arith)
grown_wider m a c (s ∷ ss) some h l e = record {
  same_start = refl;
  turns = wider_turns false a c s ss h l;
  held = λ k p. wider false m k a c s ss p h l e;
}

-- a stretch more
pub start-append : (c : ℕ) (ss : List Stretch) (x : Stretch) → start c (ss ++ x ∷ []) ≡ start x.first ss
start-append c [] x = refl
start-append c (s ∷ ss) x = refl

longer : (k : Bool) (c : ℕ) (ss : List Stretch) (x : Stretch) (p : ℕ) → any_of k c (ss ++ x ∷ []) p ≡ (any_of k x.first ss p || (is_of k x && (leb x.first p && ltb p c)))
longer k c [] x p = or_none (is_of k x && (leb x.first p && ltb p c))
longer k c (s ∷ ss) x p =
    (λ i. (is_of k s && (leb s.first p && ltb p (start-append c ss x i))) || longer k c ss x p i)
    ∙ or_assoc (is_of k s && (leb s.first p && ltb p (start x.first ss))) (any_of k x.first ss p) (is_of k x && (leb x.first p && ltb p c))

longer_turns : (b : Bool) (c : ℕ) (ss : List Stretch) (x : Stretch) → AreAlternating b x.first ss → x.is_parallel ≡ after b ss → x.first < c → AreAlternating b c (ss ++ x ∷ [])
longer_turns b c [] x h e l = (e, l, h)
longer_turns b c (s ∷ ss) x h e l = (h.0, subst (λ n. s.first < n) (sym (start-append c ss x)) h.1, longer_turns (not b) c ss x h.2 e l)

pub grown_longer : (m : Bool) (c : ℕ) (ss : List Stretch) (x : Stretch) → AreAlternating false x.first ss → x.is_parallel ≡ m → m ≡ after false ss → x.first < c
    → AreGrown m x.first c ss (ss ++ x ∷ [])
grown_longer m c ss x h e f l = record {
  same_start = start-append c ss x;
  turns = longer_turns false c ss x h (e ∙ f) l;
  held = λ k p. longer k c ss x p ∙ ap (λ (d : Bool). any_of k x.first ss p || ((if k then d else not d) && (leb x.first p && ltb p c))) e;
}

-- the kind of the last stretch
pub last_kind : (b : Bool) (next : ℕ) (ss : List Stretch) (d : Stretch) → 0 < length ss → AreAlternating b next ss → (get_or ss (length ss - 1) d).is_parallel ≡ not (after b ss)
last_kind b next [] d some h = absurd (omega arith)
last_kind b next (s ∷ []) d some h = h.0 ∙ twice b
  where
    twice : (b : Bool) → b ≡ not (not b)
    twice true = refl
    twice false = refl
last_kind b next (s ∷ t ∷ ss) d some h =
    let more : suc (suc (length ss)) - 1 ≡ suc (suc (length ss) - 1) = omega arith in
    ap (λ n. (get_or (s ∷ t ∷ ss) n d).is_parallel) more ∙ last_kind (not b) next (t ∷ ss) d (omega arith) h.2

adopted_bag : (k m : Bool) (a c : ℕ) (old new own : List Stretch) → AreGrown m a c old new → Ascends a old → Ascends c own → a ≡ start c own
    → (if k then m else not m) ≡ true → bag_of k c new ≡ bag.union (bag_of k a old) (bag.union (bag_of false c own) (bag_of true c own))
adopted_bag k m a c old new own g up below e y =
    same_bag _ _ (λ q.
    contains-bag_of k c new q (turns_ascend false c new g.turns)
    ∙ g.held k q
    ∙ (λ i. sym (contains-bag_of k a old q up) i || (y i && (leb a q && ltb q c)))
    ∙ ap (λ b. bag.contains (bag_of k a old) q || b) (sym (contains-run a c q (subst (λ n. n ≤ c) (sym e) (start_most c own below))))
    ∙ sym (bag.contains-union nat_cmp_total (bag_of k a old) (run a c) q))
    ∙ ap (λ n. bag.union (bag_of k a old) (run n c)) e
    ∙ ap (bag.union (bag_of k a old)) (sym (union_all c own below))

kept_bag : (k m : Bool) (a c : ℕ) (old new : List Stretch) → AreGrown m a c old new → Ascends a old → (if k then m else not m) ≡ false → bag_of k c new ≡ bag_of k a old
kept_bag k m a c old new g up n =
    same_bag _ _ (λ q.
    contains-bag_of k c new q (turns_ascend false c new g.turns)
    ∙ g.held k q
    ∙ (λ i. sym (contains-bag_of k a old q up) i || (n i && (leb a q && ltb q c)))
    ∙ or_none (bag.contains (bag_of k a old) q))

pub adopted : (a c : ℕ) (is_called returns_call : Bool) (old new own : List Stretch) → AreGrown (not returns_call) a c old new → AreAlternating false a old → AreAlternating false c own → a ≡ start c own
    → active_of c is_called new ≡ adopts (active_of a is_called old) (active_of c returns_call own)
adopted a c is_called true old new own g h u e = λ i. record {
  own = g.same_start i;
  is_called = is_called;
  serial = adopted_bag false false a c old new own g (turns_ascend false a old h) (turns_ascend false c own u) e refl i;
  parallel = kept_bag true false a c old new g (turns_ascend false a old h) refl i;
}
adopted a c is_called false old new own g h u e = λ i. record {
  own = g.same_start i;
  is_called = is_called;
  serial = kept_bag false true a c old new g (turns_ascend false a old h) refl i;
  parallel = adopted_bag true true a c old new own g (turns_ascend false a old h) (turns_ascend false c own u) e refl i;
}

-- a look-up

pub first_at_is : (ss : List Stretch) (i : ℕ) (d : Stretch) → i < length ss → (get_or ss i d).first ≡ first_at ss i
first_at_is [] i d low = absurd (omega arith)
first_at_is (s ∷ ss) zero d low = refl
first_at_is (s ∷ ss) (suc i) d low = first_at_is ss i d (omega arith)

pub first_at-start : (next : ℕ) (ss : List Stretch) → 0 < length ss → first_at ss 0 ≡ start next ss
first_at-start next [] some = absurd (omega arith)
first_at-start next (s ∷ ss) some = refl

pub first_at-drop : (n i : ℕ) (ss : List Stretch) → first_at (drop n ss) i ≡ first_at ss (n + i)
first_at-drop zero i ss = let same : i ≡ 0 + i = omega arith in ap (first_at ss) same
first_at-drop (suc n) i [] = refl
first_at-drop (suc n) i (s ∷ ss) = let same : suc (n + i) ≡ suc n + i = omega arith in first_at-drop n i ss ∙ ap (first_at (s ∷ ss)) same

pub first_at-take : (n i : ℕ) (ss : List Stretch) → i < n → first_at (take n ss) i ≡ first_at ss i
first_at-take zero i ss low = absurd (omega arith)
first_at-take (suc n) i [] low = refl
first_at-take (suc n) zero (s ∷ ss) low = refl
first_at-take (suc n) (suc i) (s ∷ ss) low = first_at-take n i ss (omega arith)

pub ascending : (next : ℕ) (ss : List Stretch) → Ascends next ss → IsAscending ss
ascending next [] up i j to low = absurd (omega arith)
ascending next (s ∷ ss) up zero zero to low = omega arith
ascending next (s ∷ ss) up zero (suc j) to low =
    omega (arith, up.0, first_at-start next ss (omega arith), ascending next ss up.1 0 j (omega arith) (omega arith))
ascending next (s ∷ ss) up (suc i) zero to low = absurd (omega arith)
ascending next (s ∷ ss) up (suc i) (suc j) to low = ascending next ss up.1 i j (omega arith) (omega arith)

pub none_before : (k : Bool) (next : ℕ) (ss : List Stretch) (p : ℕ) → Ascends next ss → p < start next ss → any_of k next ss p ≡ false
none_before k next [] p h l = refl
none_before k next (s ∷ ss) p h l =
    (λ i. (is_of k s && (lt-leb s.first p l i && ltb p (start next ss))) || none_before k next ss p h.1 (omega (arith, h.0)) i) ∙ nothing (is_of k s)
  where
    nothing : (c : Bool) → ((c && false) || false) ≡ false
    nothing true = refl
    nothing false = refl

pub in_the_first : (k : Bool) (next : ℕ) (s : Stretch) (ss : List Stretch) (p : ℕ) → Ascends next (s ∷ ss) → s.first ≤ p → p < start next ss → any_of k next (s ∷ ss) p ≡ is_of k s
in_the_first k next s ss p h l u =
    (λ i. (is_of k s && (le-leb s.first p l i && lt-ltb p (start next ss) u i)) || none_before k next ss p h.1 u i) ∙ all (is_of k s)
  where
    all : (c : Bool) → ((c && true) || false) ≡ c
    all true = refl
    all false = refl

pub past_the_first : (k : Bool) (next : ℕ) (s : Stretch) (ss : List Stretch) (p : ℕ) → start next ss ≤ p → any_of k next (s ∷ ss) p ≡ any_of k next ss p
past_the_first k next s ss p l =
    ap (λ (b : Bool). (is_of k s && (leb s.first p && b)) || any_of k next ss p) (le-ltb p (start next ss) l) ∙ nothing (is_of k s) (leb s.first p) (any_of k next ss p)
  where
    nothing : (c d e : Bool) → ((c && (d && false)) || e) ≡ e
    nothing c d e = grind arith

pub none_after : (k : Bool) (next : ℕ) (ss : List Stretch) (p : ℕ) → Ascends next ss → next ≤ p → any_of k next ss p ≡ false
none_after k next [] p h l = refl
none_after k next (s ∷ ss) p h l = past_the_first k next s ss p (omega (arith, start_most next ss h.1)) ∙ none_after k next ss p h.1 l

-- the last stretch whose first number is not above p decides p's bag
pub at_keeper : (next : ℕ) (ss : List Stretch) (k p : ℕ) (d : Stretch) → Ascends next ss → k < length ss → p < next → first_at ss k ≤ p
    → (k + 1 < length ss → p < first_at ss (k + 1)) → any_of true next ss p ≡ (get_or ss k d).is_parallel
at_keeper next [] k p d h low known from upto = absurd (omega arith)
at_keeper next (s ∷ []) zero p d h low known from upto = in_the_first true next s [] p h from known
at_keeper next (s ∷ t ∷ ss) zero p d h low known from upto = in_the_first true next s (t ∷ ss) p h from (upto (omega arith))
at_keeper next (s ∷ ss) (suc k) p d h low known from upto =
    past_the_first true next s ss p (omega (arith, first_above next ss k h.1 (omega arith), from))
    ∙ at_keeper next ss k p d h.1 (omega arith) known from (λ m. subst (λ n. p < first_at (s ∷ ss) n) one_more (upto (omega arith)))
  where
    one_more : suc k + 1 ≡ suc (k + 1)
    one_more = omega arith

    first_above : (next : ℕ) (ss : List Stretch) (k : ℕ) → Ascends next ss → k < length ss → start next ss ≤ first_at ss k
    first_above next [] k h low = absurd (omega arith)
    first_above next (s ∷ ss) zero h low = omega arith
    first_above next (s ∷ ss) (suc k) h low = omega (arith, h.0, first_above next ss k h.1 (omega arith))

-- stretches of one list and then of another
pub start-both : (next : ℕ) (low ss : List Stretch) → start next (low ++ ss) ≡ start (start next ss) low
start-both next [] ss = refl
start-both next (s ∷ low) ss = refl

pub any_of-append : (k : Bool) (next : ℕ) (low ss : List Stretch) (p : ℕ) → any_of k next (low ++ ss) p ≡ (any_of k (start next ss) low p || any_of k next ss p)
any_of-append k next [] ss p = refl
any_of-append k next (s ∷ low) ss p =
    (λ i. (is_of k s && (leb s.first p && ltb p (start-both next low ss i))) || any_of-append k next low ss p i)
    ∙ or_assoc (is_of k s && (leb s.first p && ltb p (start (start next ss) low))) (any_of k (start next ss) low p) (any_of k next ss p)

pub ascends-append : (next : ℕ) (low ss : List Stretch) → Ascends (start next ss) low → Ascends next ss → Ascends next (low ++ ss)
ascends-append next [] ss h u = u
ascends-append next (s ∷ low) ss h u = (subst (λ n. s.first < n) (sym (start-both next low ss)) h.0, ascends-append next low ss h.1 u)
