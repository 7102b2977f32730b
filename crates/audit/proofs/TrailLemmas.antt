-- The openers of the procedures that hold a place: how they change from record to record, and where two places meet.
use Rattle.audit.proofs.Common.{◌≡◌, ℕ, zero, suc, ◌+◌, ◌-◌, ◌<◌, ◌≤◌, true, false, List, [], ◌∷◌, ◌++◌, length, drop, slice_get, get_or, nat_lt, Some, ◌⊎◌, inl, inr, refl, sym, ◌∙◌, subst, ap, arith, Contains, length-append, cases_lt, cases_eq, cases_order, ltb-true, ltb-false, slice_get_within, slice_get-get_or, get_or_from_slice_get, IsPartitionedBy, IsPartitionPoint, IsPartitionedBy-ltb, Record, at, depth, IsWellNested, level, Opens, Holds, IsMeeting, element_at, slice_get-front, level-at, root-holds, holds_from, holds-shorter, Opener, opening_record, AreOpeners, IsLink, IsTrail, Follows}
use Rattle.dag.specs.declared.records.Record.TheVariants as records
use Rattle.audit.specs.declared.answers.Opening.{Opening}
use Rattle.audit.specs.declared.answers.Opening.TheVariants.{Spawn, Call}
use Rattle.audit.proofs.ListLemmas.{slice_get-push}
use Rattle.audit.proofs.PathLemmas.{step_by, step_out, holds_on}

slice_get-drop : {A : Type 0} (n : ℕ) (xs : List A) (k : ℕ) → slice_get (drop n xs) k ≡ slice_get xs (n + k)
slice_get-drop zero xs k = let e : k ≡ 0 + k = omega arith in ap (slice_get xs) e
slice_get-drop (suc n) [] k = refl
slice_get-drop (suc n) (x ∷ xs) k = let e : suc (n + k) ≡ suc n + k = omega arith in slice_get-drop n xs k ∙ ap (slice_get (x ∷ xs)) e

-- procedures that hold one place

-- there is one on each level
pub same_place : (w : List Record) (i p q : ℕ) → Holds w p i → Holds w q i → level w p ≡ level w q → p ≡ q
same_place w i p q a b e = elim (cases_order p q) [
  | inl s ↦ s
  | inr c ↦ elim c [
    | inl l ↦ absurd (omega (arith, a.inside q l (omega (arith, b.after)), level-at w q (omega arith)))
    | inr l ↦ absurd (omega (arith, b.inside p l (omega (arith, a.after)), level-at w p (omega arith)))
  ]
]

-- the deeper one was opened later
deeper_later : (w : List Record) (i p q : ℕ) → Holds w p i → Holds w q i → level w p < level w q → p < q
deeper_later w i p q a b l = elim (cases_order p q) [
  | inl s ↦ absurd (let e : level w p ≡ level w q = ap (level w) s in omega arith)
  | inr c ↦ elim c [
    | inl s ↦ s
    | inr s ↦ absurd (omega (arith, b.inside p s (omega (arith, a.after)), level-at w p (omega arith)))
  ]
]

later_deeper : (w : List Record) (i p q : ℕ) → Holds w p i → Holds w q i → p < q → level w p < level w q
later_deeper w i p q a b l = omega (arith, a.inside q l (omega (arith, b.after)), level-at w q (omega arith))

same_opening : (a b : Opening) → opening_record a ≡ opening_record b → a ≡ b
same_opening Spawn Spawn e = refl
same_opening Spawn Call e = absurd (cc)
same_opening Call Spawn e = absurd (cc)
same_opening Call Call e = refl

opener_opens : (w : List Record) (p : ℕ) (a : Opening) → at w p ≡ Some (opening_record a) → Opens (at w p)
opener_opens w p Spawn e = inl e
opener_opens w p Call e = inr e

same_opener : (w : List Record) (f g : Opener) → f.place ≡ g.place → at w f.place ≡ Some (opening_record f.what) → at w g.place ≡ Some (opening_record g.what) → f ≡ g
same_opener w f g e a b =
    let z : Some (opening_record f.what) ≡ Some (opening_record g.what) = sym a ∙ ap (at w) e ∙ b in
    let y : opening_record f.what ≡ opening_record g.what = cc in
    let x : f.what ≡ g.what = same_opening f.what g.what y in
    λ i. record { what = x i; place = e i }

-- trails

module _ (w : List Record) (i : ℕ) (xs : List Opener) (r : IsTrail w i xs) where
  -- the opener of a procedure that holds the place
  link_at : (p : ℕ) → Holds w p i → 1 ≤ level w p → (k : ℕ) × (f : Opener) × (slice_get xs k ≡ Some f) × (f.place ≡ p) × (suc k ≡ level w p)
  link_at p h l =
      let f = element_at xs (level w p - 1) (omega (arith, r.all, h.inside i h.after (omega arith))) in
      let x = r.each (level w p - 1) f.0 f.1 in
      (level w p - 1, f.0, f.1, same_place w i f.0.place p x.holds h (omega (arith, x.on_level)), omega arith)

  increasing : (k l : ℕ) (f g : Opener) → k < l → slice_get xs k ≡ Some f → slice_get xs l ≡ Some g → f.place < g.place
  increasing k l f g c a b =
      let x = r.each k f a in
      let y = r.each l g b in
      deeper_later w i f.place g.place x.holds y.holds (omega (arith, x.on_level, y.on_level))

  partitioned : (place : ℕ) → IsPartitionedBy (λ (f : Opener). nat_lt f.place place) xs
  partitioned place = IsPartitionedBy-ltb (λ (f : Opener). f.place) xs place (λ a b f l m. elim (cases_eq a b) [
    | inl q ↦ (let z : (get_or xs a f).place ≡ (get_or xs b f).place = ap (λ (k : ℕ). (get_or xs k f).place) q in omega arith)
    | inr q ↦ omega (arith, increasing a b (get_or xs a f) (get_or xs b f) (omega arith) (slice_get-get_or xs a f (omega arith)) (slice_get-get_or xs b f m))
  ])

  module _ (m n : ℕ) (h : Holds w m i) (on : level w m ≡ n) where
    behind : (k : ℕ) (f : Opener) → slice_get (drop n xs) k ≡ Some f → slice_get xs (n + k) ≡ Some f
    behind k f a = sym (slice_get-drop n xs k) ∙ a

    below : (k : ℕ) (f : Opener) → slice_get (drop n xs) k ≡ Some f → (m < f.place) × Holds w f.place i × (at w f.place ≡ Some (opening_record f.what))
    below k f a =
        let x = r.each (n + k) f (behind k f a) in
        (deeper_later w i m f.place h x.holds (omega (arith, x.on_level)), x.holds, x.opens)

    found : (f : Opener) → m < f.place → Holds w f.place i → at w f.place ≡ Some (opening_record f.what) → Contains (drop n xs) f
    found f l g o =
        let deep : level w m < level w f.place = later_deeper w i m f.place h g l in
        let x = link_at f.place g (omega arith) in
        let same : x.1 ≡ f = same_opener w x.1 f x.3 (r.each x.0 x.1 x.2).opens o in
        let far : n + (x.0 - n) ≡ x.0 = omega (arith, x.4) in
        let there : slice_get (drop n xs) (x.0 - n) ≡ Some f = slice_get-drop n xs (x.0 - n) ∙ ap (slice_get xs) far ∙ x.2 ∙ ap (λ (z : Opener). Some z) same in
        (x.0 - n, slice_get_within (drop n xs) (x.0 - n) f there, get_or_from_slice_get (drop n xs) (x.0 - n) f f there)

    -- what stands from m's level on are the openers below m
    pub openers_below : AreOpeners w m i (drop n xs)
    openers_below = record {
      ascending = λ k l d c b. increasing (n + k) (n + l) (get_or (drop n xs) k d) (get_or (drop n xs) l d) (omega arith)
          (behind k (get_or (drop n xs) k d) (slice_get-get_or (drop n xs) k d (omega arith))) (behind l (get_or (drop n xs) l d) (slice_get-get_or (drop n xs) l d b));
      exactly = λ f. ((λ c. below c.0 f (slice_get-get_or (drop n xs) c.0 f c.1 ∙ ap (λ (z : Opener). Some z) c.2)), (λ q. found f q.0 q.1 q.2));
    }

-- how many of the openers stand before a place
abbrev pub IsOpenerCount : List Opener → ℕ → ℕ → Type 0
IsOpenerCount xs place n = IsPartitionedBy (λ (f : Opener). nat_lt f.place place) xs → IsPartitionPoint (λ (f : Opener). nat_lt f.place place ≡ true) (λ (f : Opener). nat_lt f.place place ≡ false) xs n

-- the procedure of the last opener before a place, or the root where there is none
abbrev pub IsLastOpener : List Opener → ℕ → ℕ → Type 0
IsLastOpener xs n m = ((n ≡ 0) × (m ≡ 0)) ⊎ ((k : ℕ) × (f : Opener) × (n ≡ suc k) × (slice_get xs k ≡ Some f) × (m ≡ f.place))

pub last_opener : (xs : List Opener) (n k m : ℕ) (d : Opener) → n ≡ suc k → k < length xs → m ≡ (get_or xs k d).place → IsLastOpener xs n m
last_opener xs n k m d is within m-is = inr (k, get_or xs k d, is, slice_get-get_or xs k d within, m-is)

pub no_opener : (xs : List Opener) (n m : ℕ) → n ≡ 0 → m ≡ 0 → IsLastOpener xs n m
no_opener xs n m is m-is = inl (is, m-is)

module _ (w : List Record) (i j n m : ℕ) (xs : List Opener) (r : IsTrail w j xs) (from_one : 1 ≤ i) (l : i < j) (within : n ≤ length xs) (count : IsOpenerCount xs i n) where
  point : IsPartitionPoint (λ (f : Opener). nat_lt f.place i ≡ true) (λ (f : Opener). nat_lt f.place i ≡ false) xs n
  point = count (partitioned w j xs r i)

  before : (k : ℕ) (f : Opener) → k < n → slice_get xs k ≡ Some f → f.place < i
  before k f c a =
      let z : nat_lt (get_or xs k f).place i ≡ true = point.0 k f (omega arith) c in
      let y : (get_or xs k f).place ≡ f.place = ap (λ (g : Opener). g.place) (get_or_from_slice_get xs k f f a) in
      omega (arith, ltb-true _ _ z)

  after : (k : ℕ) (f : Opener) → n ≤ k → slice_get xs k ≡ Some f → i ≤ f.place
  after k f c a =
      let z : nat_lt (get_or xs k f).place i ≡ false = point.1 k f c (slice_get_within xs k f a) in
      let y : (get_or xs k f).place ≡ f.place = ap (λ (g : Opener). g.place) (get_or_from_slice_get xs k f f a) in
      omega (arith, ltb-false _ _ z)

  -- the procedures that hold both places lie on the first n levels below the root
  no_deeper : (p : ℕ) → Holds w p i → Holds w p j → level w p ≤ n
  no_deeper p a b = elim (cases_lt n (level w p)) [
    | inr c ↦ c
    | inl c ↦ absurd (let x = link_at w j xs r p b (omega arith) in omega (arith, after x.0 x.1 (omega (arith, x.4)) x.2, x.3, a.after))
  ]

  meeting_by : (q : ℕ) → Holds w q i → Holds w q j → level w q ≡ n → m ≡ q → IsMeeting w i j m × (level w m ≡ n)
  meeting_by q a b on is = subst (λ (z : ℕ). IsMeeting w i j z × (level w z ≡ n)) (sym is) (record { first = a; second = b; deepest = λ p x y. omega (arith, no_deeper p x y, on) }, on)

  -- they meet in the procedure of the last opener before the first place
  pub meeting_at_last : IsLastOpener xs n m → IsMeeting w i j m × (level w m ≡ n)
  meeting_at_last (inl z) = meeting_by 0 (root-holds w i from_one) (root-holds w j (omega arith)) (sym z.0) z.1
  meeting_at_last (inr (k, f, is, there, m-is)) =
      let x = r.each k f there in
      meeting_by f.place (holds-shorter w f.place i j (before k f (omega arith) there) (omega arith) x.holds) x.holds (x.on_level ∙ sym is) m-is

-- one record more

module _ (w : List Record) {n d : ℕ} (h : IsWellNested w n d) (t : ℕ) (b : suc (suc t) ≤ length w) where
  link_stays : (k : ℕ) (f : Opener) → suc k ≤ depth w (suc (suc t)) → IsLink w (suc t) k f → IsLink w (suc (suc t)) k f
  link_stays k f l x = record {
    on_level = x.on_level;
    holds = holds_on w _ (suc t) x.holds (omega (arith, x.on_level));
    opens = x.opens;
  }

  trail_same : (xs : List Opener) → depth w (suc (suc t)) ≡ depth w (suc t) → IsTrail w (suc t) xs → IsTrail w (suc (suc t)) xs
  trail_same xs e r = record { all = r.all ∙ sym e; each = λ k f a. link_stays k f (omega (arith, slice_get_within xs k f a, r.all)) (r.each k f a) }

  trail_opened : (xs : List Opener) (a : Opening) → at w (suc t) ≡ Some (opening_record a) → depth w (suc (suc t)) ≡ suc (depth w (suc t)) → IsTrail w (suc t) xs
      → IsTrail w (suc (suc t)) (xs ++ record { what = a; place = suc t } ∷ [])
  trail_opened xs a s e r = record {
    all = omega (arith, r.all, length-append xs (record { what = a; place = suc t } ∷ []));
    each = λ k f g. by_place k f (slice_get-push xs (record { what = a; place = suc t }) k f g);
  }
    where
      here : IsLink w (suc (suc t)) (depth w (suc t)) (record { what = a; place = suc t })
      here = record {
        on_level = refl;
        holds = holds_from w (suc t) (suc (suc t)) (opener_opens w (suc t) a s) (omega arith)
            (λ q y z. let i : q ≡ suc (suc t) = omega arith in let j : depth w q ≡ depth w (suc (suc t)) = ap (depth w) i in omega arith);
        opens = s;
      }

      by_place : (k : ℕ) (f : Opener) → (slice_get xs k ≡ Some f) ⊎ ((k ≡ length xs) × (record { what = a; place = suc t } ≡ f)) → IsLink w (suc (suc t)) k f
      by_place k f (inl g) = link_stays k f (omega (arith, slice_get_within xs k f g, r.all)) (r.each k f g)
      by_place k f (inr (g, y)) = subst (λ (z : ℕ). IsLink w (suc (suc t)) z f) (sym (g ∙ r.all)) (subst (IsLink w (suc (suc t)) (depth w (suc t))) y here)

  trail_left : (xs ys : List Opener) (x : Opener) → depth w (suc t) ≡ suc (depth w (suc (suc t))) → xs ≡ ys ++ x ∷ [] → IsTrail w (suc t) xs → IsTrail w (suc (suc t)) ys
  trail_left xs ys x e q r = record {
    all = long;
    each = λ k f a. link_stays k f (omega (arith, slice_get_within ys k f a, long)) (r.each k f (ap (λ (z : List Opener). slice_get z k) q ∙ slice_get-front ys (x ∷ []) k f a));
  }
    where
      long : length ys ≡ depth w (suc (suc t))
      long = omega (arith, r.all, ap length q, length-append ys (x ∷ []))

  -- the openers of the active procedures
  pub trail_next : (r : Record) (xs ys : List Opener) → at w (suc t) ≡ Some r → Follows (suc t) r xs ys → IsTrail w (suc t) xs → IsTrail w (suc (suc t)) ys
  trail_next records.Spawn xs ys s q r = subst (IsTrail w (suc (suc t))) (sym q) (trail_opened xs Spawn s (step_by w h t records.Spawn b s) r)
  trail_next records.Call xs ys s q r = subst (IsTrail w (suc (suc t))) (sym q) (trail_opened xs Call s (step_by w h t records.Call b s) r)
  trail_next records.Return xs ys s (inl z) r =
      absurd (let y : length xs ≡ 0 = ap length z in h.no_earlier (suc t) b (record { a_return = s; at_zero = omega (arith, r.all) }))
  trail_next records.Return xs ys s (inr (x, q)) r = trail_left xs ys x (step_out w h t b s) q r
  trail_next records.Sync xs ys s q r = subst (IsTrail w (suc (suc t))) (sym q) (trail_same xs (step_by w h t records.Sync b s) r)
  trail_next (records.Read l) xs ys s q r = subst (IsTrail w (suc (suc t))) (sym q) (trail_same xs (step_by w h t (records.Read l) b s) r)
  trail_next (records.Write l) xs ys s q r = subst (IsTrail w (suc (suc t))) (sym q) (trail_same xs (step_by w h t (records.Write l) b s) r)
