-- One item more of one lane back.
use Rattle.detect.proofs.Common.{◌≡◌, ℕ, zero, suc, ◌+◌, ◌<◌, true, IsFalse, List, [], ◌∷◌, ◌++◌, length, take, set, get_or, slice_index_or, append_assoc, length-set, ⊎_elim, arith, refl, sym, ap, subst, ◌∙◌, append-nil, get_or-set_same, set-set, take-suc, cases_eq, cases_Bool, map-set, get_or-map, set-get_or, length-map, map-set_same, Back, Race, Item, One, Finish, Taker, has_mark, Collection, KeepsBest, Gathering, given_by, with_items, Gathers, IsGathered, IsFurther}
use Rattle.std.specs.Prelude.{Vec}
use Rattle.std.specs.Vec.{with_item}
use Rattle.dag.specs.declared.back.Back.TheVariants.{NoMemory}
use Rattle.detect.proofs.Gathered.{gathers-race, gathers-finish, gathers-refused}

pub further_refl : (g : Gathering) → IsFurther g g
further_refl g = record { count = refl; lanes = refl; gathers = λ h. h; marks = λ k h. h }

pub further_trans : (a b c : Gathering) → IsFurther a b → IsFurther b c → IsFurther a c
further_trans a b c h k = record { count = k.count ∙ h.count; lanes = k.lanes ∙ h.lanes; gathers = λ x. k.gathers (h.gathers x); marks = λ j x. k.marks j (h.marks j x) }

has_mark-more : (xs ys : List (Item Back)) → has_mark xs ≡ true → has_mark (xs ++ ys) ≡ true
has_mark-more [] ys h = absurd cc
has_mark-more (One y ∷ xs) ys h = has_mark-more xs ys h
has_mark-more (Finish ∷ xs) ys h = refl

marks_stay : (lists : List (List (Item Back))) (k j : ℕ) (ys : List (Item Back)) → has_mark (get_or lists j []) ≡ true → has_mark (get_or (with_items lists k ys) j []) ≡ true
marks_stay [] k j ys h = h
marks_stay (xs ∷ lists) zero zero ys h = has_mark-more xs ys h
marks_stay (xs ∷ lists) zero (suc j) ys h = h
marks_stay (xs ∷ lists) (suc k) zero ys h = h
marks_stay (xs ∷ lists) (suc k) (suc j) ys h = marks_stay lists k j ys h

-- items were taken, and perhaps given to the collector
further_some : (old : Gathering) (k : ℕ) (s t : Taker Back) (xs : List (Item Back)) (collector : Collection) → k < length old.backs.items → s ≡ get_or old.backs.items k s → t.lane ≡ s.lane → t.taken ≡ s.taken ++ xs
    → (IsGathered old → Gathers (with_items (given_by old.backs.items) k xs) collector)
    → IsFurther old (record { backs = with_item old.backs k t; collector = collector })
further_some old k s t xs collector lt at lane more gathers =
    let lists : List (List (Item Back)) = given_by old.backs.items in
    let given : given_by (set old.backs.items k t) ≡ with_items lists k xs =
    map-set (λ t. t.taken) old.backs.items k t ∙ ap (set lists k) (more ∙ ap (λ (l : List (Item Back)). l ++ xs) (ap (λ t. t.taken) at ∙ sym (get_or-map (λ t. t.taken) old.backs.items k s [] lt))) in
    let P : List (List (Item Back)) → Type 0 = λ ls. Gathers ls collector in
    record {
      count = refl;
      lanes = map-set_same (λ t. t.lane) old.backs.items k t s (lane ∙ ap (λ t. t.lane) at);
      gathers = λ h. subst P (sym given) (gathers h);
      marks = λ j h. let Q : List (List (Item Back)) → Type 0 = λ ls. has_mark (get_or ls j []) ≡ true in subst Q (sym given) (marks_stay lists k j xs h);
    }

-- nothing was taken of a lane
pub further_none : (old : Gathering) (k : ℕ) (s t : Taker Back) → k < length old.backs.items → s ≡ get_or old.backs.items k s → t.lane ≡ s.lane → t.taken ≡ s.taken
    → IsFurther old (record { backs = with_item old.backs k t; collector = old.collector })
further_none old k s t lt at lane same =
    let lists : List (List (Item Back)) = given_by old.backs.items in
    let still : with_items lists k [] ≡ lists = ap (set lists k) (append-nil (get_or lists k [])) ∙ set-get_or lists k [] in
    let P : List (List (Item Back)) → Type 0 = λ ls. Gathers ls old.collector in
    further_some old k s t [] old.collector lt at lane (same ∙ sym (append-nil s.taken)) (subst P (sym still))

-- a race or the news of a refused growth came
pub gathers_one : (lists : List (List (Item Back))) (k : ℕ) (back : Back) (c c' : Collection) → k < length lists
    → (IsFalse c'.refused → IsFalse c.refused × ((g : List Back) → KeepsBest g c → KeepsBest (g ++ back ∷ []) c')) → (back ≡ NoMemory → c'.refused ≡ true)
    → Gathers lists c → Gathers (set lists k (get_or lists k [] ++ One back ∷ [])) c'
gathers_one lists k NoMemory c c' lt given none h = gathers-refused (set lists k (get_or lists k [] ++ One NoMemory ∷ [])) c' (none refl)
gathers_one lists k (Race r) c c' lt given none h = ⊎_elim
    (λ refused. gathers-refused (set lists k (get_or lists k [] ++ One (Race r) ∷ [])) c' refused)
    (λ good. let now = given good in gathers-race lists k r c c' lt now.0 now.1 h)
    (cases_Bool c'.refused)

-- the same, of an item that came
pub gathers_item : (lists : List (List (Item Back))) (k : ℕ) (x : Item Back) (back : Back) (c c' : Collection) → x ≡ One back → k < length lists
    → (IsFalse c'.refused → IsFalse c.refused × ((g : List Back) → KeepsBest g c → KeepsBest (g ++ back ∷ []) c')) → (back ≡ NoMemory → c'.refused ≡ true)
    → Gathers lists c → Gathers (set lists k (get_or lists k [] ++ x ∷ [])) c'
gathers_item lists k x back c c' is lt given none h =
    let P : Item Back → Type 0 = λ y. Gathers (set lists k (get_or lists k [] ++ y ∷ [])) c' in
    subst P (sym is) (gathers_one lists k back c c' lt given none h)

pub gathers_mark : (lists : List (List (Item Back))) (k : ℕ) (x : Item Back) (c : Collection) → x ≡ Finish → Gathers lists c → Gathers (set lists k (get_or lists k [] ++ x ∷ [])) c
gathers_mark lists k x c is h =
    let P : Item Back → Type 0 = λ y. Gathers (set lists k (get_or lists k [] ++ y ∷ [])) c in
    subst P (sym is) (gathers-finish lists k c h)

-- items were taken of a lane, and the rest followed
pub further_kept : (old new : Gathering) (k : ℕ) (s t : Taker Back) (xs : List (Item Back)) → new.backs ≡ with_item old.backs k t → k < length old.backs.items → s ≡ get_or old.backs.items k s → t.lane ≡ s.lane → t.taken ≡ s.taken ++ xs
    → (IsGathered old → Gathers (with_items (given_by old.backs.items) k xs) new.collector) → IsFurther old new
further_kept old new k s t xs is lt at lane more gathers =
    let P : Vec (Taker Back) _ → Type 0 = λ b. IsFurther old (record { backs = b; collector = new.collector }) in
    subst P (sym is) (further_some old k s t xs new.collector lt at lane more gathers)

-- items of a lane, and one more
with_next : (lists : List (List (Item Back))) (k i : ℕ) (items : List (Item Back)) (d : Item Back) → k < length lists → i < length items
    → with_items (with_items lists k (take i items)) k (slice_index_or items i d ∷ []) ≡ with_items lists k (take (i + 1) items)
with_next lists k i items d lt within =
    let front : List (Item Back) = get_or lists k [] in
    let x : Item Back = slice_index_or items i d in
    let one : i + 1 ≡ suc i = omega arith in
    ap (λ (l : List (Item Back)). set (with_items lists k (take i items)) k (l ++ x ∷ [])) (get_or-set_same lists k (front ++ take i items) [] lt)
    ∙ set-set lists k (front ++ take i items) ((front ++ take i items) ++ x ∷ [])
    ∙ ap (set lists k) (append_assoc front (take i items) (x ∷ []) ∙ ap (λ (l : List (Item Back)). front ++ l) (sym (ap (λ j. take j items) one ∙ take-suc items i d within)))

within_items : (lists : List (List (Item Back))) (k : ℕ) (xs : List (Item Back)) → k < length lists → k < length (with_items lists k xs)
within_items lists k xs lt = let e : length (with_items lists k xs) ≡ length lists = length-set lists k (get_or lists k [] ++ xs) in omega (arith, lt, e)

-- the collector was given what the lanes gave before, and these are items more of a lane
abbrev pub Continues : Collection → Collection → List (Item Back) → Type 0
Continues c c' xs = (lists : List (List (Item Back))) (k : ℕ) → k < length lists → Gathers lists c → Gathers (with_items lists k xs) c'

pub continues_next : (c d e : Collection) (items : List (Item Back)) (i : ℕ) (x : Item Back) → x ≡ slice_index_or items i x → i < length items → Continues c d (take i items)
    → Continues d e (x ∷ []) → Continues c e (take (i + 1) items)
continues_next c d e items i x is within before step lists k lt h =
    let P : List (List (Item Back)) → Type 0 = λ ls. Gathers ls e in
    let Q : Item Back → Type 0 = λ y. Gathers (with_items (with_items lists k (take i items)) k (y ∷ [])) e in
    subst P (with_next lists k i items x lt within) (subst Q is (step (with_items lists k (take i items)) k (within_items lists k (take i items) lt) (before lists k lt h)))

-- one lane more
pub ended_to : (P : ℕ → Type 0) (n : ℕ) → P n → ((j : ℕ) → j < n → P j) → (k : ℕ) → k < n + 1 → P k
ended_to P n at before k h = ⊎_elim (λ e. subst P (sym e) at) (λ ne. before k (omega (arith, h, ne))) (cases_eq k n)

pub within_given : (backs : List (Taker Back)) (k : ℕ) → k < length backs → k < length (given_by backs)
within_given backs k h = let e : length (given_by backs) ≡ length backs = length-map backs (λ t. t.taken) in omega (arith, h, e)
