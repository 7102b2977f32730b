-- One lane's receipt compared.
use Rattle.detect.proofs.Common.{◌≡◌, ℕ, zero, suc, ◌+◌, ◌<◌, true, List, [], ◌∷◌, ◌++◌, length, length-append, append-nil, map, set, get_or, sym, ap, ◌∙◌, arith, length-set, get_or-set_same, get_or-set_other, length-map, get_or-map, map-append, map-set, append_cancel_left, map-set_same, Placed, Item, Taker, has_mark, IsBeginning, put_of, Worked, takers_of, IsSameWork, IsSettled, IsEmptied}
use Rattle.detect.proofs.LanesBack.{ended_to}

-- a list in front of another, which are the same as others, or are mapped
pub front_same : {X : Type 0} (front whole front' whole' : List X) → front' ≡ front → whole' ≡ whole → IsBeginning front whole → IsBeginning front' whole'
front_same front whole front' whole' is is' (rest, e) = (rest, is' ∙ e ∙ ap (λ l. l ++ rest) (sym is))

pub front_map : {X Y : Type 0} (f : X → Y) (front whole : List X) → IsBeginning front whole → IsBeginning (map f front) (map f whole)
front_map f front whole (rest, e) = (map f rest, ap (map f) e ∙ map-append f front rest)

-- what f says of an element of the one list, g says of the element of the other at its place
pub at_front : {X Y Z : Type 0} (f : X → Z) (g : Y → Z) (xs : List X) (ys : List Y) (k : ℕ) (x : X) (y : Y) → IsBeginning (map f xs) (map g ys) → k < length xs → x ≡ get_or xs k x → y ≡ get_or ys k y → f x ≡ g y
at_front f g [] ys k x y h lt at_x at_y = absurd (omega (arith, lt))
at_front f g (a ∷ xs) [] k x y (rest, e) lt at_x at_y = absurd cc
at_front {Z} f g (a ∷ xs) (b ∷ ys) zero x y (rest, e) lt at_x at_y = let head : g b ≡ f a = cc in ap f at_x ∙ sym head ∙ sym (ap g at_y)
at_front {Z} f g (a ∷ xs) (b ∷ ys) (suc k) x y (rest, e) lt at_x at_y =
    let tail : map g ys ≡ map f xs ++ rest = cc in at_front f g xs ys k x y (rest, tail) (omega (arith, lt)) at_x at_y

pub within_front : {X Y Z : Type 0} (f : X → Z) (g : Y → Z) (xs : List X) (ys : List Y) (k : ℕ) → IsBeginning (map f xs) (map g ys) → k < length xs → k < length ys
within_front f g xs ys k (rest, e) lt = omega (arith, lt, length-map xs f, length-map ys g, ap length e, length-append (map f xs) rest)

pub at_map : {X Z : Type 0} (f : X → Z) (xs : List X) (k : ℕ) (x : X) (e : Z) → k < length xs → x ≡ get_or xs k x → get_or (map f xs) k e ≡ f x
at_map f xs k x e lt at = get_or-map f xs k x e lt ∙ sym (ap f at)

pub settled_at : {T : Type 0} (taken taken' puts puts' : List (List (Item T))) (k : ℕ) (t t' e e' : List (Item T)) → taken ≡ taken' → puts ≡ puts' → get_or taken k [] ≡ t → get_or puts k [] ≡ e → t' ≡ t → e' ≡ e
    → IsBeginning t' e' → (has_mark t' ≡ true → t' ≡ e') → IsSettled taken' puts' k
settled_at taken taken' puts puts' k t t' e e' same_taken same_puts at_t at_e is_t is_e prefix whole =
    let now : get_or taken' k [] ≡ t' = ap (λ l. get_or l k []) (sym same_taken) ∙ at_t ∙ sym is_t in
    let put : get_or puts' k [] ≡ e' = ap (λ l. get_or l k []) (sym same_puts) ∙ at_e ∙ sym is_e in
    record {
      prefix = front_same _ _ _ _ now put prefix;
      whole = λ marked. now ∙ whole (ap has_mark (sym now) ∙ marked) ∙ sym put;
    }

-- what waits for a taker that took all, the mark too, is nothing
pub emptied_by : {T : Type 0} (taken waiting put : List (Item T)) → taken ++ waiting ≡ put → (has_mark taken ≡ true → taken ≡ put) → has_mark taken ≡ true → waiting ≡ []
emptied_by taken waiting put all whole marked = append_cancel_left taken waiting [] (all ∙ sym (whole marked) ∙ sym (append-nil taken))

module _ {S H : Type 0} where
  -- one worker's ends were compared
  pub same_set : (all now : List (Worked S H)) (k : ℕ) (w v : Worked S H) → w ≡ get_or now k w → v.taker.taken ≡ w.taker.taken → v.taker.lane ≡ w.taker.lane → put_of v.back ≡ put_of w.back → v.back.lane ≡ w.back.lane → v.shard ≡ w.shard
      → IsSameWork all now → IsSameWork all (set now k v)
  same_set all now k w v at taken taker_lane_is backs end_lane_is shard h = record {
    count = length-set now k v ∙ h.count;
    taken = map-set_same (λ (x : Worked S H). x.taker.taken) now k v w (taken ∙ ap (λ (x : Worked S H). x.taker.taken) at) ∙ h.taken;
    backs = map-set_same (λ (x : Worked S H). put_of x.back) now k v w (backs ∙ ap (λ (x : Worked S H). put_of x.back) at) ∙ h.backs;
    counts = map-set_same (λ (x : Worked S H). x.shard.taken) now k v w (ap (λ s. s.taken) shard ∙ ap (λ (x : Worked S H). x.shard.taken) at) ∙ h.counts;
    to_shards = map-set_same (λ (x : Worked S H). x.taker.lane) now k v w (taker_lane_is ∙ ap (λ (x : Worked S H). x.taker.lane) at) ∙ h.to_shards;
    from_shards = map-set_same (λ (x : Worked S H). x.back.lane) now k v w (end_lane_is ∙ ap (λ (x : Worked S H). x.back.lane) at) ∙ h.from_shards;
  }

  -- the same work twice over
  pub same_work_trans : (a b c : List (Worked S H)) → IsSameWork a b → IsSameWork b c → IsSameWork a c
  same_work_trans a b c h k = record {
    count = k.count ∙ h.count;
    taken = k.taken ∙ h.taken;
    backs = k.backs ∙ h.backs;
    counts = k.counts ∙ h.counts;
    to_shards = k.to_shards ∙ h.to_shards;
    from_shards = k.from_shards ∙ h.from_shards;
  }

  -- and its taker knows what waits for it
  pub emptied_more : (now : List (Worked S H)) (k : ℕ) (w v : Worked S H) → k < length now → (has_mark v.taker.taken ≡ true → v.taker.waiting ≡ [])
      → ((j : ℕ) → j < k → IsEmptied (takers_of now) j) → (j : ℕ) → j < k + 1 → IsEmptied (takers_of (set now k v)) j
  emptied_more now k w v within this before j lt = ended_to (IsEmptied (takers_of (set now k v))) k at_this at_other j lt
    where
      of_set : {X : Type 0} (f : Taker Placed → X) → map f (takers_of (set now k v)) ≡ set (map f (takers_of now)) k (f v.taker)
      of_set f = ap (map f) (map-set (λ (x : Worked S H). x.taker) now k v) ∙ map-set f (takers_of now) k v.taker

      here : (f : Taker Placed → List (Item Placed)) → get_or (map f (takers_of (set now k v))) k [] ≡ f v.taker
      here f = ap (λ l. get_or l k []) (of_set f) ∙ get_or-set_same (map f (takers_of now)) k (f v.taker) [] (omega (arith, within, length-map (takers_of now) f, length-map now (λ (x : Worked S H). x.taker)))

      there : (f : Taker Placed → List (Item Placed)) (i : ℕ) → i < k → get_or (map f (takers_of (set now k v))) i [] ≡ get_or (map f (takers_of now)) i []
      there f i l = ap (λ m. get_or m i []) (of_set f) ∙ get_or-set_other (map f (takers_of now)) k i (f v.taker) [] (λ e. absurd (omega (arith, l, e)))

      at_this : IsEmptied (takers_of (set now k v)) k
      at_this marked = here (λ t. t.waiting) ∙ this (ap has_mark (sym (here (λ t. t.taken))) ∙ marked)

      at_other : (i : ℕ) → i < k → IsEmptied (takers_of (set now k v)) i
      at_other i l marked = there (λ t. t.waiting) i l ∙ before i l (ap has_mark (sym (there (λ t. t.taken) i l)) ∙ marked)
