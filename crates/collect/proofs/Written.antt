-- Lines that are written one after another.
use Rattle.collect.proofs.Common.{◌≡◌, ℕ, ◌+◌, ◌<◌, ◌≤◌, ◌^◌, List, [], ◌∷◌, ◌++◌, Option, length, take, drop, get_or, decimal, arith, sym, ap, ◌∙◌, subst, append_assoc, append-nil, take-append-drop, Appends, flat_map, Appends-trans, length-decimal-le, take_more, AppendsFront}
use Rattle.std.proofs.lemmas.Grind.{flat_map-append}

-- a place has at most 15 digits
pub length-decimal-place : (n : ℕ) → n ≤ 2 ^ 48 → length (decimal n) ≤ 15
length-decimal-place n h = length-decimal-le 15 n (omega arith) (omega arith) (omega arith)

pub AppendsFront-more : (a b : Option (List ℕ)) (xs ys : List ℕ) → AppendsFront a b xs → AppendsFront a b (xs ++ ys)
AppendsFront-more a b xs ys f = record {
  front = f.front;
  back = f.back ++ ys;
  split = sym (append_assoc f.front f.back ys) ∙ ap (λ l. l ++ ys) f.split;
  appended = f.appended;
}

pub AppendsFront-after : (a b c : Option (List ℕ)) (xs ys : List ℕ) → Appends a b xs → AppendsFront b c ys → AppendsFront a c (xs ++ ys)
AppendsFront-after a b c xs ys p f = record {
  front = xs ++ f.front;
  back = f.back;
  split = append_assoc xs f.front f.back ∙ ap (λ l. xs ++ l) f.split;
  appended = Appends-trans a b c xs f.front p f.appended;
}

module _ {X : Type 0} (f : X → List ℕ) where
  pub lines-more : (xs : List X) (i : ℕ) (d : X) → i < length xs → flat_map f (take (i + 1) xs) ≡ flat_map f (take i xs) ++ f (get_or xs i d)
  lines-more xs i d h =
      ap (flat_map f) (take_more xs i d h) ∙ flat_map-append f (take i xs) (get_or xs i d ∷ []) ∙ ap (λ l. flat_map f (take i xs) ++ l) (append-nil (f (get_or xs i d)))

  pub lines-split : (xs : List X) (i : ℕ) (d : X) → i < length xs → flat_map f xs ≡ (flat_map f (take i xs) ++ f (get_or xs i d)) ++ flat_map f (drop (i + 1) xs)
  lines-split xs i d h =
      ap (flat_map f) (sym (take-append-drop (i + 1) xs)) ∙ flat_map-append f (take (i + 1) xs) (drop (i + 1) xs) ∙ ap (λ l. l ++ flat_map f (drop (i + 1) xs)) (lines-more xs i d h)

  -- after the head and i lines, one more
  pub Appends-line : (a b c : Option (List ℕ)) (head : List ℕ) (xs : List X) (i : ℕ) (d : X) → i < length xs
      → Appends a b (head ++ flat_map f (take i xs)) → Appends b c (f (get_or xs i d)) → Appends a c (head ++ flat_map f (take (i + 1) xs))
  Appends-line a b c head xs i d h p q =
      let same : (head ++ flat_map f (take i xs)) ++ f (get_or xs i d) ≡ head ++ flat_map f (take (i + 1) xs) =
      append_assoc head (flat_map f (take i xs)) (f (get_or xs i d)) ∙ ap (λ l. head ++ l) (sym (lines-more xs i d h)) in
      subst (Appends a c) same (Appends-trans a b c (head ++ flat_map f (take i xs)) (f (get_or xs i d)) p q)

  pub AppendsFront-line : (a b c : Option (List ℕ)) (head : List ℕ) (xs : List X) (i : ℕ) (d : X) → i < length xs
      → Appends a b (head ++ flat_map f (take i xs)) → AppendsFront b c (f (get_or xs i d)) → AppendsFront a c (head ++ flat_map f xs)
  AppendsFront-line a b c head xs i d h p q =
      let before = flat_map f (take i xs) in
      let here = f (get_or xs i d) in
      let after = flat_map f (drop (i + 1) xs) in
      let same : ((head ++ before) ++ here) ++ after ≡ head ++ flat_map f xs =
      append_assoc (head ++ before) here after ∙ append_assoc head before (here ++ after)
      ∙ ap (λ l. head ++ l) (sym (append_assoc before here after)) ∙ ap (λ l. head ++ l) (sym (lines-split xs i d h)) in
      subst (AppendsFront a c) same (AppendsFront-more a c ((head ++ before) ++ here) after (AppendsFront-after a b c (head ++ before) here p q))
