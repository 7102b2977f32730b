-- What stands in front of bytes.
use Rattle.collect.proofs.Common.{◌≡◌, ℕ, suc, ◌<◌, ◌^◌, Bool, true, false, List, [], ◌∷◌, ◌++◌, length, get_or, take, drop, decimal, arith, refl, sym, ap, ◌∙◌, subst, take-append-drop, drop-cons, codes, IfSome, IfNone, MatchOption, IsTrue, length-take, get_or-take, Access, RaceAt, IsRaceShape, newline, IsEntry, space, access_text, race_line, Option, Some, None, length-append}
use Rattle.collect.proofs.Unique.{HasNo, same_parts, HasNo-decimal, same_number, same_spelled, race_line-parts, after_race, after_location, after_first}

get_or-middle : (xs : List ℕ) (s : ℕ) (more : List ℕ) → get_or (xs ++ s ∷ more) (length xs) 0 ≡ s
get_or-middle [] s more = refl
get_or-middle (x ∷ xs) s more = get_or-middle xs s more

pub no_stop : (s : ℕ) (bs xs more : List ℕ) → ((k : ℕ) → k < length bs → get_or bs k 0 ≡ s → ⊥) → bs ≡ xs ++ s ∷ more → ⊥
no_stop s bs xs more h e =
    h (length xs) (omega (arith, ap length e, length-append xs (s ∷ more))) (ap (λ l. get_or l (length xs) 0) e ∙ get_or-middle xs s more)

cut_at : (s : ℕ) (bs : List ℕ) (i : ℕ) → i < length bs → get_or bs i 0 ≡ s → bs ≡ take i bs ++ s ∷ drop (suc i) bs
cut_at s bs i h e = sym (take-append-drop i bs) ∙ ap (λ l. take i bs ++ l) (drop-cons bs i 0 h ∙ ap (λ x. x ∷ drop (suc i) bs) e)

HasNo-from_places : (s : ℕ) (xs : List ℕ) → ((k : ℕ) → k < length xs → get_or xs k 0 ≡ s → ⊥) → HasNo s xs
HasNo-from_places s [] h = tt
HasNo-from_places s (x ∷ xs) h = (h 0 (omega arith), HasNo-from_places s xs (λ k lt. h (suc k) (omega arith)))

-- what stands in front of the first stop is the number, where a number stands in front of a stop
pub front_is_number : (s : ℕ) (bs : List ℕ) (i n : ℕ) (more : List ℕ) → s < 48 → n < 2 ^ 64 → i < length bs → get_or bs i 0 ≡ s → ((k : ℕ) → k < i → get_or bs k 0 ≡ s → ⊥)
    → bs ≡ decimal n ++ s ∷ more → take i bs ≡ decimal n
front_is_number s bs i n more low small h here before e =
    let none : HasNo s (take i bs) = HasNo-from_places s (take i bs) (λ k lt at.
    let below : k < i = omega (arith, length-take i bs) in
    before k below (sym (get_or-take i bs k 0 below) ∙ at)) in
    (same_parts s (take i bs) (decimal n) (drop (suc i) bs) more none (HasNo-decimal s n low small) (sym (cut_at s bs i h here) ∙ e)).0

-- ---- no access

-- ---- no race

-- the line of a race stands in front
module _ (bs : List ℕ) (r : RaceAt) (more : List ℕ) (p : IsEntry r) (e : bs ≡ race_line r ++ more) where
  pub rest_of_race : (b : List ℕ) → bs ≡ codes "race " ++ b → b ≡ after_race r more
  rest_of_race b found = let parts : codes "race " ++ b ≡ codes "race " ++ after_race r more = sym found ∙ e ∙ race_line-parts r more in cc

  pub rest_of_location : (b c : List ℕ) (l : ℕ) → l < 2 ^ 64 → bs ≡ codes "race " ++ b → b ≡ decimal l ++ space ∷ c → (l ≡ r.location) × (c ≡ after_location r more)
  rest_of_location b c l small found number = same_number space l r.location c (after_location r more) (omega arith) small p.fits (sym number ∙ rest_of_race b found)

  pub rest_of_first : (b c d : List ℕ) (l : ℕ) (f : Access) → l < 2 ^ 64 → f.place < 2 ^ 64 → bs ≡ codes "race " ++ b → b ≡ decimal l ++ space ∷ c → c ≡ access_text f ++ space ∷ d
      → (f ≡ r.first) × (d ≡ after_first r more)
  rest_of_first b c d l f small fits found number first =
      same_spelled space f r.first d (after_first r more) (omega arith) fits (let i = p.shape in omega arith) (sym first ∙ (rest_of_location b c l small found number).1)

  pub rest_of_second : (b c d t : List ℕ) (l : ℕ) (f s : Access) → l < 2 ^ 64 → f.place < 2 ^ 64 → s.place < 2 ^ 64 → bs ≡ codes "race " ++ b → b ≡ decimal l ++ space ∷ c → c ≡ access_text f ++ space ∷ d → d ≡ access_text s ++ newline ∷ t
      → (s ≡ r.second) × (t ≡ more)
  rest_of_second b c d t l f s small fits ends found number first second =
      same_spelled newline s r.second t more (omega arith) ends (let i = p.shape in omega arith) (sym second ∙ (rest_of_first b c d l f small fits found number first).1)

pub not_raced : (f g s t : Access) (b : Bool) → f ≡ g → s ≡ t → (IsRaceShape f s → IsTrue b) → b ≡ false → IsRaceShape g t → ⊥
not_raced f g s t b p q test failed shape =
    let here : IsRaceShape f s = subst (λ (x : Access). IsRaceShape x s) (sym p) (subst (λ (y : Access). IsRaceShape g y) (sym q) shape) in
    let passed : b ≡ true = test here in
    cc

-- ---- what an answer says of each variant

pub IfSome-of : {X : Type 0} (r : Option X) (P : Type 0) (Q : X → Type 0) → MatchOption r P Q → IfSome r Q
IfSome-of None P Q h = tt
IfSome-of (Some x) P Q h = h

pub IfNone-of : {X : Type 0} (r : Option X) (P : Type 0) (Q : X → Type 0) → MatchOption r P Q → IfNone r P
IfNone-of None P Q h = h
IfNone-of (Some x) P Q h = tt
