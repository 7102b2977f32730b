-- Sixteen digits in a vector: which are digits, how they are moved, and the number that they write.
use Rattle.trace.proofs.Common.{◌≡◌, ◌≢◌, decimal, ℕ, zero, suc, ◌+◌, ◌-◌, ◌*◌, ◌/◌, ◌%◌, ◌^◌, ◌<◌, ◌≤◌, Bool, true, false, true≢false, not, cond, leb, w8, Fits, take_all, List, [], ◌∷◌, ◌++◌, map, length, take, drop, get_or, replicate, refl, sym, ap, subst, ◌∙◌, arith, length-take, mod-eq_of_lt, div-lt_iff_lt-mul, div-add-mod', pow-suc, bit_and, add-mul-mod_self_left, add-mul-div_left, mul-le-mul_left, div-eq_of_lt, leb-true, leb-false, length-map, ext_get_or, prefix_len-le-length, prefix_len_stops, number_lt, number_from_digits, number_from_digits_after, AllBelowBase, prefix_len, range_with_len, digit_value, AllDigits, digits_value_after, digit_value_digit, paired}
use native.Mathlib.Decide.{dec_le}
use Rattle.std.proofs.lemmas.List.FromFn.{length-map-range_with_len, get_or-map-range_with_len}
use Rattle.std.proofs.lemmas.Nat.{and_mask}
use Rattle.trace.proofs.Decimals.{front_is_decimal}
use Rattle.std.proofs.lemmas.Simd.{zip2_splat, tops_compared, zip2_splat_left, mask_l-mod, trailing_mask_l, swz_l, SwzOk}
use Rattle.std.specs.Prelude.{⊤}
use lib.Count.{count_trailing_zeros}
use lib.Lanes.{Each1, mask_l, top, zip2, number_l, digits_l, chunk}
use Rattle.trace.specs.declared.digits.TheConstants.{PLACES}

-- ---- the values that are no digit's

abbrev at_most : ℕ → ℕ → ℕ
at_most a b = cond (leb a b) 255 0

abbrev marks : List ℕ → ℕ
marks v = mask_l (map (top 7) (zip2 at_most (replicate 16 10) v)) % 2 ^ 64

marks_are : (v : List ℕ) → length v ≡ 16 → marks v ≡ mask_l (map (leb 10) v)
marks_are v long = ap (λ ms. mask_l ms % 2 ^ 64) (tops_compared w8 leb (replicate 16 10) v ∙ zip2_splat_left leb 10 16 v long) ∙ mask_l-mod (map (leb 10) v) 64 (omega (arith, length-map v (leb 10)))

abbrev is_digit : ℕ → Bool
is_digit x = not (leb 10 x)

none_marked : (v : List ℕ) → prefix_len is_digit v ≡ length v → mask_l (map (leb 10) v) ≡ 0
none_marked [] e = refl
none_marked (x ∷ xs) e = go (leb 10 x) refl (none_marked xs)
  where
    go : (b : Bool) → leb 10 x ≡ b → (prefix_len is_digit xs ≡ length xs → mask_l (map (leb 10) xs) ≡ 0) → mask_l (map (leb 10) (x ∷ xs)) ≡ 0
    go true is rest = absurd (omega (arith, rw is at e))
    go false is rest = rw is (omega (arith, rest (omega (arith, rw is at e))))

all_unmarked : (v : List ℕ) → mask_l (map (leb 10) v) ≡ 0 → AllBelowBase 10 v
all_unmarked [] e = tt
all_unmarked (x ∷ xs) e = go (leb 10 x) refl (all_unmarked xs)
  where
    go : (b : Bool) → leb 10 x ≡ b → (mask_l (map (leb 10) xs) ≡ 0 → AllBelowBase 10 xs) → AllBelowBase 10 (x ∷ xs)
    go true is rest = absurd (omega (arith, rw is at e))
    go false is rest = (leb-false 10 x is, rest (omega (arith, rw is at e)))

pub none_is : (v : List ℕ) → length v ≡ 16 → marks v ≡ 0 → AllBelowBase 10 v
none_is v long none = all_unmarked v (sym (marks_are v long) ∙ none)

other_stops : (v : List ℕ) → prefix_len is_digit v < length v → 10 ≤ get_or v (prefix_len is_digit v) 0
other_stops v h = go (leb 10 (get_or v (prefix_len is_digit v) 0)) refl (prefix_len_stops is_digit v 0 h)
  where
    go : (b : Bool) → leb 10 (get_or v (prefix_len is_digit v) 0) ≡ b → not (leb 10 (get_or v (prefix_len is_digit v) 0)) ≡ false → 10 ≤ get_or v (prefix_len is_digit v) 0
    go true is stops = leb-true 10 (get_or v (prefix_len is_digit v) 0) is
    go false is stops = absurd (true≢false (rw is at stops))

front_below : (v : List ℕ) → AllBelowBase 10 (take (prefix_len is_digit v) v)
front_below [] = tt
front_below (x ∷ xs) = go (leb 10 x) refl (front_below xs)
  where
    go : (b : Bool) → leb 10 x ≡ b → AllBelowBase 10 (take (prefix_len is_digit xs) xs) → AllBelowBase 10 (take (prefix_len is_digit (x ∷ xs)) (x ∷ xs))
    go true is rest = rw is tt
    go false is rest =
        let longer : prefix_len is_digit (x ∷ xs) ≡ suc (prefix_len is_digit xs) = rw is (omega arith) in
        let small : x < 10 = leb-false 10 x is in
        rw longer (small, rest)

pub first_is : (v : List ℕ) → length v ≡ 16 → (marks v ≡ 0 → ⊥)
    → (count_trailing_zeros 64 (marks v) < 16) × AllBelowBase 10 (take (count_trailing_zeros 64 (marks v)) v) × (10 ≤ get_or v (count_trailing_zeros 64 (marks v)) 0)
first_is v long some =
    let is = marks_are v long in
    let marked : 0 < mask_l (map (leb 10) v) = omega (arith, is, some) in
    let first : count_trailing_zeros 64 (marks v) ≡ prefix_len is_digit v = ap (count_trailing_zeros 64) is ∙ trailing_mask_l (leb 10) 64 v (omega arith) marked in
    let most = prefix_len-le-length is_digit v in
    let less : prefix_len is_digit v < 16 = elim (dec_le 16 (prefix_len is_digit v)) [ yes all ↦ absurd (omega (arith, none_marked v (omega arith))) | no few ↦ omega arith ] in
    rw first (less, front_below v, other_stops v (omega arith))

-- ---- the values moved to the back

abbrev behind : ℕ → List ℕ → List ℕ
behind n v = replicate (16 - n) 0 ++ take n v

abbrev Each : (ℕ → Type 0) → ℕ → Type 0
Each P zero = ⊤
Each P (suc n) = P n × Each P n

each : (P : ℕ → Type 0) (n k : ℕ) → Each P n → k < n → P k
each P zero k h l = absurd (omega arith)
each P (suc n) k h l = elim (dec_le n k) [ yes last ↦ let e : n ≡ k = omega arith in subst P e h.0 | no below ↦ each P n k h.1 (omega arith) ]

abbrev listed : (ℕ → ℕ) → List ℕ
listed f = map f (range_with_len 0 16)

-- a fact of each sixteen values, from the same of sixteen values written out
spelled_out : (P : List ℕ → Type 0) → ((f : ℕ → ℕ) → P (listed f)) → (v : List ℕ) → length v ≡ 16 → P v
spelled_out P h v long =
    let f = λ (k : ℕ). get_or v k 0 in
    let many = length-map-range_with_len f 0 16 in
    subst P (ext_get_or 0 _ v (many ∙ sym long) (λ i l. get_or-map-range_with_len f 0 16 i i 0 (omega arith) (omega arith))) (h f)

-- the sixteen places from an index on
abbrev window : ℕ → List ℕ
window n = chunk 0 16 (take (n + 16 - n) (drop n PLACES.now))

abbrev Moves : List ℕ → ℕ → Type 0
Moves v n = SwzOk w8 16 16 0 (window n) × (swz_l w8 16 v 0 (window n) ≡ behind n v)

fine : SwzOk w8 16 16 0 (window 0)
fine = (tt, (tt, (tt, (tt, (tt, (tt, (tt, (tt, (tt, (tt, (tt, (tt, (tt, (tt, (tt, (tt, tt))))))))))))))))

pub moved : (n : ℕ) → n < 16 → (v : List ℕ) → length v ≡ 16 → Moves v n
moved n few = spelled_out (λ v. Moves v n) (λ f. each (Moves (listed f)) 16 n
    ((fine, refl), ((fine, refl), ((fine, refl), ((fine, refl), ((fine, refl), ((fine, refl), ((fine, refl), ((fine, refl), ((fine, refl), ((fine, refl), ((fine, refl), ((fine, refl), ((fine, refl), ((fine, refl), ((fine, refl), ((fine, refl), tt))))))))))))))))
    few)

-- ---- the number that they write

pub same_number : (b n k : ℕ) (ds : List ℕ) → length ds ≡ k + k → number_from_digits_after b n ds ≡ number_from_digits_after (b * b) n (paired b ds)
same_number b n k [] e = refl
same_number b n k (x ∷ []) e = absurd (omega arith)
same_number b n zero (x ∷ y ∷ ds) e = absurd (omega arith)
same_number b n (suc k) (x ∷ y ∷ ds) e =
    let one : (n * b + x) * b + y ≡ n * (b * b) + (x * b + y) = omega arith in
    ap (λ m. number_from_digits_after b m ds) one ∙ same_number b (n * (b * b) + (x * b + y)) k ds (omega arith)

-- ---- two digits an element

-- the two digits of an element in base b * b, the first one in its lower half
abbrev joined : ℕ → List ℕ → List ℕ
joined b (x ∷ y ∷ zs) = (x + b * y) ∷ joined b zs
joined b (x ∷ []) = x ∷ []
joined b [] = []

module _ (b : ℕ) (some : 0 < b) where
  one_lane : (x y r : ℕ) → x < b → y < b → ((x + b * (y + b * r)) % (b * b) ≡ x + b * y) × ((x + b * (y + b * r)) / (b * b) ≡ r)
  one_lane x y r X Y =
      let e : x + b * (y + b * r) ≡ x + b * y + b * b * r = omega arith in
      let fits : x + b * y < b * b = omega (arith, mul-le-mul_left {m = suc y} {n = b} b Y) in
      let whole : 0 < b * b = omega arith in
      rw e (add-mul-mod_self_left (x + b * y) (b * b) r ∙ mod-eq_of_lt fits, omega (arith, add-mul-div_left (x + b * y) r whole, div-eq_of_lt fits))

  elements : (n : ℕ) (zs : List ℕ) → length zs ≡ n + n → AllBelowBase b zs → digits_l (b * b) n (number_l b zs) ≡ joined b zs
  elements zero [] e h = refl
  elements zero (x ∷ zs) e h = absurd (omega arith)
  elements (suc n) [] e h = absurd (omega arith)
  elements (suc n) (x ∷ []) e h = absurd (omega arith)
  elements (suc n) (x ∷ y ∷ zs) e h =
      let one = one_lane x y (number_l b zs) h.0 h.1.0 in
      (λ i. one.0 i ∷ digits_l (b * b) n (one.1 i)) ∙ ap (λ l. (x + b * y) ∷ l) (elements n zs (omega arith) h.1.1)

below_all : (b c : ℕ) → b ≤ c → (zs : List ℕ) → AllBelowBase b zs → AllBelowBase c zs
below_all b c le [] h = tt
below_all b c le (z ∷ zs) h = (omega (arith, h.0), below_all b c le zs h.1)

pub paired_below : (b : ℕ) → 0 < b → (zs : List ℕ) → AllBelowBase b zs → AllBelowBase (b * b) (paired b zs)
paired_below b some [] h = tt
paired_below b some (x ∷ []) h = (omega (arith, h.0, mul-le-mul_left {m = 1} {n = b} b some), tt)
paired_below b some (x ∷ y ∷ zs) h = (omega (arith, h.0, h.1.0, mul-le-mul_left {m = suc x} {n = b} b h.0), paired_below b some zs h.1.1)

module _ (b : ℕ) (base : ℕ) (element : ℕ → ℕ) (is : (x y : ℕ) → x < base → y < base → element (x + b * y) ≡ x * base + y) where
  each_element : (n : ℕ) (zs : List ℕ) → length zs ≡ n + n → AllBelowBase base zs → map element (joined b zs) ≡ paired base zs
  each_element zero [] e h = refl
  each_element zero (x ∷ zs) e h = absurd (omega arith)
  each_element (suc n) [] e h = absurd (omega arith)
  each_element (suc n) (x ∷ []) e h = absurd (omega arith)
  each_element (suc n) (x ∷ y ∷ zs) e h = let one = is x y h.0 h.1.0 in λ i. one i ∷ each_element n zs (omega arith) h.1.1 i

-- an element whose lower half has one digit and whose upper half the next, after a multiplication and a shift
abbrev shifted : ℕ → ℕ → ℕ → ℕ
shifted b base z = z * (base * b + 1) % (b * b) / b

two_digits : (x y : ℕ) → x < 10 → y < 10 → shifted 256 10 (x + 256 * y) ≡ x * 10 + y
two_digits x y X Y = omega arith

pub twos_are : (ds : List ℕ) → length ds ≡ 16 → AllBelowBase 10 ds → map (shifted 256 10) (digits_l 65536 8 (number_l 256 ds)) ≡ paired 10 ds
twos_are ds long h = ap (map (shifted 256 10)) (elements 256 (omega arith) 8 ds long (below_all 10 256 (omega arith) ds h)) ∙ each_element 256 10 (shifted 256 10) two_digits 8 ds long h

number_of_digits : (p n x : ℕ) → 0 < p → x < p ^ n → number_l p (digits_l p n x) ≡ x
number_of_digits p zero x P h = omega (arith, native.Mathlib.Nat.pow-zero p)
number_of_digits p (suc n) x P h =
    let less : x / p < p ^ n = (div-lt_iff_lt-mul P).1 (rw (← pow-suc p n) h) in
    rw (number_of_digits p n (x / p) P less) (omega (arith, div-add-mod' x p))

-- elements seen as bytes, and the bytes as wider elements
abbrev regrouped : ℕ → ℕ → ℕ → List ℕ → List ℕ
regrouped b c n zs = digits_l c n (number_l 256 (digits_l 256 16 (number_l b zs)))

number_below : (b : ℕ) → 0 < b → (zs : List ℕ) → AllBelowBase b zs → number_l b zs < b ^ length zs
number_below b some [] h = omega (arith, native.Mathlib.Nat.pow-zero b)
number_below b some (z ∷ zs) h = omega (arith, h.0, pow-suc b (length zs), mul-le-mul_left {m = suc (number_l b zs)} {n = b ^ length zs} b (number_below b some zs h.1))

regrouped_is : (b c n : ℕ) → 0 < b → (zs : List ℕ) → AllBelowBase b zs → b ^ length zs ≡ 256 ^ 16 → regrouped b c n zs ≡ digits_l c n (number_l b zs)
regrouped_is b c n some zs h e = let below = number_below b some zs h in ap (digits_l c n) (number_of_digits 256 16 (number_l b zs) (omega arith) (rw e at below))

four_digits : (x y : ℕ) → x < 100 → y < 100 → shifted 65536 100 (x + 65536 * y) ≡ x * 100 + y
four_digits x y X Y = omega arith

pub fours_are : (zs : List ℕ) → length zs ≡ 8 → AllBelowBase 100 zs → map (shifted 65536 100) (regrouped 65536 4294967296 4 zs) ≡ paired 100 zs
fours_are zs long h =
    let wide = below_all 100 65536 (omega arith) zs h in
    ap (map (shifted 65536 100)) (regrouped_is 65536 4294967296 4 (omega arith) zs wide (ap (λ n. 65536 ^ n) long) ∙ elements 65536 (omega arith) 4 zs long wide)
    ∙ each_element 65536 100 (shifted 65536 100) four_digits 4 zs long h

-- the same, after a multiplication of the lower half and a sum
abbrev added : ℕ → ℕ → ℕ → ℕ
added b base w = (bit_and w (b - 1) * base % (b * b) + w / b) % (b * b)

eight_digits : (x y : ℕ) → x < 10000 → y < 10000 → added 4294967296 10000 (x + 4294967296 * y) ≡ x * 10000 + y
eight_digits x y X Y = omega (arith, and_mask (x + 4294967296 * y) 32)

pub eights_are : (zs : List ℕ) → length zs ≡ 4 → AllBelowBase 10000 zs → map (added 4294967296 10000) (regrouped 4294967296 18446744073709551616 2 zs) ≡ paired 10000 zs
eights_are zs long h =
    let wide = below_all 10000 4294967296 (omega arith) zs h in
    ap (map (added 4294967296 10000)) (regrouped_is 4294967296 18446744073709551616 2 (omega arith) zs wide (ap (λ n. 4294967296 ^ n) long) ∙ elements 4294967296 (omega arith) 2 zs long wide)
    ∙ each_element 4294967296 10000 (added 4294967296 10000) eight_digits 2 zs long h

paired_long : (b k : ℕ) (ds : List ℕ) → length ds ≡ k + k → length (paired b ds) ≡ k
paired_long b k [] e = omega arith
paired_long b k (x ∷ []) e = absurd (omega arith)
paired_long b zero (x ∷ y ∷ ds) e = absurd (omega arith)
paired_long b (suc k) (x ∷ y ∷ ds) e = omega (arith, paired_long b k ds (omega arith))

two_written : (r : List ℕ) → length r ≡ 2 → get_or r 0 0 * 100000000 + get_or r 1 0 ≡ number_from_digits 100000000 r
two_written [] e = absurd (omega arith)
two_written (x ∷ []) e = absurd (omega arith)
two_written (x ∷ y ∷ []) e = omega arith
two_written (x ∷ y ∷ z ∷ r) e = absurd (omega arith)

pub number_is : (ds : List ℕ) → length ds ≡ 16 → let r = paired 10000 (paired 100 (paired 10 ds)) in get_or r 0 0 * 100000000 + get_or r 1 0 ≡ number_from_digits 10 ds
number_is ds long =
    let twos = paired 10 ds in
    let fours = paired 100 twos in
    let eight = paired_long 10 8 ds long in
    let four = paired_long 100 4 twos eight in
    two_written (paired 10000 fours) (paired_long 10000 2 fours four)
    ∙ sym (same_number 10 0 8 ds long ∙ same_number 100 0 4 twos eight ∙ same_number 10000 0 2 fours four)

-- ---- from the values back to the bytes

abbrev value_of_byte : ℕ → ℕ
value_of_byte x = (x + (256 - 48)) % 256

zeros_nothing : (n : ℕ) (xs : List ℕ) → number_from_digits 10 (replicate n 0 ++ xs) ≡ number_from_digits 10 xs
zeros_nothing zero xs = refl
zeros_nothing (suc n) xs = zeros_nothing n xs

pub behind_number : (n : ℕ) (v : List ℕ) → number_from_digits 10 (behind n v) ≡ number_from_digits 10 (take n v)
behind_number n v = zeros_nothing (16 - n) (take n v)

byte_is_digit : (x : ℕ) → x < 256 → value_of_byte x < 10 → digit_value x ≡ value_of_byte x
byte_is_digit x fits low = omega (arith, digit_value_digit x (omega arith, omega arith))

pub spelled_from : (n m : ℕ) (bs : List ℕ) → Each1 (λ x. x < 256) bs → AllBelowBase 10 (take n (map value_of_byte bs))
    → AllDigits 10 (take n bs) × (digits_value_after 10 m (take n bs) ≡ number_from_digits_after 10 m (take n (map value_of_byte bs)))
spelled_from zero m bs fit h = (tt, refl)
spelled_from (suc n) m [] fit h = (tt, refl)
spelled_from (suc n) m (x ∷ bs) fit h =
    let is = byte_is_digit x fit.0 h.0 in
    let rest = spelled_from n (m * 10 + value_of_byte x) bs fit.1 h.1 in
    ((omega (arith, is, h.0), rest.0), ap (λ d. digits_value_after 10 (m * 10 + d) (take n bs)) is ∙ rest.1)

abbrev values : List ℕ → List ℕ
values bs = zip2 (λ a b. (a + (256 - b)) % 256) (take 16 bs) (replicate 16 48)

each_byte : (bs : List ℕ) → ((i : ℕ) → Fits w8 (get_or bs i 0)) → Each1 (λ x. x < 256) bs
each_byte [] h = tt
each_byte (b ∷ bs) h = (omega (arith, h 0), each_byte bs (λ i. h (suc i)))

-- digits in front of which stands no zero are the decimal of the number that their values write
-- a line's end behind a digit above 0 isn't the first byte
pub some_digit : (bs : List ℕ) (n : ℕ) → get_or bs n 0 ≡ 10 → 48 < get_or bs 0 0 → 0 < n
some_digit bs zero e h = absurd (omega (arith, e, h))
some_digit bs (suc n) e h = omega arith

pub front_spelled : (bs : List ℕ) (n r : ℕ) → length bs ≡ 16 → ((i : ℕ) → Fits w8 (get_or bs i 0)) → n < 16 → AllBelowBase 10 (take n (values bs))
    → r ≡ number_from_digits 10 (behind n (values bs)) → get_or bs 0 0 ≢ 48 → 0 < n → take n bs ≡ decimal r
front_spelled bs n r long fit few h is first some =
    let same : values bs ≡ map value_of_byte bs = ap (λ l. zip2 (λ a b. (a + (256 - b)) % 256) l (replicate 16 48)) (take_all 16 bs (omega arith)) ∙ zip2_splat (λ a b. (a + (256 - b)) % 256) bs 16 48 long in
    let read = spelled_from n 0 bs (each_byte bs fit) (rw same at h) in
    let number : r ≡ number_from_digits 10 (take n (map value_of_byte bs)) = is ∙ behind_number n (values bs) ∙ ap (λ v. number_from_digits 10 (take n v)) same in
    let digits : length (take n (map value_of_byte bs)) ≡ n = omega (arith, length-take n (map value_of_byte bs), length-map bs value_of_byte) in
    let below = number_lt 10 (take n (map value_of_byte bs)) (rw same at h) in
    front_is_decimal bs n r (omega arith) (omega arith) read.0 (read.1 ∙ sym number) (omega (arith, number, below, ap (λ k. 10 ^ k) digits)) first some
