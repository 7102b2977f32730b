-- Decimals as the digits of a number, read from the left.
use Rattle.trace.proofs.Common.{◌≡◌, ◌≢◌, ℕ, ◌+◌, ◌-◌, ◌*◌, ◌<◌, ◌≤◌, ◌^◌, List, [], ◌∷◌, length, take, get_or, arith, sym, ◌∙◌, ap, subst, decimal, Option, Some, None, IfSome, IfNone, pow-le-pow_right, get_or-take, IsInRange, digit_value, AllDigits, digits_value, digit_value_digit, IsNumeralModel, numerals_by_value, tells_digits, digits_value-take-le, digits_value_more, digits_more, digits_decimal, digits_value-decimal, decimal-digits_value, decimal_nonempty, first_decimal, decimal_digit, length-take}
use native.Mathlib.Decide.{dec_le}

pub decimal_numerals : IsNumeralModel (AllDigits 10) (digits_value 10)
decimal_numerals = numerals_by_value _ tells_digits

module _ (ds : List ℕ) (n : ℕ) (small : n < 2 ^ 64) (e : ds ≡ decimal n) where
  pub decimal_has_digits : 0 < length ds
  decimal_has_digits = let P : List ℕ → Type 0 = λ x. 0 < length x in subst P (sym e) (decimal_nonempty n small)

  pub decimal_all_digits : AllDigits 10 ds
  decimal_all_digits = subst (AllDigits 10) (sym e) (digits_decimal decimal_numerals n small)

  pub decimal_value : digits_value 10 ds ≡ n
  decimal_value = ap (digits_value 10) e ∙ digits_value-decimal decimal_numerals n small

-- after one more digit
pub one_more_digit : (ds : List ℕ) (i value : ℕ) → i < length ds → AllDigits 10 (take i ds) → digits_value 10 (take i ds) ≡ value → IsInRange 48 57 (get_or ds i 0)
    → AllDigits 10 (take (i + 1) ds) × (digits_value 10 (take (i + 1) ds) ≡ value * 10 + (get_or ds i 0 - 48))
one_more_digit ds i value h all is range =
    let d : digit_value (get_or ds i 0) + 48 ≡ get_or ds i 0 = digit_value_digit _ range in
    let low : digit_value (get_or ds i 0) < 10 = omega (arith, range.0, range.1, d) in
    (digits_more 10 ds i h all low, omega (arith, digits_value_more 10 ds i h, is, d))

-- all digits have at least the value of those in front
pub value_at_least : (ds : List ℕ) (i value : ℕ) → digits_value 10 (take i ds) ≡ value → value ≤ digits_value 10 ds
value_at_least ds i value is = omega (arith, is, digits_value-take-le 10 ds i (omega arith))

-- A first digit 0 stands alone: decimals with more digits begin with another.
pub first_of_decimal : (ds : List ℕ) (n : ℕ) → n < 2 ^ 64 → ds ≡ decimal n → get_or ds 0 0 ≡ 48 → length ds ≡ 1
first_of_decimal ds n small e zero_first = go (dec_le 1 n)
  where
    go : Dec (1 ≤ n) → length ds ≡ 1
    go (yes p) = let first : 48 < get_or ds 0 0 = let P : List ℕ → Type 0 = λ x. 48 < get_or x 0 0 in subst P (sym e) (first_decimal n p small) in absurd (omega arith)
    go (no p) = let z : n ≡ 0 = omega arith in ap length (e ∙ ap decimal z ∙ decimal_digit 0 (omega arith))

pub decimal_zero : (ds : List ℕ) → length ds ≡ 1 → get_or ds 0 0 ≡ 48 → ds ≡ decimal 0
decimal_zero ds one first = one_of ds 48 one first ∙ sym (decimal_digit 0 (omega arith))
  where
    one_of : (xs : List ℕ) (x : ℕ) → length xs ≡ 1 → get_or xs 0 0 ≡ x → xs ≡ x ∷ []
    one_of [] x h e' = absurd (omega arith)
    one_of (y ∷ []) x h e' = ap (λ z. z ∷ []) e'
    one_of (y ∷ z ∷ ys) x h e' = absurd (omega arith)

pub decimal_from_value : (ds : List ℕ) (n : ℕ) → n < 2 ^ 64 → AllDigits 10 ds → digits_value 10 ds ≡ n → 0 < length ds → get_or ds 0 0 ≢ 48 → ds ≡ decimal n
decimal_from_value ds n small all is some first =
    let below : digits_value 10 ds < 2 ^ 64 = omega arith in
    sym (ap decimal (sym is) ∙ decimal-digits_value decimal_numerals ds all some (λ z. absurd (first z)) below)

-- what a reading of digits in front of which stands no zero gives, whether they have a value or none
pub found_value : (ds : List ℕ) (r : Option ℕ) → IfSome r (λ _. AllDigits 10 ds) → IfSome r (λ n. digits_value 10 ds ≡ n) → IfSome r (λ n. n < 2 ^ 64) → 0 < length ds → get_or ds 0 0 ≢ 48
    → IfSome r (λ n. ds ≡ decimal n)
found_value ds None all is small some first = tt
found_value ds (Some n) all is small some first = decimal_from_value ds n small all is some first

pub no_value : (ds : List ℕ) (r : Option ℕ) → IfNone r (AllDigits 10 ds → 2 ^ 64 ≤ digits_value 10 ds) → IfNone r ((n : ℕ) → n < 2 ^ 64 → ds ≢ decimal n)
no_value ds (Some v) none = tt
no_value ds None none = λ n small e. let k : digits_value 10 ds ≡ n = decimal_value ds n small e in absurd (omega (arith, none (decimal_all_digits ds n small e)))

pub below_power : (n i j : ℕ) → n < 10 ^ i → i ≤ j → n < 10 ^ j
below_power n i j small h = let p : 10 ^ i ≤ 10 ^ j = pow-le-pow_right (omega arith) h in omega arith

-- digits in front of which stands no zero, at most 19 of them, are a decimal
pub front_is_decimal : (bs : List ℕ) (i n : ℕ) → i ≤ 19 → i ≤ length bs → AllDigits 10 (take i bs) → digits_value 10 (take i bs) ≡ n → n < 10 ^ i → get_or bs 0 0 ≢ 48 → 0 < i → take i bs ≡ decimal n
front_is_decimal bs i n few within all is small first some =
    let small' : n < 2 ^ 64 = omega (arith, below_power n i 19 small few) in
    let len : 0 < length (take i bs) = omega (arith, length-take i bs) in
    decimal_from_value (take i bs) n small' all is len (λ z. first (sym (get_or-take i bs 0 0 some) ∙ z))
