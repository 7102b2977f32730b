-- A search by steps that are powers of two: what it knows after so many probes, and how many it makes.
use Rattle.bags.proofs.Common.{◌≡◌, ◌∙◌, ℕ, zero, suc, ◌+◌, ◌-◌, ◌*◌, ◌/◌, ◌^◌, ◌<◌, ◌≤◌, List, drop, get_or, length, refl, ap, sym, subst, arith, pow-zero, two-pow-succ, lt_of_not-le, drop-drop, get_or-drop, length-drop, Stretch, first_at, IsAscending, IsKeeper, Start, IsStart, digits}
use Rattle.std.proofs.lemmas.Nat.{pow_pos}
use Rattle.std.proofs.lemmas.Int.Digits.{length-digits_of_step, length-digits_of-le}
use Rattle.bags.proofs.Segments.{first_at-drop}

-- a number from 2 ^ j on has more than j digits
pub digits_from : (j n : ℕ) → 2 ^ j ≤ n → j + 1 ≤ digits n
digits_from zero n h = omega (arith, pow-zero 2, length-digits_of_step 2 n (omega arith) (omega (arith, pow-zero 2)))
digits_from (suc j) n h =
    let half : 2 ^ j ≤ n / 2 = omega (arith, two-pow-succ j) in
    let more : j + 1 ≤ digits (n / 2) = digits_from j (n / 2) half in
    omega (arith, length-digits_of_step 2 n (omega arith) (omega (arith, pow_pos j)))

pub digits_most : (n : ℕ) → n < 2 ^ 64 → digits n ≤ 64
digits_most n h = length-digits_of-le 2 64 n (omega arith) h

pub below_digits : (n : ℕ) → n < 2 ^ digits n
below_digits n = lt_of_not-le (λ h. omega (arith, digits_from (digits n) n h))

-- the greatest power of two that is not above a number
pub digits_are : (n j : ℕ) → 2 ^ j ≤ n → n < 2 ^ suc j → digits n ≡ suc j
digits_are n j low high = omega (arith, digits_from j n low, length-digits_of-le 2 (suc j) n (omega arith) high)

-- the first numbers of a part
first_at_part : (stretches part : List Stretch) (keeper step : ℕ) → part ≡ drop keeper stretches → first_at part step ≡ first_at stretches (keeper + step)
first_at_part stretches part keeper step is = ap (λ (xs : List Stretch). first_at xs step) is ∙ first_at-drop keeper step stretches

-- the part of the stretches from a candidate on, among whose first ones the keeper is: so many that half of them are the
-- next step; and the probes so far
pub record Stepped (stretches part : List Stretch) (step probes procedure : ℕ) : Type 0 where
  pub keeper : ℕ
  pub halvings : ℕ
  pub is : part ≡ drop keeper stretches
  pub long : step ≡ 2 ^ halvings / 2
  pub within : keeper + 2 ^ halvings ≤ length stretches
  pub not_above : first_at stretches keeper ≤ procedure
  pub next_above : keeper + 2 ^ halvings < length stretches → procedure < first_at stretches (keeper + 2 ^ halvings)
  pub counted : probes + halvings ≤ digits (length stretches)
  pub inside : step < length part

-- half of so many steps stay inside
inside_of : (stretches part : List Stretch) (keeper halvings step : ℕ) → part ≡ drop keeper stretches → keeper + 2 ^ halvings ≤ length stretches → step ≡ 2 ^ halvings / 2 → step < length part
inside_of stretches part keeper halvings step is within long =
    let len : length part ≡ length stretches - keeper = ap length is ∙ length-drop keeper stretches in
    omega (arith, pow_pos halvings)

-- the greatest power of two that is not above a length
pub record IsLongest (step len : ℕ) : Type 0 where
  pub halvings : ℕ
  pub is : step ≡ 2 ^ halvings
  pub one_more : digits len ≡ halvings + 1
  pub within : step ≤ len
  pub more_than_half : len < step + step

pub longest : (step len : ℕ) → 0 < len → 2 * step ≡ 2 ^ digits len → IsLongest step len
longest step len some twice = by_digits (digits len) refl
  where
    by_digits : (n : ℕ) → digits len ≡ n → IsLongest step len
    by_digits zero e = absurd (omega (arith, digits_from 0 len (omega (arith, pow-zero 2))))
    by_digits (suc j) e =
        let power : 2 ^ digits len ≡ 2 ^ suc j = ap (λ (n : ℕ). 2 ^ n) e in
        let is : step ≡ 2 ^ j = omega (arith, two-pow-succ j) in
        let below : len < 2 ^ digits len = below_digits len in record {
          halvings = j;
          is = is;
          one_more = omega arith;
          within = not_above j is e;
          more_than_half = omega arith;
        }
      where
        not_above : (j : ℕ) → step ≡ 2 ^ j → digits len ≡ suc j → step ≤ len
        not_above j is e =
            let more : step < len + 1 = lt_of_not-le (λ below. omega (arith, length-digits_of-le 2 j len (omega arith) (omega arith))) in
            omega arith

-- the first part by one probe: the newer stretches, as many as the longest step, or the older ones
pub at_newer : (stretches part : List Stretch) (step procedure : ℕ) → 0 < length stretches → 2 * step ≡ 2 ^ digits (length stretches)
    → part ≡ drop (length stretches - step) stretches → first_at stretches (length stretches - step) ≤ procedure → Stepped stretches part (step / 2) 1 procedure
at_newer stretches part step procedure some twice is found =
    let l = longest step (length stretches) some twice in record {
      keeper = length stretches - step;
      halvings = l.halvings;
      is = is;
      long = omega (arith, l.is);
      within = omega (arith, l.is, l.within);
      not_above = found;
      next_above = λ m. absurd (omega (arith, l.is, l.within));
      counted = omega (arith, l.one_more);
      inside = inside_of stretches part (length stretches - step) l.halvings (step / 2) is (omega (arith, l.is, l.within)) (omega (arith, l.is));
    }

pub at_older : (stretches : List Stretch) (step procedure : ℕ) → 0 < length stretches → 2 * step ≡ 2 ^ digits (length stretches)
    → first_at stretches 0 ≤ procedure → procedure < first_at stretches (length stretches - step) → IsAscending stretches → Stepped stretches stretches (step / 2) 1 procedure
at_older stretches step procedure some twice root above up =
    let l = longest step (length stretches) some twice in record {
      keeper = 0;
      halvings = l.halvings;
      is = refl;
      long = omega (arith, l.is);
      within = omega (arith, l.is, l.within);
      not_above = root;
      next_above = λ m. omega (arith, up (length stretches - step) (0 + 2 ^ l.halvings) (omega (arith, l.is, l.more_than_half)) m);
      counted = omega (arith, l.one_more);
      inside = inside_of stretches stretches 0 l.halvings (step / 2) refl (omega (arith, l.is, l.within)) (omega (arith, l.is));
    }

-- where it isn't the second stretch that is compared first, and a procedure lies before it, there are more
pub more_than_one : (stretches : List Stretch) (start : Start) (procedure : ℕ) → start.middle < length stretches → (start.middle ≡ 1 → ⊥) → first_at stretches 0 ≤ procedure
    → procedure < first_at stretches start.middle → 1 < length stretches
more_than_one stretches start procedure within not_one root above = by_middle start.middle within not_one above
  where
    by_middle : (m : ℕ) → m < length stretches → (m ≡ 1 → ⊥) → procedure < first_at stretches m → 1 < length stretches
    by_middle zero low other below = absurd (omega arith)
    by_middle (suc m) low other below = omega (arith, other)

-- or the part of the stretches from the second one on, by two probes
pub at_second : (stretches part : List Stretch) (start : Start) (half procedure : ℕ) → IsStart (length stretches) start → half ≡ start.longest / 2 → start.middle ≤ half + 1 → (start.middle ≡ 1 → ⊥)
    → part ≡ drop 1 stretches → first_at stretches 0 ≤ procedure → first_at stretches 1 ≤ procedure → procedure < first_at stretches start.middle → IsAscending stretches → Stepped stretches part (half / 2) 2 procedure
at_second stretches part start half procedure starts is few not_one part_is root found above up =
    let l = longest start.longest (length stretches) (omega (arith, starts.within)) starts.long in
    by_halvings l.halvings l.is l.one_more l.within l.more_than_half
  where
    not_oldest : start.middle ≡ 0 → ⊥
    not_oldest e = let below : procedure < first_at stretches 0 = subst (λ (n : ℕ). procedure < first_at stretches n) e above in absurd (omega arith)

    by_halvings : (j : ℕ) → start.longest ≡ 2 ^ j → digits (length stretches) ≡ j + 1 → start.longest ≤ length stretches → length stretches < start.longest + start.longest → Stepped stretches part (half / 2) 2 procedure
    by_halvings zero one more within fewer = absurd (not_oldest (omega (arith, pow-zero 2, starts.exact not_one)))
    by_halvings (suc j) power more within fewer =
        let half_is : half ≡ 2 ^ j = omega (arith, two-pow-succ j) in record {
          keeper = 1;
          halvings = j;
          is = part_is;
          long = omega arith;
          within = omega (arith, two-pow-succ j, pow_pos j);
          not_above = found;
          next_above = λ m. omega (arith, up start.middle (1 + 2 ^ j) (omega arith) m);
          counted = omega arith;
          inside = inside_of stretches part 1 j (half / 2) part_is (omega (arith, two-pow-succ j, pow_pos j)) (omega arith);
        }

-- where a search begins

-- a power of two that is not above a number, and more than half of it
pub long_of : (len step j : ℕ) → step ≡ 2 ^ j → step ≤ len → len < step + step → 2 * step ≡ 2 ^ digits len
long_of len step j is within more =
    let many : digits len ≡ suc j = digits_are len j (omega arith) (omega (arith, two-pow-succ j)) in
    let twice : 2 * step ≡ 2 ^ suc j = omega (arith, two-pow-succ j) in
    twice ∙ ap (λ (n : ℕ). 2 ^ n) (sym many)

pub from_middle : (len step : ℕ) → 1 ≤ len → 2 * step ≡ 2 ^ digits len → (len ≡ step → ⊥) → IsStart len (record { longest = step; middle = len - step })
from_middle len step some long apart =
    let l = longest step len some long in
    record { long = long; within = omega (arith, l.within, l.is, pow_pos l.halvings); newer = omega arith; exact = λ _. omega (arith, l.within) }

pub from_second : (len step : ℕ) → 1 < len → 2 * step ≡ 2 ^ digits len → len ≡ step → IsStart len (record { longest = step; middle = 1 })
from_second len step some long same = record { long = long; within = omega arith; newer = omega arith; exact = λ other. absurd (other refl) }

-- a step that is left
record IsStep (step halvings : ℕ) : Type 0 where
  pub fewer : ℕ
  pub one_fewer : halvings ≡ fewer + 1
  pub is : 2 ^ fewer ≡ step
  pub twice : 2 ^ halvings ≡ step + step

step_of : (step halvings : ℕ) → step ≡ 2 ^ halvings / 2 → 0 < step → IsStep step halvings
step_of step zero long some = absurd (omega (arith, pow-zero 2))
step_of step (suc j) long some = record {
  fewer = j;
  one_fewer = omega arith;
  is = omega (arith, two-pow-succ j);
  twice = omega (arith, two-pow-succ j);
}

-- a step to a stretch that begins by the procedure
pub after_yes : (stretches part next : List Stretch) (step probes procedure : ℕ) → Stepped stretches part step probes procedure → 0 < step → next ≡ drop step part
    → first_at part step ≤ procedure → Stepped stretches next (step / 2) (probes + 1) procedure
after_yes stretches part next step probes procedure h some is found =
    let s = step_of step h.halvings h.long some in
    let end : h.keeper + 2 ^ h.halvings ≡ h.keeper + step + 2 ^ s.fewer = omega (arith, s.is, s.twice) in
    let part_is : next ≡ drop (h.keeper + step) stretches = is ∙ ap (λ (xs : List Stretch). drop step xs) h.is ∙ drop-drop step h.keeper stretches in record {
      keeper = h.keeper + step;
      halvings = s.fewer;
      is = part_is;
      long = omega (arith, s.is);
      within = omega (arith, h.within);
      not_above = omega (arith, first_at_part stretches part h.keeper step h.is);
      next_above = λ m. subst (λ (n : ℕ). procedure < first_at stretches n) end (h.next_above (omega arith));
      counted = omega (arith, h.counted, s.one_fewer);
      inside = inside_of stretches next (h.keeper + step) s.fewer (step / 2) part_is (omega (arith, h.within)) (omega (arith, s.is));
    }

-- a stretch at the step that begins above the procedure
pub after_no : (stretches part : List Stretch) (step probes procedure : ℕ) → Stepped stretches part step probes procedure → 0 < step
    → procedure < first_at part step → Stepped stretches part (step / 2) (probes + 1) procedure
after_no stretches part step probes procedure h some above =
    let s = step_of step h.halvings h.long some in
    let end : h.keeper + step ≡ h.keeper + 2 ^ s.fewer = omega (arith, s.is) in record {
      keeper = h.keeper;
      halvings = s.fewer;
      is = h.is;
      long = omega (arith, s.is);
      within = omega (arith, h.within, s.is, s.twice);
      not_above = h.not_above;
      next_above = λ m. subst (λ (n : ℕ). procedure < first_at stretches n) end (omega (arith, first_at_part stretches part h.keeper step h.is));
      counted = omega (arith, h.counted, s.one_fewer);
      inside = omega (arith, h.inside);
    }

-- without a step the part begins with the keeper
pub found : (stretches part : List Stretch) (step probes procedure : ℕ) (keeper : Stretch) → Stepped stretches part step probes procedure → step ≡ 0 → keeper ≡ get_or part 0 keeper
    → IsKeeper stretches procedure keeper
found stretches part step probes procedure keeper h none is =
    let one : 2 ^ h.halvings ≡ 1 = omega (arith, h.long, pow_pos h.halvings) in
    let index : h.keeper + 0 ≡ h.keeper = omega arith in
    let end : h.keeper + 2 ^ h.halvings ≡ h.keeper + 1 = omega arith in record {
      index = h.keeper;
      within = omega (arith, h.within);
      is = is ∙ ap (λ (xs : List Stretch). get_or xs 0 keeper) h.is ∙ get_or-drop h.keeper stretches 0 keeper ∙ ap (λ (n : ℕ). get_or stretches n keeper) index;
      not_above = h.not_above;
      next_above = λ m. subst (λ (n : ℕ). procedure < first_at stretches n) end (h.next_above (omega arith));
    }
