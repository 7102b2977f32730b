-- The records of a part: one record more, and the whole.
use Rattle.detect_plain.proofs.Common.{◌≡◌, ℕ, ◌/◌, ◌%◌, true, List, [], ◌∷◌, ◌++◌, map, get_or, Option, Some, None, option_to_list, ⊎_elim, refl, sym, ap, ap₂, ◌∙◌, arith, append-nil, map-append, Record, Placed, Part, RaceAt, numbered, numbered_at, records_of, races_of_part}
use Rattle.std.proofs.lemmas.Bool.{cases_Bool, cond-true, cond-false, eq-eqb}
use Rattle.dag.specs.declared.records.Record.TheVariants.{Spawn, Call, Return, Sync, Read, Write}
use Rattle.dag.specs.Shares.{goes, goes_placed, share}
use Rattle.dag.proofs.ShareLemmas.{share-append}

-- one record more, of which the part has this
pub records_of-push : (part : Part) (u : List Placed) (p : Placed) (o : Option Placed) → option_to_list o ≡ records_of part (p ∷ []) → records_of part (u ++ p ∷ []) ≡ records_of part u ++ option_to_list o
records_of-push part u p o e =
    ap (map (numbered_at part.count)) (share-append part.index part.count u (p ∷ []))
    ∙ map-append (numbered_at part.count) (share part.index part.count u) (share part.index part.count (p ∷ []))
    ∙ ap (λ (l : List Placed). records_of part u ++ l) (sym e)

pub records_of-none : (part : Part) (u : List Placed) (p : Placed) (o : Option Placed) → o ≡ None → option_to_list o ≡ records_of part (p ∷ []) → records_of part (u ++ p ∷ []) ≡ records_of part u
records_of-none part u p o none e = records_of-push part u p o e ∙ ap (λ (x : Option Placed). records_of part u ++ option_to_list x) none ∙ append-nil (records_of part u)

pub records_of-some : (part : Part) (u : List Placed) (p q : Placed) (o : Option Placed) → o ≡ Some q → option_to_list o ≡ records_of part (p ∷ []) → records_of part (u ++ p ∷ []) ≡ records_of part u ++ q ∷ []
records_of-some part u p q o some e = records_of-push part u p o e ∙ ap (λ (x : Option Placed). records_of part u ++ option_to_list x) some

-- what the part has of a record has its place
pub own_place : (part : Part) (p q : Placed) (o : Option Placed) → o ≡ Some q → option_to_list o ≡ records_of part (p ∷ []) → q.place ≡ p.place
own_place part p q o some e =
    let is : q ∷ [] ≡ records_of part (p ∷ []) = sym (ap option_to_list some) ∙ e in
    ⊎_elim
    (λ t. ap (λ (l : List Placed). (get_or l 0 p).place) (is ∙ ap (map (numbered_at part.count)) (cond-true (goes_placed part.index part.count p) _ _ t)))
    (λ f. let none : q ∷ [] ≡ [] = is ∙ ap (map (numbered_at part.count)) (cond-false (goes_placed part.index part.count p) _ _ f) in absurd (cc))
    (cases_Bool (goes_placed part.index part.count p))

-- ---- the whole

rest_of_one : (n k l : ℕ) → n ≡ 1 → k ≡ 0 → l % n ≡ k
rest_of_one n k l one none = let e : l % 1 ≡ 0 = omega arith in ap (λ (m : ℕ). l % m) one ∙ e ∙ sym none

number_of_one : (n l : ℕ) → n ≡ 1 → l / n ≡ l
number_of_one n l one = let e : l / 1 ≡ l = omega arith in ap (λ (m : ℕ). l / m) one ∙ e

all_go : (n k : ℕ) (r : Record) → n ≡ 1 → k ≡ 0 → goes k n r ≡ true
all_go n k Spawn one none = refl
all_go n k Call one none = refl
all_go n k Return one none = refl
all_go n k Sync one none = refl
all_go n k (Read l) one none = eq-eqb (l % n) k (rest_of_one n k l one none)
all_go n k (Write l) one none = eq-eqb (l % n) k (rest_of_one n k l one none)

same_number : (n : ℕ) (r : Record) → n ≡ 1 → numbered n r ≡ r
same_number n Spawn one = refl
same_number n Call one = refl
same_number n Return one = refl
same_number n Sync one = refl
same_number n (Read l) one = ap Read (number_of_one n l one)
same_number n (Write l) one = ap Write (number_of_one n l one)

whole_from : (n k : ℕ) (u : List Placed) → n ≡ 1 → k ≡ 0 → map (numbered_at n) (share k n u) ≡ u
whole_from n k [] one none = refl
whole_from n k (p ∷ u) one none =
    ap (map (numbered_at n)) (cond-true (goes k n p.what) (p ∷ share k n u) (share k n u) (all_go n k p.what one none))
    ∙ ap₂ (λ (r : Record) (l : List Placed). record { place = p.place; what = r } ∷ l) (same_number n p.what one) (whole_from n k u one none)

index_of_whole : (part : Part) → part.count ≡ 1 → part.index ≡ 0
index_of_whole part one = omega (arith, part.within, one)

pub records_of-whole : (part : Part) (u : List Placed) → part.count ≡ 1 → records_of part u ≡ u
records_of-whole part u one = whole_from part.count part.index u one (index_of_whole part one)

pub races_of-whole : (part : Part) (rs : List RaceAt) → part.count ≡ 1 → races_of_part part rs ≡ rs
races_of-whole part [] one = refl
races_of-whole part (r ∷ rs) one =
    cond-true _ _ _ (eq-eqb (r.location % part.count) part.index (rest_of_one part.count part.index r.location one (index_of_whole part one)))
    ∙ ap (λ (l : List RaceAt). r ∷ l) (races_of-whole part rs one)
