-- Units that are taken out of all groups, from the last one to the first.
use Rattle.blocks.proofs.Common.{◌≡◌, ℕ, zero, suc, ◌+◌, ◌-◌, ◌<◌, ◌≤◌, Bool, true, false, not, ◌&&◌, List, [], ◌∷◌, ◌++◌, take, drop, set, length, get_or, Option, Some, None, cond, refl, sym, ap, ◌∙◌, arith, length-set, option_or, get_or-take, has, names_at, no_group, Names, Group}
use Rattle.blocks.proofs.Bits.{has_zero}
use Rattle.blocks.proofs.Looks.{with_one_before}
use Rattle.blocks.proofs.Puts.{or_none, drop_set, behind_all}

-- from this index on the groups have none of the units, and before it they are as they were
pub record HasForgotten (units : ℕ) (old : List Group) (n : ℕ) (gs : List Group) : Type 0 where
  pub within : n ≤ length gs
  pub first : take n gs ≡ take n old
  pub before : n ≤ length old
  pub kept : (i : ℕ) → i < 64 → names_at (drop n gs) i ≡ cond (has units i) None (names_at (drop n old) i)

abbrev none : Option Names
none = None

-- the group at an index is as it was
pub same_group : (units : ℕ) (old : List Group) (n : ℕ) (gs : List Group) → 0 < n → HasForgotten units old n gs → get_or gs (n - 1) no_group ≡ get_or old (n - 1) no_group
same_group units old n gs h l = sym (get_or-take n gs (n - 1) no_group (omega (arith, h))) ∙ ap (λ x. get_or x (n - 1) no_group) l.first ∙ get_or-take n old (n - 1) no_group (omega (arith, h))

left_cases : (u g l : Bool) (n : Names) (o p : Option Names) → l ≡ (g && not u) → p ≡ cond u None o → option_or p (cond l (Some n) None) ≡ cond u None (option_or o (cond g (Some n) None))
left_cases true g true n o p e f = absurd (no g e)
  where
    no : (g : Bool) → true ≡ (g && false) → ⊥
    no true e = cc
    no false e = cc
left_cases true g false n o None e f = refl
left_cases true g false n o (Some x) e f = absurd (cc)
left_cases false true true n o p e f = ap (λ q. option_or q (Some n)) f
left_cases false false false n o p e f = ap (λ q. option_or q None) f
left_cases false true false n o p e f = absurd (cc)
left_cases false false true n o p e f = absurd (cc)

-- the groups from the one before, where it lost the units
left_kept : (units left : ℕ) (old : List Group) (n : ℕ) (gs : List Group) → 0 < n → HasForgotten units old n gs → ((i : ℕ) → i < 64 → has left i ≡ (has (get_or old (n - 1) no_group).units i && not (has units i)))
    → (i : ℕ) → i < 64 → option_or (names_at (drop n gs) i) (cond (has left i) (Some (get_or old (n - 1) no_group).names) None) ≡ cond (has units i) None (names_at (drop (n - 1) old) i)
left_kept units left old n gs h l e i k =
    left_cases (has units i) (has (get_or old (n - 1) no_group).units i) (has left i) (get_or old (n - 1) no_group).names (names_at (drop n old) i) (names_at (drop n gs) i) (e i k) (l.kept i k)
    ∙ ap (λ x. cond (has units i) None (names_at x i)) (sym (with_one_before old n h l.before))

take_less : (n : ℕ) (gs : List Group) → take n (take (suc n) gs) ≡ take n gs
take_less zero gs = refl
take_less (suc n) [] = refl
take_less (suc n) (g ∷ gs) = ap (λ l. g ∷ l) (take_less n gs)

less : (n m : ℕ) (gs hs : List Group) → suc m ≡ n → take n gs ≡ take n hs → take m gs ≡ take m hs
less n m gs hs is e = sym (take_less m gs) ∙ ap (λ k. take m (take k gs)) is ∙ ap (take m) e ∙ ap (λ k. take m (take k hs)) (sym is) ∙ take_less m hs

first_set : (gs : List Group) (n : ℕ) (g : Group) → take n (set gs n g) ≡ take n gs
first_set gs zero g = refl
first_set [] (suc n) g = refl
first_set (x ∷ gs) (suc n) g = ap (λ l. x ∷ l) (first_set gs n g)

first_of_all : (gs hs : List Group) (n : ℕ) → n ≤ length gs → take n (take n gs ++ hs) ≡ take n gs
first_of_all gs hs zero h = refl
first_of_all [] hs (suc n) h = absurd (omega (arith, h))
first_of_all (g ∷ gs) hs (suc n) h = ap (λ l. g ∷ l) (first_of_all gs hs n (omega (arith, h)))

after_take : (gs hs : List Group) (n : ℕ) → n ≤ length gs → n ≤ length (take n gs ++ hs)
after_take gs hs zero h = omega arith
after_take [] hs (suc n) h = absurd (omega (arith, h))
after_take (g ∷ gs) hs (suc n) h = omega (arith, after_take gs hs n (omega (arith, h)))

module _ (units left : ℕ) (old : List Group) (n : ℕ) (gs : List Group) (some : 0 < n) (l : HasForgotten units old n gs)
    (e : (i : ℕ) → i < 64 → has left i ≡ (has (get_or old (n - 1) no_group).units i && not (has units i))) where
  abbrev g : Group
  g = get_or old (n - 1) no_group

  next : suc (n - 1) ≡ n
  next = omega (arith, some)

  inside : n - 1 < length gs
  inside = omega (arith, some, l.within)

  pub forget_left : HasForgotten units old (n - 1) (set gs (n - 1) (record { units = left; names = g.names }))
  forget_left =
      let x : Group = record { units = left; names = g.names } in
      record {
        within = omega (arith, inside, length-set gs (n - 1) x);
        first = first_set gs (n - 1) x ∙ less n (n - 1) gs old next l.first;
        before = omega (arith, l.before);
        kept = λ i k. ap (λ m. names_at m i) (drop_set gs (n - 1) x inside ∙ ap (λ m. x ∷ drop m gs) next) ∙ left_kept units left old n gs some l e i k;
      }

  pub forget_gone : left ≡ 0 → HasForgotten units old (n - 1) (take (n - 1) gs ++ drop (n - 1 + 1) gs)
  forget_gone z =
      let rest = drop (n - 1 + 1) gs in
      let is : rest ≡ drop n gs = ap (λ m. drop m gs) (omega (arith, some)) in
      record {
        within = after_take gs rest (n - 1) (omega (arith, inside));
        first = first_of_all gs rest (n - 1) (omega (arith, inside)) ∙ less n (n - 1) gs old next l.first;
        before = omega (arith, l.before);
        kept = λ i k. ap (λ m. names_at m i) (behind_all gs rest (n - 1) (omega (arith, inside)) ∙ is)
            ∙ or_none (names_at (drop n gs) i) ∙ sym (ap (λ b. option_or (names_at (drop n gs) i) (cond b (Some g.names) None)) (ap (λ m. has m i) z ∙ has_zero i))
            ∙ left_kept units left old n gs some l e i k;
      }
