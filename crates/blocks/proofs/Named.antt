-- What the names of units say of each of them.
use Rattle.blocks.proofs.Common.{◌≡◌, ◌≢◌, ℕ, zero, suc, ◌+◌, ◌^◌, ◌<◌, ◌≤◌, Bool, true, false, not, ◌||◌, ◌&&◌, is_some, unwrap_or, ◌⊎◌, ⊎_elim, Option, Some, None, List, cond, refl, sym, ap, ◌∙◌, subst, arith, option_or, ForSome, count_ones, Kind, Read, Write, Access, Active, in_p, current, Name, Cell, parallel_access, rival, stands_in_p, name_of, touched, race_with, IsNameBefore, IsCellBefore, has, units_before, name_from, name_in, is_in_p_from, is_step_in_p, touched_names, names_after, no_steps, named_cell, names_at, names_of, names_of_touched, is_racy, AreKnown, touched_at, Step, Names, Group, cell_later}
use Rattle.blocks.proofs.Counts.{one_of_all}

known_from : (procedure p b place count : ℕ) → ForSome (name_from procedure p b) (IsNameBefore place count) → p ≢ 0 → procedure < count
known_from procedure zero b place count f h = absurd (h refl)
known_from procedure (suc k) b place count f h = (f _ refl).known

-- the procedures of names that units keep are among those of the bags
pub known_names : (gs : List Group) (unit place count : ℕ) (b : Bool) → IsCellBefore place count (named_cell (names_of gs unit) unit b) → ForSome (names_at gs unit) (AreKnown count)
known_names gs unit place count b h n e =
    let c : IsCellBefore place count (named_cell n unit b) = subst (λ o. IsCellBefore place count (named_cell (unwrap_or o no_steps) unit b)) e h in
    record {
      writer = known_from n.writer.procedure n.writer.place (units_before n.writer.units unit) place count c.writer;
      reader = known_from n.reader.procedure n.reader.place (units_before n.reader.units unit) place count c.reader;
    }

name_later : (p q c d : ℕ) (o : Option Name) → p ≤ q → c ≤ d → ForSome o (IsNameBefore p c) → ForSome o (IsNameBefore q d)
name_later p q c d o h l f n e = let x = f n e in record { from_one = x.from_one; earlier = omega (arith, h, x.earlier); known = omega (arith, l, x.known) }

pub named_later : (p q count : ℕ) (n : Names) (unit : ℕ) (a b : Bool) → p ≤ q → IsCellBefore p count (named_cell n unit a) → IsCellBefore q count (named_cell n unit b)
named_later p q count n unit a b h c = record { writer = name_later p q count count (name_in n.writer unit) h (omega arith) c.writer; reader = name_later p q count count (name_in n.reader unit) h (omega arith) c.reader }

parallel_from : (fs : List Active) (k : Kind) (procedure p b : ℕ) → is_in_p_from fs procedure p ≡ is_some (parallel_access fs k (name_from procedure p b))
parallel_from fs k procedure zero b = refl
parallel_from fs k procedure (suc p) b = go (in_p fs procedure)
  where
    go : (t : Bool) → t ≡ is_some {T = Access} (cond t (Some (record { kind = k; place = suc p + b })) None)
    go true = refl
    go false = refl

or_some : (a b : Bool) (o p : Option Access) → a ≡ is_some o → b ≡ is_some p → (a || b) ≡ is_some (option_or o p)
or_some true b (Some x) p e f = refl
or_some false b None p e f = f
or_some true b None p e f = absurd (cc)
or_some false b (Some x) p e f = absurd (cc)

-- whether there is a rival of an access to a unit
pub racy_is_rival : (fs : List Active) (kind : Kind) (o : Option Names) (unit : ℕ) (b : Bool) → is_racy fs kind o ≡ is_some (rival fs kind (named_cell (unwrap_or o no_steps) unit b))
racy_is_rival fs Read None unit b = refl
racy_is_rival fs Write None unit b = refl
racy_is_rival fs Read (Some n) unit b = parallel_from fs Write n.writer.procedure n.writer.place (units_before n.writer.units unit)
racy_is_rival fs Write (Some n) unit b = or_some _ _ _ _ (parallel_from fs Write n.writer.procedure n.writer.place (units_before n.writer.units unit)) (parallel_from fs Read n.reader.procedure n.reader.place (units_before n.reader.units unit))

pub rival_of_any : (fs : List Active) (kind : Kind) (n : Names) (unit : ℕ) (a b : Bool) → rival fs kind (named_cell n unit a) ≡ rival fs kind (named_cell n unit b)
rival_of_any fs Read n unit a b = refl
rival_of_any fs Write n unit a b = refl

-- no race is reported at a unit that isn't among those to be reported
pub calm_race : (l : ℕ) (k : Kind) (p : ℕ) (u r b : Bool) (o : Option Access) → (u && (r && not b)) ≡ false → r ≡ is_some o → cond u (race_with l k p b o) None ≡ None
calm_race l k p false r b o e f = refl
calm_race l k p true r b None e f = refl
calm_race l k p true r true (Some x) e f = refl
calm_race l k p true true false (Some x) e f = absurd (cc)
calm_race l k p true false false (Some x) e f = absurd (cc)

pub new_race : (l : ℕ) (k : Kind) (p : ℕ) (u r b : Bool) (o : Option Access) → (u && (r && not b)) ≡ true → cond u (race_with l k p b o) None ≡ race_with l k p false o
new_race l k p false r b o e = absurd (cc)
new_race l k p true false b o e = absurd (cc)
new_race l k p true true true o e = absurd (cc)
new_race l k p true true false o e = refl

stands_from : (fs : List Active) (procedure p b : ℕ) → stands_in_p fs (name_from procedure p b) ≡ is_in_p_from fs procedure p
stands_from fs procedure zero b = refl
stands_from fs procedure (suc p) b = refl

name_new : (fs : List Active) (procedure p b : ℕ) → procedure ≡ current fs → 1 ≤ p → name_from procedure p b ≡ name_of fs (p + b)
name_new fs procedure zero b e h = absurd (omega (arith, h))
name_new fs procedure (suc p) b e h = ap (λ q. Some (record { procedure = q; place = suc p + b })) e

abbrev cell3 : Option Name → Option Name → Bool → Cell
cell3 w r b = record { writer = w; reader = r; reported = b }

reads : (fs : List Active) (step : Step) (unit : ℕ) (n : Names) (p : Option Name) (c d : Bool) → name_in step unit ≡ p → c ≡ d → (t : Bool) → stands_in_p fs (name_in n.reader unit) ≡ t → named_cell (cond t n (touched_names Read step n)) unit c ≡ cell3 (name_in n.writer unit) (cond (stands_in_p fs (name_in n.reader unit)) (name_in n.reader unit) p) d
reads fs step unit n p c d e f true g = ap (cell3 (name_in n.writer unit) (name_in n.reader unit)) f ∙ ap (λ t. cell3 (name_in n.writer unit) (cond t (name_in n.reader unit) p) d) (sym g)
reads fs step unit n p c d e f false g = ap (cell3 (name_in n.writer unit) (name_in step unit)) f ∙ ap (λ x. cell3 (name_in n.writer unit) x d) e ∙ ap (λ t. cell3 (name_in n.writer unit) (cond t (name_in n.reader unit) p) d) (sym g)

after_step : (fs : List Active) (kind : Kind) (step : Step) (unit : ℕ) (n : Names) (b c : Bool) → step.procedure ≡ current fs → 1 ≤ step.place → c ≡ (b || is_some (rival fs kind (named_cell n unit b))) → named_cell (names_after fs kind step n) unit c ≡ touched fs kind (step.place + units_before step.units unit) (named_cell n unit b)
after_step fs Read step unit n b c e h f =
    reads fs step unit n _ c _ (name_new fs step.procedure step.place (units_before step.units unit) e h) f (is_step_in_p fs n.reader) (stands_from fs n.reader.procedure n.reader.place (units_before n.reader.units unit))
after_step fs Write step unit n b c e h f =
    ap (cell3 (name_in step unit) (name_in n.reader unit)) f ∙ ap (λ x. cell3 x (name_in n.reader unit) (b || is_some (rival fs Write (named_cell n unit b)))) (name_new fs step.procedure step.place (units_before step.units unit) e h)

reported_cases : (u r b x : Bool) → x ≡ (u && (r && not b)) → u ≡ true → (b || x) ≡ (b || r)
reported_cases true r true x e f = refl
reported_cases true true false x e f = e
reported_cases true false false x e f = e
reported_cases false r b x e f = absurd (cc)

unreported_cases : (u r b x : Bool) → x ≡ (u && (r && not b)) → u ≡ false → (b || x) ≡ b
unreported_cases false r true x e f = refl
unreported_cases false r false x e f = e
unreported_cases true r b x e f = absurd (cc)

-- what is kept of a unit after a step, where x says whether its race is reported at it
pub cell_after : (fs : List Active) (kind : Kind) (step : Step) (unit : ℕ) (o : Option Names) (b x : Bool) → step.procedure ≡ current fs → 1 ≤ step.place → x ≡ (has step.units unit && (is_racy fs kind o && not b))
    → named_cell (names_of_touched fs kind step unit (unwrap_or o no_steps)) unit (b || x) ≡ touched_at fs kind step.place step.units unit (named_cell (unwrap_or o no_steps) unit b)
cell_after fs kind step unit o b x e h f = go (has step.units unit) refl
  where
    go : (u : Bool) → has step.units unit ≡ u → named_cell (cond u (names_after fs kind step (unwrap_or o no_steps)) (unwrap_or o no_steps)) unit (b || x) ≡ cond u (touched fs kind (step.place + units_before step.units unit) (named_cell (unwrap_or o no_steps) unit b)) (named_cell (unwrap_or o no_steps) unit b)
    go true g = after_step fs kind step unit (unwrap_or o no_steps) b (b || x) e h (reported_cases (has step.units unit) (is_racy fs kind o) b x f g ∙ ap (λ r. b || r) (racy_is_rival fs kind o unit b))
    go false g = ap (named_cell (unwrap_or o no_steps) unit) (unreported_cases (has step.units unit) (is_racy fs kind o) b x f g)

new_name : (fs : List Active) (p q count : ℕ) → current fs < count → 1 ≤ p → p < q → ForSome (name_of fs p) (IsNameBefore q count)
new_name fs p q count k h l n e = subst (IsNameBefore q count) (some_is _ n e) (record { from_one = h; earlier = l; known = k })
  where
    some_is : (a b : Name) → Some a ≡ Some b → a ≡ b
    some_is a b e = ap (λ o. unwrap_or o a) e

reader_before : (fs : List Active) (p q count : ℕ) (o : Option Name) → current fs < count → 1 ≤ p → p < q → ForSome o (IsNameBefore q count) → (t : Bool) → ForSome (cond t o (name_of fs p)) (IsNameBefore q count)
reader_before fs p q count o k h l f true = f
reader_before fs p q count o k h l f false = new_name fs p q count k h l

touched_before : (fs : List Active) (kind : Kind) (p q count : ℕ) (c : Cell) → current fs < count → 1 ≤ p → p < q → IsCellBefore q count c → IsCellBefore q count (touched fs kind p c)
touched_before fs Read p q count c k h l x = record { writer = x.writer; reader = reader_before fs p q count c.reader k h l x.reader (stands_in_p fs c.reader) }
touched_before fs Write p q count c k h l x = record { writer = new_name fs p q count k h l; reader = x.reader }

-- what is kept of a unit after an access is of earlier places than the next
pub touched_earlier : (fs : List Active) (kind : Kind) (place units unit count : ℕ) (c : Cell) → current fs < count → 1 ≤ place → units < 2 ^ 64 → unit < 64 → IsCellBefore place count c → IsCellBefore (place + count_ones units) count (touched_at fs kind place units unit c)
touched_earlier fs kind place units unit count c k h f u x = go (has units unit) refl
  where
    later : IsCellBefore (place + count_ones units) count c
    later = cell_later place (place + count_ones units) count count c (omega arith) (omega arith) x

    go : (t : Bool) → has units unit ≡ t → IsCellBefore (place + count_ones units) count (cond t (touched fs kind (place + units_before units unit) c) c)
    go true e = touched_before fs kind (place + units_before units unit) (place + count_ones units) count c k (omega (arith, h)) (omega (arith, one_of_all units unit f u e)) later
    go false e = later

-- the same of each unit, after an access to some of the units
pub partly_earlier : (fs : List Active) (kind : Kind) (step : Step) (unit count : ℕ) (n m : Names) (b : Bool) → (m ≡ n) ⊎ ((has step.units unit ≡ true) × (m ≡ names_after fs kind step n)) → current fs < count → step.procedure ≡ current fs → 1 ≤ step.place → step.units < 2 ^ 64 → unit < 64 → IsCellBefore step.place count (named_cell n unit b) → IsCellBefore (step.place + count_ones step.units) count (named_cell m unit b)
partly_earlier fs kind step unit count n m b p k e h f u x = ⊎_elim same other p
  where
    same : m ≡ n → IsCellBefore (step.place + count_ones step.units) count (named_cell m unit b)
    same q = subst (λ o. IsCellBefore (step.place + count_ones step.units) count (named_cell o unit b)) (sym q) (named_later step.place (step.place + count_ones step.units) count n unit b b (omega arith) x)

    other : (has step.units unit ≡ true) × (m ≡ names_after fs kind step n) → IsCellBefore (step.place + count_ones step.units) count (named_cell m unit b)
    other q =
        let c : Bool = b || is_some (rival fs kind (named_cell n unit b)) in
        let after : IsCellBefore (step.place + count_ones step.units) count (touched fs kind (step.place + units_before step.units unit) (named_cell n unit b))
        = subst (λ t. IsCellBefore (step.place + count_ones step.units) count (cond t (touched fs kind (step.place + units_before step.units unit) (named_cell n unit b)) (named_cell n unit b))) q.0 (touched_earlier fs kind step.place step.units unit count (named_cell n unit b) k h f u x) in
        subst (λ o. IsCellBefore (step.place + count_ones step.units) count (named_cell o unit b)) (sym q.1)
        (named_later (step.place + count_ones step.units) (step.place + count_ones step.units) count (names_after fs kind step n) unit c b (omega arith)
        (subst (IsCellBefore (step.place + count_ones step.units) count) (sym (after_step fs kind step unit n b c e h refl)) after))
