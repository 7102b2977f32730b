-- The report of a part: the verdict on the trace at the part's locations.
use Rattle.verdict.proofs.Common.{◌≡◌, ℕ, ◌%◌, ◌↔◌, Bool, true, eqb, filter, List, [], ◌∷◌, inl, inr, ⊎_elim, sym, ap, subst, ◌∙◌, AllByRecursion, cases_Bool, cond-true, cond-false, eq-eqb, eqb-true, Record, RaceAt, IsWellNested, HasRace, verdict, racy, HasLocation, IsPartReportOf}
use Rattle.dag.specs.declared.part.Part.{Part}
use Rattle.dag.specs.Parts.{races_of_part}
use Rattle.dag.proofs.Once.{In, In_from, Contains_from}

abbrev pub is_own : Part → RaceAt → Bool
is_own part r = eqb (r.location % part.count) part.index

-- ---- what a filter keeps

pub all-filter : (P : RaceAt → Type 0) (p : RaceAt → Bool) (rs : List RaceAt) → AllByRecursion P rs → AllByRecursion P (filter p rs)
all-filter P p [] a = tt
all-filter P p (r ∷ rs) a = ⊎_elim
    (λ e. subst (AllByRecursion P) (sym (cond-true (p r) _ _ e)) (a.0, all-filter P p rs a.1))
    (λ e. subst (AllByRecursion P) (sym (cond-false (p r) _ _ e)) (all-filter P p rs a.1))
    (cases_Bool (p r))

into-filter : (p : RaceAt → Bool) (x : RaceAt) (rs : List RaceAt) → In x rs → p x ≡ true → In x (filter p rs)
into-filter p x [] h t = absurd h
into-filter p x (r ∷ rs) (inl e) t = subst (In x) (sym (cond-true (p r) _ _ (ap p e ∙ t))) (inl e)
into-filter p x (r ∷ rs) (inr h) t = ⊎_elim
    (λ e. subst (In x) (sym (cond-true (p r) _ _ e)) (inr (into-filter p x rs h t)))
    (λ e. subst (In x) (sym (cond-false (p r) _ _ e)) (into-filter p x rs h t))
    (cases_Bool (p r))

of-filter : (p : RaceAt → Bool) (x : RaceAt) (rs : List RaceAt) → In x (filter p rs) → In x rs × (p x ≡ true)
of-filter p x [] h = absurd h
of-filter p x (r ∷ rs) h = ⊎_elim
    (λ e. ⊎_elim
    (λ same. (inl same, sym (ap p same) ∙ e))
    (λ later. let o = of-filter p x rs later in (inr o.0, o.1))
    (subst (In x) (cond-true (p r) _ _ e) h))
    (λ e. let o = of-filter p x rs (subst (In x) (cond-false (p r) _ _ e) h) in (inr o.0, o.1))
    (cases_Bool (p r))

-- ---- the races of a part

-- the locations of a part's races that are racy
racy_in_part : (part : Part) (w : List Record) {records depths : ℕ} → IsWellNested w records depths → (l : ℕ) → HasLocation (races_of_part part (verdict w)) l ↔ (HasRace w l × (l % part.count ≡ part.index))
racy_in_part part w nested l = (
  (λ h.
      let o = of-filter (is_own part) h.0 (verdict w) (In_from _ h.0 h.1) in
      let P : ℕ → Type 0 = λ m. m % part.count ≡ part.index in
      ((racy w nested l).1 (h.0, Contains_from (verdict w) h.0 o.0, h.2), subst P h.2 (eqb-true (h.0.location % part.count) part.index o.1))),
  (λ h.
      let t = (racy w nested l).0 h.0 in
      let P : ℕ → Type 0 = λ m. m % part.count ≡ part.index in
      (t.0, Contains_from _ t.0 (into-filter (is_own part) t.0 (verdict w) (In_from (verdict w) t.0 t.1) (eq-eqb (t.0.location % part.count) part.index (subst P (sym t.2) h.1))), t.2)),
)

pub part_report_is : (part : Part) (w : List Record) {records depths : ℕ} (report : List RaceAt) → IsWellNested w records depths → report ≡ races_of_part part (verdict w) → IsPartReportOf part w report
part_report_is part w report nested all =
    let P : List RaceAt → Type 0 = λ xs. (l : ℕ) → HasLocation xs l ↔ (HasRace w l × (l % part.count ≡ part.index)) in
    record { is_part = all; racy = subst P (sym all) (racy_in_part part w nested) }
