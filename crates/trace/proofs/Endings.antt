-- How a reading ends: how a fault is reported after bytes that came in steps, that a source that holds a trace meets none,
-- and what the feed's next record and its end say.
use Rattle.trace.proofs.Common.{◌≡◌, ℕ, ◌+◌, ◌-◌, ◌^◌, ◌⊎◌, min, List, [], ◌∷◌, ◌++◌, length, Option, Some, None, inl, inr, refl, sym, ◌∙◌, ap, subst, Result, Ok, Err, IsErrAnd, append-nil, Consumes, IsAtEnd, Version, Record, Placed, Fault, Text, Nest, Read, NoMemory, NoThread, IsWellNested, text, AllFit, Device, Change, ◌⇝◌, IsSteady, HasFailed, Gave, IsFaultOfAll, Feeding, HasFed, IsWhole, IsFed, IsFaultThen, IsFaultFed, HoldsTrace, IsRefused, EndsReading}
use Rattle.trace.proofs.Feedings.{consumes_more}
use Rattle.trace.proofs.Readability.{no_fault_in_front, no_fault_of_text}

-- a device that went on without a failure, and then failed
pub failed_since : (before middle after : Device) → IsSteady (before ⇝ middle) → HasFailed (middle ⇝ after) → HasFailed (before ⇝ after)
failed_since before middle after steady failed = let P : ℕ → Type 0 = λ n. after.failures ≡ min (n + 1) (2 ^ 64 - 1) in subst P steady failed

-- a fault of a source that had gone on without a failure
pub fault_since : (records depths : ℕ) (bytes : List ℕ) (before middle after : Device) (f : Fault) → IsSteady (before ⇝ middle) → IsFaultFed records depths bytes (middle ⇝ after) f → IsFaultFed records depths bytes (before ⇝ after) f
fault_since records depths bytes before middle after (Text t) steady fault = (fault.0, fault.1 ∙ steady)
fault_since records depths bytes before middle after (Nest n) steady fault = (fault.0, fault.1 ∙ steady)
fault_since records depths bytes before middle after Read steady fault = (fault.0, failed_since before middle after steady fault.1)
fault_since records depths bytes before middle after NoMemory steady fault = absurd fault
fault_since records depths bytes before middle after NoThread steady fault = absurd fault

-- a source that holds a trace meets no fault of the text or the nesting
no_fault_then : (records depths : ℕ) (v : Version) (w : List Record) (came : List ℕ) (c : Change) (after : Option (List ℕ)) (f : Fault) → AllFit v w → IsWellNested w records depths → c.new.bytes ≡ after → Consumes (Some (text v w)) after came → IsFaultThen records depths came c f → ⊥
no_fault_then records depths v w came c None f fit h is consumed fault = consumed
no_fault_then records depths v w came c (Some rest) f fit h is consumed (inl first) = no_fault_in_front records depths v w came rest f fit h consumed first
no_fault_then records depths v w came c (Some rest) f fit h is consumed (inr (used_up, fault)) =
    let P : List ℕ → Type 0 = λ x. IsFaultOfAll records depths x f in
    let nothing : rest ≡ [] = subst IsAtEnd is used_up in
    no_fault_of_text records depths v w f fit h (subst P (sym (consumed ∙ ap (λ x. came ++ x) nothing ∙ append-nil came)) fault)

-- a source that holds a trace and doesn't fail meets no fault at all
pub no_fault_held : (records depths : ℕ) (w : List Record) (came : List ℕ) (c : Change) (f : Fault) → HoldsTrace records depths c w → Gave c came → IsFaultFed records depths came c f → ⊥
no_fault_held records depths w came c f h gave = go f
  where
    gave' : Consumes (Some (text h.version w)) c.new.bytes came
    gave' = let P : Option (List ℕ) → Type 0 = λ o. Consumes o c.new.bytes came in subst P h.is_text gave

    go : (f' : Fault) → IsFaultFed records depths came c f' → ⊥
    go (Text t) x = no_fault_then records depths h.version w came c c.new.bytes (Text t) h.fits h.well_nested refl gave' x.0
    go (Nest n) x = no_fault_then records depths h.version w came c c.new.bytes (Nest n) h.fits h.well_nested refl gave' x.0
    go Read x = h.never_failed x.1
    go NoMemory x = x
    go NoThread x = x

-- something was wanting
pub refused_for_want : (IsWant : Fault → Type 0) (records depths : ℕ) (c : Change) (f : Fault) → IsWant f → IsRefused IsWant records depths c f
refused_for_want IsWant records depths c f want = record { first = inl want; honest = λ w h. want }

-- a fault, after bytes that came in two steps
pub refused_by_fault : (IsWant : Fault → Type 0) (records depths records' depths' : ℕ) (before middle after : Device) (came more : List ℕ) (f : Fault) → records' ≡ records → depths' ≡ depths → IsSteady (before ⇝ middle) → Gave (before ⇝ middle) came → Gave (middle ⇝ after) more
    → IsFaultFed records' depths' (came ++ more) (middle ⇝ after) f → IsRefused IsWant records depths (before ⇝ after) f
refused_by_fault IsWant records depths records' depths' before middle after came more f re de steady a b fault =
    let P : ℕ → Type 0 = λ r. IsFaultFed r depths' (came ++ more) (middle ⇝ after) f in
    let Q : ℕ → Type 0 = λ d. IsFaultFed records d (came ++ more) (middle ⇝ after) f in
    let gave : Gave (before ⇝ after) (came ++ more) = consumes_more before.bytes middle.bytes after.bytes came more a b in
    let since : IsFaultFed records depths (came ++ more) (before ⇝ after) f = fault_since records depths (came ++ more) before middle after f steady (subst Q de (subst P re fault)) in
    record { first = inr (came ++ more, gave, since); honest = λ w h. absurd (no_fault_held records depths w (came ++ more) (before ⇝ after) f h gave since) }

-- what else may be wanting
pub refused_also : (A B : Fault → Type 0) → ((f : Fault) → A f → B f) → (records depths : ℕ) (c : Change) (f : Fault) → IsRefused A records depths c f → IsRefused B records depths c f
refused_also A B more records depths c f r = record { first = go r.first; honest = λ w h. more f (r.honest w h) }
  where
    go : A f ⊎ ((came : List ℕ) × Gave c came × IsFaultFed records depths came c f) → B f ⊎ ((came : List ℕ) × Gave c came × IsFaultFed records depths came c f)
    go (inl want) = inl (more f want)
    go (inr fault) = inr fault

-- the next record, and the end of the input
pub given_next : (records depths : ℕ) (w : List Record) (bytes : List ℕ) (c : Change) (new : Feeding) (o : Option Placed) (p : Placed) → o ≡ Some p → IsFed records depths w bytes c new (Ok o)
    → (p.place ≡ length w + 1) × HasFed (w ++ p.what ∷ []) bytes new × IsSteady c
given_next records depths w bytes c new o p is fed = let P : Option Placed → Type 0 = λ x. IsFed records depths w bytes c new (Ok x) in subst P is fed

pub given_end : (records depths : ℕ) (w : List Record) (bytes : List ℕ) (c : Change) (new : Feeding) (o : Option Placed) → o ≡ None → IsFed records depths w bytes c new (Ok o) → IsWhole records depths w bytes c.new
given_end records depths w bytes c new o is fed = let P : Option Placed → Type 0 = λ x. IsFed records depths w bytes c new (Ok x) in (subst P is fed).0

-- an error that is passed on, and why there is no answer
pub ends_refused : {T : Type 0} (IsWant : Fault → Type 0) (records depths : ℕ) (c : Change) (Says : T → List Record → Type 0) (r : Result T Fault) (f : Fault) → IsErrAnd r (λ g. g ≡ f) → IsRefused IsWant records depths c f → EndsReading IsWant records depths c Says r
ends_refused IsWant records depths c Says (Ok answer) f is refused = absurd is
ends_refused IsWant records depths c Says (Err g) f is refused = subst (IsRefused IsWant records depths c) (sym is) refused
