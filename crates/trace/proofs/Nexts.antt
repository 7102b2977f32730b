-- What a feed's next answer is, after bytes that came and gave no record.
use Rattle.trace.proofs.Common.{◌≡◌, ℕ, ◌⊎◌, List, [], ◌++◌, Option, Result, Ok, Err, Some, None, IsErrAnd, rules, inl, inr, sym, ◌∙◌, ap, subst, append_assoc, append-nil, Record, Placed, Fault, Read, Running, Bad, Device, Change, ◌⇝◌, IsSteady, HasFailed, Gave, IsFirstFault, Feeding, HasFed, IsFed, IsFaultFed, HasSameLimits, IsNext, HasUsedAll}
use Rattle.trace.proofs.Feedings.{filled, read_all, no_fault_yet, consumes_none, consumes_more, at_limits, answered_bad, next_of_running}
use Rattle.trace.proofs.Endings.{failed_since, fault_since}

-- more bytes have come with no failure, and were used with no answer
pub record HasReadOn (old new : Feeding) (c : Change) : Type 0 where
  pub fed : (w : List Record) (bytes : List ℕ) → HasFed w bytes old → (came : List ℕ) × Gave c came × HasFed w (bytes ++ came) new
  pub steady : IsSteady c
  pub running : new.ending ≡ Running
  pub limits : HasSameLimits old new

limits_after : (a b c : Feeding) → HasSameLimits a b → HasSameLimits b c → HasSameLimits a c
limits_after a b c first second = record { records = second.records ∙ first.records; depths = second.depths ∙ first.depths }

-- nothing comes of a source that isn't asked
pub nothing_came : (P : List ℕ → Type 0) (d : Device) (bytes : List ℕ) → P bytes → (came : List ℕ) × Gave (d ⇝ d) came × P (bytes ++ came)
nothing_came P d bytes p = ([], consumes_none d.bytes, subst P (sym (append-nil bytes)) p)

-- a fault, with which the feed ends
pub next_fault : (old s new : Feeding) (c : Change) (f : Fault) → old.ending ≡ Running → new ≡ record s { ending = Bad f } → HasSameLimits old s → (f ≡ Read → HasFailed c)
    → ((w : List Record) (bytes : List ℕ) → HasFed w bytes old → (came : List ℕ) × Gave c came × IsFaultFed old.reading.limit old.nesting.max_depth (bytes ++ came) c f) → IsNext old new c (Err f)
next_fault old s new c f running kept same read fault =
    let ended : new.ending ≡ Bad f = ap (λ (t : Feeding). t.ending) kept in
    let last : HasSameLimits s new = record { records = ap (λ (t : Feeding). t.reading.limit) kept; depths = ap (λ (t : Feeding). t.nesting.max_depth) kept } in
    next_of_running old new c (Err f) running
    (λ w bytes h. let x = fault w bytes h in (x.0, x.1, (x.2, ended)))
    (λ is. read (search (rules, is)))
    (answered_bad new f ended)
    (limits_after old s new same last)

-- an answer after bytes that came with no failure says the same of the bytes and of the source
fed_since : (records depths : ℕ) (w : List Record) (bytes : List ℕ) (before middle after : Device) (new : Feeding) (result : Result (Option Placed) Fault) → IsSteady (before ⇝ middle) → IsFed records depths w bytes (middle ⇝ after) new result → IsFed records depths w bytes (before ⇝ after) new result
fed_since records depths w bytes before middle after new (Ok (Some p)) steady fed = (fed.0, fed.1, fed.2 ∙ steady)
fed_since records depths w bytes before middle after new (Ok None) steady fed = (fed.0, fed.1, fed.2 ∙ steady)
fed_since records depths w bytes before middle after new (Err f) steady fed = (fault_since records depths bytes before middle after f steady fed.0, fed.1)

pub next_after : (o m n : Device) (old s new : Feeding) (result : Result (Option Placed) Fault) → old.ending ≡ Running → HasReadOn old s (o ⇝ m) → IsNext s new (m ⇝ n) result → IsNext old new (o ⇝ n) result
next_after o m n old s new result running on next = next_of_running old new (o ⇝ n) result running fed (λ is. failed (next.read is)) next.answered (limits_after old s new on.limits next.limits)
  where
    fed : (w : List Record) (bytes : List ℕ) → HasFed w bytes old → (came : List ℕ) × Gave (o ⇝ n) came × IsFed old.reading.limit old.nesting.max_depth w (bytes ++ came) (o ⇝ n) new result
    fed w bytes h =
        let a = on.fed w bytes h in
        let b = next.fed w (bytes ++ a.0) a.2 in
        let P : ℕ → ℕ → Type 0 = λ r d. IsFed r d w (bytes ++ (a.0 ++ b.0)) (o ⇝ n) new result in
        let Q : List ℕ → Type 0 = λ x. IsFed s.reading.limit s.nesting.max_depth w x (o ⇝ n) new result in
        (a.0 ++ b.0, consumes_more o.bytes m.bytes n.bytes a.0 b.0 a.1 b.1, at_limits P _ _ _ _ on.limits.records on.limits.depths (subst Q (append_assoc bytes a.0 b.0) (fed_since _ _ w _ o m n new result on.steady b.2)))

    failed : HasFailed (m ⇝ n) ⊎ (s.ending ≡ Bad Read) → HasFailed (o ⇝ n)
    failed (inl x) = failed_since o m n on.steady x
    failed (inr x) = absurd (search (rules, on.running, x))

pub used_all : (old s new : Feeding) (c : Change) → HasReadOn old s c → HasUsedAll s new → HasReadOn old new c
used_all old s new c on used = record {
  fed = λ w bytes h. let a = on.fed w bytes h in (a.0, a.1, used.fed w (bytes ++ a.0) a.2);
  steady = on.steady;
  running = used.running;
  limits = limits_after old s new on.limits used.limits;
}

-- the source was asked for more
module _ (o m n : Device) (old s t : Feeding) (on : HasReadOn old s (o ⇝ m)) (came : (came : List ℕ) × Gave (m ⇝ n) came × (t ≡ record s { coming = s.coming ++ came })) where
  limits_filled : HasSameLimits old t
  limits_filled = limits_after old s t on.limits (record { records = ap (λ (x : Feeding). x.reading.limit) came.2; depths = ap (λ (x : Feeding). x.nesting.max_depth) came.2 })

  pub read_more : IsSteady (m ⇝ n) → HasReadOn old t (o ⇝ n)
  read_more steady = record {
    fed = λ w bytes h. filled o m n w bytes s t (on.fed w bytes h) came;
    steady = steady ∙ on.steady;
    running = ap (λ (x : Feeding). x.ending) came.2 ∙ on.running;
    limits = limits_filled;
  }

  pub read_failed : (new : Feeding) → old.ending ≡ Running → HasFailed (m ⇝ n) → t.coming ≡ [] → new ≡ record t { ending = Bad Read } → IsNext old new (o ⇝ n) (Err Read)
  read_failed new running failed nothing kept =
      let since : HasFailed (o ⇝ n) = failed_since o m n on.steady failed in
      next_fault old t new (o ⇝ n) Read running kept limits_filled (λ is. since)
      (λ w bytes h.
      let all = filled o m n w bytes s t (on.fed w bytes h) came in
      let P : ℕ → ℕ → Type 0 = λ r d. (f : Fault) → IsFirstFault r d (bytes ++ all.0) f → ⊥ in
      (all.0, all.1, (at_limits P _ _ _ _ limits_filled.records limits_filled.depths (no_fault_yet w (bytes ++ all.0) t.reading t.nesting (read_all w (bytes ++ all.0) t all.2 nothing) all.2.has_nested), since)))

-- an error that is passed on
pub next_error : (old new : Feeding) (c : Change) (r : Result (Option Placed) Fault) (f : Fault) → IsErrAnd r (λ g. g ≡ f) → IsNext old new c (Err f) → IsNext old new c r
next_error old new c (Ok o) f is next = absurd is
next_error old new c (Err g) f is next = subst (λ (x : Fault). IsNext old new c (Err x)) (sym is) next
