-- What each step of a feed leaves of `HasFed`, and that the fault that it meets is the first.
use Rattle.trace.proofs.Common.{◌≡◌, ℕ, ◌+◌, ◌-◌, ◌≤◌, List, [], ◌∷◌, ◌++◌, length, take, drop, Option, Some, None, Result, Err, inl, rules, arith, refl, sym, ◌∙◌, ap, subst, append_assoc, length-append, Consumes, append-nil, take-append-drop, drop-take, drop-drop, Version, Record, TextFault, NestFault, NestKind, Unfinished, Fault, Text, Nest, Read, Running, Bad, Placed, line, text, HasEnded, IsMisplaced, IsBadLine, IsBadPlace, bad_place, IsTruncated, IsFirstFault, IsFaultOfAll, truncated, unfinished, Reading, AreBytes, AllFitIn, AreText, HasRead, Nesting, HasNested, Device, Change, ◌⇝◌, HasFailed, Gave, Feeding, before_all, HasUsed, HasFed, GivesNext, EndsAsAnswered, HasSameLimits, IsNext, all-front, all-last, length-take}
use Rattle.trace.specs.Text.{Fits}
use Rattle.trace.specs.Faults as faults
use Rattle.trace.proofs.Readings.{open_nil}
use Rattle.trace.proofs.Nestings.{nested_none}
use Rattle.trace.proofs.Texts.{text-push}
use Rattle.trace.proofs.Readability.{bad_line_after, bad_place_after, no_first_fault, no_first_fault_first}

-- more bytes come
pub fed_more : (w : List Record) (bytes came : List ℕ) (s : Feeding) → HasFed w bytes s → HasFed w (bytes ++ came) (record s { coming = s.coming ++ came })
fed_more w bytes came s h =
    record {
      has_used = record {
        used = h.has_used.used;
        bytes_are = ap (λ x. x ++ came) h.has_used.bytes_are ∙ append_assoc h.has_used.used s.coming came;
        has_read = h.has_used.has_read;
      };
      has_nested = h.has_nested;
      running = h.running;
    }

-- bytes that a reader has used without a fault, whose records are not misplaced, hold no first fault
pub no_fault_yet : (w : List Record) (bytes : List ℕ) (s : Reading) (n : Nesting) → HasRead w bytes s → HasNested w n → (g : Fault) → IsFirstFault s.limit n.max_depth bytes g → ⊥
no_fault_yet w bytes s n h k g fault = go s.version h.bytes_are h.fits
  where
    go : (o : Option Version) → AreBytes o w s.rest bytes → AllFitIn o w → ⊥
    go (Some v) e fit = let P : List ℕ → Type 0 = λ x. IsFirstFault s.limit n.max_depth x g in no_first_fault s.limit n.max_depth v w s.rest g fit h.within k.nested h.unfinished (subst P e fault)
    go None e fit = let P : List ℕ → Type 0 = λ x. IsFirstFault s.limit n.max_depth x g in no_first_fault_first s.limit n.max_depth s.rest g h.unfinished (subst P e.1 fault)

place_from_one : (depths : ℕ) (bytes : List ℕ) (n : NestFault) → IsBadPlace depths bytes n → 1 ≤ n.place
place_from_one depths bytes n (bad_place v u r more k a b c d e) = omega arith

-- a bad line that is the next of the reader's is the first fault
pub first_line_fault : (w : List Record) (bytes : List ℕ) (s : Feeding) → HasUsed w bytes s → HasNested w s.nesting → (f : TextFault) → IsBadLine s.reading.limit bytes f → f.line ≤ length w + 2 → IsFirstFault s.reading.limit s.nesting.max_depth bytes (Text f)
first_line_fault w bytes s u k f bad le = faults.bad_line f bad (λ n p. after n p s.reading.version u.has_read.bytes_are u.has_read.fits)
  where
    after : (n : NestFault) → IsBadPlace s.nesting.max_depth bytes n → (o : Option Version) → AreBytes o w s.reading.rest u.used → AllFitIn o w → f.line ≤ n.place + 1
    after n p (Some v) e fit =
        let P : List ℕ → Type 0 = λ x. IsBadPlace s.nesting.max_depth x n in
        let is : bytes ≡ text v w ++ (s.reading.rest ++ s.coming) = u.bytes_are ∙ ap (λ x. x ++ s.coming) e ∙ append_assoc (text v w) _ _ in
        omega (arith, le, bad_place_after s.nesting.max_depth v w (s.reading.rest ++ s.coming) n fit k.nested (subst P is p))
    after n p None e fit = let none : length w ≡ 0 = ap length e.0 in omega (arith, le, place_from_one _ _ n p)

-- a record that is misplaced behind the records before it is the first fault
pub first_place_fault : (w : List Record) (r : Record) (bytes : List ℕ) (s : Feeding) → HasUsed (w ++ r ∷ []) bytes s → HasNested w s.nesting → (k : NestKind) → IsMisplaced s.nesting.max_depth w r k
    → IsFirstFault s.reading.limit s.nesting.max_depth bytes (Nest (record { place = length w + 1; kind = k }))
first_place_fault w r bytes s u nested k misplaced = go s.reading.version u.has_read.bytes_are u.has_read.fits
  where
    fault : NestFault
    fault = record { place = length w + 1; kind = k }

    rest : List ℕ
    rest = s.reading.rest ++ s.coming

    go : (o : Option Version) → AreBytes o (w ++ r ∷ []) s.reading.rest u.used → AllFitIn o (w ++ r ∷ []) → IsFirstFault s.reading.limit s.nesting.max_depth bytes (Nest (record { place = length w + 1; kind = k }))
    go None e fit = absurd (let n : length (w ++ r ∷ []) ≡ 0 = ap length e.0 in omega (arith, length-append w (r ∷ [])))
    go (Some v) e fit =
        let whole : bytes ≡ text v (w ++ r ∷ []) ++ (s.reading.rest ++ s.coming) = u.bytes_are ∙ ap (λ x. x ++ s.coming) e ∙ append_assoc (text v (w ++ r ∷ [])) _ _ in
        let split : bytes ≡ text v w ++ (line r ++ (s.reading.rest ++ s.coming)) = whole ∙ ap (λ x. x ++ (s.reading.rest ++ s.coming)) (text-push v w r) ∙ append_assoc (text v w) (line r) _ in
        let P : TextFault → List ℕ → Type 0 = λ f x. IsBadLine s.reading.limit x f in
        faults.bad_place (record { place = length w + 1; kind = k }) (bad_place v w r _ k (all-front (Fits v) w (r ∷ []) fit) (all-last (Fits v) w r fit) split nested.nested misplaced)
        (λ f bad. omega (arith, length-append w (r ∷ []), bad_line_after s.reading.limit v (w ++ r ∷ []) (s.reading.rest ++ s.coming) f fit u.has_read.within (subst (P f) whole bad)))

-- at the end of the bytes
pub fault_of_rest : (w : List Record) (bytes : List ℕ) (s : Reading) (n : Nesting) → HasRead w bytes s → HasNested w n → (f : TextFault) → IsTruncated s.limit bytes f → IsFaultOfAll s.limit n.max_depth bytes (Text f)
fault_of_rest w bytes s n h k f t = truncated f t (no_fault_yet w bytes s n h k)

pub fault_of_end : (w : List Record) (bytes : List ℕ) (s : Reading) (n : Nesting) → HasRead w bytes s → HasNested w n → AreText s.version w bytes → (HasEnded w → ⊥) → IsFaultOfAll s.limit n.max_depth bytes (Nest (record { place = n.count + 1; kind = Unfinished }))
fault_of_end w bytes s n h k e running =
    let P : ℕ → Type 0 = λ c. IsFaultOfAll s.limit n.max_depth bytes (Nest (record { place = c + 1; kind = Unfinished })) in
    subst P (sym k.count_is) (go s.version e h.fits)
  where
    go : (o : Option Version) → AreText o w bytes → AllFitIn o w → IsFaultOfAll s.limit n.max_depth bytes (Nest (record { place = length w + 1; kind = Unfinished }))
    go (Some v) is fit = unfinished v w fit h.within is k.nested running
    go None is fit = absurd is

-- nothing comes
pub consumes_none : (o : Option (List ℕ)) → Consumes o o []
consumes_none None = tt
consumes_none (Some xs) = refl

pub consumes_more : (o m n : Option (List ℕ)) (xs ys : List ℕ) → Consumes o m xs → Consumes m n ys → Consumes o n (xs ++ ys)
consumes_more None m n xs ys a b = tt
consumes_more (Some os) None n xs ys a b = absurd a
consumes_more (Some os) (Some ms) None xs ys a b = absurd b
consumes_more (Some os) (Some ms) (Some ns) xs ys a b = a ∙ ap (λ z. xs ++ z) b ∙ sym (append_assoc xs ys ns)

-- what is left of a window behind its first n elements
window_split : (buffer : List ℕ) (start end n : ℕ) → n ≤ end - start → take (end - start) (drop start buffer) ≡ take n (take (end - start) (drop start buffer)) ++ take (end - (start + n)) (drop (start + n) buffer)
window_split buffer start end n h =
    sym (take-append-drop n window) ∙ ap (λ x. take n window ++ x) rest
  where
    window : List ℕ
    window = take (end - start) (drop start buffer)

    rest : drop n (take (end - start) (drop start buffer)) ≡ take (end - (start + n)) (drop (start + n) buffer)
    rest =
        let m : end - start ≡ n + (end - (start + n)) = omega arith in
        ap (λ x. drop n (take x (drop start buffer))) m ∙ drop-take n (end - (start + n)) (drop start buffer) ∙ ap (take (end - (start + n))) (drop-drop n start buffer ∙ ap (λ x. drop x buffer) (omega arith))

-- the reader has used the first n bytes that have come
used_more : (w : List Record) (bytes : List ℕ) (s t : Feeding) (u : HasUsed w bytes s) (v : List Record) (n : ℕ) → HasRead v (u.used ++ take n s.coming) t.reading → s.coming ≡ take n s.coming ++ t.coming → HasUsed v bytes t
used_more w bytes s t u v n read split =
    record {
      used = u.used ++ take n s.coming;
      bytes_are = u.bytes_are ∙ ap (λ x. u.used ++ x) split ∙ sym (append_assoc u.used (take n s.coming) t.coming);
      has_read = read;
    }

-- which are a window of a buffer
pub used_front : (w v : List Record) (bytes : List ℕ) (s t : Feeding) (buffer : List ℕ) (start end n : ℕ) → s.coming ≡ take (end - start) (drop start buffer) → t.coming ≡ take (end - (start + n)) (drop (start + n) buffer) → n ≤ length s.coming
    → (u : HasUsed w bytes s) → HasRead v (u.used ++ take n s.coming) t.reading → HasUsed v bytes t
used_front w v bytes s t buffer start end n before after within u read =
    let rest : List ℕ = take (end - (start + n)) (drop (start + n) buffer) in
    let le : n ≤ end - start = omega (arith, within, ap length before, length-take (end - start) (drop start buffer)) in
    used_more w bytes s t u v n read (before ∙ window_split buffer start end n le ∙ ap (λ x. take n x ++ rest) (sym before) ∙ ap (λ x. take n s.coming ++ x) (sym after))

pub first_place_fault_at : (w : List Record) (r : Record) (bytes : List ℕ) (s : Feeding) → HasUsed (w ++ r ∷ []) bytes s → HasNested w s.nesting → (f : NestFault) → f.place ≡ s.nesting.count + 1 → IsMisplaced s.nesting.max_depth w r f.kind → IsFirstFault s.reading.limit s.nesting.max_depth bytes (Nest f)
first_place_fault_at w r bytes s u nested f place misplaced =
    let P : ℕ → Type 0 = λ p. IsFirstFault s.reading.limit s.nesting.max_depth bytes (Nest (record { place = p; kind = f.kind })) in
    let e : length w + 1 ≡ f.place = omega (arith, place, nested.count_is) in
    subst P e (first_place_fault w r bytes s u nested f.kind misplaced)

-- where all bytes that have come were used
pub read_all : (w : List Record) (bytes : List ℕ) (s : Feeding) → HasFed w bytes s → s.coming ≡ [] → HasRead w bytes s.reading
read_all w bytes s h nothing =
    let e : h.has_used.used ≡ bytes = sym (h.has_used.bytes_are ∙ ap (λ x. h.has_used.used ++ x) nothing ∙ append-nil _) in
    let P : List ℕ → Type 0 = λ b. HasRead w b s.reading in
    subst P e h.has_used.has_read

-- bytes have come in two steps
pub filled : (o m n : Device) (w : List Record) (bytes : List ℕ) (s t : Feeding) → (came : List ℕ) × Gave (o ⇝ m) came × HasFed w (bytes ++ came) s → (came : List ℕ) × Gave (m ⇝ n) came × (t ≡ record s { coming = s.coming ++ came })
    → (came : List ℕ) × Gave (o ⇝ n) came × HasFed w (bytes ++ came) t
filled o m n w bytes s t (a, ca, fed) (b, cb, is) =
    let P : Feeding → Type 0 = λ x. HasFed w ((bytes ++ a) ++ b) x in
    let Q : List ℕ → Type 0 = λ x. HasFed w x t in
    (a ++ b, consumes_more o.bytes m.bytes n.bytes a b ca cb, subst Q (append_assoc bytes a b) (subst P (sym is) (fed_more w (bytes ++ a) b s fed)))

-- the limits are the same
pub at_limits : (P : ℕ → ℕ → Type 0) (a b c d : ℕ) → a ≡ b → c ≡ d → P a c → P b d
at_limits P a b c d e f p = let Q : ℕ → Type 0 = λ x. P x d in subst Q e (subst (P a) f p)

-- nothing has come
pub fed_none : (records depths : ℕ) → HasFed [] [] (before_all records depths)
fed_none records depths =
    record {
      has_used = record {
        used = [];
        bytes_are = refl;
        has_read = record { bytes_are = (refl, refl); fits = refl; unfinished = open_nil; count_is = refl; within = omega arith; no_fault = refl };
      };
      has_nested = nested_none depths;
      running = refl;
    }

-- a feed that runs on, and one that has ended with the fault that it answers
pub answered_running : (new : Feeding) (result : Result (Option Placed) Fault) → new.ending ≡ Running → EndsAsAnswered new result
answered_running new result running = record { good = λ is. search (rules, running, is); bad = λ f is. search (rules, running, is) }

pub answered_bad : (new : Feeding) (fault : Fault) → new.ending ≡ Bad fault → EndsAsAnswered new (Err fault)
answered_bad new fault bad = record { good = λ is. search (rules, bad, is); bad = λ f is. search (rules, bad, is) }

-- the answer of a feed that hadn't ended
pub next_of_running : (old new : Feeding) (c : Change) (result : Result (Option Placed) Fault) → old.ending ≡ Running → GivesNext old new c result → (result ≡ Err Read → HasFailed c) → EndsAsAnswered new result → HasSameLimits old new → IsNext old new c result
next_of_running old new c result running fed read answered limits =
    record {
      fed = fed;
      read = λ is. inl (read is);
      answered = answered;
      good = λ is. absurd (search (rules, running, is));
      bad = λ f is. absurd (search (rules, running, is));
      limits = limits;
    }
