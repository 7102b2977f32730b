-- Bytes that come in pieces: however they were cut a reader gives the same records, and the first fault of
-- the bytes so far stays the first when more come.
use Rattle.trace.proofs.Common.{◌≡◌, ℕ, ◌+◌, ◌<◌, ◌≤◌, List, [], ◌∷◌, ◌++◌, length, Option, Some, None, Err, ◌⊎◌, inl, inr, arith, refl, sym, ◌∙◌, ap, subst, append_assoc, length-append, IsAtEnd, flat_map, flat_map-append, append-nil, Version, Record, TextFault, NestFault, Fault, Text, Nest, Read, NoMemory, NoThread, header, AllFit, ended, line, text, IsOpen, IsBadLine, bad_header, bad_line, too_many, IsBadPlace, bad_place, IsFirstFault, IsFaultOfAll, IsTruncated, IsWellNested, Change, Feeding, IsFaultThen, IsFaultFed, IsFed, Reading, AreBytes, AllFitIn, HasRead, all-push}
use Rattle.trace.specs.Text.{Fits}
use Rattle.trace.specs.Faults as faults
use Rattle.trace.proofs.Texts.{text-push}
use Rattle.trace.proofs.Readings.{so_far, all_fit, first_so_far}
use Rattle.trace.proofs.Readability.{GoesOn, same_version, same_front, same_record, lines_open, one_line, length_on, open_no_lines, open_no_text, header_judged, behind_good, bad_line_more, bad_place_more, no_truncated, no_fault_of_text, no_fault_in_front}

-- whole lines and an unfinished rest: the same bytes have the same lines
same_whole : (p q : Version) (u w : List Record) (x y : List ℕ) → AllFit p u → AllFit q w → IsOpen x → IsOpen y → text p u ++ x ≡ text q w ++ y → u ≡ w
same_whole p q u w x y hu hw hx hy e = go (same_front p q u w x y hu hw e)
  where
    go : GoesOn q u w x y ⊎ GoesOn p w u y x → u ≡ w
    go (inl ([], on, fit, is)) = on ∙ append-nil w
    go (inl (r ∷ v, on, fit, is)) = absurd (open_no_lines y r v x hy is)
    go (inr ([], on, fit, is)) = sym (on ∙ append-nil u)
    go (inr (r ∷ v, on, fit, is)) = absurd (open_no_lines x r v y hx is)

alike : (a b : Option Version) (u w : List Record) (x y bytes : List ℕ) → AreBytes a u x bytes → AreBytes b w y bytes → AllFitIn a u → AllFitIn b w → IsOpen x → IsOpen y → u ≡ w
alike (Some p) (Some q) u w x y bytes h k hu hw hx hy = same_whole p q u w x y hu hw hx hy (sym h ∙ k)
alike (Some p) None u w x y bytes h k hu hw hx hy = absurd (open_no_text y p u x hy (sym k.1 ∙ h))
alike None (Some q) u w x y bytes h k hu hw hx hy = absurd (open_no_text x q w y hx (sym h.1 ∙ k))
alike None None u w x y bytes h k hu hw hx hy = h.0 ∙ sym k.0

-- two readers of the same bytes have given the same records
pub read_alike : (u w : List Record) (bytes : List ℕ) (s t : Reading) → HasRead u bytes s → HasRead w bytes t → u ≡ w
read_alike u w bytes s t h k = alike s.version t.version u w s.rest t.rest bytes h.bytes_are k.bytes_are h.fits k.fits h.unfinished k.unfinished

-- the lines of some records, those of a next one, and what follows
text_on : (p : Version) (u : List Record) (s : Record) (v : List Record) (x : List ℕ) → text p (u ++ s ∷ v) ++ x ≡ text p u ++ (line s ++ (flat_map line v ++ x))
text_on p u s v x =
    ap (λ z. (ended (header p) ++ z) ++ x) (flat_map-append line u (s ∷ v)) ∙ ap (λ z. z ++ x) (sym (append_assoc (ended (header p)) (flat_map line u) (line s ++ flat_map line v)))
    ∙ append_assoc (text p u) (line s ++ flat_map line v) x ∙ ap (λ z. text p u ++ z) (append_assoc (line s) (flat_map line v) x)

-- a place that is bad where more bytes have come is bad before, or lies behind all good lines
place_before : (depths : ℕ) (p : Version) (w : List Record) (rest more : List ℕ) (n : NestFault) → AllFit p w → IsBadPlace depths ((text p w ++ rest) ++ more) n → (length w + 1 ≤ n.place) ⊎ IsBadPlace depths (text p w ++ rest) n
place_before depths p w rest more n hw (bad_place q u r after k hu fits e nested bad) = go (same_front p q w u (rest ++ more) (line r ++ after) hw hu (sym (append_assoc (text p w) rest more) ∙ e))
  where
    version : p ≡ q
    version = same_version p q w u (rest ++ more) (line r ++ after) (sym (append_assoc (text p w) rest more) ∙ e)

    go : GoesOn q w u (rest ++ more) (line r ++ after) ⊎ GoesOn p u w (line r ++ after) (rest ++ more) → (length w + 1 ≤ length u + 1) ⊎ IsBadPlace depths (text p w ++ rest) (record { place = length u + 1; kind = k })
    go (inl ([], on, fit, is)) = inl (omega (arith, length_on w u [] on))
    go (inl (s ∷ v, on, fit, is)) =
        let same = same_record q q r s after (flat_map line v ++ (rest ++ more)) fits fit.0 (sym (one_line r after) ∙ is ∙ lines_open s v (rest ++ more)) in
        let lines : text p w ++ rest ≡ text q u ++ (line r ++ (flat_map line v ++ rest)) =
        ap (λ z. text p z ++ rest) on ∙ ap (λ z. text z (u ++ s ∷ v) ++ rest) version ∙ text_on q u s v rest ∙ ap (λ z. text q u ++ (line z ++ (flat_map line v ++ rest))) (sym same.0) in
        inr (bad_place q u r (flat_map line v ++ rest) k hu fits lines nested bad)
    go (inr (v, on, fit, is)) = inl (omega (arith, length_on u w v on))

behind : (depths : ℕ) (bytes more : List ℕ) (p : Version) (w : List Record) (rest : List ℕ) (n : NestFault) → AllFit p w → bytes ≡ text p w ++ rest → ((m : NestFault) → IsBadPlace depths bytes m → length w + 2 ≤ m.place + 1) → IsBadPlace depths (bytes ++ more) n → length w + 2 ≤ n.place + 1
behind depths bytes more p w rest n hw e first bad = go (place_before depths p w rest more n hw (let P : List ℕ → Type 0 = λ x. IsBadPlace depths (x ++ more) n in subst P e bad))
  where
    go : (length w + 1 ≤ n.place) ⊎ IsBadPlace depths (text p w ++ rest) n → length w + 2 ≤ n.place + 1
    go (inl le) = omega (arith, le)
    go (inr before) = first n (let P : List ℕ → Type 0 = λ x. IsBadPlace depths x n in subst P (sym e) before)

-- where every bad line of bytes lies behind a good record's, so does every one of them with more behind
line_after : (records : ℕ) (p : Version) (u : List Record) (r : Record) (after more : List ℕ) (f : TextFault) → AllFit p u → Fits p r → ((g : TextFault) → IsBadLine records (text p u ++ (line r ++ after)) g → length u + 2 < g.line)
    → IsBadLine records ((text p u ++ (line r ++ after)) ++ more) f → length u + 2 < f.line
line_after records p u r after more f hu fr first (bad_header body judged other) = absurd (other p (header_judged judged p u ((line r ++ after) ++ more) (append_assoc (text p u) (line r ++ after) more)))
line_after records p u r after more f hu fr first (bad_line q w rest body hw le e judged no_spelling) =
    let whole : text p (u ++ r ∷ []) ++ (after ++ more) ≡ text q w ++ rest =
    ap (λ z. z ++ (after ++ more)) (text-push p u r) ∙ append_assoc (text p u) (line r) (after ++ more) ∙ ap (λ z. text p u ++ z) (sym (append_assoc (line r) after more)) ∙ sym (append_assoc (text p u) (line r ++ after) more) ∙ e in
    omega (arith, behind_good p q (u ++ r ∷ []) w (after ++ more) rest (all-push (Fits p) u r hu fr) hw judged no_spelling whole, length-append u (r ∷ []))
line_after records p u r after more f hu fr first (too_many q w s rest hw full fs e) = go (same_front p q u w ((line r ++ after) ++ more) (line s ++ rest) hu hw (sym (append_assoc (text p u) (line r ++ after) more) ∙ e))
  where
    version : q ≡ p
    version = sym (same_version p q u w ((line r ++ after) ++ more) (line s ++ rest) (sym (append_assoc (text p u) (line r ++ after) more) ∙ e))

    hw' : AllFit p w
    hw' = let P : Version → Type 0 = λ z. AllFit z w in subst P version hw

    go : GoesOn q u w ((line r ++ after) ++ more) (line s ++ rest) ⊎ GoesOn p w u (line s ++ rest) ((line r ++ after) ++ more) → length u + 2 < length w + 2
    go (inl ([], on, fit, is)) = first _ (too_many p w r after hw' full fr (ap (λ z. text p z ++ (line r ++ after)) (on ∙ append-nil w)))
    go (inl (a ∷ v, on, fit, is)) = first _ (too_many p w a (flat_map line v ++ (line r ++ after)) hw' full (let P : Version → Type 0 = λ z. Fits z a in subst P version fit.0) (ap (λ z. text p z ++ (line r ++ after)) on ∙ text_on p w a v (line r ++ after)))
    go (inr ([], on, fit, is)) = first _ (too_many p w r after hw' full fr (ap (λ z. text p z ++ (line r ++ after)) (sym (on ∙ append-nil u))))
    go (inr (a ∷ v, on, fit, is)) = omega (arith, length_on w u (a ∷ v) on)

-- where every bad place of bytes lies on a bad line of theirs or behind it, so does every one of them with more behind
place_after : (records depths : ℕ) (bytes more : List ℕ) (f : TextFault) (n : NestFault) → IsBadLine records bytes f → ((m : NestFault) → IsBadPlace depths bytes m → f.line ≤ m.place + 1) → IsBadPlace depths (bytes ++ more) n → f.line ≤ n.place + 1
place_after records depths bytes more f n (bad_header body judged other) first bad = omega arith
place_after records depths bytes more f n (bad_line p w rest body hw le e judged no_spelling) first bad = behind depths bytes more p w rest n hw e first bad
place_after records depths bytes more f n (too_many p w r rest hw full fits e) first bad = behind depths bytes more p w (line r ++ rest) n hw e first bad

line_behind : (records depths : ℕ) (bytes more : List ℕ) (f : TextFault) (n : NestFault) → IsBadPlace depths bytes n → ((g : TextFault) → IsBadLine records bytes g → n.place + 1 < g.line) → IsBadLine records (bytes ++ more) f → n.place + 1 < f.line
line_behind records depths bytes more f n (bad_place p u r after k hu fits e nested bad) first line_bad =
    let P : List ℕ → Type 0 = λ x. IsBadLine records (x ++ more) f in
    let first' : (g : TextFault) → IsBadLine records (text p u ++ (line r ++ after)) g → length u + 2 < g.line = λ g h. (let Q : List ℕ → Type 0 = λ x. IsBadLine records x g in omega (arith, first g (subst Q (sym e) h))) in
    omega (arith, line_after records p u r after more f hu fits first' (subst P e line_bad))

-- the first fault of bytes is their first fault with more behind
pub first_fault_more : (records depths : ℕ) (bytes more : List ℕ) (f : Fault) → IsFirstFault records depths bytes f → IsFirstFault records depths (bytes ++ more) f
first_fault_more records depths bytes more f (bad_line a bad first) = faults.bad_line a (bad_line_more records bytes more a bad) (λ n place. place_after records depths bytes more a n bad first place)
first_fault_more records depths bytes more f (bad_place n bad first) = faults.bad_place n (bad_place_more depths bytes more n bad) (λ a line. line_behind records depths bytes more a n bad first line)

-- truncated bytes are no text
truncated_not_text : (records : ℕ) (p : Version) (w : List Record) (bytes : List ℕ) (f : TextFault) → AllFit p w → IsTruncated records bytes f → bytes ≡ text p w → ⊥
truncated_not_text records p w bytes f hw cut e = let P : List ℕ → Type 0 = λ x. IsTruncated records x f in no_truncated records p w f hw (subst P e cut)

-- in no version, where a line isn't ended, or no header has come
pub cut_not_text : (w : List Record) (bytes : List ℕ) (s : Reading) (v : Version) (f : TextFault) → HasRead w bytes s → s.version ≡ Some v → IsTruncated s.limit bytes f → (p : Version) → bytes ≡ text p w → ⊥
cut_not_text w bytes s v f h begun cut p e =
    let version : v ≡ p = same_version v p w w s.rest [] (sym (so_far w bytes s h v begun) ∙ e ∙ sym (append-nil (text p w))) in
    let P : Version → Type 0 = λ z. AllFit z w in
    truncated_not_text s.limit p w bytes f (subst P version (all_fit w bytes s h v begun)) cut e

pub first_not_text : (w : List Record) (bytes : List ℕ) (s : Reading) → HasRead w bytes s → s.version ≡ None → (p : Version) → bytes ≡ text p w → ⊥
first_not_text w bytes s h first p e = open_no_text s.rest p w [] h.unfinished (sym ((first_so_far w bytes s h first).1) ∙ e ∙ sym (append-nil (text p w)))

-- a fault that a feed finds is none of the text of a well nested trace, of which these bytes are the front
fault_then : (records depths : ℕ) (p : Version) (u : List Record) (bytes left : List ℕ) (c : Change) (f : Fault) → AllFit p u → IsWellNested u records depths → bytes ++ left ≡ text p u → c.new.bytes ≡ Some left → IsFaultThen records depths bytes c f → ⊥
fault_then records depths p u bytes left c f hu h e is (inl first) = no_fault_in_front records depths p u bytes left f hu h (sym e) first
fault_then records depths p u bytes left c f hu h e is (inr (used_up, fault)) =
    let P : List ℕ → Type 0 = λ x. IsFaultOfAll records depths x f in
    let at_end : left ≡ [] = subst IsAtEnd is used_up in
    no_fault_of_text records depths p u f hu h (subst P (sym (append-nil bytes) ∙ ap (λ x. bytes ++ x) (sym at_end) ∙ e) fault)

only_read_of : (records depths : ℕ) (p : Version) (u : List Record) (bytes left : List ℕ) (c : Change) (f : Fault) → AllFit p u → IsWellNested u records depths → bytes ++ left ≡ text p u → c.new.bytes ≡ Some left → IsFaultFed records depths bytes c f → f ≡ Read
only_read_of records depths p u bytes left c (Text f) hu h e is fault = absurd (fault_then records depths p u bytes left c (Text f) hu h e is fault.0)
only_read_of records depths p u bytes left c (Nest f) hu h e is fault = absurd (fault_then records depths p u bytes left c (Nest f) hu h e is fault.0)
only_read_of records depths p u bytes left c Read hu h e is fault = refl
only_read_of records depths p u bytes left c NoMemory hu h e is fault = absurd fault
only_read_of records depths p u bytes left c NoThread hu h e is fault = absurd fault

pub only_read : (records depths : ℕ) (p : Version) (u w : List Record) (bytes left : List ℕ) (c : Change) (feed : Feeding) (f : Fault) → AllFit p u → IsWellNested u records depths → bytes ++ left ≡ text p u → c.new.bytes ≡ Some left → IsFed records depths w bytes c feed (Err f) → f ≡ Read
only_read records depths p u w bytes left c feed f hu h e is fed = only_read_of records depths p u bytes left c f hu h e is fed.0
