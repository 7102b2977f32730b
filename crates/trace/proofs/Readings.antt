-- The fault that a step of a reader finds.
use Rattle.trace.proofs.Common.{◌≡◌, ◌≢◌, ℕ, ◌+◌, ◌-◌, ◌<◌, ◌≤◌, List, [], ◌∷◌, ◌++◌, length, take, drop, get_or, Option, Some, None, IfSome, Bool, true, false, not, is_some, IsTrue, arith, refl, sym, ◌∙◌, ap, subst, append_assoc, length-append, option_to_list, append-nil, take-append-drop, Version, Record, Header, Line, TooMany, Truncated, newline, header, spell, AllFit, ended, line, text, IsUnended, IsOpen, IsJudged, at_end, at_length, IsNoHeader, IsNoRecord, IsBadLine, bad_header, bad_line, too_many, IsTruncated, no_header, no_line_end, Reading, AreBytes, AllFitIn, AreText, HasRead, IsBetweenLines, length-take}
use Rattle.trace.specs.Text.{Fits}
use Rattle.trace.proofs.Texts.{length-spell, length-header, unended-append, split-ended}

bytes_begun : (o : Option Version) (v : Version) (w : List Record) (rest bytes : List ℕ) → o ≡ Some v → AreBytes o w rest bytes → bytes ≡ text v w ++ rest
bytes_begun o v w rest bytes e h = let P : Option Version → Type 0 = λ x. AreBytes x w rest bytes in subst P e h

fits_begun : (o : Option Version) (v : Version) (w : List Record) → o ≡ Some v → AllFitIn o w → AllFit v w
fits_begun o v w e h = let P : Option Version → Type 0 = λ x. AllFitIn x w in subst P e h

bytes_first : (o : Option Version) (w : List Record) (rest bytes : List ℕ) → o ≡ None → AreBytes o w rest bytes → (w ≡ []) × (bytes ≡ rest)
bytes_first o w rest bytes e h = let P : Option Version → Type 0 = λ x. AreBytes x w rest bytes in subst P e h

-- the version of a reader that has one
pub some_version : (o : Option Version) → IsTrue (is_some o) → (v : Version) × (o ≡ Some v)
some_version (Some v) e = (v, refl)
some_version None e = absurd (cc)

pub none_of : (o : Option Version) (b : Bool) → is_some o ≡ not b → b ≡ true → o ≡ None
none_of None b e h = refl
none_of (Some v) b e h = absurd (cc)

pub some_of : (o : Option Version) (b : Bool) → is_some o ≡ not b → b ≡ false → IsTrue (is_some o)
some_of o b e h = e ∙ ap not h

pub ends_line : (o : Option Version) (w : List Record) (rest bytes : List ℕ) → IsTrue (is_some o) → rest ≡ [] → AreBytes o w rest bytes → AreText o w bytes
ends_line (Some v) w rest bytes e nothing h = h ∙ ap (λ x. text v w ++ x) nothing ∙ append-nil _
ends_line None w rest bytes e nothing h = absurd (cc)

-- between two lines the bytes are the text of the records, that of the last one among them
pub up_to_line_end : (w : List Record) (o : Option Record) (bytes : List ℕ) (s : Reading) → HasRead (w ++ option_to_list o) bytes s → IfSome o (λ _. IsBetweenLines s) → IfSome o (λ r. AreText s.version (w ++ r ∷ []) bytes)
up_to_line_end w None bytes s h between = tt
up_to_line_end w (Some r) bytes s h between =
    ends_line s.version (w ++ r ∷ []) s.rest bytes between.begun between.nothing_held h.bytes_are

pub open_nil : IsOpen []
open_nil = record { unended = λ k d h. absurd (omega arith); short = omega arith }

-- what a long line is: not the spelling of a record
pub long_is_no_record : (v : Version) (body : List ℕ) → length body ≡ 27 → IsNoRecord v body
long_is_no_record v body long r fits e = let n : length body ≡ length (spell r) = ap length e in absurd (omega (arith, length-spell v r fits))

-- and no header
long_is_no_header : (body : List ℕ) → length body ≡ 27 → IsNoHeader body
long_is_no_header body long v e = let n : length body ≡ length (header v) = ap length e in absurd (omega (arith, length-header v))

module _ (w : List Record) (bytes : List ℕ) (s : Reading) (h : HasRead w bytes s) where
  pub so_far : (v : Version) → s.version ≡ Some v → bytes ≡ text v w ++ s.rest
  so_far v begun = bytes_begun s.version v w s.rest bytes begun h.bytes_are

  pub all_fit : (v : Version) → s.version ≡ Some v → AllFit v w
  all_fit v begun = fits_begun s.version v w begun h.fits

  pub first_so_far : s.version ≡ None → (w ≡ []) × (bytes ≡ s.rest)
  first_so_far first = bytes_first s.version w s.rest bytes first h.bytes_are

  with_piece : (v : Version) → s.version ≡ Some v → (piece : List ℕ) → bytes ++ piece ≡ text v w ++ (s.rest ++ piece)
  with_piece v begun piece = ap (λ x. x ++ piece) (so_far v begun) ∙ append_assoc (text v w) s.rest piece

  judged_end : (piece : List ℕ) (k : ℕ) → k < length piece → get_or piece k 0 ≡ newline → IsUnended (take k piece) → IsJudged (s.rest ++ piece) (s.rest ++ take k piece)
  judged_end piece k lt nl unended =
      let e : ended (s.rest ++ take k piece) ++ drop (k + 1) piece ≡ s.rest ++ piece =
      ap (λ x. x ++ drop (k + 1) piece) (append_assoc s.rest (take k piece) (newline ∷ [])) ∙ append_assoc s.rest (ended (take k piece)) _ ∙ ap (λ x. s.rest ++ x) (sym (split-ended piece k lt nl)) in
      let P : List ℕ → Type 0 = λ x. IsJudged x (s.rest ++ take k piece) in
      subst P e (at_end _ _ (unended-append s.rest (take k piece) h.unfinished.unended unended))

  pub long_length : (piece : List ℕ) → 27 ≤ length s.rest + length piece → length (s.rest ++ take (27 - length s.rest) piece) ≡ 27
  long_length piece long = length-append s.rest _ ∙ omega (arith, length-take (27 - length s.rest) piece, h.unfinished.short)

  judged_long : (piece : List ℕ) → 27 ≤ length s.rest + length piece → IsUnended (take (27 - length s.rest) piece) → IsJudged (s.rest ++ piece) (s.rest ++ take (27 - length s.rest) piece)
  judged_long piece long unended =
      let e : (s.rest ++ take (27 - length s.rest) piece) ++ drop (27 - length s.rest) piece ≡ s.rest ++ piece =
      append_assoc s.rest _ _ ∙ ap (λ x. s.rest ++ x) (take-append-drop _ piece) in
      let P : List ℕ → Type 0 = λ x. IsJudged x (s.rest ++ take (27 - length s.rest) piece) in
      subst P e (at_length _ _ (unended-append s.rest _ h.unfinished.unended unended) (long_length piece long))

  -- the line after those of w is bad
  bad : (v : Version) → s.version ≡ Some v → (piece body : List ℕ) → IsJudged (s.rest ++ piece) body → IsNoRecord v body → IsBadLine s.limit (bytes ++ piece) (record { line = s.count + 2; kind = Line })
  bad v begun piece body judged none =
      let P : ℕ → Type 0 = λ n. IsBadLine s.limit (bytes ++ piece) (record { line = n + 2; kind = Line }) in
      subst P (sym h.count_is) (bad_line v w (s.rest ++ piece) body (all_fit v begun) h.within (with_piece v begun piece) judged none)

  pub bad_at_end : (v : Version) → s.version ≡ Some v → (piece : List ℕ) (k : ℕ) → k < length piece → get_or piece k 0 ≡ newline → IsUnended (take k piece) → IsNoRecord v (s.rest ++ take k piece)
      → IsBadLine s.limit (bytes ++ piece) (record { line = s.count + 2; kind = Line })
  bad_at_end v begun piece k lt nl unended none = bad v begun piece _ (judged_end piece k lt nl unended) none

  pub bad_long : (v : Version) → s.version ≡ Some v → (piece : List ℕ) → 27 ≤ length s.rest + length piece → IsUnended (take (27 - length s.rest) piece)
      → IsBadLine s.limit (bytes ++ piece) (record { line = s.count + 2; kind = Line })
  bad_long v begun piece long unended = bad v begun piece _ (judged_long piece long unended) (long_is_no_record v _ (long_length piece long))

  -- a good line past the limit
  pub past_limit : (v : Version) → s.version ≡ Some v → (piece : List ℕ) (k : ℕ) (r : Record) → k < length piece → get_or piece k 0 ≡ newline → s.rest ++ take k piece ≡ spell r → Fits v r → s.count ≡ s.limit
      → IsBadLine s.limit (bytes ++ piece) (record { line = s.count + 2; kind = TooMany })
  past_limit v begun piece k r lt nl spelled fits full =
      let P : ℕ → Type 0 = λ n. IsBadLine s.limit (bytes ++ piece) (record { line = n + 2; kind = TooMany }) in
      let e : s.rest ++ piece ≡ line r ++ drop (k + 1) piece =
      ap (λ x. s.rest ++ x) (split-ended piece k lt nl) ∙ sym (append_assoc s.rest (ended (take k piece)) _) ∙ ap (λ x. x ++ drop (k + 1) piece) (sym (append_assoc s.rest (take k piece) (newline ∷ [])) ∙ ap ended spelled) in
      subst P (sym h.count_is) (too_many v w r (drop (k + 1) piece) (all_fit v begun) (omega (arith, h.count_is)) fits (with_piece v begun piece ∙ ap (λ x. text v w ++ x) e))

  pub header_at_end : s.version ≡ None → (piece : List ℕ) (k : ℕ) → k < length piece → get_or piece k 0 ≡ newline → IsUnended (take k piece) → IsNoHeader (s.rest ++ take k piece)
      → IsBadLine s.limit (bytes ++ piece) (record { line = 1; kind = Header })
  header_at_end first piece k lt nl unended other =
      let P : List ℕ → Type 0 = λ x. IsBadLine s.limit (x ++ piece) (record { line = 1; kind = Header }) in
      subst P (sym ((first_so_far first).1)) (bad_header _ (judged_end piece k lt nl unended) other)

  pub header_long : s.version ≡ None → (piece : List ℕ) → 27 ≤ length s.rest + length piece → IsUnended (take (27 - length s.rest) piece)
      → IsBadLine s.limit (bytes ++ piece) (record { line = 1; kind = Header })
  header_long first piece long unended =
      let P : List ℕ → Type 0 = λ x. IsBadLine s.limit (x ++ piece) (record { line = 1; kind = Header }) in
      subst P (sym ((first_so_far first).1)) (bad_header _ (judged_long piece long unended) (long_is_no_header _ (long_length piece long)))

  pub truncated_header : s.version ≡ None → IsTruncated s.limit bytes (record { line = 1; kind = Truncated })
  truncated_header first = no_header (subst IsOpen (sym ((first_so_far first).1)) h.unfinished)

  pub truncated_line : (v : Version) → s.version ≡ Some v → s.rest ≢ [] → IsTruncated s.limit bytes (record { line = s.count + 2; kind = Truncated })
  truncated_line v begun some =
      let P : ℕ → Type 0 = λ n. IsTruncated s.limit bytes (record { line = n + 2; kind = Truncated }) in
      subst P (sym h.count_is) (no_line_end v w s.rest (all_fit v begun) h.within (so_far v begun) h.unfinished some)
