-- Where the directives of a text stand.
use Rattle.std.proofs.Common.{◌≡◌, ℕ, zero, suc, ◌+◌, ◌-◌, ◌≤◌, Bool, true, false, List, [], ◌∷◌, ◌++◌, length, map, take, drop}
use Rattle.std.proofs.Common.{Option, Some, None, refl, sym, ap, ◌∙◌, arith, Ok, inl, inr, slice_get, Bor, length-append, append_assoc}
use Rattle.std.specs.Option.{option_map}
use Rattle.std.specs.List.{PartBy}
use Rattle.std.proofs.lemmas.List.{take_at, drop_at}
use Rattle.sf_format.specs.Language.{Language, Scan}
use Rattle.sf_format.specs.declared.grammar.Before.{Before}
use Rattle.sf_format.specs.declared.groups.Role.{Role}
use Rattle.sf_format.specs.Groups.{role_of}
use Rattle.sf_format.specs.Passing.{is_marking}
use Rattle.sf_format.specs.declared.spans.Span.{Span}
use Rattle.sf_format.specs.Pieces.{Piece, is_mark, piece_text, text_of, text_at, unmarked}
use Rattle.sf_format.specs.Cut.{part_at}
use Rattle.sf_format.specs.Spans.{AreSpans, span_at, spans_of}
use Rattle.sf_format.proofs.Walks.{Passing, PassesFirst, passing_more, text_push}
use Rattle.sf_format.specs.declared.directive.Profile.{Profile}
use Rattle.sf_format.specs.declared.fault.FormatFault.{FormatFault}
use Rattle.sf_format.specs.Grammar.{IsFormat}
use Rattle.sf_format.specs.Faults.{no_memory}
use Rattle.sf_format.specs.Passing.{IsHindered}
use Rattle.sf_format.specs.Reading.{read}
use Rattle.sf_format.proofs.Groupings.{mark_role}
use Rattle.sf_format.proofs.WholeTexts.{format_read}

-- ---- one more part

pub spans_push : (p : ℕ) (done : List Piece) (piece : Piece) (from to : ℕ) → is_mark piece ≡ false → from ≡ p + length (text_of done)
    → to ≡ from + length (piece_text piece)
    → spans_of p (done ++ piece ∷ []) ≡ spans_of p done ++ record { start = from; end = to } ∷ []
spans_push p [] piece from to one begins ends =
    let same : from ≡ p = omega (arith, begins) in
    rw (one, ends, same) refl
spans_push p (first ∷ done) piece from to one begins ends =
    by_mark (is_mark first) refl
    (spans_push (p + length (piece_text first)) done piece from to one
    (omega (arith, begins, length-append (piece_text first) (text_of done))) ends)
  where
    by_mark : (v : Bool) → is_mark first ≡ v → spans_of (p + length (piece_text first)) (done ++ piece ∷ [])
        ≡ spans_of (p + length (piece_text first)) done ++ record { start = from; end = to } ∷ []
        → spans_of p (first ∷ (done ++ piece ∷ [])) ≡ spans_of p (first ∷ done) ++ record { start = from; end = to } ∷ []
    by_mark true e later = rw e later
    by_mark false e later = rw e (ap (λ spans. record { start = p; end = p + length (piece_text first) } ∷ spans) later)

-- the mark of a group has none
pub spans_over : (p : ℕ) (done : List Piece) (piece : Piece) → is_mark piece ≡ true → spans_of p (done ++ piece ∷ []) ≡ spans_of p done
spans_over p [] piece mark = rw mark refl
spans_over p (first ∷ done) piece mark =
    by_mark (is_mark first) refl (spans_over (p + length (piece_text first)) done piece mark)
  where
    by_mark : (v : Bool) → is_mark first ≡ v
        → spans_of (p + length (piece_text first)) (done ++ piece ∷ []) ≡ spans_of (p + length (piece_text first)) done
        → spans_of p (first ∷ (done ++ piece ∷ [])) ≡ spans_of p (first ∷ done)
    by_mark true e later = rw e later
    by_mark false e later = rw e (ap (λ spans. record { start = p; end = p + length (piece_text first) } ∷ spans) later)

-- ---- the walk

pub record Spanning (language : Language) (text : List ℕ) (at : ℕ) (rest : List ℕ) (before : Before) (spans : List Span) : Type 0 where
  pub passing : Passing language text at rest before
  pub are : spans ≡ spans_of 0 passing.done

pub spanning_more : {language : Language} {text : List ℕ} {at : ℕ} {rest after : List ℕ} {before new : Before} {spans : List Span}
    {mark : Bool} {role : Role}
    → (h : Spanning language text at rest before spans) → PassesFirst h.passing after new
    → role ≡ role_of (part_at language rest).piece → mark ≡ is_marking role → mark ≡ false
    → Spanning language text (length text - length after) after new (spans ++ record { start = at; end = length text - length after } ∷ [])
spanning_more {language} {text} {at} {rest} {after} h passes same marks one =
    let next = passing_more passes in
    let piece = (part_at language rest).piece in
    let none : is_mark piece ≡ false = sym (mark_role piece) ∙ ap is_marking (sym same) ∙ sym marks ∙ one in
    record {
      passing = next;
      are = rw h.are (sym (spans_push 0 h.passing.done piece at (length text - length after) none (omega (arith, h.passing.place))
          (omega (arith, h.passing.place, next.place, text_push h.passing.done piece))));
    }

-- over the mark of a group
pub spanning_over : {language : Language} {text : List ℕ} {at : ℕ} {rest after : List ℕ} {before new : Before} {spans : List Span}
    {mark : Bool} {role : Role}
    → (h : Spanning language text at rest before spans) → PassesFirst h.passing after new
    → role ≡ role_of (part_at language rest).piece → mark ≡ is_marking role → mark ≡ true
    → Spanning language text (length text - length after) after new spans
spanning_over {language} {text} {at} {rest} {after} h passes same marks one =
    let piece = (part_at language rest).piece in
    let mark : is_mark piece ≡ true = sym (mark_role piece) ∙ ap is_marking (sym same) ∙ sym marks ∙ one in
    record { passing = passing_more passes; are = h.are ∙ sym (spans_over 0 h.passing.done piece mark) }

-- ---- the text of a part

-- the span of a directive is where its text stands
abbrev Stands : ℕ → List ℕ → List ℕ → List Piece → Span → Type 0
Stands n before whole pieces span =
    (span.start ≤ span.end) × (span.end ≤ length (before ++ whole))
    × (Some (take (span.end - span.start) (drop span.start (before ++ whole))) ≡ slice_get (map piece_text (unmarked pieces)) n)

pub text_spanned : (n p : ℕ) (pieces : List Piece) (before : List ℕ) (span : Span) → length before ≡ p
    → slice_get (spans_of p pieces) n ≡ Some span → Stands n before (text_of pieces) pieces span
text_spanned n p [] before span begins e = absurd (cc)
text_spanned n p (piece ∷ pieces) before span begins e =
    by_mark (is_mark piece) refl n e
    (λ m f.
    rw (← append_assoc before (piece_text piece) (text_of pieces))
    (text_spanned m (p + length (piece_text piece)) pieces (before ++ piece_text piece) span
    (omega (arith, length-append before (piece_text piece), begins)) f))
  where
    first : (e : span ≡ record { start = p; end = p + length (piece_text piece) }) → is_mark piece ≡ false
        → Stands 0 before (piece_text piece ++ text_of pieces) (piece ∷ pieces) span
    first e none =
        let text = piece_text piece in
        let start : span.start ≡ p = ap (λ (s : Span). s.start) e in
        let end : span.end ≡ p + length text = ap (λ (s : Span). s.end) e in
        let whole = length-append before (text ++ text_of pieces) in
        let rest = length-append text (text_of pieces) in (
          omega (arith, start, end),
          omega (arith, end, begins, whole, rest),
          rw (end, start, none) (
              ap Some (ap (take (p + length text - p)) (drop_at before (text ++ text_of pieces) p begins)
              ∙ take_at text (text_of pieces) (p + length text - p) (omega arith))
              ),
        )

    by_mark : (v : Bool) → is_mark piece ≡ v → (n : ℕ) → slice_get (spans_of p (piece ∷ pieces)) n ≡ Some span
        → ((m : ℕ) → slice_get (spans_of (p + length (piece_text piece)) pieces) m ≡ Some span
        → Stands m before (piece_text piece ++ text_of pieces) pieces span)
        → Stands n before (piece_text piece ++ text_of pieces) (piece ∷ pieces) span
    by_mark true mark n e later = rw mark (later n (rw mark at e))
    by_mark false mark zero e later = let f = rw mark at e in first (cc) mark
    by_mark false mark (suc n) e later = rw mark (later n (rw mark at e))

pub no_span : (n p : ℕ) (pieces : List Piece) → slice_get (spans_of p pieces) n ≡ None
    → slice_get (map piece_text (unmarked pieces)) n ≡ None
no_span n p [] e = refl
no_span n p (piece ∷ pieces) e = by_mark (is_mark piece) refl n e (λ m f. no_span m (p + length (piece_text piece)) pieces f)
  where
    by_mark : (v : Bool) → is_mark piece ≡ v → (n : ℕ) → slice_get (spans_of p (piece ∷ pieces)) n ≡ None
        → ((m : ℕ) → slice_get (spans_of (p + length (piece_text piece)) pieces) m ≡ None
        → slice_get (map piece_text (unmarked pieces)) m ≡ None)
        → slice_get (map piece_text (unmarked (piece ∷ pieces))) n ≡ None
    by_mark true mark n e later = rw mark (later n (rw mark at e))
    by_mark false mark zero e later = let f = rw mark at e in absurd (cc)
    by_mark false mark (suc n) e later = rw mark (later n (rw mark at e))

pub text_at_none : (number : ℕ) (pieces : List Piece) (spans : List Span) → spans ≡ spans_of 0 pieces → span_at number spans ≡ None
    → text_at number pieces ≡ None
text_at_none zero pieces spans are none = refl
text_at_none (suc n) pieces spans are none = no_span n 0 pieces (ap (λ x. slice_get x n) (sym are) ∙ none)

pub text_at_span : (number : ℕ) (pieces : List Piece) (spans : List Span) (text : List ℕ) (span : Span) (found : Option (Bor (List ℕ)))
    → spans ≡ spans_of 0 pieces → text ≡ text_of pieces → span_at number spans ≡ Some span
    → PartBy (λ (x : Bor (List ℕ)). x.now) text span.start span.end found
    → option_map (λ (t : Bor (List ℕ)). t.now) found ≡ text_at number pieces
text_at_span zero pieces spans text span found are is some part = absurd (cc)
text_at_span (suc n) pieces spans text span None are is some part =
    let stands = text_spanned n 0 pieces [] span refl (ap (λ x. slice_get x n) (sym are) ∙ some) in
    let within : span.end ≤ length text = rw is stands.1 in
    absurd (let is_some = part.1 (stands.0, within) in cc)
text_at_span (suc n) pieces spans text span (Some found) are is some part =
    let stands = text_spanned n 0 pieces [] span refl (ap (λ x. slice_get x n) (sym are) ∙ some) in
    ap Some part.0.2 ∙ (rw is stands.2)

-- ---- the parts of a format

read_is : {profile : Profile} (text : List ℕ) (pieces : List Piece) → IsFormat (Scan profile) pieces → text ≡ text_of pieces
    → read (length text) (Scan profile) [] text ≡ Ok pieces
read_is {profile} text pieces is e = rw e (format_read (Scan profile) pieces is)

pub spanned : {profile : Profile} (text : List ℕ) (pieces : List Piece) (spans : List Span) → IsFormat (Scan profile) pieces
    → text ≡ text_of pieces → AreSpans (Scan profile) text spans → spans ≡ spans_of 0 pieces
spanned text pieces spans is e h =
    let same : h.0 ≡ pieces = let both = sym h.1 ∙ read_is text pieces is e in cc in
    h.2 ∙ ap (spans_of 0) same

pub hindered_only : {profile : Profile} (text : List ℕ) (pieces : List Piece) (fault : FormatFault) → IsFormat (Scan profile) pieces
    → text ≡ text_of pieces → IsHindered (Scan profile) text fault → fault ≡ no_memory
hindered_only text pieces fault is e (inl h) = let both = sym h ∙ read_is text pieces is e in absurd (cc)
hindered_only text pieces fault is e (inr none) = none
