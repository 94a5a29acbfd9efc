-- What a reading says of the text of a column.
use Rattle.std.proofs.Common.{◌≡◌, ◌∙◌, ℕ, suc, Bool, true, false, ◌⊎◌, inl, inr, nat_lt, nat_eq, nat_le, List, [], ◌∷◌, ◌++◌, length}
use Rattle.std.proofs.Common.{Option, Some, None, is_some, unwrap_or, refl, sym, ap, subst, arith, true≢false, append_assoc, append-nil}
use Rattle.std.proofs.lemmas.Bool.Decides.{nat_tests}
use Rattle.std.specs.Prelude.{if◌then◌else◌}
use Rattle.std.specs.List.{list_all}
use Rattle.sf_base.specs.Bytes.{is_white, is_ink}
use Rattle.sf_base.specs.Blanks.{are_white, trimmed_front, trimmed_end, trimmed}
use Rattle.sf_base.specs.Sets.{has_byte}
use Rattle.sf_format.specs.declared.directive.Lead.{Lead}
use Rattle.sf_format.specs.declared.directive.Lead.TheVariants.{Any, Minus, Nothing}
use Rattle.sf_format.specs.declared.directive.Numeral.{Numeral}
use Rattle.sf_format.specs.declared.directive.Shape.{Shape}
use Rattle.sf_format.specs.declared.directive.Shape.TheVariants.{Int, Text, Set, Chars, Float, Count}
use Rattle.sf_format.specs.declared.directive.Conversion.{Conversion}
use Rattle.sf_format.specs.Leads.{is_strict}
use Rattle.sf_float_read.specs.declared.item.reached.Reached as floating
use Rattle.sf_float_read.specs.declared.item.scan.FloatScan.{FloatScan}
use Rattle.sf_float_read.specs.item.Tests as floats
use Rattle.sf_item.specs.declared.column.Place.{Place}
use Rattle.sf_item.specs.declared.column.Place.TheVariants as place
use Rattle.sf_item.specs.declared.item.ItemEnd.{ItemEnd}
use Rattle.sf_item.specs.declared.item.ItemEnd.TheVariants.{Empty, Unmatched, Matched, Integer}
use Rattle.sf_item.specs.declared.reached.Reached.{Reached}
use Rattle.sf_item.specs.declared.reading.Reading.{Reading}
use Rattle.sf_item.specs.declared.reading.Reading.TheVariants as reading
use Rattle.sf_item.specs.Matching.{forms_of}
use Rattle.sf_item.specs.Progress.{Progress, Start, integer_of}
use Rattle.sf_item.specs.Scan.{Shows, shape_of, HasRead, ReadsNext}
use Rattle.sf_item.specs.Taking.{IsInt, EndsAt}
use Rattle.sf_item.specs.Tests.{read, integer_in, integer_at, shape_matches, shape_begins}
use Rattle.sf_item.specs.ColumnTests.{column_text, shape_fills, fills, ColumnEnds}
use Rattle.sf_item.specs.ColumnScans.{column_shape, is_blank_place, IsAt, HasReached, IsAfterByte, TextEnds}
use Rattle.sf_item.proofs.Blanks.{trimmed_front_more, trimmed_end_white}
use Rattle.sf_item.proofs.ColumnTexts.{white_both, ink_before, ink_behind, one_white, one_ink, text_begins, front_ink, end_after_ink}
use Rattle.sf_item.proofs.ColumnTexts.{end_of_inks, end_all, end_has, text_strict, text_trimmed}
use Rattle.sf_item.proofs.Fronts.{both, left_of, right_of}
use Rattle.sf_item.proofs.Inks.{float_inks, integer_inks}
use Rattle.sf_item.proofs.ItemLaws.{front_begins}

-- ---- what fills, by what is read

-- any bytes, or a matching sequence
abbrev fills_as : Shape → Option ℕ → List ℕ → Bool
fills_as (Int numeral) width t = shape_matches (Int numeral) width t
fills_as (Text lead) width t = shape_matches (Text lead) width t
fills_as (Set members) width t = shape_matches (Set members) width t
fills_as Chars width t = true
fills_as (Float lead) width t = shape_matches (Float lead) width t
fills_as Count width t = false

fills_by_shape : (shape : Shape) (width : Option ℕ) (t : List ℕ) → shape_fills shape width t ≡ fills_as (column_shape shape) width t
fills_by_shape (Int numeral) width t = refl
fills_by_shape (Text Any) width t = refl
fills_by_shape (Text Minus) width t = refl
fills_by_shape (Text Nothing) width t = refl
fills_by_shape (Set members) width t = refl
fills_by_shape Chars width t = refl
fills_by_shape (Float lead) width t = refl
fills_by_shape Count width t = refl

fills_by : (c : Conversion) (shape : Shape) → shape ≡ column_shape c.shape → (t : List ℕ) → fills c t ≡ fills_as shape c.width t
fills_by c shape same t = fills_by_shape c.shape c.width t ∙ ap (λ s. fills_as s c.width t) (sym same)

-- ---- a front that begins no matching sequence

not_true : (v : Bool) → (v ≡ true → ⊥) → v ≡ false
not_true true never = absurd (never refl)
not_true false never = refl

some_integer : (o : Option Progress) → is_some (integer_in o) ≡ true → is_some o ≡ true
some_integer None e = e
some_integer (Some p) e = refl

some_float : (o : Option floating.Reached) → floats.is_whole_at o ≡ true → is_some o ≡ true
some_float None e = e
some_float (Some r) e = refl

same_most : (m n : ℕ) → nat_eq m n ≡ true → nat_le m n ≡ true
same_most m n e = grind (arith, nat_tests)

matching_begins : (shape : Shape) (width : Option ℕ) (t : List ℕ) → shape_matches shape width t ≡ true
    → shape_begins shape width t ≡ true
matching_begins (Int numeral) width t e = some_integer (read numeral (Some Start) t) e
matching_begins (Text lead) width t e = right_of (nat_lt 0 (length t)) (list_all is_ink t) e
matching_begins (Set members) width t e = right_of (nat_lt 0 (length t)) (list_all (has_byte members) t) e
matching_begins Chars width t e = same_most (length t) (unwrap_or width 1) e
matching_begins (Float lead) width t e = some_float (floats.read (Some (floats.start_of (forms_of lead))) t) e
matching_begins Count width t e = e

no_longer_matches : (shape : Shape) (width : Option ℕ) (g z : List ℕ) → shape_begins shape width g ≡ false
    → shape_matches shape width (g ++ z) ≡ false
no_longer_matches shape width g z none =
    not_true (shape_matches shape width (g ++ z))
    (λ e. true≢false (sym (front_begins shape width g z (matching_begins shape width (g ++ z) e)) ∙ none))

itself_most : (n : ℕ) → nat_le n n ≡ true
itself_most n = grind (arith, nat_tests)

never_fills : (shape : Shape) (width : Option ℕ) (g z : List ℕ) → ((w : Option ℕ) → shape_begins shape w g ≡ false)
    → fills_as shape width (g ++ z) ≡ false
never_fills (Int numeral) width g z none = no_longer_matches (Int numeral) width g z (none width)
never_fills (Text lead) width g z none = no_longer_matches (Text lead) width g z (none width)
never_fills (Set members) width g z none = no_longer_matches (Set members) width g z (none width)
never_fills Chars width g z none = absurd (true≢false (sym (itself_most (length g)) ∙ none (Some (length g))))
never_fills (Float lead) width g z none = no_longer_matches (Float lead) width g z (none width)
never_fills Count width g z none = refl

-- ---- texts with no white space inside

abbrev IsTight : Shape → Type 0
IsTight (Set members) = ⊥
IsTight Chars = ⊥
IsTight _ = Unit {0}

strict_tight : (shape : Shape) → is_strict shape ≡ true → IsTight (column_shape shape)
strict_tight (Int numeral) e = tt
strict_tight (Text Any) e = absurd (true≢false (sym e))
strict_tight (Text Minus) e = tt
strict_tight (Text Nothing) e = tt
strict_tight (Set members) e = absurd (true≢false (sym e))
strict_tight Chars e = absurd (true≢false (sym e))
strict_tight (Float lead) e = tt
strict_tight Count e = absurd (true≢false (sym e))

begun_inks : (shape : Shape) (width : Option ℕ) (t : List ℕ) → IsTight shape → shape_begins shape width t ≡ true
    → list_all is_ink t ≡ true
begun_inks (Int numeral) width t tight e = integer_inks numeral t e
begun_inks (Text lead) width t tight e = e
begun_inks (Set members) width t tight e = absurd tight
begun_inks Chars width t tight e = absurd tight
begun_inks (Float lead) width t tight e = float_inks (floats.start_of (forms_of lead)) t e
begun_inks Count width t tight e = absurd (true≢false (sym e))

read_begins : (r : Reading) (t : List ℕ) → HasRead r t → shape_begins (shape_of r) (Some (length t)) t ≡ true
read_begins (reading.Integer numeral reached) t h = ap is_some h.2
read_begins (reading.Text lead) t h = h
read_begins (reading.Set members) t h = h
read_begins reading.Chars t h = itself_most (length t)
read_begins (reading.Float lead scan) t h = ap is_some h

white_no_ink : (b : ℕ) → is_white b ≡ true → list_all is_ink (b ∷ []) ≡ false
white_no_ink b white = rw white refl

no_bytes : (f : List ℕ) → nat_eq (length f) 0 ≡ true → f ≡ []
no_bytes [] e = refl
no_bytes (b ∷ f) e = absurd (some_bytes (length f) e)
  where
    some_bytes : (n : ℕ) → nat_eq (suc n) 0 ≡ true → ⊥
    some_bytes n e = grind (arith, nat_tests)

-- ---- one byte more

module _ (c : Conversion) (r : Reading) (same : shape_of r ≡ column_shape c.shape) where
  -- a text with a front that is not read on to
  refused_fills : (g z : List ℕ) → ReadsNext r None g → fills c (g ++ z) ≡ false
  refused_fills g z none = fills_by c (shape_of r) same (g ++ z) ∙ never_fills (shape_of r) c.width g z none

  tight : is_strict c.shape ≡ true → IsTight (shape_of r)
  tight strict = subst IsTight (sym same) (strict_tight c.shape strict)

  read_inks : (t : List ℕ) → IsTight (shape_of r) → HasRead r t → list_all is_ink t ≡ true
  read_inks t tight h = begun_inks (shape_of r) (Some (length t)) t tight (read_begins r t h)

  white_refused : (b : ℕ) → is_strict c.shape ≡ true → is_white b ≡ true → ReadsNext r None (b ∷ [])
  white_refused b strict white = λ width. not_true (shape_begins (shape_of r) width (b ∷ []))
      (λ e. true≢false (sym (begun_inks (shape_of r) width (b ∷ []) (tight strict) e) ∙ white_no_ink b white))

  -- the bytes f, and b, which comes after the text x
  module _ (f x : List ℕ) (b : ℕ) (text : (z : List ℕ) → trimmed_front (f ++ b ∷ z) ≡ x ++ b ∷ z)
      (whole : is_strict c.shape ≡ true → x ≡ f) (ink : are_white (f ++ b ∷ []) ≡ false) where
    strict_breaks : is_strict c.shape ≡ true → ReadsNext r None (x ++ b ∷ []) → (z : List ℕ)
        → fills c (column_text c ((f ++ b ∷ []) ++ z)) ≡ false
    strict_breaks strict none z =
        ap (fills c) (text_strict c ((f ++ b ∷ []) ++ z) strict)
        ∙ refused_fills (f ++ b ∷ []) z (subst (λ y. ReadsNext r None (y ++ b ∷ [])) (whole strict) none)

    ink_breaks : is_strict c.shape ≡ false → is_white b ≡ false → ReadsNext r None (x ++ b ∷ []) → (z : List ℕ)
        → fills c (column_text c ((f ++ b ∷ []) ++ z)) ≡ false
    ink_breaks loose ink_b none z =
        ap (fills c) (text_trimmed c ((f ++ b ∷ []) ++ z) loose
        ∙ ap trimmed (append_assoc f (b ∷ []) z) ∙ ap trimmed_end (text z) ∙ end_after_ink x b z ink_b
        ∙ sym (append_assoc x (b ∷ []) (trimmed_end z)))
        ∙ refused_fills (x ++ b ∷ []) (trimmed_end z) none

    breaks : ReadsNext r None (x ++ b ∷ []) → (is_white b ≡ false) ⊎ (is_strict c.shape ≡ true) → IsAt c r place.Broken (f ++ b ∷ [])
    breaks none why z = (ink_before (f ++ b ∷ []) z ink, by_case (is_strict c.shape) refl why)
      where
        by_case : (strict : Bool) → is_strict c.shape ≡ strict → (is_white b ≡ false) ⊎ (is_strict c.shape ≡ true)
            → fills c (column_text c ((f ++ b ∷ []) ++ z)) ≡ false
        by_case true e why = strict_breaks e none z
        by_case false e (inl ink_b) = ink_breaks e ink_b none z
        by_case false e (inr strict) = absurd (true≢false (sym strict ∙ e))

    -- the place after b
    pub place_after_text : HasRead r x → (is_white b ≡ true → are_white x ≡ false) → (after : Reading) (at : Place)
        → IsAfterByte (is_strict c.shape) b r after (x ++ b ∷ []) at → HasReached c after at (f ++ b ∷ [])
    place_after_text h some after place.Blank step = absurd step
    place_after_text h some after place.Inside step = (
      step.0 ∙ same,
      (ink, λ strict. text [] ∙ ap (λ y. y ++ b ∷ []) (whole strict), subst (HasRead after) (sym (text [])) step.1),
    )
    place_after_text h some after place.After step =
        subst (λ r'. HasReached c r' place.After (f ++ b ∷ [])) (sym step.0) (
          same,
          (
            ink,
            step.3,
            record {
              text = x;
              blank = b;
              blanks = [];
              whole = text [];
              ink = some step.2;
              white = one_white b step.2;
              read = h;
              refused = step.1;
            },
          ),
        )
    place_after_text h some after place.Broken step =
        subst (λ r'. HasReached c r' place.Broken (f ++ b ∷ [])) (sym step.0) (same, breaks step.1 step.2)

  -- ---- by the place before it

  module _ (f : List ℕ) (b : ℕ) where
    pub stays_blank : IsAt c r place.Blank f → is_white b ≡ true → HasReached c r place.Blank (f ++ b ∷ [])
    stays_blank h white = (same, (white_both f (b ∷ []) h.0 (one_white b white), h.1))

    pub begins_text : IsAt c r place.Blank f → is_white b ≡ false
        → (strict : Bool) → is_strict c.shape ≡ strict → (strict ≡ true → nat_eq (length f) 0 ≡ true)
        → (after : Reading) (at : Place) → IsAfterByte strict b r after (b ∷ []) at → HasReached c after at (f ++ b ∷ [])
    begins_text h ink strict is first after at step =
        place_after_text f [] b (λ z. text_begins f b z h.0 ink) (λ e. sym (no_bytes f (first (sym is ∙ e))))
        (ink_behind f (b ∷ []) (one_ink b [] ink)) h.1 (λ white. absurd (true≢false (sym white ∙ ink))) after at
        (subst (λ v. IsAfterByte v b r after (b ∷ []) at) (sym is) step)

    pub goes_on : IsAt c r place.Inside f → (strict : Bool) → is_strict c.shape ≡ strict → (after : Reading) (at : Place)
        → IsAfterByte strict b r after (trimmed_front f ++ b ∷ []) at → HasReached c after at (f ++ b ∷ [])
    goes_on h strict is after at step =
        place_after_text f (trimmed_front f) b (λ z. trimmed_front_more f (b ∷ z) h.0) h.1 (ink_before f (b ∷ []) h.0) h.2
        (λ _. front_ink f h.0) after at (subst (λ v. IsAfterByte v b r after (trimmed_front f ++ b ∷ []) at) (sym is) step)

    pub still_after : IsAt c r place.After f → is_white b ≡ true → HasReached c r place.After (f ++ b ∷ [])
    still_after h white = (
      same,
      (
        ink_before f (b ∷ []) h.0,
        h.1,
        record {
          text = h.2.text;
          blank = h.2.blank;
          blanks = h.2.blanks ++ b ∷ [];
          whole = trimmed_front_more f (b ∷ []) h.0 ∙ ap (λ y. y ++ b ∷ []) h.2.whole
              ∙ append_assoc h.2.text (h.2.blank ∷ h.2.blanks) (b ∷ []);
          ink = h.2.ink;
          white = white_both (h.2.blank ∷ h.2.blanks) (b ∷ []) h.2.white (one_white b white);
          read = h.2.read;
          refused = h.2.refused;
        },
      ),
    )

    pub breaks_after : IsAt c r place.After f → is_white b ≡ false → HasReached c r place.Broken (f ++ b ∷ [])
    breaks_after h ink = (
      same,
      λ z. (
        ink_before (f ++ b ∷ []) z (ink_before f (b ∷ []) h.0),
        ap (fills c) (text_trimmed c ((f ++ b ∷ []) ++ z) h.1
            ∙ ap trimmed (append_assoc f (b ∷ []) z)
            ∙ ap trimmed_end (trimmed_front_more f (b ∷ z) h.0)
            ∙ end_after_ink (trimmed_front f) b z ink
            ∙ ap (λ y. y ++ b ∷ trimmed_end z) h.2.whole
            ∙ append_assoc h.2.text (h.2.blank ∷ h.2.blanks) (b ∷ trimmed_end z)
            ∙ sym (append_assoc h.2.text (h.2.blank ∷ []) (h.2.blanks ++ b ∷ trimmed_end z)))
            ∙ refused_fills (h.2.text ++ h.2.blank ∷ []) (h.2.blanks ++ b ∷ trimmed_end z) h.2.refused,
      ),
    )

    pub still_broken : IsAt c r place.Broken f → HasReached c r place.Broken (f ++ b ∷ [])
    still_broken h = (
      same,
      λ z. subst (λ y. (are_white y ≡ false) × (fills c (column_text c y) ≡ false))
          (sym (append_assoc f (b ∷ []) z)) (h (b ∷ z)),
    )

  -- with ! white space before the text
  pub breaks_before : (f : List ℕ) (b : ℕ) → IsAt c r place.Blank f → is_white b ≡ false → is_strict c.shape ≡ true
      → nat_eq (length f) 0 ≡ false → HasReached c r place.Broken (f ++ b ∷ [])
  breaks_before [] b h ink strict more = absurd (true≢false more)
  breaks_before (w ∷ f) b h ink strict more = (
    same,
    λ z. (
      ink_before (w ∷ f ++ b ∷ []) z (ink_behind (w ∷ f) (b ∷ []) (one_ink b [] ink)),
      ap (fills c) (text_strict c ((w ∷ f ++ b ∷ []) ++ z) strict)
          ∙ refused_fills (w ∷ []) ((f ++ b ∷ []) ++ z) (white_refused w strict (left_of (is_white w) (are_white f) h.0)),
    ),
  )

-- ---- the place

pub blank_is : (c : Conversion) (r : Reading) (at : Place) (f : List ℕ) → IsAt c r at f → is_blank_place at ≡ are_white f
blank_is c r place.Blank f h = sym h.0
blank_is c r place.Inside f h = sym h.0
blank_is c r place.After f h = sym h.0
blank_is c r place.Broken f h = sym (ap are_white (sym (append-nil f)) ∙ (h []).0)

pub not_blank : (at : Place) → (at ≡ place.Blank → ⊥) → is_blank_place at ≡ false
not_blank place.Blank other = absurd (other refl)
not_blank place.Inside other = refl
not_blank place.After other = refl
not_blank place.Broken other = refl

-- ---- the end

integer_is : (shape : Shape) (numeral : Numeral) → Int numeral ≡ column_shape shape → shape ≡ Int numeral
integer_is (Int n) numeral e = sym e
integer_is (Text Any) numeral e = cc
integer_is (Text Minus) numeral e = cc
integer_is (Text Nothing) numeral e = cc
integer_is (Set members) numeral e = cc
integer_is Chars numeral e = cc
integer_is (Float lead) numeral e = cc
integer_is Count numeral e = cc

module _ (c : Conversion) (t : List ℕ) where
  pub integer_text_ends : (numeral : Numeral) (reached : Reached) (end : ItemEnd) → Int numeral ≡ column_shape c.shape
      → HasRead (reading.Integer numeral reached) t → ((p : Progress) → Shows reached p → EndsAt (integer_of p) end)
      → TextEnds c (trimmed_end t) end
  integer_text_ends numeral reached end same h ends =
      subst (λ s. TextEnds c s end) (sym (end_of_inks t (integer_inks numeral t (ap is_some h.2))))
      (by_case (integer_of h.0) (ap integer_in h.2) (ends h.0 h.1))
    where
      by_case : (o : Option (Bool × ℕ)) → integer_at numeral t ≡ o → EndsAt o end → TextEnds c t end
      by_case None e end_is = subst (TextEnds c t) (sym end_is) (fills_by c (Int numeral) same t ∙ ap is_some e)
      by_case (Some i) e end_is =
          subst (TextEnds c t) (sym end_is.2) (numeral, i.1, integer_is c.shape numeral same, e, end_is.3)

  -- bytes of a text or a set, or any
  abbrev pub IsOfBytes : Reading → Type 0
  IsOfBytes (reading.Text lead) = Unit {0}
  IsOfBytes (reading.Set members) = Unit {0}
  IsOfBytes reading.Chars = Unit {0}
  IsOfBytes _ = ⊥

  bytes_fill : (r : Reading) → IsOfBytes r → HasRead r t → are_white t ≡ false → (width : Option ℕ)
      → fills_as (shape_of r) width (trimmed_end t) ≡ true
  bytes_fill (reading.Integer numeral reached) of h ink width = absurd of
  bytes_fill (reading.Text lead) of h ink width =
      both (nat_lt 0 (length (trimmed_end t))) (list_all is_ink (trimmed_end t)) (end_has t ink) (end_all is_ink t h)
  bytes_fill (reading.Set members) of h ink width =
      both (nat_lt 0 (length (trimmed_end t))) (list_all (has_byte members.now) (trimmed_end t)) (end_has t ink)
      (end_all (has_byte members.now) t h)
  bytes_fill reading.Chars of h ink width = refl
  bytes_fill (reading.Float lead scan) of h ink width = absurd of

  no_integer : (r : Reading) → IsOfBytes r → shape_of r ≡ column_shape c.shape → IsInt c.shape → ⊥
  no_integer r of same int = by_reading r of (same ∙ ap column_shape int.1)
    where
      by_reading : (r : Reading) → IsOfBytes r → shape_of r ≡ Int int.0 → ⊥
      by_reading (reading.Integer numeral reached) of e = of
      by_reading (reading.Text lead) of e = cc
      by_reading (reading.Set members) of e = cc
      by_reading reading.Chars of e = cc
      by_reading (reading.Float lead scan) of e = of

  pub bytes_end : (r : Reading) → IsOfBytes r → shape_of r ≡ column_shape c.shape → HasRead r t → are_white t ≡ false
      → TextEnds c (trimmed_end t) Matched
  bytes_end r of same h ink =
      (fills_by c (shape_of r) same (trimmed_end t) ∙ bytes_fill r of h ink c.width, no_integer r of same)

  pub float_text_ends : (lead : Lead) (scan : FloatScan) → Float lead ≡ column_shape c.shape → HasRead (reading.Float lead scan) t
      → TextEnds c (trimmed_end t) (if floats.is_whole scan.reached then Matched else Unmatched)
  float_text_ends lead scan same h =
      subst (λ s. TextEnds c s (if floats.is_whole scan.reached then Matched else Unmatched))
      (sym (end_of_inks t (float_inks (floats.start_of (forms_of lead)) t (ap is_some h))))
      (by_case (floats.is_whole scan.reached) (fills_by c (Float lead) same t ∙ ap floats.is_whole_at h))
    where
      other : IsInt c.shape → ⊥
      other int = is_none int.0 (same ∙ ap column_shape int.1)
        where
          is_none : (numeral : Numeral) → Float lead ≡ Int numeral → ⊥
          is_none numeral e = cc

      by_case : (whole : Bool) → fills c t ≡ whole → TextEnds c t (if whole then Matched else Unmatched)
      by_case true e = (e, other)
      by_case false e = e

-- what its text is, the column is
column_ends : (c : Conversion) (f t : List ℕ) (end : ItemEnd) → are_white f ≡ false → column_text c f ≡ t → TextEnds c t end
    → ColumnEnds c f end
column_ends c f t Empty ink is h = absurd h
column_ends c f t Unmatched ink is h = (ink, ap (fills c) is ∙ h)
column_ends c f t Matched ink is h = (ink, ap (fills c) is ∙ h.0, h.1)
column_ends c f t (Integer negative magnitude overflowed) ink is h =
    (ink, (h.0, h.1, h.2, ap (integer_at h.0) is ∙ h.3, h.4))

module _ (c : Conversion) (r : Reading) (f : List ℕ) (same : shape_of r ≡ column_shape c.shape) (end : ItemEnd)
    (ends : (t : List ℕ) → HasRead r t → are_white t ≡ false → TextEnds c (trimmed_end t) end) where
  pub inside_ends : IsAt c r place.Inside f → ColumnEnds c f end
  inside_ends h =
      column_ends c f (trimmed_end (trimmed_front f)) end h.0 (by_case (is_strict c.shape) refl)
      (ends (trimmed_front f) h.2 (front_ink f h.0))
    where
      by_case : (strict : Bool) → is_strict c.shape ≡ strict → column_text c f ≡ trimmed f
      by_case true e =
          text_strict c f e ∙ sym (h.1 e)
          ∙ sym (end_of_inks (trimmed_front f) (read_inks c r same (trimmed_front f) (tight c r same e) h.2))
      by_case false e = text_trimmed c f e

  pub after_ends : IsAt c r place.After f → ColumnEnds c f end
  after_ends h =
      column_ends c f (trimmed_end h.2.text) end h.0
      (text_trimmed c f h.1 ∙ ap trimmed_end h.2.whole
      ∙ trimmed_end_white h.2.text (h.2.blank ∷ h.2.blanks) h.2.white)
      (ends h.2.text h.2.read h.2.ink)

pub broken_ends : (c : Conversion) (r : Reading) (f : List ℕ) → IsAt c r place.Broken f → ColumnEnds c f Unmatched
broken_ends c r f h = subst (λ y. (are_white y ≡ false) × (fills c (column_text c y) ≡ false)) (append-nil f) (h [])
