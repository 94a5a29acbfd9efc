-- An integer's item runs on into a byte of the stop set, after the text of 0 or of 1.
use Rattle.std.proofs.Common.{◌≡◌, ℕ, zero, suc, ◌+◌, ◌<◌, ◌≤◌, ◌⊎◌, inl, inr, Bool, true, false, eqb, ◌&&◌, nat_le, nat_lt, List, [], ◌∷◌}
use Rattle.std.proofs.Common.{◌++◌, length, slice_index, ℤ, pos, Option, Some, None, is_some, refl, sym, ap, ap₂, ◌∙◌, arith}
use Rattle.std.proofs.Common.{length-append}
use Rattle.std.proofs.lemmas.List.{length-replicate}
use Rattle.std.proofs.lemmas.Bool.Decides.{nat_tests}
use Rattle.std.specs.Char.{is_digit}
use Rattle.sf_base.specs.Data.{Datum, Number}
use Rattle.sf_base.specs.declared.values.Kind.{Kind}
use Rattle.sf_base.specs.declared.values.Kind.TheVariants as kind
use Rattle.sf_format.specs.declared.directive.Base.{Base}
use Rattle.sf_format.specs.declared.directive.Numeral.{Numeral}
use Rattle.sf_format.specs.declared.directive.Base.TheVariants.{Auto, AutoBin}
use Rattle.sf_format.specs.declared.directive.Shape.{Shape}
use Rattle.sf_format.specs.declared.directive.Shape.TheVariants as shape
use Rattle.sf_format.specs.declared.directive.Conversion.{Conversion}
use Rattle.sf_format.specs.declared.directive.Directive.TheVariants as directive
use Rattle.sf_format.specs.declared.unit.PrintConv.{PrintConv}
use Rattle.sf_format.specs.declared.unit.PrintLetter.{PrintLetter}
use Rattle.sf_format.specs.declared.unit.PrintLetter.TheVariants as letter
use Rattle.sf_format.specs.Units.{IsProperConv, prints_kind}
use Rattle.sf_format.specs.Proper.{IsProper, HasItsWidth}
use Rattle.sf_item.specs.Radices.{first_radix}
use Rattle.sf_item.specs.Progress.{Progress, Start, Zero, integer_of, advance}
use Rattle.sf_item.specs.Tests.{read, is_within, shape_begins, can_take}
use Rattle.sf_print.specs.texts.Text.{zeros, base_mark, is_octal, least_digits, pads_with_zeros}
use Rattle.sf_print.specs.texts.Visible.{without_blanks, visible, least}
use Rattle.sf_base.specs.Kinds.{bounds_of}
use Rattle.sf_pair.specs.conversions.Below.{LawsBelow}
use Rattle.sf_pair.specs.conversions.Neighbours.{prefix_letters, is_auto_base, stop_set}
use Rattle.sf_pair.specs.Groups.{is_number, is_chars, is_auto, bases_pair, signs_pair, letters_pair, width_of, least_by, always_full}
use Rattle.sf_pair.specs.Fits.{IsOfKind, ItemFits}
use Rattle.sf_pair.specs.Laws.{TakesInto}
use Rattle.sf_pair.proofs.ConversionLemmas.Parts.{bare_sign, zero_digit, one_digit}
use Rattle.sf_pair.proofs.ConversionLemmas.Bodies.{without_some, Body}
use Rattle.sf_pair.proofs.Numbers.{NumberRead, lone_zero_read, mark_of_zero, none_marked}
use Rattle.sf_pair.proofs.Paired.{and_so, and_both, full_by, Pairs, item_value, width_is}
use Rattle.sf_pair.proofs.Back.{ReadsBack}
use Rattle.sf_pair.proofs.ReadBack.{reads_back, some_digits, body_is, leads_is, number_is, auto_bare}
use Rattle.sf_pair.proofs.RunsOn.{takes_too}
use Rattle.sf_pair.proofs.GoesOn.{stops_so, same_radix, zero_goes, digits_go, end_goes}

-- ---- kinds

small_of_kind : (k : Kind) → (bounds_of k ≡ None → ⊥) → IsOfKind k (pos 0) × IsOfKind k (pos 1)
small_of_kind kind.I8 n = (refl, refl)
small_of_kind kind.I16 n = (refl, refl)
small_of_kind kind.I32 n = (refl, refl)
small_of_kind kind.I64 n = (refl, refl)
small_of_kind kind.U8 n = (refl, refl)
small_of_kind kind.U16 n = (refl, refl)
small_of_kind kind.U32 n = (refl, refl)
small_of_kind kind.U64 n = (refl, refl)
small_of_kind kind.Text n = absurd (n refl)
small_of_kind kind.F32 n = absurd (n refl)
small_of_kind kind.F64 n = absurd (n refl)

no_text : (l : PrintLetter) (numeral : Numeral) → letters_pair l (shape.Int numeral) ≡ true → prints_kind l kind.Text ≡ true → ⊥
no_text letter.Text numeral e h = cc
no_text letter.One numeral e h = cc
no_text _ numeral e h = cc

no_short : (l : PrintLetter) → prints_kind l kind.F32 ≡ true → ⊥
no_short letter.Text h = cc
no_short _ h = cc

no_long : (l : PrintLetter) (numeral : Numeral) → letters_pair l (shape.Int numeral) ≡ true → prints_kind l kind.F64 ≡ true → ⊥
no_long letter.Text numeral e h = cc
no_long (letter.Float style upper) numeral e h = cc
no_long _ numeral e h = cc

-- the kind of an integer's letter has numbers
has_numbers : (l : PrintLetter) (numeral : Numeral) (k : Kind) → letters_pair l (shape.Int numeral) ≡ true → prints_kind l k ≡ true
    → bounds_of k ≡ None → ⊥
has_numbers l numeral kind.Text e h none = no_text l numeral e h
has_numbers l numeral kind.F32 e h none = no_short l h
has_numbers l numeral kind.F64 e h none = no_long l numeral e h
has_numbers l numeral kind.I8 e h none = absurd cc
has_numbers l numeral kind.I16 e h none = absurd cc
has_numbers l numeral kind.I32 e h none = absurd cc
has_numbers l numeral kind.I64 e h none = absurd cc
has_numbers l numeral kind.U8 e h none = absurd cc
has_numbers l numeral kind.U16 e h none = absurd cc
has_numbers l numeral kind.U32 e h none = absurd cc
has_numbers l numeral kind.U64 e h none = absurd cc

-- `i` reads what `d` and `i` print
auto_signed : (l : PrintLetter) (numeral : Numeral) → is_auto (shape.Int numeral) ≡ true → letters_pair l (shape.Int numeral) ≡ true
    → l ≡ letter.Signed
auto_signed l numeral a e = by l numeral.base a (and_both (bases_pair l numeral.base) (signs_pair l numeral.lead) e).0
  where
    by : (l : PrintLetter) (base : Base) → is_auto_base base ≡ true → bases_pair l base ≡ true → l ≡ letter.Signed
    by letter.Signed base a e = refl
    by _ Auto a e = absurd cc
    by _ AutoBin a e = absurd cc
    by _ _ a e = absurd cc

-- ---- lengths

at_most : (m n : ℕ) → nat_lt n m ≡ false → m ≤ n
at_most m n e = grind (arith, nat_tests)

room_for : (n w : ℕ) → n < w → nat_le (n + 1) w ≡ true
room_for n w h = grind (arith, nat_tests)

less_than : (m n : ℕ) → m ≤ n → eqb m n ≡ false → m < n
less_than m n h e = grind (arith, nat_tests)

-- ---- what goes on

-- the item is what is seen of the text
item_is : (c : PrintConv) (s : Conversion) (k : Kind) (z : ℤ) (numeral : Numeral) → s.shape ≡ shape.Int numeral
    → (r : ReadsBack c s (Number k z))
    → visible c z ≡ r.item
item_is c s k z numeral e r =
    ap without_blanks r.text_is ∙ without_some r.before r.item (r.ink (ap is_number e))

-- an integer that is shorter than the width goes on where its reading does
integer_goes : LawsBelow → (s : Conversion) (numeral : Numeral) (w : ℕ) (f : List ℕ) (p : Progress) (b : ℕ) → s.shape ≡ shape.Int numeral
    → s.width ≡ Some w → length f < w → read numeral (Some Start) f ≡ Some p → is_some (advance numeral p b) ≡ true
    → can_take s (f ++ b ∷ []) ≡ true
integer_goes laws s numeral w f p b shape_is width short is goes =
    and_so (is_within s.width (length (f ++ b ∷ []))) (shape_begins s.shape s.width (f ++ b ∷ []))
    (ap (λ (o : Option ℕ). is_within o (length (f ++ b ∷ []))) width ∙ ap (λ (k : ℕ). nat_le k w) (length-append f (b ∷ []))
    ∙ room_for (length f) w short)
    (ap (λ (h : Shape). shape_begins h s.width (f ++ b ∷ [])) shape_is
    ∙ ap is_some (laws.parts numeral (Some Start) f (b ∷ []) ∙ ap (λ (o : Option Progress). read numeral o (b ∷ [])) is
    ∙ one_byte (advance numeral p b)) ∙ goes)
  where
    one_byte : (o : Option Progress) → read numeral o [] ≡ o
    one_byte None = refl
    one_byte (Some q) = refl

-- ---- the texts of 0 and of 1

zeros_one : (k b : ℕ) → length (zeros k ++ b ∷ []) ≡ k + 1
zeros_one k b = omega (arith, length-append (zeros k) (b ∷ []), length-replicate {A = ℕ} k 48)

-- zeros and a digit, none of them needless
first_zero : (k : ℕ) → slice_index (zeros k ++ 48 ∷ []) 0 ≡ 48
first_zero zero = refl
first_zero (suc k) = refl

module _ (laws : LawsBelow) (c : PrintConv) where
  zero_body : (o : Body c (pos 0)) → o.body ≡ zeros o.filling ++ 48 ∷ []
  zero_body o = o.body_is ∙ ap (λ (ds : List ℕ). zeros o.filling ++ ds) (zero_digit laws c 0 refl)

  zero_seen : (o : Body c (pos 0)) → visible c (pos 0) ≡ bare_sign c (pos 0) ++ (zeros o.filling ++ 48 ∷ [])
  zero_seen o = o.visible_is ∙ ap₂ (λ (m ds : List ℕ). bare_sign c (pos 0) ++ (m ++ ds)) (mark_of_zero c) (zero_body o)

  unfilled : (o : Body c (pos 0)) → o.filling ≡ 0 → visible c (pos 0) ≡ bare_sign c (pos 0) ++ 48 ∷ []
  unfilled o none = zero_seen o ∙ ap (λ (k : ℕ). bare_sign c (pos 0) ++ (zeros k ++ 48 ∷ [])) none

  -- one byte is 0 and no sign
  lone_unfilled : (o : Body c (pos 0)) → length (least c) ≡ 1 → o.filling ≡ 0
  lone_unfilled o one = omega (
    arith,
    one,
    ap length (zero_seen o),
    length-append (bare_sign c (pos 0)) (zeros o.filling ++ 48 ∷ []),
    zeros_one o.filling 48,
  )

  zero_unfilled : (o : Body c (pos 0)) → least_digits c ≡ 1 → pads_with_zeros c ≡ false → is_octal c.letter ≡ false → o.filling ≡ 0
  zero_unfilled o one pads octal =
      let e = zero_body o in
      let short = o.bare one pads octal (ap (λ (xs : List ℕ). slice_index xs 0) e ∙ first_zero o.filling) in
      omega (arith, short, ap length e, zeros_one o.filling 48)

  one_body : (o : Body c (pos 1)) → o.body ≡ zeros o.filling ++ 49 ∷ []
  one_body o = o.body_is ∙ ap (λ (ds : List ℕ). zeros o.filling ++ ds) (one_digit laws c)

  one_unfilled : (o : Body c (pos 1)) → least_digits c ≡ 1 → pads_with_zeros c ≡ false → is_octal c.letter ≡ false → o.filling ≡ 0
  one_unfilled o one pads octal = by o.filling refl
    where
      by : (k : ℕ) → o.filling ≡ k → k ≡ 0
      by zero e = refl
      by (suc k) e =
          let f : o.body ≡ zeros (suc k) ++ 49 ∷ [] = one_body o ∙ ap (λ (k : ℕ). zeros k ++ 49 ∷ []) e in
          let short = o.bare one pads octal (ap (λ (xs : List ℕ). slice_index xs 0) f) in
          absurd (omega (arith, short, ap length f, zeros_one (suc k) 49))

  -- where no zeros are asked for, 1 is as wide as 0
  one_as_wide : (o : Body c (pos 0)) (i : Body c (pos 1)) → least_digits c ≡ 1 → pads_with_zeros c ≡ false → is_octal c.letter ≡ false
      → base_mark c.letter ≡ [] → length (visible c (pos 1)) ≡ length (least c)
  one_as_wide o i one pads octal unmarked =
      ap length (i.visible_is ∙ ap₂ (λ (m ds : List ℕ). bare_sign c (pos 1) ++ (m ++ ds)) (none_marked c (pos 1) i unmarked)
      (one_body i ∙ ap (λ (k : ℕ). zeros k ++ 49 ∷ []) (one_unfilled i one pads octal)))
      ∙ same ∙ sym (ap length (unfilled o (zero_unfilled o one pads octal)))
    where
      same : length (bare_sign c (pos 0) ++ 49 ∷ []) ≡ length (bare_sign c (pos 0) ++ 48 ∷ [])
      same = omega (arith, length-append (bare_sign c (pos 0)) (49 ∷ []), length-append (bare_sign c (pos 0)) (48 ∷ []))

-- ---- a byte of the stop set

one_is_no_zero : (p : Progress) (s : Bool) → p ≡ Zero s → integer_of p ≡ Some (false, 1) → ⊥
one_is_no_zero p s e value =
    let wrong : Some (s, 0) ≡ Some (false, 1) = sym (ap integer_of e) ∙ value in
    let same : (0 ≡ 1) = ap (λ (o : Option (Bool × ℕ)). magnitude_of o) wrong in
    omega (arith, same)
  where
    magnitude_of : Option (Bool × ℕ) → ℕ
    magnitude_of None = 0
    magnitude_of (Some (s, m)) = m

module _ (laws : LawsBelow) (c : PrintConv) (s : Conversion) (numeral : Numeral) (is_int : s.shape ≡ shape.Int numeral)
    (proper : IsProperConv c)
    (scan : IsProper (directive.Conv s)) (sized : HasItsWidth s.shape s.width)
    (p : Pairs c s) (assigned : is_some s.slot ≡ true) (not_full : always_full c s ≡ false) (b : ℕ) where
  letters : letters_pair c.letter (shape.Int numeral) ≡ true
  letters = ap (letters_pair c.letter) (sym is_int) ∙ p.alike.letters

  of_kind : IsOfKind c.kind (pos 0) × IsOfKind c.kind (pos 1)
  of_kind = small_of_kind c.kind (has_numbers c.letter numeral c.kind letters proper.kind)

  wide : length (least c) ≤ width_of s
  wide = at_most (length (least c)) (width_of s)
      (sym (ap (λ (h : Shape). is_number h && nat_lt (width_of s) (length (least_by h c))) is_int) ∙ p.wide)

  short : length (least c) < width_of s
  short = less_than (length (least c)) (width_of s) wide (sym (ap (full_by c s) is_int) ∙ not_full)

  takes_into : (z : ℤ) → IsOfKind c.kind z → length (visible c z) ≡ length (least c) → (n : NumberRead numeral c z)
      → is_some (advance numeral n.progress b) ≡ true → TakesInto c s b
  takes_into z of_kind same n goes =
      let fits : ItemFits c s (Number c.kind z) = (refl, of_kind, omega (arith, same, wide)) in
      let r : ReadsBack c s (Number c.kind z) = reads_back laws c s (Number c.kind z) proper scan.1 sized p assigned fits in
      let t = r.takes [] (inr tt) in
      let width : s.width ≡ Some (width_of s) = width_is s (ap is_chars is_int) p.width in
      let more : can_take s (r.item ++ b ∷ []) ≡ true = ap (λ (f : List ℕ). can_take s (f ++ b ∷ []))
      (sym (item_is c s c.kind z numeral is_int r))
      ∙ integer_goes laws s numeral (width_of s) (visible c z) n.progress b is_int width (omega (arith, same, short)) n.is goes in
      let v : Datum = Number c.kind z in
      (v, item_value c s v p.item fits, takes_too laws c s v scan p.item r t.item b more)

  read_of : (z : ℤ) → IsOfKind c.kind z → NumberRead numeral c z
  read_of z of_kind = number_is laws c s proper p assigned numeral is_int z of_kind

  body_of : (z : ℤ) → IsOfKind c.kind z → Body c z
  body_of z of_kind = body_is laws c s proper p assigned numeral is_int z of_kind

  -- no zeros are asked for where `i` reads, and no mark is printed
  pub record Bare : Type 0 where
    pub one : least_digits c ≡ 1
    pub pads : pads_with_zeros c ≡ false
    pub octal : is_octal c.letter ≡ false
    pub unmarked : base_mark c.letter ≡ []

  bare : is_auto (shape.Int numeral) ≡ true → Bare
  bare auto =
      let signed = auto_signed c.letter numeral auto letters in
      let none = auto_bare laws c s proper p assigned numeral is_int (some_digits laws c s proper p assigned numeral is_int) auto in
      record { one = none.0; pads = none.1; octal = ap is_octal signed; unmarked = ap base_mark signed }

  -- after the text of 0, where a 0 doesn't change the radix, and else after that of 1
  digit_into : is_digit b (first_radix numeral) ≡ true → TakesInto c s b
  digit_into digit = by (is_auto (shape.Int numeral)) refl
    where
      by : (t : Bool) → is_auto (shape.Int numeral) ≡ t → TakesInto c s b
      by false e = let n = read_of (pos 0) of_kind.0 in takes_into (pos 0) of_kind.0 refl n
          (end_goes numeral false n.progress n.end (same_radix numeral e) b digit)
      by true e =
          let k = bare e in
          let n = read_of (pos 1) of_kind.1 in
          takes_into (pos 1) of_kind.1 (one_as_wide laws c (body_of (pos 0) of_kind.0)
          (body_of (pos 1) of_kind.1) k.one k.pads k.octal k.unmarked) n (elim n.end [
            | inl lone ↦ absurd (one_is_no_zero n.progress false lone n.value)
            | inr digits ↦ digits_go numeral false digits.0 n.progress digits.1 b digit
          ])

  -- the letter of a prefix, after a lone 0
  letter_into : prefix_letters numeral b ≡ true → (is_auto (shape.Int numeral) ≡ true) ⊎ (length (least c) ≡ 1) → TakesInto c s b
  letter_into letter lone =
      let o = body_of (pos 0) of_kind.0 in
      let none : o.filling ≡ 0 = elim lone [
        | inl auto ↦ (let k = bare auto in zero_unfilled laws c o k.one k.pads k.octal)
        | inr one ↦
            lone_unfilled laws c o one
      ] in
      let n = read_of (pos 0) of_kind.0 in
      let at : n.progress ≡ Zero false = (let e : Some n.progress ≡ Some (Zero false) =
      sym n.is ∙ lone_zero_read numeral c (pos 0) (visible c (pos 0))
      (leads_is laws c s proper p assigned numeral is_int (pos 0) of_kind.0) (unfilled laws c o none) in cc) in
      takes_into (pos 0) of_kind.0 refl n (ap (λ (q : Progress). is_some (advance numeral q b)) at ∙ zero_goes numeral false b (inl letter))

  pub integer_into : stop_set (shape.Int numeral) c b ≡ true → TakesInto c s b
  integer_into stops = elim (stops_so numeral c b stops) [ inl digit ↦ digit_into digit | inr letter ↦ letter_into letter.0 letter.1 ]
