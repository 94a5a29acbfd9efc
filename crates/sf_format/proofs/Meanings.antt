-- What the parts of a format stand for: each one directive, or one unit.
use Rattle.std.proofs.Common.{◌≡◌, ℕ, ◌+◌, List, [], ◌∷◌, length, Option, refl, arith, Some, None, ◌≢◌, ◌<◌, Bool, ◌||◌}
use Rattle.std.proofs.Common.{true, false, map, sym, ◌∙◌, ap, is_some}
use Rattle.std.specs.Prelude.{IsSome}
use Rattle.std.specs.List.{AllByRecursion, range_with_len}
use Rattle.std.specs.Option.{option_map}
use Rattle.sf_format.specs.Language.{Language, Scan, Print}
use Rattle.sf_format.specs.Pieces.{Piece, Opening, WhiteSpace, Ordinary, Percents, Plain, Bracket, GroupStart, GroupEnd, is_mark}
use Rattle.sf_format.specs.Groups.{opened_by}
use Rattle.sf_format.specs.Slots.{Slotted, slot_of}
use Rattle.sf_format.specs.Grammar.{IsMeaning, IsPiece, MeanAll, destinations, IsScanPiece, IsConversion, literal_that, Means}
use Rattle.sf_format.specs.Grammar.{shape_of, width_of}
use Rattle.sf_format.specs.Passing.{slot_at}
use Rattle.sf_format.proofs.Destinations.{slot_there}
use Rattle.std.proofs.lemmas.List.{ext_get_or}
use Rattle.std.proofs.lemmas.List.FromFn.{get_or-map-range_with_len, length-map-range_with_len}
use Rattle.sf_base.specs.declared.values.Kind.{Kind}
use Rattle.sf_format.specs.declared.directive.Profile.{Profile}
use Rattle.sf_format.specs.declared.directive.Shape.{Shape}
use Rattle.sf_format.specs.declared.directive.Shape.TheVariants as shape
use Rattle.sf_format.specs.declared.directive.Conversion.{Conversion}
use Rattle.sf_format.specs.declared.directive.Directive.{Directive}
use Rattle.sf_format.specs.declared.directive.Directive.TheVariants as directive
use Rattle.sf_format.specs.declared.directive.Literal.{Literal}
use Rattle.sf_format.specs.declared.directive.Literal.TheVariants as literal
use Rattle.sf_format.specs.declared.letter.Letter.{Letter}
use Rattle.sf_format.specs.declared.letter.Letter.TheVariants.{Signed, Unsigned, Chars, Text, Set, Count, Float}
use Rattle.sf_format.specs.Leads.{lead_of_signed, lead_of_others}
use Rattle.sf_format.specs.Letters.{letter_of, kind_of}
use Rattle.sf_format.specs.Scanlist.{Scanlist, is_member, IsSetOf}
use Rattle.sf_format.specs.Proper.{destination_of}
use Rattle.sf_format.proofs.Suits.{bracket_is}
use Rattle.sf_format.proofs.Outcomes.{same_byte}
use Rattle.sf_base.specs.Bytes.{magnitude}
use Rattle.sf_format.specs.declared.unit.PrintLetter.{PrintLetter}
use Rattle.sf_format.specs.declared.unit.PrintConv.{PrintConv}
use Rattle.sf_format.specs.declared.unit.Unit.{Unit as PrintUnit}
use Rattle.sf_format.specs.declared.unit.Unit.TheVariants as unit
use Rattle.sf_format.specs.PrintLetters.{print_kind_of}
use Rattle.sf_format.specs.Units.{printed_of}
use Rattle.sf_format.specs.PrintGrammar.{IsPrintPiece, IsPrintConv, Prints, is_set_flag, PrintsApart}

-- each has the part's slot
pub record HasSlots (D : Type 0) (means : Option ℕ → ℕ → Piece → D → Type 0) (slotted : D → Option Slotted) : Type 0 where
  pub slot : (opens : Option ℕ) (place : ℕ) (piece : Piece) (d : D) → means opens place piece d
      → option_map (λ e. e.0) (slotted d) ≡ slot_at place (destinations (piece ∷ []))

pub mean_all_one : {D : Type 0} {language : Language} {means : Option ℕ → ℕ → Piece → D → Type 0} → IsMeaning D language means
    → (first : Bool) (place : ℕ) (pieces : List Piece) (ds es : List D) → MeanAll means first place pieces ds
    → MeanAll means first place pieces es → ds ≡ es
mean_all_one m first place [] [] [] h k = refl
mean_all_one m first place [] [] (e ∷ es) h k = absurd k
mean_all_one m first place (GroupStart ∷ pieces) ds es h k = mean_all_one m true place pieces ds es h k
mean_all_one m first place (GroupEnd ∷ pieces) ds es h k = mean_all_one m false place pieces ds es h k
mean_all_one m first place (piece ∷ pieces) (d ∷ ds) [] h k = absurd k
mean_all_one m first place (piece ∷ pieces) (d ∷ ds) (e ∷ es) h k =
    rw (
      m.one (opened_by first pieces) place piece d e h.0 k.0,
      mean_all_one m false (place + length (destinations (piece ∷ []))) pieces ds es h.1 k.1,
    )
mean_all_one m first place _ _ es h k = absurd h

pub some_meanings : {D : Type 0} {language : Language} {means : Option ℕ → ℕ → Piece → D → Type 0} → IsMeaning D language means
    → (first : Bool) (place : ℕ) (pieces : List Piece) → AllByRecursion (IsPiece language) pieces
    → (ds : List D) × MeanAll means first place pieces ds
some_meanings m first place [] each = ([], tt)
some_meanings m first place (GroupStart ∷ pieces) each = some_meanings m true place pieces each.1
some_meanings m first place (GroupEnd ∷ pieces) each = some_meanings m false place pieces each.1
some_meanings m first place (piece ∷ pieces) each =
    let here = m.some (opened_by first pieces) place piece each.0 refl in
    let later = some_meanings m false (place + length (destinations (piece ∷ []))) pieces each.1 in
    (here.0 ∷ later.0, (here.1, later.1))

-- what holds of what each part stands for
pub mean_each : {D : Type 0} {means : Option ℕ → ℕ → Piece → D → Type 0} {Q : Piece → Type 0} (P : D → Type 0)
    → ((opens : Option ℕ) (place : ℕ) (piece : Piece) (d : D) → Q piece → means opens place piece d → P d)
    → (first : Bool) (place : ℕ) (pieces : List Piece) (ds : List D)
    → AllByRecursion Q pieces → MeanAll means first place pieces ds → AllByRecursion P ds
mean_each P one first place [] [] each h = tt
mean_each P one first place (GroupStart ∷ pieces) ds each h = mean_each P one true place pieces ds each.1 h
mean_each P one first place (GroupEnd ∷ pieces) ds each h = mean_each P one false place pieces ds each.1 h
mean_each P one first place (piece ∷ pieces) (d ∷ ds) each h = (
  one (opened_by first pieces) place piece d each.0 h.0,
  mean_each P one false (place + length (destinations (piece ∷ []))) pieces ds each.1 h.1,
)
mean_each P one first place _ _ each h = absurd h

pub some_of : {A : Type 0} (o : Option A) → IsSome o → (a : A) × (o ≡ Some a)
some_of None h = absurd (cc)
some_of (Some a) h = (a, refl)

-- ---- sets

set_of : Scanlist → List Bool
set_of list = map (is_member list) (range_with_len 0 256)

set_is : (list : Scanlist) → IsSetOf list (set_of list)
unfolding set_of
set_is list = (
  length-map-range_with_len (is_member list) 0 256,
  λ b below. get_or-map-range_with_len (is_member list) 0 256 b b false below (omega arith),
)

set_same : (list : Scanlist) (a b : List Bool) → IsSetOf list a → IsSetOf list b → a ≡ b
set_same list a b h k =
    ext_get_or false a b (h.0 ∙ sym k.0)
    (λ i below. let low : i < 256 = omega (arith, below, h.0) in h.1 i low ∙ sym (k.1 i low))

-- ---- conversions

abbrev made : Shape → Kind → Option ℕ → Option ℕ → Bool → Option ℕ → Bool → Conversion
made s k w n m g t = record { shape = s; kind = k; width = w; slot = n; optional = m; opens = g; column = t }

conversion_same : (opens : Option ℕ) (place : ℕ) (o : Opening) (letter : Letter) (c d : Conversion) → IsConversion opens place o letter c
    → IsConversion opens place o letter d
    → c.shape ≡ d.shape → c ≡ d
conversion_same opens place o letter c d h k same =
    let kinds : c.kind ≡ d.kind = let e = sym h.kind ∙ k.kind in cc in
    let all : made c.shape c.kind c.width c.slot c.optional c.opens c.column
    ≡ made d.shape d.kind d.width d.slot d.optional d.opens d.column =
    rw (same, kinds, h.width, k.width, h.slot, k.slot, h.optional, k.optional, h.opens, k.opens, h.column, k.column) in
    all

means_one : (profile : Profile) (opens : Option ℕ) (place : ℕ) (piece : Piece) (d e : Directive) → Means profile opens place piece d
    → Means profile opens place piece e → d ≡ e
means_one profile opens place (Plain o b) d e h k =
    let same : h.0 ≡ k.0 = let f = sym h.2 ∙ k.2 in cc in
    let shape = rw same at h.4 in
    rw (h.5, k.5, conversion_same opens place o k.0 h.1 k.1 (rw same at h.3) k.3 (grind (arith, shape, k.4)))
means_one profile opens place (Bracket o list) d e h k =
    let sets = set_same list h.1 k.1 h.3 k.3 in
    rw (h.5, k.5, conversion_same opens place o Set h.0 k.0 h.2 k.2 (rw (h.4, k.4, sets)))
means_one profile opens place GroupStart d e h k = absurd h
means_one profile opens place GroupEnd d e h k = absurd h
means_one profile opens place _ d e h k = h ∙ sym k

-- ---- each part means a directive

some_shape : (profile : Profile) (b : ℕ) (letter : Letter) (strict : Bool) → b ≢ 91 → letter_of profile b ≡ Some letter
    → (s : Shape) × shape_of letter strict s
some_shape profile b (Signed base) strict other e = (shape.Int (record { base = base; lead = lead_of_signed strict }), refl)
some_shape profile b (Unsigned base) strict other e = (shape.Int (record { base = base; lead = lead_of_others strict }), refl)
some_shape profile b Chars strict other e = (shape.Chars, refl)
some_shape profile b Text strict other e = (shape.Text (lead_of_others strict), refl)
some_shape profile b Count strict other e = (shape.Count, refl)
some_shape profile b Float strict other e = (shape.Float (lead_of_signed strict), refl)
some_shape profile b Set strict other e = absurd (other (same_byte b 91 (sym (bracket_is profile b Set e))))

some_meaning : (profile : Profile) (opens : Option ℕ) (place : ℕ) (piece : Piece) → IsScanPiece profile piece → is_mark piece ≡ false
    → (d : Directive) × Means profile opens place piece d
some_meaning profile opens place (WhiteSpace bs) is is_one = (directive.Space, refl)
some_meaning profile opens place (Ordinary b) is is_one = (literal_that opens (literal.Byte b), refl)
some_meaning profile opens place Percents is is_one = (literal_that opens literal.Percent, refl)
some_meaning profile opens place (Plain o b) is is_one =
    let letter = is.1.0 in
    let s = some_shape profile b letter o.strict is.0 is.1.1 in
    let k = some_of (kind_of letter o.size) is.1.2.size in
    let c = made s.0 k.0 (width_of letter o.width) (slot_of place o) (o.optional || is_some opens) opens o.column in
    let same : IsConversion opens place o letter c
    = record { kind = k.1; width = refl; slot = refl; optional = refl; opens = refl; column = refl } in
    (directive.Conv c, (letter, c, is.1.1, same, s.1, refl))
some_meaning profile opens place (Bracket o list) is is_one =
    let k = some_of (kind_of Set o.size) is.0.size in
    let c = made (shape.Set (set_of list)) k.0 (width_of Set o.width) (slot_of place o) (o.optional || is_some opens) opens o.column in
    let same : IsConversion opens place o Set c
    = record { kind = k.1; width = refl; slot = refl; optional = refl; opens = refl; column = refl } in
    (directive.Conv c, (c, set_of list, same, set_is list, refl, refl))
some_meaning profile opens place _ is is_one = absurd (cc)

pub scan_meaning : (profile : Profile) → IsMeaning Directive (Scan profile) (Means profile)
scan_meaning profile = record { one = means_one profile; some = some_meaning profile }

-- ---- slots

conversion_slot : (c : Conversion) → option_map (λ e. e.0) (destination_of (directive.Conv c)) ≡ c.slot
conversion_slot c = grind arith

-- a literal has no slot
literal_slot : (opens : Option ℕ) (l : Literal) → destination_of (literal_that opens l) ≡ None
literal_slot None (literal.Byte b) = refl
literal_slot None literal.Percent = refl
literal_slot (Some more) l = refl

-- the slot of a directive is that of its part
means_slot : (profile : Profile) (opens : Option ℕ) (place : ℕ) (piece : Piece) (d : Directive) → Means profile opens place piece d
    → option_map (λ e. e.0) (destination_of d) ≡ slot_at place (destinations (piece ∷ []))
means_slot profile opens place (WhiteSpace bs) d h = rw h refl
means_slot profile opens place (Ordinary b) d h = rw (h, literal_slot opens (literal.Byte b)) refl
means_slot profile opens place Percents d h = rw (h, literal_slot opens literal.Percent) refl
means_slot profile opens place (Plain o b) d h = rw h.5 (conversion_slot h.1 ∙ h.3.slot ∙ slot_there place o)
means_slot profile opens place (Bracket o list) d h = rw h.5 (conversion_slot h.0 ∙ h.2.slot ∙ slot_there place o)
means_slot profile opens place _ d h = absurd h

pub scan_slots : (profile : Profile) → HasSlots Directive (Means profile) destination_of
scan_slots profile = record { slot = means_slot profile }

-- the conversion, but for its kind and its slot
abbrev told_by : Opening → PrintLetter → Kind × ℕ → PrintConv
told_by o letter k = record {
  letter = letter;
  kind = k.0;
  slot = k.1;
  minus = is_set_flag 45 o.flags;
  plus = is_set_flag 43 o.flags;
  blank = is_set_flag 32 o.flags;
  alt = is_set_flag 35 o.flags;
  zero = is_set_flag 48 o.flags;
  width = magnitude 10 o.width;
  precision = option_map (λ ds. magnitude 10 ds) o.precision;
}

is_told : (place : ℕ) (o : Opening) (letter : PrintLetter) (c : PrintConv) → IsPrintConv place o letter c
    → c ≡ told_by o letter (c.kind, c.slot)
is_told place o letter c h =
    rw (← h.prints, ← h.minus, ← h.plus, ← h.blank, ← h.alt, ← h.zero, ← h.width, ← h.precision) refl

print_conversion_same : (place : ℕ) (o : Opening) (letter : PrintLetter) (c d : PrintConv) → IsPrintConv place o letter c
    → IsPrintConv place o letter d → c ≡ d
print_conversion_same place o letter c d h k =
    let kinds : c.kind ≡ d.kind = let e = sym h.kind ∙ k.kind in cc in
    let slots : c.slot ≡ d.slot = let e = sym h.slot ∙ k.slot in cc in
    is_told place o letter c h ∙ ap (told_by o letter) (rw (kinds, slots)) ∙ sym (is_told place o letter d k)

prints_one : (profile : Profile) (place : ℕ) (piece : Piece) (u v : PrintUnit) → Prints profile place piece u
    → Prints profile place piece v → u ≡ v
prints_one profile place (Ordinary b) u v h k = h ∙ sym k
prints_one profile place Percents u v h k = h ∙ sym k
prints_one profile place (Plain o b) u v h k =
    let same : h.0 ≡ k.0 = let e = sym h.2 ∙ k.2 in cc in
    rw (h.4, k.4, print_conversion_same place o k.0 h.1 k.1 (rw same at h.3) k.3)
prints_one profile place _ u v h k = absurd h

some_unit : (profile : Profile) (place : ℕ) (piece : Piece) → IsPrintPiece profile piece → (u : PrintUnit) × Prints profile place piece u
some_unit profile place (Ordinary b) is = (unit.Byte b, refl)
some_unit profile place Percents is = (unit.Byte 37, refl)
some_unit profile place (Plain o b) is =
    let k = some_of (print_kind_of is.0 o.size) is.2.size in
    let n = some_of (slot_of place o) (rw is.2.star (grind arith)) in
    let c = told_by o is.0 (k.0, n.0) in
    let told : IsPrintConv place o is.0 c = assumption (k.1, n.1) in
    (unit.Conv c, (is.0, c, is.1, told, refl))
some_unit profile place _ is = absurd is

pub print_meaning : (profile : Profile) → IsMeaning PrintUnit (Print profile) (PrintsApart profile)
print_meaning profile = record {
  one = λ opens place piece u v h k. prints_one profile place piece u v h k;
  some = λ opens place piece is is_one. some_unit profile place piece is;
}

-- the slot of a unit is that of its part
prints_slot : (profile : Profile) (place : ℕ) (piece : Piece) (u : PrintUnit) → Prints profile place piece u
    → option_map (λ e. e.0) (printed_of u) ≡ slot_at place (destinations (piece ∷ []))
prints_slot profile place (Ordinary b) u h = rw h
prints_slot profile place Percents u h = rw h
prints_slot profile place (Plain o b) u h = rw h.4 (sym h.3.slot ∙ slot_there place o)
prints_slot profile place _ u h = absurd h

pub print_slots : (profile : Profile) → HasSlots PrintUnit (PrintsApart profile) printed_of
print_slots profile = record { slot = λ opens place piece u h. prints_slot profile place piece u h }
