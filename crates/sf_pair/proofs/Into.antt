-- An item that isn't full runs on into each byte of its stop set, after the text of some value that fits.
use Rattle.std.proofs.Common.{◌≡◌, ℕ, ◌<◌, ◌≤◌, inr, Bool, true, false, cond, ◌&&◌, ◌||◌, eqb, nat_le, List, [], ◌∷◌, ◌++◌, length, Option}
use Rattle.std.proofs.Common.{Some, is_some, refl, sym, ap, ap₂, subst, ◌∙◌, arith, lit≤}
use Rattle.std.proofs.lemmas.Bool.Decides.{nat_tests}
use Rattle.sf_base.specs.Sets.{has_byte}
use Rattle.sf_base.specs.Data.{Datum, Bytes}
use Rattle.sf_format.specs.declared.directive.Shape.{Shape}
use Rattle.sf_format.specs.declared.directive.Shape.TheVariants as shape
use Rattle.sf_format.specs.declared.directive.Conversion.{Conversion}
use Rattle.sf_format.specs.declared.directive.Directive.TheVariants as directive
use Rattle.sf_format.specs.declared.unit.PrintConv.{PrintConv}
use Rattle.sf_format.specs.declared.unit.PrintLetter.{PrintLetter}
use Rattle.sf_format.specs.declared.unit.PrintLetter.TheVariants as letter
use Rattle.sf_format.specs.declared.unit.Unit.TheVariants as unit
use Rattle.sf_format.specs.Units.{IsProperConv}
use Rattle.sf_format.specs.Proper.{IsProperShape, IsProperWidth, HasItsWidth, IsProper}
use Rattle.sf_item.specs.Tests.{is_ink, is_within, shape_begins, can_take}
use Rattle.sf_print.specs.texts.Text.{value_text}
use Rattle.sf_report.specs.Steps.{Stores}
use Rattle.sf_report.specs.Machine.{stored_end, passed_end}
use Rattle.sf_pair.specs.conversions.Below.{LawsBelow}
use Rattle.sf_pair.specs.conversions.Neighbours.{is_spare, stop_set}
use Rattle.sf_pair.specs.Groups.{is_number, is_chars, letters_pair, width_of, least_by, always_full}
use Rattle.sf_pair.specs.Fits.{TextFits, ItemFits}
use Rattle.sf_pair.specs.Laws.{TakesInto, RunsPast}
use Rattle.sf_pair.proofs.Paired.{and_so, full_by, Pairs, item_value, width_is, slot_is}
use Rattle.sf_pair.proofs.Back.{ReadsBack}
use Rattle.sf_pair.proofs.FitTests.{ink_is}
use Rattle.sf_pair.proofs.ReadBack.{reads_back}
use Rattle.sf_pair.proofs.RunsOn.{takes_too}
use Rattle.sf_pair.proofs.GoesOn.{zero_stops}
use Rattle.sf_pair.proofs.IntoIntegers.{integer_into}
use Rattle.sf_pair.proofs.IntoReals.{zero_follows, zero_not_spare, real_into}

within_two : (w : ℕ) → 1 ≤ w → eqb w 1 ≡ false → 2 ≤ w
within_two w h e = grind (arith, nat_tests)

le_so : (a b : ℕ) → a ≤ b → nat_le a b ≡ true
le_so a b h = grind (arith, nat_tests)

proper_least : (o : Option ℕ) (w : ℕ) → o ≡ Some w → IsProperWidth o → 1 ≤ w
proper_least o w e h = subst IsProperWidth e h

-- the shape's item is what is stored
abbrev StoresItem : Shape → Type 0
StoresItem h = (s : Conversion) (k slot : ℕ) (item bytes : List ℕ) → stored_end s k h item ≡ Stores slot (Bytes bytes) → item ≡ bytes

count_pairs_none : (l : PrintLetter) → letters_pair l shape.Count ≡ true → ⊥
count_pairs_none letter.Text e = cc
count_pairs_none letter.One e = cc
count_pairs_none _ e = cc

module _ (laws : LawsBelow) (c : PrintConv) (s : Conversion) (proper : IsProperConv c) (scan : IsProper (directive.Conv s))
    (sized : HasItsWidth s.shape s.width)
    (p : Pairs c s) (assigned : is_some s.slot ≡ true) (not_full : always_full c s ≡ false) where
  -- a text of that one byte goes on with it
  text_into : (no_number : is_number s.shape ≡ false) (no_chars : is_chars s.shape ≡ false) (b : ℕ) → b < 256 → StoresItem s.shape
      → ((w : ℕ) → 1 ≤ w → TextFits s.shape w (b ∷ [])) → shape_begins s.shape s.width (b ∷ b ∷ []) ≡ true → TakesInto c s b
  text_into no_number no_chars b small stores fits begins =
      let width : s.width ≡ Some (width_of s) = width_is s no_chars p.width in
      let low : 1 ≤ width_of s = proper_least s.width (width_of s) width scan.1 in
      let not_one : eqb (width_of s) 1 ≡ false = sym (ap₂ (λ (i k : Bool). k
      || cond i (eqb (length (least_by s.shape c)) (width_of s)) (eqb (width_of s) 1)) no_number no_chars) ∙ not_full in
      let two : 2 ≤ width_of s = within_two (width_of s) low not_one in
      let v : Datum = Bytes (b ∷ []) in
      let fit : ItemFits c s v = ((small, tt), fits (width_of s) low) in
      let r : ReadsBack c s v = reads_back laws c s v proper scan.1 sized p assigned fit in
      let t = r.takes [] (inr tt) in
      let item : r.item ≡ b ∷ [] = stores s c.slot c.slot r.item (b ∷ [])
      (sym (ap (λ (o : Option ℕ). passed_end s o r.item) (slot_is c s p.alike assigned)) ∙ r.stored) in
      let more : can_take s (r.item ++ b ∷ []) ≡ true = ap (λ (f : List ℕ). can_take s (f ++ b ∷ [])) item
      ∙ and_so (is_within s.width 2) (shape_begins s.shape s.width (b ∷ b ∷ []))
      (ap (λ (o : Option ℕ). is_within o 2) width ∙ le_so 2 (width_of s) two) begins in
      (v, item_value c s v p.item fit, takes_too laws c s v scan p.item r t.item b more)

  into_by : (b : ℕ) → b < 256 → (h : Shape) → s.shape ≡ h → stop_set h c b ≡ true → is_spare h c b ≡ false → TakesInto c s b
  into_by b small (shape.Int numeral) e stops spare = integer_into laws c s numeral e proper scan sized p assigned not_full b stops
  into_by b small (shape.Text lead) e stops spare = text_into (ap is_number e) (ap is_chars e) b small
      (subst StoresItem (sym e) (λ s k slot item bytes stored. let same : item ≡ bytes = cc in same))
      (λ w low. subst (λ (h : Shape). TextFits h w (b ∷ [])) (sym e) (lit≤ tt, ((ink_is b).0 stops, tt), low))
      (ap (λ (h : Shape). shape_begins h s.width (b ∷ b ∷ [])) e ∙ and_so (is_ink b) (is_ink b && true) stops
      (and_so (is_ink b) true stops refl))
  into_by b small (shape.Set members) e stops spare = text_into (ap is_number e) (ap is_chars e) b small
      (subst StoresItem (sym e) (λ s k slot item bytes stored. let same : item ≡ bytes = cc in same))
      (λ w low. subst (λ (h : Shape). TextFits h w (b ∷ [])) (sym e) (lit≤ tt, (stops, tt), low))
      (ap (λ (h : Shape). shape_begins h s.width (b ∷ b ∷ [])) e ∙ and_so (has_byte members b) (has_byte members b && true) stops
      (and_so (has_byte members b) true stops refl))
  into_by b small shape.Chars e stops spare = absurd cc
  into_by b small (shape.Float lead) e stops spare = real_into laws c s proper scan sized p assigned not_full lead e b stops spare
  into_by b small shape.Count e stops spare = absurd cc

  pub runs_into : (b : ℕ) → b < 256 → stop_set s.shape c b ≡ true → is_spare s.shape c b ≡ false → TakesInto c s b
  runs_into b small stops spare = into_by b small s.shape refl stops spare

  -- each stop set but that of `c` has a byte
  some_stops : (h : Shape) → s.shape ≡ h → IsProperShape h → (b : ℕ) × (b < 256) × (stop_set h c b ≡ true) × (is_spare h c b ≡ false)
  some_stops (shape.Int numeral) e member = (48, lit≤ tt, zero_stops numeral c, refl)
  some_stops (shape.Text lead) e member = (97, lit≤ tt, refl, refl)
  some_stops (shape.Set members) e member = (member.0, member.1, member.2, refl)
  some_stops shape.Chars e member = absurd (let wrong : true ≡ false =
      sym (ap (full_by c s) e) ∙ not_full in cc)
  some_stops (shape.Float lead) e member =
      (48, lit≤ tt, zero_follows c lead (ap (letters_pair c.letter) (sym e) ∙ p.alike.letters), zero_not_spare c lead)
  some_stops shape.Count e member = absurd (count_pairs_none c.letter (ap (letters_pair c.letter) (sym e) ∙ p.alike.letters))

  -- so it runs past its text, whatever follows
  pub runs_past : RunsPast (directive.Conv s) (unit.Conv c ∷ [])
  runs_past =
      let (b, small, stops, spare) = some_stops s.shape refl scan.0 in
      let t = runs_into b small stops spare in
      (value_text c t.0, b, small, (t.0, t.1, refl), t.2)
