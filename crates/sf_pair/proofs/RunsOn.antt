-- An item that could go on with the byte after its text takes that byte.
use Rattle.std.proofs.Common.{◌≡◌, ℕ, ◌+◌, true, false, List, [], ◌∷◌, ◌++◌, length, drop, refl, sym, ap, subst, ◌∙◌, arith, append_assoc}
use Rattle.std.proofs.Common.{append-nil, length-append}
use Rattle.std.proofs.lemmas.List.{drop_at, length-replicate}
use Rattle.std.specs.Prelude.{not}
use Rattle.sf_base.specs.Data.{Datum}
use Rattle.sf_format.specs.declared.directive.Lead.{Lead}
use Rattle.sf_format.specs.declared.directive.Lead.TheVariants.{Any, Minus, Nothing}
use Rattle.sf_format.specs.declared.directive.Shape.{Shape}
use Rattle.sf_format.specs.declared.directive.Shape.TheVariants as shape
use Rattle.sf_format.specs.declared.directive.Conversion.{Conversion}
use Rattle.sf_format.specs.declared.directive.Directive.TheVariants.{Conv}
use Rattle.sf_format.specs.declared.unit.PrintConv.{PrintConv}
use Rattle.sf_format.specs.Leads.{is_strict_lead}
use Rattle.sf_format.specs.Proper.{IsProper}
use Rattle.sf_item.specs.Tests.{can_take, has_item}
use Rattle.sf_print.specs.texts.Text.{value_text, blanks}
use Rattle.sf_report.specs.Steps.{StepEnd, Step}
use Rattle.sf_report.specs.Machine.{shape_skips}
use Rattle.sf_report.specs.Computed.{skip, len, skip_under, skip_before, step_of}
use Rattle.sf_pair.specs.conversions.Below.{LawsBelow}
use Rattle.sf_pair.specs.Laws.{TakesToo}
use Rattle.sf_pair.proofs.Taken.{len_is, item_stepped}
use Rattle.sf_pair.proofs.Back.{SkipsSo, ReadsBack}
use Rattle.sf_pair.proofs.Ahead.{skip_blanks}

module _ (laws : LawsBelow) (c : PrintConv) (s : Conversion) (v : Datum) (proper : IsProper (Conv s)) (item_read : s.column ≡ false)
    (r : ReadsBack c s v)
    (item : has_item s.shape ≡ true) (b : ℕ) (more : can_take s (r.item ++ b ∷ []) ≡ true) where
  whole : value_text c v ++ b ∷ [] ≡ blanks r.before ++ (r.item ++ b ∷ [])
  whole = ap (λ (t : List ℕ). t ++ b ∷ []) r.text_is ∙ append_assoc (blanks r.before) r.item (b ∷ [])

  skipped_under : (lead : Lead) → SkipsSo (not (is_strict_lead lead)) r.before r.item
      → skip_under lead (value_text c v ++ b ∷ []) ≡ r.before
  skipped_under Any ink = ap skip whole ∙ skip_blanks r.before r.item (b ∷ []) ink
  skipped_under Minus none = sym none
  skipped_under Nothing none = sym none

  skipped_by : (h : Shape) → SkipsSo (shape_skips h) r.before r.item → skip_before h (value_text c v ++ b ∷ []) ≡ r.before
  skipped_by (shape.Int numeral) skips = skipped_under numeral.lead skips
  skipped_by (shape.Text lead) skips = skipped_under lead skips
  skipped_by (shape.Float lead) skips = skipped_under lead skips
  skipped_by _ none = sym none

  takes_bytes : (step_of (Conv s) (value_text c v ++ b ∷ []) 0).0 ≡ length (value_text c v) + 1
  takes_bytes =
      let x : List ℕ = value_text c v ++ b ∷ [] in
      let all_of : List ℕ = r.item ++ b ∷ [] in
      let before : skip_before s.shape x ≡ r.before = skipped_by s.shape r.skips in
      let rest : drop (skip_before s.shape x) x ≡ all_of = (λ i. drop (before i) (whole i))
      ∙ drop_at (blanks r.before) all_of r.before (length-replicate r.before 32) in
      let all : len s [] all_of ≡ length all_of = ap (len s []) (sym (append-nil all_of)) ∙ len_is laws s [] all_of [] more tt in
      let taken : len s [] (drop (skip_before s.shape x) x) ≡ length all_of = ap (len s []) rest ∙ all in
      let text : length (value_text c v) ≡ r.before + length r.item =
      ap length r.text_is ∙ omega (arith, length-append (blanks r.before) r.item, length-replicate {A = ℕ} r.before 32) in
      ap (λ (k : ℕ × StepEnd). k.0) (item_stepped s x 0 item_read item) ∙ omega (arith, before, taken, text, length-append r.item (b ∷ []))

  takes_at : (n : ℕ) → (step_of (Conv s) (value_text c v ++ b ∷ []) n).0 ≡ (step_of (Conv s) (value_text c v ++ b ∷ []) 0).0
  takes_at n = ap (λ (k : ℕ × StepEnd). k.0) (item_stepped s (value_text c v ++ b ∷ []) n item_read item
      ∙ sym (item_stepped s (value_text c v ++ b ∷ []) 0 item_read item))

  -- the step of the conversion takes the byte after the text too
  pub takes_too : TakesToo (Conv s) (value_text c v) b
  takes_too n =
      let x : List ℕ = value_text c v ++ b ∷ [] in (
        (step_of (Conv s) x n).1,
        subst (λ (k : ℕ). Step (Conv s) x n k (step_of (Conv s) x n).1) (takes_at n ∙ takes_bytes)
            ((laws.steps (Conv s) proper x n (step_of (Conv s) x n).0 (step_of (Conv s) x n).1).1 refl),
      )
