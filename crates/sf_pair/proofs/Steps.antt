-- Each directive takes its group's text.
use Rattle.std.proofs.Common.{◌≡◌, ℕ, suc, ◌+◌, ◌<◌, inl, inr, Bool, true, false, ◌&&◌, List, [], ◌∷◌, ◌++◌, length, take, drop, min}
use Rattle.std.proofs.Common.{Option}
use Rattle.std.proofs.Common.{Some, refl, sym, ap, length-append}
use Rattle.std.proofs.Common.{subst, ◌∙◌, arith, append_assoc, eq-eqb, true≢false}
use Rattle.std.proofs.lemmas.Bool.{eqb-true}
use Rattle.std.proofs.lemmas.List.{drop_at, take_at, drop-drop, length-replicate}
use Rattle.std.specs.Prelude.{not}
use Rattle.std.specs.List.{cons_option}
use Rattle.sf_base.specs.Data.{Datum}
use Rattle.sf_format.specs.declared.directive.Lead.{Lead}
use Rattle.sf_format.specs.declared.directive.Lead.TheVariants.{Any, Minus, Nothing}
use Rattle.sf_format.specs.declared.directive.Shape.{Shape}
use Rattle.sf_format.specs.declared.directive.Shape.TheVariants as shape
use Rattle.sf_format.specs.declared.directive.Conversion.{Conversion}
use Rattle.sf_format.specs.declared.directive.Directive.{Directive}
use Rattle.sf_format.specs.declared.directive.Directive.TheVariants as directive
use Rattle.sf_format.specs.declared.unit.Unit.{Unit as PrintUnit}
use Rattle.sf_format.specs.declared.unit.Unit.TheVariants as unit
use Rattle.sf_format.specs.Leads.{is_strict_lead}
use Rattle.sf_format.specs.Units.{AreProperUnits, values_of}
use Rattle.sf_print.specs.texts.Text.{value_text, blanks}
use Rattle.sf_print.specs.Printed.{printed}
use Rattle.sf_report.specs.Steps.{StepEnd, Passes, Stores, Misses, Fails}
use Rattle.sf_report.specs.Runs.{is_conversion, is_shape_converted}
use Rattle.sf_item.specs.Columns.{column_width}
use Rattle.sf_report.specs.Machine.{shape_skips, column_end}
use Rattle.sf_report.specs.Computed.{skip, skip_under, skip_before, byte_step, byte_choice, column_len, column_ended, step_by, step_of}
use Rattle.sf_pair.specs.conversions.Below.{LawsBelow}
use Rattle.sf_pair.specs.conversions.Neighbours.{only}
use Rattle.sf_pair.specs.Groups.{IsLiteral, AreSpace, is_count, width_of, next_of}
use Rattle.sf_pair.specs.Laws.{with_value, printed_values}
use Rattle.sf_pair.proofs.Taken.{Takes, conversion_taken}
use Rattle.sf_pair.proofs.TakenTexts.{suppressed_passes}
use Rattle.sf_pair.proofs.Back.{SkipsSo, ReadsBack, ReadsColumn, Back}
use Rattle.sf_pair.proofs.FitCut.{PairedReads, LiteralReads, GroupReads, FitCut}
use Rattle.sf_pair.proofs.Ahead.{skip_blanks, skips, At, at_same, at_skipped, at_unskipped, space_run, paired_text, closed_by, next_ready}

-- what the totals gain by a group
abbrev pub Gains : List Datum → Directive → StepEnd → List PrintUnit → List PrintUnit → Type 0
Gains values d Passes group rest = (length (values_of (group ++ rest)) ≡ length (values_of rest))
    × (printed_values (group ++ rest) values ≡ printed_values rest values)
Gains values d (Stores slot v) group rest = (is_conversion d ≡ true) × (length (values_of (group ++ rest)) ≡ length (values_of rest) + 1)
    × (printed_values (group ++ rest) values ≡ record { slot = slot; datum = v } ∷ printed_values rest values)
Gains values d Misses group rest = ⊥
Gains values d (Fails status) group rest = ⊥

pub record Move (values : List Datum) (d : Directive) (group rest : List PrintUnit) (next : Option Directive) (x z : List ℕ)
    (n : ℕ) : Type 0 where
  pub bytes : ℕ
  pub end : StepEnd
  pub is : step_of d x n ≡ (bytes, end)
  pub left : At next (drop bytes x) (printed rest values ++ z)
  pub gains : Gains values d end group rest

space_gains : (values : List Datum) (group rest : List PrintUnit) → AreSpace group → Gains values directive.Space Passes group rest
space_gains values [] rest h = (refl, refl)
space_gains values (unit.Byte b ∷ us) rest h = space_gains values us rest h.1
space_gains values (unit.Conv c ∷ us) rest h = absurd h

literal_gains : (values : List Datum) (d : Directive) (group rest : List PrintUnit) (b : ℕ) → group ≡ unit.Byte b ∷ []
    → Gains values d Passes group rest
literal_gains values d group rest b e =
    (ap (λ (g : List PrintUnit). length (values_of (g ++ rest))) e, ap (λ (g : List PrintUnit). printed_values (g ++ rest) values) e)

literal_text : (values : List Datum) (group rest : List PrintUnit) (z : List ℕ) (b : ℕ) → group ≡ unit.Byte b ∷ []
    → printed (group ++ rest) values ++ z ≡ b ∷ (printed rest values ++ z)
literal_text values group rest z b e = ap (λ (g : List PrintUnit). printed (g ++ rest) values ++ z) e

-- a column that the text fills
column_len_is : (s : Conversion) (x t y : List ℕ) → x ≡ t ++ y → length t ≡ width_of s → column_len s x ≡ length t
column_len_is s x t y e full = at_most (length x) (column_width s) (length t) (ap length e ∙ length-append t y) full
  where
    at_most : (a b n : ℕ) → a ≡ n + length y → n ≡ b → min a b ≡ n
    at_most a b n e f = omega (arith, e, f)

column_ends : (s : Conversion) (x t : List ℕ) → 0 < length t → column_ended s x t ≡ column_end s t
column_ends s x [] some = absurd (omega arith)
column_ends s x (b ∷ t) some = refl

module _ (laws : LawsBelow) (values : List Datum) (z : List ℕ) (ds : List Directive) (group rest : List PrintUnit) (x : List ℕ) (n : ℕ)
    (proper : AreProperUnits rest) (cut : FitCut values ds rest) where
  byte_moves : (b : ℕ) → IsLiteral (only b) group → x ≡ printed (group ++ rest) values ++ z
      → Move values (directive.Byte b) group rest (next_of ds) x z n
  byte_moves b (a, is, same) e =
      let f : x ≡ a ∷ (printed rest values ++ z) = e ∙ literal_text values group rest z a is in
      record {
        bytes = 1;
        end = Passes;
        is = ap (byte_step b) f ∙ ap byte_choice (eq-eqb b a (sym (eqb-true a b same)));
        left = at_same (next_of ds) _ _ (ap (drop 1) f);
        gains = literal_gains values (directive.Byte b) group rest a is;
      }

  percent_moves : IsLiteral (only 37) group → At (Some directive.Percent) x (printed (group ++ rest) values ++ z)
      → Move values directive.Percent group rest (next_of ds) x z n
  percent_moves (a, is, same) at =
      let whole : printed (group ++ rest) values ++ z ≡ 37 ∷ (printed rest values ++ z) =
      literal_text values group rest z a is ∙ ap (λ (k : ℕ). k ∷ (printed rest values ++ z)) (eqb-true a 37 same) in
      let f : drop (skip x) x ≡ 37 ∷ (printed rest values ++ z) = at_skipped directive.Percent x _ at
      ∙ ap (λ (t : List ℕ). drop (skip t) t) whole in
      record {
        bytes = skip x + 1;
        end = Passes;
        is = ap (λ (t : List ℕ). (skip x + (byte_step 37 t).0, (byte_step 37 t).1)) f;
        left = at_same (next_of ds) _ _ (sym (drop-drop 1 (skip x) x) ∙ ap (drop 1) f);
        gains = literal_gains values directive.Percent group rest a is;
      }

  skip_under_is : (lead : Lead) → not (is_strict_lead lead) ≡ true → skip_under lead x ≡ skip x
  skip_under_is Any e = refl
  skip_under_is Minus e = absurd cc
  skip_under_is Nothing e = absurd cc

  no_skip_under : (lead : Lead) → not (is_strict_lead lead) ≡ false → skip_under lead x ≡ 0
  no_skip_under Any e = absurd cc
  no_skip_under Minus e = refl
  no_skip_under Nothing e = refl

  skip_before_is : (s : Conversion) → shape_skips s.shape ≡ true → skip_before s.shape x ≡ skip x
  skip_before_is s e = by s.shape e
    where
      by : (h : Shape) → shape_skips h ≡ true → skip_before h x ≡ skip x
      by (shape.Int numeral) e = skip_under_is numeral.lead e
      by (shape.Text lead) e = skip_under_is lead e
      by (shape.Float lead) e = skip_under_is lead e
      by _ e = absurd cc

  no_skip_before : (s : Conversion) → shape_skips s.shape ≡ false → skip_before s.shape x ≡ 0
  no_skip_before s e = by s.shape e
    where
      by : (h : Shape) → shape_skips h ≡ false → skip_before h x ≡ 0
      by (shape.Int numeral) e = no_skip_under numeral.lead e
      by (shape.Text lead) e = no_skip_under lead e
      by (shape.Float lead) e = no_skip_under lead e
      by _ e = refl

  no_skip : (s : Conversion) → shape_skips s.shape ≡ false → skips (directive.Conv s) ≡ false
  no_skip s e = by s.column
    where
      by : (t : Bool) → (not t && shape_skips s.shape) ≡ false
      by true = refl
      by false = e

  -- after what is skipped stands the item
  item_ahead : (s : Conversion) (before : ℕ) (item y : List ℕ) (t : Bool) → s.column ≡ false → shape_skips s.shape ≡ t
      → SkipsSo t before item → At (Some (directive.Conv s)) x (blanks before ++ (item ++ y)) → drop (skip_before s.shape x) x ≡ item ++ y
  item_ahead s before item y true no_column e ink at =
      ap (λ (k : ℕ). drop k x) (skip_before_is s e) ∙ at_skipped (directive.Conv s) x _ at
      ∙ ap (λ (k : ℕ). drop k (blanks before ++ (item ++ y))) (skip_blanks before item y ink)
      ∙ drop_at (blanks before) (item ++ y) before (length-replicate before 32)
  item_ahead s before item y false no_column e none at =
      ap (λ (k : ℕ). drop k x) (no_skip_before s e) ∙ at_unskipped (directive.Conv s) x _ (no_skip s e) at
      ∙ ap (λ (k : ℕ). blanks k ++ (item ++ y)) none

  converts : (s : Conversion) → is_count s.shape ≡ false → is_conversion (directive.Conv s) ≡ true
  converts s e = by s.shape e
    where
      by : (h : Shape) → is_count h ≡ false → is_shape_converted h ≡ true
      by shape.Count e = absurd cc
      by _ e = refl

  conversion_moves : (s : Conversion) (item : List ℕ) (end : StepEnd) → drop (skip_before s.shape x) x ≡ item ++ (printed rest values ++ z)
      → (step_of (directive.Conv s) x n ≡ (skip_before s.shape x + length item, end)) → Gains values (directive.Conv s) end group rest
      → Move values (directive.Conv s) group rest (next_of ds) x z n
  conversion_moves s item end e is gains = record {
    bytes = skip_before s.shape x + length item;
    end = end;
    is = is;
    left = at_same (next_of ds) _ _ (sym (drop-drop (length item) (skip_before s.shape x) x) ∙ ap (drop (length item)) e
        ∙ drop_at item (printed rest values ++ z) (length item) refl);
    gains = gains;
  }

  -- what is gained by a value that is read
  paired_gains : (s : Conversion) (p : PairedReads values s group rest (next_of ds))
      → Gains values (directive.Conv s) (Stores p.conversion.slot p.value) group rest
  paired_gains s p = (
    converts s p.no_count,
    ap (λ (g : List PrintUnit). length (values_of (g ++ rest))) p.group_is
        ∙ (let k : suc (length (values_of rest)) ≡ length (values_of rest) + 1 = omega arith in k),
    ap (λ (g : List PrintUnit). printed_values (g ++ rest) values) p.group_is
        ∙ ap (λ (o : Option Datum). cons_option (with_value p.conversion.slot o) (printed_values rest values)) p.at,
  )

  item_moves : (s : Conversion) (p : PairedReads values s group rest (next_of ds)) → s.column ≡ false → ReadsBack p.conversion s p.value
      → At (Some (directive.Conv s)) x (printed (group ++ rest) values ++ z) → Move values (directive.Conv s) group rest (next_of ds) x z n
  item_moves s p item b at =
      let y : List ℕ = printed rest values ++ z in
      let whole : printed (group ++ rest) values ++ z ≡ blanks b.before ++ (b.item ++ y) =
      ap (λ (t : List ℕ). t ++ z) (paired_text values s group rest (next_of ds) p ∙ ap (λ (t : List ℕ). t ++ printed rest values) b.text_is)
      ∙ append_assoc (blanks b.before ++ b.item) (printed rest values) z ∙ append_assoc (blanks b.before) b.item y in
      let e : drop (skip_before s.shape x) x ≡ b.item ++ y = item_ahead s b.before b.item y (shape_skips s.shape) item refl b.skips
      (subst (At (Some (directive.Conv s)) x) whole at) in
      let takes : Takes s b.item y = b.takes y (closed_by laws.tried values z p.conversion s ds rest item proper cut p.closed) in
      conversion_moves s b.item (Stores p.conversion.slot p.value) e
      (conversion_taken laws s x b.item y n item e takes
      ∙ ap (λ (end : StepEnd). (skip_before s.shape x + length b.item, end)) b.stored) (paired_gains s p)

  -- a column is the text, whatever follows it
  column_moves : (s : Conversion) (p : PairedReads values s group rest (next_of ds)) → s.column ≡ true → ReadsColumn p.conversion s p.value
      → At (Some (directive.Conv s)) x (printed (group ++ rest) values ++ z) → Move values (directive.Conv s) group rest (next_of ds) x z n
  column_moves s p column b at =
      let y : List ℕ = printed rest values ++ z in
      let t : List ℕ = value_text p.conversion p.value in
      let whole : x ≡ t ++ y = at_unskipped (directive.Conv s) x _ (ap (λ (k : Bool). not k && shape_skips s.shape) column) at
      ∙ ap (λ (t : List ℕ). t ++ z) (paired_text values s group rest (next_of ds) p) ∙ append_assoc t (printed rest values) z in
      let len : column_len s x ≡ length t = column_len_is s x t y whole b.full in
      record {
        bytes = column_len s x;
        end = Stores p.conversion.slot p.value;
        is = ap (λ (k : Bool). step_by k s x n) column
            ∙ ap (λ (e : StepEnd). (column_len s x, e)) (ap (column_ended s x) (ap (λ (k : ℕ). take k x) len
            ∙ ap (take (length t)) whole ∙ take_at t y (length t) refl) ∙ column_ends s x t b.some ∙ b.ends);
        left = at_same (next_of ds) _ _ (ap (λ (k : ℕ). drop k x) len ∙ ap (drop (length t)) whole ∙ drop_at t y (length t) refl);
        gains = paired_gains s p;
      }

  paired_moves : (s : Conversion) → PairedReads values s group rest (next_of ds)
      → At (Some (directive.Conv s)) x (printed (group ++ rest) values ++ z) → Move values (directive.Conv s) group rest (next_of ds) x z n
  paired_moves s p at = by s.column refl p.back
    where
      by : (t : Bool) → s.column ≡ t → Back t p.conversion s p.value → Move values (directive.Conv s) group rest (next_of ds) x z n
      by true column b = column_moves s p column b at
      by false item b = item_moves s p item b at

  literal_moves : (s : Conversion) → LiteralReads s group → At (Some (directive.Conv s)) x (printed (group ++ rest) values ++ z)
      → Move values (directive.Conv s) group rest (next_of ds) x z n
  literal_moves s l at =
      let y : List ℕ = printed rest values ++ z in
      let e : drop (skip_before s.shape x) x ≡ (l.byte ∷ []) ++ y =
      ap (λ (k : ℕ). drop k x) (no_skip_before s l.skips_none) ∙ at_unskipped (directive.Conv s) x _ (no_skip s l.skips_none) at
      ∙ literal_text values group rest z l.byte l.group_is in
      conversion_moves s (l.byte ∷ []) Passes e (conversion_taken laws s x (l.byte ∷ []) y n l.item e (l.takes y)
      ∙ ap (λ (end : StepEnd). (skip_before s.shape x + 1, end)) (suppressed_passes s (l.byte ∷ []) l.slot))
      (literal_gains values (directive.Conv s) group rest l.byte l.group_is)

  pub move : (d : Directive) → GroupReads values d group rest (next_of ds) → At (Some d) x (printed (group ++ rest) values ++ z)
      → Move values d group rest (next_of ds) x z n
  move directive.Space is at = record {
    bytes = skip x;
    end = Passes;
    is = refl;
    left = subst (λ (t : List ℕ). At (next_of ds) t (printed rest values ++ z))
        (sym (at_skipped directive.Space x _ at ∙ space_run values group rest z is.1))
        (next_ready laws.tried values z ds rest proper cut is.2 is.3);
    gains = space_gains values group rest is.1;
  }
  move (directive.Byte b) is (inl e) = byte_moves b is e
  move (directive.Byte b) is (inr h) = absurd (true≢false (sym h.0))
  move directive.Percent is at = percent_moves is at
  move (directive.Conv s) (inl p) at = paired_moves s p at
  move (directive.Conv s) (inr l) at = literal_moves s l at
  move (directive.Opens o) is at = absurd is
