use Rattle.std.proofs.Common.{arith, ◌≡◌, ◌∙◌, ℕ, List, Bool, true, false, cond, Option, Some, None, refl, sym, ap, subst}
use Rattle.std.specs.Prelude.{is_some, unwrap_or}
use Rattle.sf_base.specs.Kinds.{bounds_of}
use Rattle.sf_base.specs.Sets.{lone_lack}
use Rattle.sf_format.specs.declared.directive.Base.{Base}
use Rattle.sf_format.specs.declared.directive.Lead.{Lead}
use Rattle.sf_format.specs.declared.directive.Directive.TheVariants.{Space, Byte, Percent, Conv, Opens}
use Rattle.sf_format.specs.declared.directive.Shape.{Shape}
use Rattle.sf_format.specs.declared.directive.Shape.TheVariants.{Int, Text, Set, Chars, Float, Count}
use Rattle.sf_format.specs.declared.layout.Row.{Row}
use Rattle.sf_format.specs.declared.layout.Way.TheVariants as ways
use Rattle.sf_format.specs.Leads.{is_strict_lead}
use Rattle.sf_format.specs.declared.directive.Literal.{Literal}
use Rattle.sf_format.specs.declared.directive.Literal.TheVariants as literal
use Rattle.sf_format.specs.Layout.{row_of_literal, way_of, way_led_by, way_of_set, way_placed, stop_of}
use Rattle.sf_report.specs.Machine.{shape_skips}
use Rattle.sf_run.specs.Pieces.{IsTextRow, IsTextShape}
use Rattle.sf_run.proofs.Pieces.{ends_unskipped, item_if}
use Rattle.sf_run.proofs.Stages.{way_plain}
use Rattle.sf_run.proofs.directive.until_at_once.Goals as goal

-- the shape is a set that lacks this byte alone
record LacksAlone (s : Shape) (stop : ℕ) : Type 0 where
  members : List Bool
  shape : s ≡ Set members
  lacks : lone_lack members ≡ Some stop

no_integer : (lead : Lead) (base : Base) → way_led_by lead base ≡ ways.Until → ⊥
no_integer lead base e = grind arith

no_text : (strict : Bool) → cond strict ways.StrictText ways.Text ≡ ways.Until → ⊥
no_text true e = cc
no_text false e = cc

-- of the shapes, only such sets are passed so
lacks_alone : (s : Shape) (numeric : Bool) → way_of s numeric ≡ ways.Until → LacksAlone s (stop_of s)
lacks_alone (Int numeral) true e = absurd (no_integer numeral.lead numeral.base e)
lacks_alone (Int numeral) false e = absurd cc
lacks_alone (Text lead) numeric e = absurd (no_text (is_strict_lead lead) e)
lacks_alone (Set members) numeric e = record { members = members; shape = refl; lacks = by (lone_lack members) e }
  where
    by : (o : Option ℕ) → way_of_set o ≡ ways.Until → o ≡ Some (unwrap_or o 0)
    by None e = absurd cc
    by (Some stop) e = refl
lacks_alone Chars numeric e = absurd cc
lacks_alone (Float lead) numeric e = absurd cc
lacks_alone Count numeric e = absurd cc

no_space : ways.Space ≡ ways.Until → ⊥
no_space e = cc

no_byte : ways.Byte ≡ ways.Until → ⊥
no_byte e = cc

no_other : ways.Another ≡ ways.Until → ⊥
no_other e = cc

no_opener : (l : Literal) → (row_of_literal l).way ≡ ways.Until → ⊥
no_opener (literal.Byte b) e = cc
no_opener literal.Percent e = cc

pub returns : goal.returns
returns c Space is way n = absurd (no_space (sym (ap (λ (r : Row). r.way) is) ∙ way))
returns c (Byte b) is way n = absurd (no_byte (sym (ap (λ (r : Row). r.way) is) ∙ way))
returns c Percent is way n = absurd (no_other (sym (ap (λ (r : Row). r.way) is) ∙ way))
returns c (Opens o) is way n = absurd (no_opener o.literal (sym (ap (λ (r : Row). r.way) is) ∙ way))
returns c (Conv k) is way n =
    let piece = c.args.piece.now in
    let placed : way_placed k.column k.shape (is_some (bounds_of k.kind)) ≡ ways.Until = sym (ap (λ (r : Row). r.way) is) ∙ way in
    let plain : k.column ≡ false = way_plain k.column k.shape (is_some (bounds_of k.kind)) ways.Until placed (λ e. cc) in
    let alone = lacks_alone k.shape (is_some (bounds_of k.kind))
    (ap (λ v. way_placed v k.shape (is_some (bounds_of k.kind))) (sym plain) ∙ placed) in
    let due : lone_lack alone.members ≡ Some c.args.row.now.due = alone.lacks ∙ ap (λ (r : Row). Some r.due) (sym is) in
    let row : IsTextRow c.args.row.now k = record {
      plain = plain;
      shape = subst (λ (s : Shape). IsTextShape s) (sym alone.shape) tt;
      slot = sym (ap (λ (r : Row). r.slot) is);
      width = ap (λ (r : Row). r.width) is;
    } in
    let item = item_if k.shape _ k.width piece c.until_item.result alone.shape
    (c.until_item.ensures alone.members k.width due row.width) in
    let own = c.bytes_by.ensures in
    ends_unskipped k plain n piece c.bytes_by.result (ap shape_skips alone.shape) (own.answers k row item) (own.fits k row item)
