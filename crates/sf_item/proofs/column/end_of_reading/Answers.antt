use Rattle.std.proofs.Common.{sym, subst, ◌∙◌, ap, inl, inr}
use Rattle.sf_base.specs.Blanks.{trimmed_end}
use Rattle.sf_item.specs.declared.reading.Reading.TheVariants as reading
use Rattle.sf_item.specs.ColumnScans.{TextEnds}
use Rattle.sf_item.specs.Scan.{shape_of, HasRead}
use Rattle.sf_item.proofs.ColumnReadings.{integer_text_ends, bytes_end, float_text_ends}
use Rattle.sf_item.proofs.column.end_of_reading.Goals as goal

pub returns-in-Integer : goal.returns-in-Integer
returns-in-Integer c = λ conversion t same h ink.
    integer_text_ends conversion t c.in-Integer.field-0 c.in-Integer.reached c.end_of.result (ap shape_of (sym c.in-Integer.is) ∙ same)
    (subst (λ r. HasRead r t) c.in-Integer.is h) c.end_of.ensures

pub returns-in-Text : goal.returns-in-Text
returns-in-Text c = λ conversion t same h ink.
    elim c.in-Text.is [
      | inl e ↦ bytes_end conversion t (reading.Text e.0) tt (ap shape_of (sym e.1) ∙ same) (subst (λ r. HasRead r t) e.1 h) ink
      | inr o ↦ elim o [
        | inl e ↦ bytes_end conversion t (reading.Set e.0) tt (ap shape_of (sym e.1) ∙ same) (subst (λ r. HasRead r t) e.1 h) ink
        | inr e ↦ bytes_end conversion t reading.Chars tt (ap shape_of (sym e) ∙ same) (subst (λ r. HasRead r t) e h) ink
      ]
    ]

pub returns-in-Float : goal.returns-in-Float
returns-in-Float c = λ conversion t same h ink.
    subst (TextEnds conversion (trimmed_end t)) (sym c.end_of_float.ensures)
    (float_text_ends conversion t c.in-Float.field-0 c.in-Float.scan (ap shape_of (sym c.in-Float.is) ∙ same)
    (subst (λ r. HasRead r t) c.in-Float.is h))
