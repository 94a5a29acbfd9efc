use Rattle.std.proofs.Common.{Some, ap, subst, sym, ◌∙◌}
use Rattle.std.specs.Option.{option_map}
use Rattle.std.specs.Prelude.{IfSome}
use Rattle.sf_base.specs.Data.{datum_of}
use Rattle.sf_report.specs.Rows.{IsReadable}
use Rattle.sf_read.proofs.FieldLemmas.FloatFields.{f32_back}
use Rattle.sf_read.proofs.field.field.F32Field.from_given.Goals as goal

pub returns-clause-value : goal.returns-clause-value
returns-clause-value c =
    let readable = subst (λ o. IfSome (option_map datum_of o) IsReadable) c.in-Some.is c.requires.readable in
    ap Some (f32_back (datum_of c.in-Some.there) c.f32.result c.in-Some-f32.x readable c.f32.ensures c.in-Some-f32.is)
    ∙ sym (ap (option_map datum_of) c.in-Some.is)
