use Rattle.std.proofs.Common.{Some, ap, subst, sym, ◌∙◌}
use Rattle.std.specs.Option.{option_map}
use Rattle.std.specs.Prelude.{IfSome}
use Rattle.sf_base.specs.Data.{datum_of}
use Rattle.sf_report.specs.Rows.{IsReadable}
use Rattle.sf_read.proofs.FieldLemmas.FloatFields.{f64_back}
use Rattle.sf_read.proofs.field.field.F64Field.from_given.Goals as goal

pub returns-clause-value : goal.returns-clause-value
returns-clause-value c =
    let readable = subst (λ o. IfSome (option_map datum_of o) IsReadable) c.in-Some.is c.requires.readable in
    ap Some (f64_back (datum_of c.in-Some.there) c.f64.result c.in-Some-f64.x readable c.f64.ensures c.in-Some-f64.is)
    ∙ sym (ap (option_map datum_of) c.in-Some.is)
