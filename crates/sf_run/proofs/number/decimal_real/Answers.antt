use Rattle.std.proofs.Common.{◌∙◌, sym, ap, option_map}
use Rattle.sf_base.specs.declared.real.Real.TheVariants as reals
use Rattle.sf_run.proofs.FloatTexts.{decimal_test, read_f32, read_f64}
use Rattle.sf_run.proofs.number.decimal_real.Goals as goal

pub returns-in_err-decimal_value_f32-in-F32 : goal.returns-in_err-decimal_value_f32-in-F32
returns-in_err-decimal_value_f32-in-F32 c item is =
    let d = c.args.decimal in
    c.from_residual.ensures ∙ ap (option_map reals.F32) (sym c.in_err-decimal_value_f32-in-F32.was)
    ∙ read_f32 c.args.kind item c.decimal_value_f32.result c.in-F32.is (decimal_test item d.negative d.digits d.places is)
    (c.decimal_value_f32.ensures item is)

pub returns-in_err-decimal_value_f64-in-F64 : goal.returns-in_err-decimal_value_f64-in-F64
returns-in_err-decimal_value_f64-in-F64 c item is =
    let d = c.args.decimal in
    c.from_residual-in_err-decimal_value_f64-in-F64.ensures ∙ ap (option_map reals.F64) (sym c.in_err-decimal_value_f64-in-F64.was)
    ∙ read_f64 c.args.kind item c.decimal_value_f64.result c.in-F64.is (decimal_test item d.negative d.digits d.places is)
    (c.decimal_value_f64.ensures item is)

pub returns-in_ok-decimal_value_f32-in-F32 : goal.returns-in_ok-decimal_value_f32-in-F32
returns-in_ok-decimal_value_f32-in-F32 c item is =
    let d = c.args.decimal in
    ap (option_map reals.F32) (sym c.in_ok-decimal_value_f32-in-F32.was)
    ∙ read_f32 c.args.kind item c.decimal_value_f32.result c.in-F32.is (decimal_test item d.negative d.digits d.places is)
    (c.decimal_value_f32.ensures item is)

pub returns-in_ok-decimal_value_f64-in-F64 : goal.returns-in_ok-decimal_value_f64-in-F64
returns-in_ok-decimal_value_f64-in-F64 c item is =
    let d = c.args.decimal in
    ap (option_map reals.F64) (sym c.in_ok-decimal_value_f64-in-F64.was)
    ∙ read_f64 c.args.kind item c.decimal_value_f64.result c.in-F64.is (decimal_test item d.negative d.digits d.places is)
    (c.decimal_value_f64.ensures item is)
