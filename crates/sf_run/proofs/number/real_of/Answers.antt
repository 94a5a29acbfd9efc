use Rattle.std.proofs.Common.{◌∙◌, sym, ap, option_map}
use Rattle.sf_base.specs.declared.real.Real.TheVariants as reals
use Rattle.sf_run.proofs.FloatTexts.{float_test, no_float, no_real, read_f32, read_f64}
use Rattle.sf_run.proofs.number.real_of.Goals as goal

pub returns-then-not-is_float : goal.returns-then-not-is_float
returns-then-not-is_float c =
    let test = c.is_float.ensures in
    no_float c.args.kind c.args.item.now (float_test c.args.item.now c.is_float.result test.0 test.1 ∙ c.if-not-is_float.true)

pub returns-in_err-value_f32-in-F32 : goal.returns-in_err-value_f32-in-F32
returns-in_err-value_f32-in-F32 c =
    let test = c.is_float.ensures in
    let item = c.args.item.now in
    c.from_residual.ensures ∙ ap (option_map reals.F32) (sym c.in_err-value_f32-in-F32.was)
    ∙ read_f32 c.args.kind item c.value_f32.result c.in-F32.is
    (float_test item c.is_float.result test.0 test.1 ∙ c.if-not-is_float.false) c.value_f32.ensures

pub returns-in_err-value_f64-in-F64 : goal.returns-in_err-value_f64-in-F64
returns-in_err-value_f64-in-F64 c =
    let test = c.is_float.ensures in
    let item = c.args.item.now in
    c.from_residual-in_err-value_f64-in-F64.ensures ∙ ap (option_map reals.F64) (sym c.in_err-value_f64-in-F64.was)
    ∙ read_f64 c.args.kind item c.value_f64.result c.in-F64.is
    (float_test item c.is_float.result test.0 test.1 ∙ c.if-not-is_float.false) c.value_f64.ensures

pub returns-in_ok-value_f32-in-F32 : goal.returns-in_ok-value_f32-in-F32
returns-in_ok-value_f32-in-F32 c =
    let test = c.is_float.ensures in
    let item = c.args.item.now in
    ap (option_map reals.F32) (sym c.in_ok-value_f32-in-F32.was)
    ∙ read_f32 c.args.kind item c.value_f32.result c.in-F32.is
    (float_test item c.is_float.result test.0 test.1 ∙ c.if-not-is_float.false) c.value_f32.ensures

pub returns-in_ok-value_f64-in-F64 : goal.returns-in_ok-value_f64-in-F64
returns-in_ok-value_f64-in-F64 c =
    let test = c.is_float.ensures in
    let item = c.args.item.now in
    ap (option_map reals.F64) (sym c.in_ok-value_f64-in-F64.was)
    ∙ read_f64 c.args.kind item c.value_f64.result c.in-F64.is
    (float_test item c.is_float.result test.0 test.1 ∙ c.if-not-is_float.false) c.value_f64.ensures

pub returns-in_default : goal.returns-in_default
returns-in_default c = no_real c.args.kind c.args.item.now c.in_default.not-F32 c.in_default.not-F64
