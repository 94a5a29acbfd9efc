use Rattle.std.proofs.Common.{◌∙◌, ℕ, List, Option, ap, arith, drop, refl, subst, sym, take, true, unwrap_or, ◌≡◌}
use Rattle.sf_float_read.specs.item.Tests.{is_float}
use Rattle.sf_run.proofs.FloatTexts.{decimal_test}
use Rattle.sf_run.proofs.WholeColumns.{column_float}
use Rattle.sf_run.proofs.directive.float_column.Goals as goal

pub returns : goal.returns
returns c n =
    let skip = c.space_before-before.ensures in
    let rest = c.in_ok-after.ensures in
    let k = c.args.conversion.now in
    let piece : List ℕ = c.args.piece.now in
    let w = c.space_before-before.result in
    let d = c.in_ok-decimal.decimal in
    let a = c.in_ok-after.after in
    let width = rest.end ∙ sym (ap (λ (o : Option ℕ). unwrap_or o 1) c.requires.width) in
    let within = rest.within in
    let end = rest.end in
    let text : List ℕ = take d.bytes (drop w piece) in
    let own = decimal_test (take d.bytes c.split_at.result.1.now) d.negative d.digits d.places c.in_ok-decimal.ensures.numeral.numeral in
    let float : is_float text ≡ true = subst (λ (y : List ℕ). is_float (take d.bytes y) ≡ true) c.split_at.ensures.back own in
    record {
      ends = λ sound. column_float k c.args.slot c.requires.column c.requires.shape c.requires.slot piece w d.bytes a width
          (omega (arith, width, end, within)) skip.white rest.white float n sound.0;
      within = omega (arith, end, within);
      fits = record {
        within = omega (arith, end, within);
        given = λ ok missing. sym c.requires.slot;
        number = tt;
        memory = refl;
      };
    }
