use Rattle.std.proofs.Common.{arith, sym, ap, subst, ◌∙◌, ◌≡◌, ◌+◌, ◌-◌, ◌<◌, ◌≤◌, ℕ, List, Option, drop, length, take}
use Rattle.std.proofs.Common.{unwrap_or}
use Rattle.std.proofs.lemmas.List.{length-drop, length-take-le}
use Rattle.sf_format.specs.declared.directive.Conversion.{Conversion}
use Rattle.sf_format.specs.declared.directive.Directive.TheVariants.{Conv}
use Rattle.sf_item.specs.Columns.{column_width}
use Rattle.sf_report.specs.Machine.{Skipping}
use Rattle.sf_report.specs.Steps.{StepEnd}
use Rattle.sf_run.specs.Phases.{end_of}
use Rattle.sf_run.specs.Pieces.{EndsIn}
use Rattle.sf_run.proofs.Columns.{end_length}
use Rattle.sf_run.proofs.WholeColumns.{column_stored, text_given}
use Rattle.sf_run.proofs.directive.text_column.Goals as goal

pub overflow_sub-result : goal.overflow_sub-result
overflow_sub-result c =
    let less = end_length c.split_at-2.result.1.now in
    let same = ap length c.trimmed_end-item.ensures in
    omega (arith, less, same)

pub returns : goal.returns
returns c n =
    let skip = c.space_before-before.ensures in
    let k : Conversion = c.args.conversion.now in
    let piece : List ℕ = c.args.piece.now in
    let column : List ℕ = c.split_at.result.0.now in
    let rest : List ℕ = c.split_at-2.result.1.now in
    let text : List ℕ = c.trimmed_end-item.result.now in
    let w : ℕ = c.space_before-before.result in
    let width : ℕ = c.args.width in
    let item : List ℕ = take (length text) (drop w piece) in
    let end = c.finish_bytes.ensures in
    let size : width ≡ column_width k = sym (ap (λ (o : Option ℕ). unwrap_or o 1) c.requires.width) in
    let whole = c.if-piece-width.false in
    let within : width ≤ length piece = omega (arith, whole) in
    let is = c.split_at.ensures.front in
    let back = c.split_at-2.ensures.back in
    let long : length column ≡ width = ap length is ∙ length-take-le width piece within in
    let some = c.if-before-width.false in
    let most = skip.within in
    let low : w < width = omega (arith, some, most, long) in
    let ink = skip.next (omega (arith, low, long)) in
    let cut = c.trimmed_end-item.ensures in
    let less = end_length rest in
    let short = ap length cut in
    let left = ap length back ∙ length-drop w column in
    let all : w + length text + (length rest - length text) ≡ width = omega (arith, less, short, left, long, low) in
    record {
      ends = λ sound. subst (λ (m : ℕ). EndsIn (Conv k) Skipping n piece m (end_of item c.finish_bytes.result)) (sym all)
          (subst (λ (e : StepEnd). EndsIn (Conv k) Skipping n piece width e)
          (text_given k c.requires.shape c.finish_bytes.result item end.none end.some)
          (column_stored k c.requires.column c.requires.shape piece column rest text w width is size within low back skip.white ink
          cut n sound.0));
      within = omega (arith, all, within);
      fits = record {
        within = omega (arith, all, within);
        given = λ ok missing. end.given;
        number = end.number;
        memory = end.memory;
      };
    }
