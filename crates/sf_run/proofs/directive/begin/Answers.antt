use Rattle.std.proofs.Common.{◌≡◌, ◌<◌, ◌+◌, ◌≤◌, ◌&&◌, false, ℕ, List, [], length, drop, get_or, sym, subst, ◌∙◌}
use Rattle.sf_base.specs.Bytes.{is_white}
use Rattle.sf_format.specs.declared.directive.Conversion.{Conversion}
use Rattle.sf_format.specs.declared.directive.Directive.TheVariants.{Conv}
use Rattle.sf_run.specs.declared.directive.Run.{Run}
use Rattle.sf_report.specs.Machine.{Skipping, shape_skips}
use Rattle.sf_run.specs.Pieces.{Answers}
use Rattle.sf_run.proofs.Brought.{item_skips}
use Rattle.sf_run.proofs.Pieces.{answers_behind, count_answers, next_behind}
use Rattle.sf_run.proofs.directive.begin.Goals as goal

pub returns-then-is_count-clause-answers : goal.returns-then-is_count-clause-answers
returns-then-is_count-clause-answers c sound =
    let k : Conversion = c.args.conversion.now in
    subst (λ (r : Run). Answers (Conv k) Skipping c.args.used c.args.piece.now r) (sym c.ends.ensures)
    (count_answers k c.args.used c.args.piece.now c.finish_count.result sound (sym c.is_count.ensures ∙ c.if-is_count.true)
    (c.finish_count.ensures.end []))

pub returns-then-conversion-clause-answers : goal.returns-then-conversion-clause-answers
returns-then-conversion-clause-answers c sound = c.begin_column.ensures.answers sound.0 c.args.used

pub returns-clause-answers : goal.returns-clause-answers
returns-clause-answers c sound =
    let k : Conversion = c.args.conversion.now in
    let plain : k.column ≡ false = c.if-conversion.false in
    let piece : List ℕ = c.args.piece.now in
    let w : ℕ = c.skipped-before.result in
    let e = c.skipped-before.ensures in
    let run = c.begin_item.result in
    let back = c.split_at.ensures.back in
    let fits : run.before + run.item ≤ length (drop w piece) = subst
    (λ y. run.before + run.item ≤ length y) back c.begin_item.ensures.suits.within in
    let here : Answers (Conv k) Skipping (c.args.used + w) (drop w piece) run =
    subst (λ y. Answers (Conv k) Skipping (c.args.used + w) y run) back
    (c.begin_item.ensures.answers sound.0
    (subst (λ y. 0 < length y → (shape_skips k.shape && is_white (get_or y 0 0)) ≡ false) (sym back)
    (next_behind (λ b. shape_skips k.shape && is_white b) w piece e.next)) (c.args.used + w)) in
    subst (λ (r : Run). Answers (Conv k) Skipping c.args.used piece r) (sym c.behind.ensures)
    (answers_behind (Conv k) plain c.args.used w piece run e.within fits (item_skips k plain piece w e.within e.white) here)
