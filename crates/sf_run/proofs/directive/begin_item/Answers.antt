use Rattle.std.proofs.Common.{rules, ◌≡◌, ◌<◌, ◌+◌, ℕ, List, [], length, take, sym, subst, ap, arith, ◌∙◌}
use Rattle.sf_format.specs.declared.directive.Conversion.{Conversion}
use Rattle.sf_format.specs.declared.directive.Directive.TheVariants.{Conv}
use Rattle.sf_item.specs.Taking.{CanTake, conversion_of}
use Rattle.sf_run.specs.declared.directive.Phase.TheVariants as phase
use Rattle.sf_run.specs.declared.directive.Run.{Run}
use Rattle.sf_report.specs.Machine.{Skipping}
use Rattle.sf_format.specs.Proper.{IsProperShape}
use Rattle.sf_run.specs.Phases.{CanAll}
use Rattle.sf_run.specs.Pieces.{Answers, Suits}
use Rattle.sf_run.proofs.Pieces.{item_begins, nothing_taken, suits_waits}
use Rattle.sf_run.proofs.directive.begin_item.Goals as goal

pub returns-then-is_empty-clause-suits : goal.returns-then-is_empty-clause-suits
returns-then-is_empty-clause-suits c =
    let none : 0 ≡ length c.args.piece.now = search rules in
    subst (λ (r : Run). Suits (Conv c.args.conversion.now) phase.Skipping c.args.piece.now r) (sym c.waits.ensures)
    (suits_waits (Conv c.args.conversion.now) 0 c.args.piece.now c.requires.item none)

pub returns-in-Some-clause-answers : goal.returns-in-Some-clause-answers
returns-in-Some-clause-answers c proper ink n =
    subst (λ (r : Run). Answers (Conv c.args.conversion.now) Skipping n c.args.piece.now r) (sym c.ends.ensures)
    (c.in-Some.ensures.answers proper ink n)

pub returns-then-run-eq0-clause-answers : goal.returns-then-run-eq0-clause-answers
returns-then-run-eq0-clause-answers c proper ink n =
    let k : Conversion = c.args.conversion.now in
    let piece : List ℕ = c.args.piece.now in
    let some : 0 < length piece = search rules in
    let same : conversion_of c.start.result ≡ k = c.start.ensures.conversion in
    subst (λ (r : Run). Answers (Conv k) Skipping n piece r) (sym c.ends-then-run-eq0.ensures)
    (nothing_taken k c.requires.plain n piece c.finish_nothing.result proper.0 c.requires.item some (ink some) (λ can.
    let none : c.go_on-run.result.item ≡ 0 = c.if-run-eq0.true in
    c.go_on-run.ensures.stops [] c.start.ensures.nothing (omega (arith, none, some))
    (subst (λ i. CanTake (conversion_of c.start.result) (take (i + 1) piece)) (sym none)
    (subst (λ (x : Conversion). CanTake x (take 1 piece)) (sym same) can))) (c.finish_nothing.ensures.end []))

pub returns-clause-answers : goal.returns-clause-answers
returns-clause-answers c proper ink n =
    let k : Conversion = c.args.conversion.now in
    let piece : List ℕ = c.args.piece.now in
    let same : conversion_of c.start.result ≡ k = c.start.ensures.conversion in
    let e = c.go_on-run.ensures in
    let run = c.go_on-run.result in
    let some : 0 < run.item = (let e = c.if-run-eq0.false in omega (arith, e)) in
    let within = e.within in
    let shape = subst (λ (x : Conversion). IsProperShape x.shape) (sym same) proper.0 in
    subst (λ b. Answers (Conv k) Skipping n piece (record { before = b; item = run.item; phase = run.phase; ends = run.ends }))
    (sym e.before)
    (item_begins k c.requires.plain n piece run.item proper some within (ink (omega (arith, some, within)))
    (subst (λ (x : Conversion). CanAll x [] (take run.item piece)) same (e.can [] shape c.start.ensures.nothing))
    run.phase run.ends (e.slot ∙ c.text_slot.ensures) e.waits
    (λ more. e.shows (Conv k) [] (ap Conv (sym same)) (sym c.text_slot.ensures) c.requires.plain c.start.ensures.nothing more)
    (λ more. e.ends [] proper (sym same) c.requires.plain c.start.ensures.nothing (sym c.text_slot.ensures) more))
