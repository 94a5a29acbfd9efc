use Rattle.std.proofs.Common.{◌≡◌, ◌∙◌, ℕ, List, take, Some, None, sym, ap, subst}
use Rattle.sf_format.specs.declared.directive.Conversion.{Conversion}
use Rattle.sf_format.specs.declared.directive.Directive.TheVariants.{Conv}
use Rattle.sf_format.specs.Proper.{IsProperShape}
use Rattle.sf_item.specs.Taking.{conversion_of}
use Rattle.sf_item.specs.ColumnScans as columns
use Rattle.sf_run.specs.declared.directive.Phase.{Phase}
use Rattle.sf_run.specs.Phases.{Shows, ShowsColumn, ShowsItem, stage_of}
use Rattle.sf_run.specs.Pieces.{Answers, Suits}
use Rattle.sf_run.specs.Texts.{opened_for, opened_slot}
use Rattle.sf_run.proofs.Columns.{stage_begun}
use Rattle.sf_run.proofs.Brought.{not_nothing}
use Rattle.sf_run.proofs.Pieces.{item_goes_on, suits_item}
use Rattle.sf_run.proofs.Stages.{conv_is}
use Rattle.sf_run.proofs.directive.run_conversion.Goals as goal

pub returns-in-Item-clause-answers : goal.returns-in-Item-clause-answers
returns-in-Item-clause-answers c q sound shows =
    let k : Conversion = c.args.conversion.now in
    let piece : List ℕ = c.args.piece.now in
    let scan = c.in-Item.scan in
    let s : ShowsItem (Conv k) None scan q = subst (λ p. Shows (Conv k) p q) c.in-Item.is shows in
    let own : k ≡ conversion_of scan = conv_is k (conversion_of scan) s.own in
    let e = c.go_on.ensures in
    let run = c.go_on.result in
    let some = not_nothing s.item (take run.item piece) s.begun in
    subst (λ b. Answers (Conv k) q c.args.used piece (record { before = b; item = run.item; phase = run.phase; ends = run.ends }))
    (sym e.before)
    (item_goes_on (Conv k) q None scan c.args.used run.item piece run.phase run.ends s e.within
    (e.can s.item (subst (λ (x : Conversion). IsProperShape x.shape) own sound.0.0) s.taken) e.slot e.waits
    (e.shows (Conv k) s.item s.own s.text s.plain s.taken some) (e.ends s.item sound.0 own s.plain s.taken s.text some))

pub returns-in-Text-clause-answers : goal.returns-in-Text-clause-answers
returns-in-Text-clause-answers c q sound shows =
    let k : Conversion = c.args.conversion.now in
    let piece : List ℕ = c.args.piece.now in
    let scan = c.in-Text.scan in
    let s : ShowsItem (Conv k) (Some c.in-Text.slot) scan q = subst (λ p. Shows (Conv k) p q) c.in-Text.is shows in
    let own : k ≡ conversion_of scan = conv_is k (conversion_of scan) s.own in
    let e = c.go_on-in-Text.ensures in
    let run = c.go_on-in-Text.result in
    let some = not_nothing s.item (take run.item piece) s.begun in
    subst (λ b. Answers (Conv k) q c.args.used piece (record { before = b; item = run.item; phase = run.phase; ends = run.ends }))
    (sym e.before)
    (item_goes_on (Conv k) q (Some c.in-Text.slot) scan c.args.used run.item piece run.phase run.ends s e.within
    (e.can s.item (subst (λ (x : Conversion). IsProperShape x.shape) own sound.0.0) s.taken) e.slot e.waits
    (e.shows (Conv k) s.item s.own s.text s.plain s.taken some) (e.ends s.item sound.0 own s.plain s.taken s.text some))

pub returns-in-Item-clause-suits : goal.returns-in-Item-clause-suits
returns-in-Item-clause-suits c =
    let e = c.go_on.ensures in
    subst (λ (p : Phase). Suits (Conv c.args.conversion.now) p c.args.piece.now c.go_on.result) (sym c.in-Item.is)
    (suits_item c.args.conversion.now c.in-Item.scan c.args.piece.now c.go_on.result e.before e.within e.waits e.more e.slot e.item e.is)

pub returns-in-Column-clause-answers : goal.returns-in-Column-clause-answers
returns-in-Column-clause-answers c q sound shows =
    let k : Conversion = c.args.conversion.now in
    let scan = c.in-Column.scan in
    let s : ShowsColumn (Conv k) c.in-Column.slot scan q = subst (λ p. Shows (Conv k) p q) c.in-Column.is shows in
    let own : k ≡ columns.conversion_of scan = conv_is k (columns.conversion_of scan) s.own in
    let at : q ≡ stage_of s.column = s.stage ∙ sym (stage_begun s.column s.begun) in
    subst (λ r. Answers (Conv k) r c.args.used c.args.piece.now c.run_column.result) (sym at)
    (c.run_column.ensures.answers s.column sound.0 own s.placed s.taken (not_nothing s.column c.args.piece.now s.begun)
    (ap (λ r. opened_slot (opened_for (Conv k) r)) (sym at) ∙ s.text) c.args.used)
