use Rattle.std.proofs.Common.{◌∙◌, ap, arith, length, sym}
use Rattle.sf_base.specs.stores.Kept.{text_of, with_cut}
use Rattle.sf_run.specs.Texts.{closing_text}
use Rattle.sf_run.proofs.Columns.{closing_length}
use Rattle.sf_run.proofs.Slots.{nothing_cut}
use Rattle.sf_run.proofs.scanner.cut_opened.Goals as goal

pub cut_text-requires-clause-within : goal.cut_text-requires-clause-within
cut_text-requires-clause-within g c =
    let d = c.args.directive.now in
    let text = text_of (g.S.Store.kept c.args.store.now).opened in
    let same = ap length (c.closing_text-count.ensures ∙ ap (closing_text d) c.opened.ensures) in
    let less = closing_length d text in
    omega (arith, same, less)

pub returns-then-not-is_cut : goal.returns-then-not-is_cut
returns-then-not-is_cut g c = nothing_cut c.args.directive.now (g.S.Store.kept c.args.store.now) (sym c.is_cut.ensures
    ∙ c.if-not-is_cut.true)

pub returns : goal.returns
returns g c =
    c.cut_text.ensures ∙ ap (λ t. with_cut (length t) (g.S.Store.kept c.args.store.now))
    (c.closing_text-count.ensures ∙ ap (closing_text c.args.directive.now) c.opened.ensures)
