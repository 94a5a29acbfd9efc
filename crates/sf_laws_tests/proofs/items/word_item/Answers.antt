use Rattle.std.proofs.Common.{◌≡◌, ℕ, ◌++◌, List, [], Some, None, refl, sym, ap, ◌∙◌, subst, append-nil}
use Rattle.sf_format.specs.declared.directive.Conversion.{Conversion}
use Rattle.sf_format.specs.declared.directive.Shape.{Shape}
use Rattle.sf_format.specs.declared.directive.Shape.TheVariants.{Int, Text, Set, Chars, Float, Count}
use Rattle.sf_format.specs.Proper.{IsProperShape}
use Rattle.sf_item.specs.Matching.{IsItem}
use Rattle.sf_item.specs.Tests.{has_item}
use Rattle.sf_laws_tests.proofs.Answered.{if_match}
use Rattle.sf_laws_tests.proofs.items.word_item.Goals as goal

abbrev is_chars : Shape → Type 0
is_chars Chars = Unit {0}
is_chars _ = ⊥

pub returns : goal.returns
returns c =
    let piece = c.args.piece.now in
    record {
      only = λ conv lead shape width z k item. if_match _ c.text_item.result (c.text_item.ensures lead None refl)
          (λ n w.
          let one = c.one_item.ensures conv (ap has_item shape) (subst IsProperShape (sym shape) tt) (piece ++ z) in
          one.only k item ∙ sym (one.only n (w.item conv shape width tt z)));
      stays = λ conv lead shape width z. if_match _ c.text_item.result (c.text_item.ensures lead None refl)
          (λ n w. c.ended_items_stay.ensures conv (subst IsProperShape (sym shape) tt) piece z n
          (subst (λ (x : List ℕ). IsItem conv x n) (append-nil piece) (w.item conv shape width tt [])) w.behind);
      cut = λ conv lead shape width w. if_match _ c.text_item.result (c.text_item.ensures lead None refl)
          (λ n i. c.widths_cut_items.ensures (record conv { width = Some w }) (subst IsProperShape (sym shape) tt)
          (λ e. subst is_chars (sym e ∙ shape) tt) w refl piece n
          (subst (λ (x : List ℕ). IsItem (record conv { width = None }) x n) (append-nil piece)
          (i.item (record conv { width = None }) shape refl tt [])));
    }
