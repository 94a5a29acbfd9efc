use Rattle.std.proofs.Common.{◌≡◌, ◌-◌, ◌∙◌, List, length, take, sym, subst, Some}
use Rattle.std.proofs.lemmas.Option.{get_or_from_slice_get}
use Rattle.std.specs.Prelude.{ℕ, IfSome, slice_get}
use Rattle.sf_format.specs.declared.directive.Directive.{Directive}
use Rattle.sf_run.specs.Texts.{IsSound}
use Rattle.sf_run.specs.Written.{IsWrittenSurely, PassesWriting}
use Rattle.sf_run.proofs.written.pass_later.Goals as goal

-- the directive at a place of the format is that of the directives there
there : (ds all : List Directive) (left : ℕ) (d : Directive) → ds ≡ all → slice_get ds (length ds - left) ≡ Some d
    → slice_get all (length all - left) ≡ Some d
there ds all left d same at = subst (λ (l : List Directive). slice_get l (length l - left) ≡ Some d) same at

pub returns-clause-passes : goal.returns-clause-passes
returns-clause-passes g c d at proper =
    let ds : List Directive = c.directives-directives.result.now in
    let is : c.index-directives-index.result ≡ d =
    c.index-directives-index.is ∙ get_or_from_slice_get ds (length ds - c.args.left) d c.index-directives-index.result
    (there c.args.format.now ds c.args.left d (sym c.directives-directives.ensures.value) at) in
    subst (λ (e : Directive). IfSome c.pass_whole.result (λ run. PassesWriting g.W.ValueWriter.text e c.args.used c.args.piece.now
    run.used (take c.args.at c.args.room.now) (take run.end c.pass_whole.new.room)))
    is (c.pass_whole.ensures.passes (subst (λ (e : Directive). IsSound e) (sym is) proper))

pub returns-clause-sure : goal.returns-clause-sure
returns-clause-sure g c d at proper free sure room =
    let ds : List Directive = c.directives-directives.result.now in
    let is : c.index-directives-index.result ≡ d =
    c.index-directives-index.is ∙ get_or_from_slice_get ds (length ds - c.args.left) d c.index-directives-index.result
    (there c.args.format.now ds c.args.left d (sym c.directives-directives.ensures.value) at) in
    c.pass_whole.ensures.sure (subst (λ (e : Directive). IsSound e) (sym is) proper) free
    (subst (λ (e : Directive). IsWrittenSurely g.W.ValueWriter.text e c.args.used c.args.piece.now free) (sym is) sure) room
