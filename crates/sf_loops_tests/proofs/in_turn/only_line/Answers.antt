use Rattle.std.proofs.Common.{ℕ, List, [], ◌∷◌, Some, Ok, ap, refl, subst, ◌∙◌}
use Rattle.sf_format.specs.declared.directive.Directive.{Directive}
use Rattle.sf_read.specs.field.Rows.{slots_by}
use Rattle.sf_read.specs.line.Cut.{lines_of}
use Rattle.sf_read.specs.declared.matching.Match.{Match}
use Rattle.sf_read.specs.declared.matching.Match.TheVariants.{Front}
use Rattle.sf_loops.specs.LineLaws.{AreAnswersOf}
use Rattle.sf_loops.specs.Lines.{IsNextLineRow}
use Rattle.sf_loops_tests.proofs.Turned.{line_goes}
use Rattle.sf_loops_tests.proofs.in_turn.only_line.Goals as goal

pub returns : goal.returns
returns g c =
    let begun = c.in-Ok.ensures in
    let kinds = g.T.Row.kinds in
    let given = slots_by g.T.Row.given g.T.Row.listed in
    let old = c.in-Ok.lines in
    let mid = c.next.new.self in
    let new = c.next-2.new.self in
    let row = c.in-Ok-Some.row in
    let one = subst (λ r. IsNextLineRow (λ s. Some s.to_come) (λ s. s.reads) (λ s. 0) 64 kinds given old mid r)
    (c.in-Ok-Some.is ∙ ap Ok c.in-Ok-Some.field-0-is) (c.next.ensures.next begun.none_yet.2) in
    let goes = line_goes (λ s. Some s.to_come) (λ s. s.reads) (λ s. 0) 64 kinds given old mid row one in
    let end = subst (λ r. IsNextLineRow (λ s. Some s.to_come) (λ s. s.reads) (λ s. 0) 64 kinds given mid new r)
    (c.in-Ok-None.is ∙ ap Ok c.in-Ok-None.field-0-is) (c.next-2.ensures.next goes) in
    let rows = Ok row ∷ [] in
    let all = c.none_is_the_end.ensures old mid new rows (mid, one, goes, refl) end c.args.text.now
    (rw (begun.held, begun.source, c.new.ensures) refl) in
    subst (λ (ds : List Directive). AreAnswersOf kinds given ds 1000 Front 0 (lines_of c.args.text.now) rows) begun.format.0
    (subst (λ (m : ℕ). AreAnswersOf kinds given old.format m Front 0 (lines_of c.args.text.now) rows) begun.format.1
    (subst (λ (w : Match). AreAnswersOf kinds given old.format old.limit w 0 (lines_of c.args.text.now) rows) begun.matching
    (subst (λ (n : ℕ). AreAnswersOf kinds given old.format old.limit old.matching n (lines_of c.args.text.now) rows) begun.none_yet.0 all)))
