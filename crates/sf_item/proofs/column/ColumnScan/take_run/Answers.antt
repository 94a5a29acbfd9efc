use Rattle.std.proofs.Common.{◌+◌, ◌<◌, ◌≡◌, ◌++◌, ◌∷◌, ◌&&◌, List, ℕ, [], length, subst, sym, ap, ◌∙◌, arith, get_or}
use Rattle.std.proofs.lemmas.Bool.{and_parts}
use Rattle.sf_base.specs.Bytes.{is_white}
use Rattle.sf_item.specs.declared.column.ColumnTaken.{ColumnTaken}
use Rattle.sf_item.specs.ColumnScans.{HasTakenColumn, is_blank_place}
use Rattle.sf_item.proofs.ColumnPieces.{HasTakenPart, blank_more, text_more}
use Rattle.sf_item.proofs.column.ColumnScan.take_run.Goals as goal
use Rattle.sf_item.proofs.column.ColumnScan.take_run.Goals.{then-take, else-take}

pub loop-b-preserved : goal.loop-b-preserved
loop-b-preserved c =
    let old = c.args.self.now in
    let now = c.loop-b.self in
    let after = c.take.new.self in
    let piece = c.args.piece.now in
    let before = c.loop-b.taken.before in
    let text = c.loop-b.taken.text in
    let count = c.loop-b.invariant.count in
    let part = c.loop-b.invariant.part in
    let at = c.loop-b-test.true in
    let below : before + text < length piece = omega (arith, count, at) in
    let taken : (f : List ℕ) → HasTakenColumn now f → HasTakenColumn after (f ++ get_or piece (before + text) 0 ∷ []) =
    subst (λ i. (f : List ℕ) → HasTakenColumn now f → HasTakenColumn after (f ++ get_or piece i 0 ∷ [])) (sym count) c.take.ensures.taken in
    let blank : c.take.result ≡ (is_blank_place now.place && is_white (get_or piece (before + text) 0)) =
    subst (λ i. c.take.result ≡ (is_blank_place now.place && is_white (get_or piece i 0))) (sym count) c.take.ensures.blank in
    elim c.if-take.branch [
      | then-take w ↦
          let parts = and_parts (is_blank_place now.place) (is_white (get_or piece (before + text) 0)) (sym blank ∙ w.if-take.true) in
          record {
            count = ap (λ (t : ColumnTaken). t.before + t.text) w.taken-is ∙ omega (arith, count);
            part = subst (λ (t : ColumnTaken). HasTakenPart old after piece t.before t.text) (sym w.taken-is)
                (blank_more old now after piece before text below part c.take.ensures.conversion c.take.ensures.left taken
                (c.take.ensures.place ∙ w.if-take.true) parts.0 parts.1);
          }
      | else-take w ↦ record {
        count = ap (λ (t : ColumnTaken). t.before + t.text) w.taken-is ∙ omega (arith, count);
        part = subst (λ (t : ColumnTaken). HasTakenPart old after piece t.before t.text) (sym w.taken-is)
            (text_more old now after piece before text below part c.take.ensures.conversion c.take.ensures.left taken
            (c.take.ensures.place ∙ w.if-take.false) (sym blank ∙ w.if-take.false));
      }
    ]
