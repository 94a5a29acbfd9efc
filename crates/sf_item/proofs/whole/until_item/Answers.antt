use Rattle.std.proofs.Common.{◌≡◌, ℕ, List, Bool, Some, take, length, get_or, Fits, w8, inl, inr, sym, ap, subst, ◌∙◌, refl, arith}
use Rattle.std.proofs.lemmas.Bool.{cases_lt}
use Rattle.std.proofs.lemmas.List.{get_or-take, get_or_past}
use Rattle.std.specs.List.{prefix_len}
use Rattle.sf_base.specs.Bytes.{is_other}
use Rattle.sf_base.specs.Sets.{has_byte, lone_lack}
use Rattle.sf_base.proofs.Lacks.{lone_lack_lacks}
use Rattle.sf_base.proofs.Sets.{same_front}
use Rattle.sf_format.specs.declared.directive.Shape.TheVariants as shapes
use Rattle.sf_item.proofs.Wholes.{no_run, run_item, set_proper}
use Rattle.sf_item.proofs.whole.until_item.Goals.{else-count-gt0-via-then-count-gt0+else-count-piece, else-count-gt0-via-else-count-gt0}
use Rattle.sf_item.proofs.whole.until_item.Goals as goal

-- bytes at the front of bytes
front_fits : (x front : List ℕ) → front ≡ take (length front) x → ((k : ℕ) → Fits w8 (get_or x k 0)) → (k : ℕ) → Fits w8 (get_or front k 0)
front_fits x front is fits k = elim (cases_lt k (length front)) [
  | inl inside ↦ subst (λ n. Fits w8 n) (sym (ap (λ l. get_or l k 0) is ∙ get_or-take (length front) x k 0 inside)) (fits k)
  | inr past ↦ subst (λ n. Fits w8 n) (sym (get_or_past front k 0 past)) (record { fits = omega arith })
]

-- the members that they begin with, of a set that lacks a byte alone
count_until : (members : List Bool) (stop : ℕ) (x front : List ℕ) → lone_lack members ≡ Some stop → front ≡ take (length front) x
    → ((k : ℕ) → Fits w8 (get_or x k 0)) → (count : ℕ) → count ≡ prefix_len (is_other stop) front
    → count ≡ prefix_len (has_byte members) front
count_until members stop x front lacks is fits count counted =
    counted ∙ sym (same_front (has_byte members) (is_other stop) (lone_lack_lacks members stop lacks) front (front_fits x front is fits))

pub returns-then-count-piece : goal.returns-then-count-piece
returns-then-count-piece c members width lacks is =
    let cut = c.cut_at.ensures in
    run_item (shapes.Set members) width c.args.piece.now c.cut_at.result.now cut.front (cut.room width is)
    (cut.whole width is) (has_byte members) (λ f. refl) c.run_before-count.result
    (count_until members c.args.stop c.args.piece.now c.cut_at.result.now lacks cut.front c.type_inv.piece _ c.run_before-count.ensures)
    (λ f. refl) c.if-count-gt0.true c.if-count-piece.true

pub returns-else-count-gt0 : goal.returns-else-count-gt0
returns-else-count-gt0 c members width lacks is =
    let cut = c.cut_at.ensures in
    no_run (shapes.Set members) width c.args.piece.now c.cut_at.result.now cut.front (cut.room width is)
    (cut.whole width is) (has_byte members) (λ f. refl) c.run_before-count.result
    (count_until members c.args.stop c.args.piece.now c.cut_at.result.now lacks cut.front c.type_inv.piece _ c.run_before-count.ensures)
    refl (set_proper members width c.args.piece.now (λ i. (c.type_inv.piece i).fits))
    (λ some behind. elim c.else-count-gt0.branch [
      | else-count-gt0-via-then-count-gt0+else-count-piece w ↦ let past = w.if-count-piece.false in omega (arith, past, behind)
      | else-count-gt0-via-else-count-gt0 w ↦ let zero = w.if-count-gt0.false in omega (arith, zero, some)
    ])
