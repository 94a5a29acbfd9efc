use Rattle.std.proofs.Common.{◌∙◌, ◌<◌, ◌+◌, ◌++◌, ◌∷◌, [], ℕ, List, Option, add-zero, ap, append-nil, append_assoc, arith, get_or, length}
use Rattle.std.proofs.Common.{length-append, refl, subst, sym, take}
use Rattle.std.proofs.lemmas.Grind.{take-set_at}
use Rattle.std.proofs.lemmas.List.{take-set-le}
use Rattle.sf_base.specs.Data.{Datum}
use Rattle.sf_format.specs.Proper.{kind_at}
use Rattle.sf_c.specs.declared.values.SfValue.{SfValue}
use Rattle.sf_c.specs.Values.{Holds}
use Rattle.sf_c.proofs.Cells.{cells_more}
use Rattle.sf_c.proofs.Taking.{count_kinds, kind_there}
use Rattle.sf_c.proofs.lines.put_textless.Goals as goal

pub loop-index-init : goal.loop-index-init
loop-index-init c = record {
  front = refl;
  row = (
    [],
    ap (λ (n : ℕ). take n c.args.values.now) (add-zero c.args.at) ∙ sym (append-nil (take c.args.at c.args.values.now)),
    refl,
    λ texts. tt,
  );
}

pub bounds-kinds-index : goal.bounds-kinds-index
bounds-kinds-index c =
    omega (
      arith,
      c.loop-index-test.true,
      ap length c.requires.kinds,
      count_kinds c.args.slots (λ slot. kind_at slot c.args.format.now),
    )

pub loop-index-preserved : goal.loop-index-preserved
loop-index-preserved c =
    let i : ℕ = c.loop-index.index in
    let ds = c.args.format.now in
    let vs = c.args.store.now.values in
    let cell : SfValue = c.in-Some.cell in
    let (row, behind, count, cells) = c.loop-index.invariant.row in
    let below : i < c.args.slots = omega (arith, c.loop-index-test.true) in
    let place : c.args.at + i < length c.loop-index.values = omega (arith, below, c.requires.room, c.loop-index.auto.values) in
    record {
      front = take-set-le c.args.at c.loop-index.values (c.args.at + i) cell (omega arith) ∙ c.loop-index.invariant.front;
      row = (
        row ++ cell ∷ [],
        take-set_at c.loop-index.values (c.args.at + i) (c.args.at + (i + 1)) cell (omega arith) place
            ∙ ap (λ (x : List SfValue). x ++ cell ∷ []) behind ∙ append_assoc (take c.args.at c.args.values.now) row (cell ∷ []),
        omega (arith, length-append row (cell ∷ []), count),
        λ texts. cells_more texts ds vs 1 (i + 1) row cell (omega (arith, count)) (cells texts) (record {
          slot_is = c.in-Some.ensures.slot ∙ ap (λ (ks : List ℕ). get_or ks i 0) c.requires.kinds
              ∙ kind_there c.args.slots i 0 (λ slot. kind_at slot ds) below;
          holds = subst (λ (given : Option Datum). Holds texts given cell) c.shown-given.ensures (c.in-Some.ensures.holds texts);
        }),
      );
    }
