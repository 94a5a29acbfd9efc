use Rattle.std.proofs.Common.{◌≡◌, ◌∙◌, ◌≤◌, ◌<◌, ◌+◌, ◌++◌, ◌∷◌, [], ℕ, List, Option, ap, append_assoc, arith, drop, length}
use Rattle.std.proofs.Common.{length-append, subst, sym, take}
use Rattle.std.proofs.lemmas.Grind.{take-set_at}
use Rattle.std.proofs.lemmas.List.{drop-set-lt, length-take-le}
use Rattle.sf_base.specs.Data.{Datum, datum_at}
use Rattle.sf_c.specs.declared.values.SfValue.{SfValue}
use Rattle.sf_c.specs.Numbers.{slot_number}
use Rattle.sf_c.specs.Scans.{slots_in}
use Rattle.sf_c.specs.Values.{AreCells, Holds, text_given, texts_to}
use Rattle.sf_c.proofs.Cells.{cells_longer, cells_more, dropped_more, placed, text_fits, text_short, texts_next, texts_step}
use Rattle.sf_c.proofs.rows.put_row.Goals as goal

pub lay_down-requires : goal.lay_down-requires
lay_down-requires g c =
    text_fits c.loop-index.index (slots_in c.args.format.now) c.args.report.now.values _ c.args.from c.loop-index.filled _
    (omega (arith, c.loop-index-test.true, c.destinations-index-end.ensures.count)) c.loop-index.invariant.filled
    (ap length (c.text_of-text.ensures ∙ ap text_given c.value-given.ensures))
    (omega (arith, c.requires.bytes, c.loop-index.auto.texts))

pub cell_of-requires : goal.cell_of-requires
cell_of-requires g c =
    omega (
      arith,
      ap length (ap text_given c.value-given.ensures),
      c.requires.few,
      text_short c.loop-index.index (slots_in c.args.format.now) c.args.report.now.values
          (omega (arith, c.loop-index-test.true, c.destinations-index-end.ensures.count)),
    )

pub loop-index-preserved : goal.loop-index-preserved
loop-index-preserved g c =
    let i : ℕ = c.loop-index.index in
    let vs = c.args.report.now.values in
    let ds = c.args.format.now in
    let slots : ℕ = slots_in ds in
    let below : i < slots = omega (arith, c.loop-index-test.true, c.destinations-index-end.ensures.count) in
    let text : List ℕ = c.text_of-text.result.now in
    let text_is : text ≡ text_given (datum_at (i + 1) vs) = c.text_of-text.ensures ∙ ap text_given c.value-given.ensures in
    let held : List ℕ = take c.loop-index.filled c.loop-index.texts in
    let cell : SfValue = c.cell_of.result in
    let room : c.loop-index.filled + length text ≤ length c.loop-index.texts =
    text_fits i slots vs _ c.args.from c.loop-index.filled _ below c.loop-index.invariant.filled (ap length text_is)
    (omega (arith, c.requires.bytes, c.loop-index.auto.texts)) in
    let enough : c.loop-index.filled ≤ length c.loop-index.texts = omega (arith, room) in
    let within : c.loop-index.filled + length text ≤ length (held ++ text) =
    omega (arith, length-append held text, length-take-le c.loop-index.filled c.loop-index.texts enough) in
    let there : take (length text) (drop c.loop-index.filled (held ++ text)) ≡ text =
    placed c.loop-index.texts text c.loop-index.filled enough in
    let at_place : c.args.at + i < length c.loop-index.values = omega (arith, below, c.requires.room, c.loop-index.auto.values) in
    let (row, front, count, cells) = c.loop-index.invariant.row in
    let holds : Holds (held ++ text) (datum_at (i + 1) vs) cell =
    subst (λ (given : Option Datum). Holds (held ++ text) given cell) c.value-given.ensures
    (c.cell_of.ensures.holds (held ++ text)
    (subst (λ (t : List ℕ). c.loop-index.filled + length t ≤ length (held ++ text)) c.text_of-text.ensures within)
    (subst (λ (t : List ℕ). take (length t) (drop c.loop-index.filled (held ++ text)) ≡ t) c.text_of-text.ensures there)) in
    record {
      filled = omega (arith, c.loop-index.invariant.filled, ap length text_is, texts_next i vs);
      row = (
        row ++ cell ∷ [],
        take-set_at c.loop-index.values (c.args.at + i) (c.args.at + (i + 1)) cell (omega arith) at_place
            ∙ ap (λ (x : List SfValue). x ++ cell ∷ []) front ∙ append_assoc (take c.args.at c.args.values.now) row (cell ∷ []),
        omega (arith, length-append row (cell ∷ []), count),
        subst (λ (t : List ℕ). AreCells t ds vs 1 (row ++ cell ∷ [])) (sym c.lay_down.ensures.laid)
            (cells_more (held ++ text) ds vs 1 (i + 1) row cell (omega (arith, count)) (cells_longer held text ds vs 1 row cells) (record {
              slot_is = c.cell_of.ensures.slot ∙ c.slot_number.ensures ∙ ap slot_number c.kind.ensures.kind;
              holds = holds;
            })),
      );
      texts = c.lay_down.ensures.laid ∙ ap (λ (x : List ℕ). x ++ text) c.loop-index.invariant.texts
          ∙ append_assoc (take c.args.from c.args.texts.now) (texts_to i vs) text
          ∙ ap (λ (x : List ℕ). take c.args.from c.args.texts.now ++ x)
          (ap (λ (x : List ℕ). texts_to i vs ++ x) text_is ∙ texts_step i vs);
      beyond = drop-set-lt (c.args.at + slots) c.loop-index.values (c.args.at + i) cell (omega (arith, below))
          ∙ c.loop-index.invariant.beyond;
      behind = dropped_more (c.loop-index.filled + length text) _ _ c.loop-index.texts
          (text_fits i slots vs _ c.args.from c.loop-index.filled _ below c.loop-index.invariant.filled (ap length text_is) (omega arith))
          c.lay_down.ensures.rest ∙ c.loop-index.invariant.behind;
    }
