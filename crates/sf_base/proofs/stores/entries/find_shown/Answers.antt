use Rattle.std.proofs.Common.{Some, sym, ap, ◌∙◌, arith}
use Rattle.std.proofs.lemmas.Grind.{common_steps}
use Rattle.sf_base.specs.stores.Entries.{datum_in}
use Rattle.sf_base.specs.declared.stores.entries.Entry.{Entry}
use Rattle.sf_base.proofs.StoreLemmas.EntryLemmas.{found_at}
use Rattle.sf_base.proofs.stores.entries.find_shown.Goals as goal

pub returns-then-slot-entry : goal.returns-then-slot-entry
returns-then-slot-entry c = grind (arith, common_steps)

pub loop-entry-preserved : goal.loop-entry-preserved
loop-entry-preserved c = grind (arith, common_steps)

pub returns : goal.returns
returns c = grind (arith, common_steps)

pub returns-then-entry-slot : goal.returns-then-entry-slot
returns-then-entry-slot c =
    let closed = c.args.closed.now in
    let entry : Entry = c.in-Some.entry.now in
    let found = c.in-Some.ensures.lookup in
    ap Some c.shown_in.ensures
    ∙ ap (λ (e : Entry). Some (datum_in closed e.cell)) found.1
    ∙ found_at closed c.args.slot _ c.args.entries.now entry c.requires.apart found.3.0
    (ap (λ (e : Entry). e.slot) (sym found.1) ∙ c.if-entry-slot.true)
