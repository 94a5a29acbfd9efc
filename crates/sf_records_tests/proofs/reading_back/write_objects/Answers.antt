use Rattle.std.proofs.Common.{◌≡◌, ◌++◌, List, ℕ, Some, ap, arith, length, sym, subst, ◌∙◌}
use Rattle.std.specs.Prelude.{◌==◌}
use Rattle.std.specs.List.{AllByRecursion, slice_split}
use Rattle.sf_base.specs.Bytes.{AreBytes}
use Rattle.sf_format.specs.Proper.{destinations_of}
use Rattle.sf_records_tests.proofs.WrittenLemmas.{are_bytes, as_objects, objects_read, parts_bytes}
use Rattle.sf_records_tests.proofs.reading_back.write_objects.Goals as goal

pub returns : goal.returns
returns c =
    let text = c.args.text.now in
    let ds = c.args.format.now in
    let input : Some (c.new-from.result.held ++ c.new-from.result.source.to_come) ≡ Some text =
    ap (λ k. Some (k ++ c.new-from.result.source.to_come)) c.new-from.ensures.held
    ∙ ap (λ s. Some s.to_come) (c.new-from.ensures.source ∙ c.new.ensures) in
    let names = slice_split (λ b. b == 44) c.args.names.now in
    let bytes : AllByRecursion AreBytes names = subst (AllByRecursion AreBytes) c.in-Ok.ensures.split
    (parts_bytes 44 c.in-Ok.columns (subst AreBytes (sym c.in-Ok.ensures.joined) (are_bytes c.args.names.now c.type_inv.names))) in
    let loop = c.run_records-end.ensures.loops text input in
    let h = c.headed-maker.result in
    let is = c.headed-maker.ensures ∙ ap as_objects c.in-Ok.ensures.split in
    let back = c.records_read_back.ensures h ds c.destinations.ensures.accepted 2000000000 text (are_bytes text c.type_inv.text)
    _ _ _ _ _ _ loop in
    let even : length (destinations_of ds) ≡ length names =
    omega (
      arith,
      c.if-len-destinations.false,
      c.len.ensures,
      c.destinations.ensures.count,
      ap (λ (ns : List (List ℕ)). length ns) c.in-Ok.ensures.split,
    ) in
    let all = objects_read h names is ds 2000000000 _ _ loop.written c.run_records-end.result back bytes even c.new-to.result.bytes
    c.run_records-end.new.to.bytes (ap (λ s. s.bytes) c.new-to.ensures) loop.appends in
    (all.rows, all.records, all.part, all.text_is, all.whole, all.count, all.read)
