use Rattle.std.proofs.Common.{◌≡◌, ◌++◌, Some, ap, sym, subst, ◌∙◌}
use Rattle.std.specs.Prelude.{◌==◌}
use Rattle.std.specs.List.{AllByRecursion, slice_split}
use Rattle.sf_base.specs.Bytes.{AreBytes}
use Rattle.sf_forms.specs.Heads.{header_text}
use Rattle.sf_records_tests.proofs.WrittenLemmas.{are_bytes, made_whole, named_read, numbered, parts_bytes}
use Rattle.sf_records_tests.proofs.reading_back.write_named.Goals as goal

pub returns : goal.returns
returns c =
    let text = c.args.text.now in
    let ds = c.args.format.now in
    let input : Some (c.new-from.result.held ++ c.new-from.result.source.to_come) ≡ Some text =
    ap (λ k. Some (k ++ c.new-from.result.source.to_come)) c.new-from.ensures.held
    ∙ ap (λ s. Some s.to_come) (c.new-from.ensures.source ∙ c.new.ensures) in
    let names = slice_split (λ b. b == 44) c.args.names.now in
    let bytes : AllByRecursion AreBytes names = subst (AllByRecursion AreBytes) c.in-Ok.ensures.split
    (parts_bytes 44 c.in-Ok.columns (subst AreBytes (sym c.in-Ok.ensures.joined) (are_bytes c.args.names.now c.type_inv.names))) in
    let loop = c.run_records-end.ensures.loops text input in
    let h = c.write_header.new.self in
    let is = c.write_header.ensures.same ∙ c.headed-maker.ensures ∙ ap numbered c.in-Ok.ensures.split in
    let back = c.records_read_back.ensures h ds c.destinations-destinations.ensures.accepted 2000000000 text
    (are_bytes text c.type_inv.text) _ _ _ _ _ _ loop in
    let head = made_whole (header_text c.headed-maker.result) c.new-to.result.bytes c.write_header.new.to.bytes c.write_header.result
    (sym c.is_err.ensures.value ∙ c.if-is_err.false) c.write_header.ensures.written
    ∙ ap (λ s. s.bytes ++ header_text c.headed-maker.result) c.new-to.ensures ∙ ap header_text (sym c.write_header.ensures.same) in
    let all = named_read h names is ds 2000000000 _ _ loop.written c.run_records-end.result back bytes c.write_header.new.to.bytes
    c.run_records-end.new.to.bytes head loop.appends in
    (all.rows, all.records, all.part, all.text, all.whole, all.count, all.read)
