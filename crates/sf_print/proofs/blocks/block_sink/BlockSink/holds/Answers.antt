use Rattle.std.proofs.Common.{◌≡◌, ◌+◌, ◌++◌, ◌≤◌, List, ℕ, length, take, drop, ap, sym, ◌∙◌, arith}
use Rattle.std.specs.List.{slice_range}
use Rattle.std.specs.Vec.{with_items}
use Rattle.std.proofs.lemmas.List.{with_items_is}
use Rattle.sf_print.proofs.BlockLemmas.Waiting.{length-over, waits_behind, waits_too}
use Rattle.sf_print.proofs.blocks.block_sink.BlockSink.holds.Goals as goal

pub returns-clause-held : goal.returns-clause-held
returns-clause-held g c =
    let s = c.args.self.now in
    let bytes = c.args.bytes.now in
    let over : List ℕ → List ℕ = λ t. take s.end t ++ (bytes ++ drop (s.end + length bytes) t) in
    let written : c.copy_over.new.buf ≡ over s.block.items = c.copy_over.ensures ∙ ap over c.deref_mut.ensures.value in
    let fits : s.end + length bytes ≤ length s.block.items = omega (arith, s.within, s.block.ok.0, c.if-bytes-len.false, c.len.ensures) in
    let size : length (over s.block.items) ≡ s.block.len = length-over s.block.items bytes s.end fits ∙ sym s.block.ok.0 in
    let kept : (with_items s.block (over s.block.items)).items ≡ over s.block.items = with_items_is s.block (over s.block.items) size in
    let now : (with_items s.block c.copy_over.new.buf).items ≡ over s.block.items =
    ap (λ (t : List ℕ). (with_items s.block t).items) written ∙ kept in
    waits_too _ _ _ _ (ap (λ (t : List ℕ). slice_range t s.start (s.end + length bytes)) now
    ∙ waits_behind s.block.items bytes s.start s.end s.ordered s.within)
