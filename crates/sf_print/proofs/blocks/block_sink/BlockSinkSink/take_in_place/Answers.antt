use Rattle.std.proofs.Common.{◌≡◌, ◌+◌, ◌++◌, List, ℕ, length, take, ap, ◌∙◌, arith}
use Rattle.std.specs.List.{slice_range}
use Rattle.std.specs.Io.KnownBytes.{append_known}
use Rattle.std.specs.Vec.{with_items}
use Rattle.std.proofs.lemmas.List.{with_items_is}
use Rattle.sf_print.proofs.BlockLemmas.Waiting.{waits_after, waits_still, waits_too, written_length}
use Rattle.sf_print.proofs.blocks.block_sink.BlockSinkSink.take_in_place.Goals as goal

pub returns-clause-took : goal.returns-clause-took
returns-clause-took g c =
    let s = c.args.self.now in
    let new = c.write_after.new.block in
    let text = g.T.TextInPlace.text c.args.text.now in
    let size : length new ≡ s.block.len = omega (arith, c.write_after.auto.block, ap length c.deref_mut.ensures.value, s.block.ok.0) in
    let kept : (with_items s.block new).items ≡ new = with_items_is s.block new size in
    waits_too _ _ _ _ (ap (λ (t : List ℕ). slice_range t s.start (s.end + c.in_ok-len.len)) kept
    ∙ waits_after s.block.items new text s.start s.end c.in_ok-len.len s.ordered s.within
    (c.in_ok-len.ensures.written ∙ ap (λ (t : List ℕ). take s.end t ++ text) c.deref_mut.ensures.value))

pub returns-clause-room : goal.returns-clause-room
returns-clause-room g c =
    let s = c.args.self.now in
    let new = c.write_after.new.block in
    let text = g.T.TextInPlace.text c.args.text.now in
    let size : length new ≡ s.block.len = omega (arith, c.write_after.auto.block, ap length c.deref_mut.ensures.value, s.block.ok.0) in
    let kept : (with_items s.block new).items ≡ new = with_items_is s.block new size in
    let len = written_length s.block.items new text s.end c.in_ok-len.len s.within c.in_ok-len.ensures.within
    (c.in_ok-len.ensures.written ∙ ap (λ (t : List ℕ). take s.end t ++ text) c.deref_mut.ensures.value) in
    omega (arith, len, ap length kept, size, s.block.ok.0, s.within, c.in_ok-len.ensures.within)

pub returns-in_err-len-clause-refused : goal.returns-in_err-len-clause-refused
returns-in_err-len-clause-refused g c none =
    let s = c.args.self.now in
    let new = c.write_after.new.block in
    let size : length new ≡ s.block.len = omega (arith, c.write_after.auto.block, ap length c.deref_mut.ensures.value, s.block.ok.0) in
    let kept : (with_items s.block new).items ≡ new = with_items_is s.block new size in
    ap (append_known (g.W.Write.contents s.writer)) (ap (λ (t : List ℕ). slice_range t s.start s.end) kept
    ∙ waits_still s.block.items new s.start s.end s.ordered
    (c.write_after.ensures.before ∙ ap (take s.end) c.deref_mut.ensures.value))
