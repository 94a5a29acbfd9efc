use Rattle.std.proofs.Common.{◌≡◌, ◌+◌, ◌++◌, List, ℕ, length, take, ap, ◌∙◌, arith}
use Rattle.std.specs.List.{slice_range}
use Rattle.std.specs.Io.KnownBytes.{append_known}
use Rattle.std.specs.Vec.{with_items}
use Rattle.std.proofs.lemmas.List.{with_items_is}
use Rattle.sf_print.proofs.BlockLemmas.Waiting.{waits_after, waits_still, waits_too}
use Rattle.sf_print.proofs.blocks.block_sink.BlockSinkSink.lend.Goals as goal

pub returns-in-Some-clause-took : goal.returns-in-Some-clause-took
returns-in-Some-clause-took g c =
    let s = c.args.self.now in
    let new = c.lend_after.new.block in
    let lent = c.in-Some.ensures.written in
    let size : length new ≡ s.block.len = omega (arith, c.lend_after.auto.block, ap length c.deref_mut.ensures.value, s.block.ok.0) in
    let kept : (with_items s.block new).items ≡ new = with_items_is s.block new size in (
      lent.0,
      lent.1,
      waits_too _ _ _ _ (ap (λ (t : List ℕ). slice_range t s.start (s.end + c.in-Some.len)) kept
          ∙ waits_after s.block.items new lent.0 s.start s.end c.in-Some.len s.ordered s.within
          (lent.2 ∙ ap (λ (t : List ℕ). take s.end t ++ lent.0) c.deref_mut.ensures.value)),
    )

pub returns-in-None-clause-refused : goal.returns-in-None-clause-refused
returns-in-None-clause-refused g c =
    let s = c.args.self.now in
    let new = c.lend_after.new.block in
    let size : length new ≡ s.block.len = omega (arith, c.lend_after.auto.block, ap length c.deref_mut.ensures.value, s.block.ok.0) in
    let kept : (with_items s.block new).items ≡ new = with_items_is s.block new size in
    ap (append_known (g.W.Write.contents s.writer)) (ap (λ (t : List ℕ). slice_range t s.start s.end) kept
    ∙ waits_still s.block.items new s.start s.end s.ordered
    (c.lend_after.ensures.before ∙ ap (take s.end) c.deref_mut.ensures.value))
