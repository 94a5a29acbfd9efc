use Rattle.std.proofs.Common.{ℕ, ◌≤◌, List, length, subst, take}
use Rattle.std.specs.List.{slice_range}
use Rattle.std.specs.Io.KnownBytes.{Appends}
use Rattle.sf_print.proofs.BlockLemmas.Waiting.{kept_on, others_wait}
use Rattle.sf_print.proofs.blocks.block_sink.BlockSink.hand_on.Goals as goal

pub loop-self-preserved : goal.loop-self-preserved
loop-self-preserved g c =
    let l = c.loop-self in
    let n = c.in-Ok.count in
    let contents = g.W.Write.contents in
    let waiting : List ℕ → List ℕ = λ t. slice_range t l.self.start l.self.end in
    let Most : List ℕ → Type 0 = λ t. n ≤ length (waiting t) in
    let Took : List ℕ → Type 0 = λ t. Appends (contents l.self.writer) (contents c.write_some.new.writer) (take n (waiting t)) in
    let most = subst Most c.deref.ensures.value c.in-Ok.ensures.most in
    let cut = others_wait l.self.block.items l.self.start l.self.end n l.self.ordered l.self.within most in
    record {
      contents = kept_on _ _ _ _ _ _ cut l.invariant.contents (subst Took c.deref.ensures.value c.in-Ok.ensures.took);
      block = l.invariant.block;
      failures = l.invariant.failures;
      flushed = l.invariant.flushed;
      error = l.invariant.error;
    }
