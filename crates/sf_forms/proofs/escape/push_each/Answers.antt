use Rattle.std.proofs.Common.{◌≡◌, ◌-◌, ◌<◌, length, drop, arith, ◌∙◌}
use Rattle.std.proofs.lemmas.List.{length-drop, length-take}
use Rattle.std.specs.List.{slice_range}
use Rattle.sf_forms.specs.Escapes.{escaped_in}
use Rattle.sf_forms.proofs.Filling.{block_pushed, some_taken}
use Rattle.sf_forms.proofs.Growing.{grown_by, grown_then}
use Rattle.sf_forms.proofs.Quoting.{run_within}
use Rattle.sf_forms.proofs.escape.push_each.Goals as goal

pub loop-done-preserved : goal.loop-done-preserved
loop-done-preserved c =
    let l = c.loop-done in
    let bytes = c.args.bytes.now in
    let fill = c.fill-taken in
    record {
      grown = grown_then l.invariant.grown (grown_by _ c.in_ok-extend_from_slice.ensures.items);
      within = run_within bytes l.done fill.result.0 l.invariant.within fill.ensures.within;
      so_far = block_pushed (escaped_in c.args.form) bytes l.output.items _ fill.new.buf l.done fill.result.0 fill.result.1
          l.invariant.within fill.ensures.written c.in_ok-extend_from_slice.ensures.items ∙ l.invariant.so_far;
    }

pub loop-done-smaller : goal.loop-done-smaller
loop-done-smaller c =
    let l = c.loop-done in
    let bytes = c.args.bytes.now in
    let fill = c.fill-taken in
    let left : length (slice_range bytes l.done (length bytes)) ≡ length bytes - l.done =
    omega (arith, length-take (length bytes - l.done) (drop l.done bytes), length-drop l.done bytes) in
    let some : 0 < length (slice_range bytes l.done (length bytes)) = omega (arith, left, c.loop-done-test.true) in
    let taken = some_taken (escaped_in c.args.form) (slice_range bytes l.done (length bytes)) fill.new.buf fill.result.0 fill.result.1 some
    fill.ensures.end (omega arith) fill.ensures.full fill.ensures.written in
    omega (arith, taken, c.loop-done-test.true)
