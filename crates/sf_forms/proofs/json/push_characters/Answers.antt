use Rattle.std.proofs.Common.{◌∙◌}
use Rattle.sf_forms.proofs.Growing.{grown_by, grown_then}
use Rattle.sf_forms.proofs.JsonWriting.{kept_within, kept_written}
use Rattle.sf_forms.proofs.json.push_characters.Goals as goal

pub loop-done-preserved : goal.loop-done-preserved
loop-done-preserved c =
    let l = c.loop-done in
    let bytes = c.args.bytes.now in
    let kept = c.utf8_front-kept in
    record {
      grown = grown_then l.invariant.grown (grown_by _ c.in_ok-push_kept.ensures.pushed);
      within = kept_within bytes l.done kept.result c.loop-done-test.true kept.ensures.within;
      so_far = kept_written bytes l.output.items _ l.done kept.result c.loop-done-test.true kept.ensures.count kept.ensures.within
          (λ none. c.if-kept-eq0.false none) c.in_ok-push_kept.ensures.pushed ∙ l.invariant.so_far;
    }
