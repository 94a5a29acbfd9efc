use Rattle.std.proofs.Common.{drop, take, arith, ◌∙◌, sym, true≢false}
use Rattle.sf_forms.specs.JsonStrings.{json_from}
use Rattle.sf_forms.proofs.Filling.{come}
use Rattle.sf_forms.proofs.JsonWriting.{kept_length, kept_within, kept_written}
use Rattle.sf_forms.proofs.json.write_characters.Goals as goal

pub loop-done-preserved : goal.loop-done-preserved
loop-done-preserved c =
    let l = c.loop-done in
    let bytes = c.args.bytes.now in
    let kept = c.utf8_front-kept in
    record {
      within = kept_within bytes l.done kept.result c.loop-done-test.true kept.ensures.within;
      end = c.in_ok-end.ensures.within;
      written = kept_written bytes (take l.end l.buf) _ l.done kept.result c.loop-done-test.true kept.ensures.count kept.ensures.within
          (λ none. c.if-kept-eq0.false none) c.in_ok-end.ensures.written ∙ l.invariant.written;
    }

pub returns-in_err-end-clause-answers : goal.returns-in_err-end-clause-answers
returns-in_err-end-clause-answers c room =
    let l = c.loop-done in
    let bytes = c.args.bytes.now in
    let kept = c.utf8_front-kept in
    let part = kept_length bytes l.done kept.result c.loop-done-test.true kept.ensures.count kept.ensures.within
    (λ none. c.if-kept-eq0.false none) in
    let so_far = come c.args.buf.now l.buf (json_from 0 (drop l.done bytes)) (json_from 0 bytes) c.args.at l.end c.requires l.invariant.end
    l.invariant.written in
    absurd (true≢false (sym (c.in_err-end.ensures.answers (omega (arith, room, part, so_far)))))
