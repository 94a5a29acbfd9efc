use Rattle.std.proofs.Common.{◌≡◌, ◌++◌, Some, ap, sym, ◌∙◌}
use Rattle.sf_records.specs.Copies.{copying}
use Rattle.sf_records_tests.proofs.CopyLemmas.{ended_cleanly, no_fault, rows_copied}
use Rattle.sf_records_tests.proofs.copied.copy_of.Goals as goal

pub returns : goal.returns
returns c =
    let us = c.args.pair.now.print in
    let ds = c.args.pair.now.scan in
    let text = c.args.text.now in
    let input : Some (c.new-from.result.held ++ c.new-from.result.source.to_come) ≡ Some text =
    ap (λ h. Some (h ++ c.new-from.result.source.to_come)) c.new-from.ensures.held
    ∙ ap (λ s. Some s.to_come) (c.new-from.ensures.source ∙ c.new.ensures) in
    let bytes = c.run_copy-end.new.to.bytes in
    let end = c.run_copy-end.result in
    let clean = λ (done : end.status ≡ 0). ended_cleanly (copying us ds) ds 2147483647 text c.new-to.result.bytes bytes end
    (ap (λ s. s.bytes) c.new-to.ensures) (c.run_copy-end.ensures.loops text input)
    (no_fault end.fault (sym c.run_copy-end.ensures.status ∙ done)) in
    record {
      clean = clean;
      status = c.run_copy-end.ensures.status;
      rows = λ rows few fitting is done.
          rows_copied c.aligned_is_accepted.ensures c.one_end.ensures us ds c.print-print.ensures.checked c.joined_texts.ensures rows few
          fitting text bytes (clean done).0 end is (clean done).1;
    }
