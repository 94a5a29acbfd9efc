use Rattle.std.proofs.Common.{◌≤◌, ℕ, List, ap, length, subst, sym, ◌∙◌, arith}
use Rattle.sf_run.specs.outcome.Ending.TheVariants.{End}
use Rattle.sf_records.specs.Copies.{copying}
use Rattle.sf_records.specs.Records.{EndsWith}
use Rattle.sf_records_tests.proofs.CopyLemmas.{copied_same, no_fault}
use Rattle.sf_records_tests.proofs.copied.copied_again.Goals as goal

pub returns : goal.returns
returns c = record {
  same = λ first second.
      let us = c.args.pair.now.print in
      let ds = c.args.pair.now.scan in
      let one = c.copy_of-first.result in
      let two = c.copy_of-second.result in
      let a = c.copy_of-first.ensures.clean first in
      let b = c.copy_of-second.ensures.clean second in
      let low : length one.text.bytes ≤ 2147483647 =
      omega (arith, c.if-bytes.false, ap (λ (t : List ℕ). length t) c.bytes.ensures) in
      copied_same c.aligned_is_accepted.ensures c.one_end.ensures us ds c.print-print.ensures.checked c.copied_twice.ensures c.args.text.now
      one.text.bytes two.text.bytes a.0 b.0 one.end two.end a.1 (no_fault one.end.fault (sym c.copy_of-first.ensures.status ∙ first)) low
      (subst (λ (t : List ℕ). EndsWith (copying us ds) ds 2147483647 t End two.text.bytes b.0 two.end) c.bytes-2.ensures b.1);
}
