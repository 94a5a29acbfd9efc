use Rattle.std.proofs.Common.{◌≡◌, ℕ, ◌≤◌, List, Some, true, length, take, sym, ap, ◌∙◌, subst, arith}
use Rattle.std.proofs.Math.Seq.{take-length}
use Rattle.std.specs.Float.Ieee.{binary64}
use Rattle.sf_float_read.specs.declared.item.reached.Forms.TheVariants.{Decimal}
use Rattle.sf_float_read.specs.declared.item.reached.Reached.{Reached}
use Rattle.sf_float_read.specs.item.Sequences.{IsDecimalFloat}
use Rattle.sf_float_read.specs.item.Tests.{read, start_of, is_whole, is_whole_at, TestsAreSequences}
use Rattle.sf_float_read.specs.value.Values.{IsStored}
use Rattle.sf_float_tests.proofs.Zeros.{with_answer}
use Rattle.sf_float_tests.proofs.items.decimal_pattern_of.Goals as goal

-- a text that was taken whole
is_decimal : (text : List ℕ) (n : ℕ) (start reached : Reached) → n ≤ length text → length text ≤ n → start ≡ start_of Decimal
    → read (Some start) (take n text) ≡ Some reached → is_whole reached ≡ true → TestsAreSequences → IsDecimalFloat text
is_decimal text n start reached within all from taken whole tests =
    let long : n ≡ length text = omega (arith, within, all) in
    let is : take n text ≡ text = ap (λ k. take k text) long ∙ take-length text in
    let so = ap (λ s. read (Some s) text) (sym from) ∙ ap (read (Some start)) (sym is) ∙ taken in
    (tests Decimal text).0.0 (ap is_whole_at so ∙ whole)

pub value_f64-requires : goal.value_f64-requires
value_f64-requires c =
    c.decimals_are_floats.ensures c.args.text.now
    (is_decimal c.args.text.now c.take_run.result c.start-scan.result.reached c.take_run.new.self.reached c.take_run.ensures.within
    c.if-take_run-text.false c.start-scan.ensures.start c.take_run.ensures.read
    (sym c.is_match.ensures.whole ∙ c.if-not-is_match.false) c.tests_are_sequences.ensures)

pub returns : goal.returns
returns c = with_answer c.value_f64.result (λ bits is. (
  (c.parts_are_sequences.ensures c.args.text.now).2
      (is_decimal c.args.text.now c.take_run.result c.start-scan.result.reached c.take_run.new.self.reached c.take_run.ensures.within
      c.if-take_run-text.false c.start-scan.ensures.start c.take_run.ensures.read
      (sym c.is_match.ensures.whole ∙ c.if-not-is_match.false) c.tests_are_sequences.ensures),
  subst (IsStored binary64 c.args.text.now) is c.value_f64.ensures,
))
