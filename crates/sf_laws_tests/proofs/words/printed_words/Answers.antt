use Rattle.std.proofs.Common.{Some}
use Rattle.sf_arguments.specs.declared.word_reading.WordReading.TheVariants.{Escaped}
use Rattle.sf_laws_tests.proofs.words.printed_words.Goals as goal

pub returns : goal.returns
returns c = record {
  count = λ other. c.count_is_told.ensures Escaped c.args.format.now _ (Some c.new-out.result.bytes)
      (Some c.print_values-answer.new.out.bytes) c.print_values-answer.result other
      c.print_values-answer.ensures.answer;
  first = λ fault lowest. c.first_is_told.ensures Escaped c.args.format.now _ (Some c.new-out.result.bytes)
      (Some c.print_values-answer.new.out.bytes) c.print_values-answer.result fault lowest
      c.print_values-answer.ensures.answer;
  value = λ letter kind word a b. c.one_value.ensures Escaped letter kind word a b;
  values = λ a b. c.one_list.ensures Escaped c.args.format.now _ a b;
}
