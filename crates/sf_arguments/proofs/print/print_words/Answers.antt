use Rattle.std.proofs.Common.{◌∙◌, arith, ap, sym, subst, map, length, string_bytes, Bool, cond, Err}
use Rattle.std.proofs.lemmas.Grind.{common_steps}
use Rattle.std.proofs.lemmas.List.{length-map}
use Rattle.std.proofs.lemmas.Result.{err_from_is_err_and}
use Rattle.sf_print.specs.sink.Sinks.{counted_on}
use Rattle.sf_arguments.specs.declared.argument_fault.ArgumentFault.{ArgumentFault}
use Rattle.sf_arguments.specs.Prints.{Answers, is_write_fault}
use Rattle.sf_arguments.proofs.PrintAnswering.{refused_is, memory_is}
use Rattle.sf_arguments.proofs.print.print_words.Goals as goal

pub returns-in_err-texts-clause-answer : goal.returns-in_err-texts-clause-answer
returns-in_err-texts-clause-answer g c =
    let many = length-map c.args.words.now string_bytes in
    let p = err_from_is_err_and c.from_residual.result c.from_residual.ensures.1 in
    memory_is c.args.how c.args.format.now c.directives-units.result.now (map string_bytes c.args.words.now)
    (g.K.Sink.contents c.args.out.now)
    (length c.args.words.now) c.from_residual.result
    (p.1 ∙ ap (λ (f : ArgumentFault). Err f) p.2) c.directives-units.ensures.value many c.in_default.ensures.none
    (omega (arith, many, c.if-words-expected.false, c.values-expected.ensures.count))

pub returns-in_err-values-clause-answer : goal.returns-in_err-values-clause-answer
returns-in_err-values-clause-answer g c =
    let many = length-map c.args.words.now string_bytes in
    let p = err_from_is_err_and c.from_residual-in_err-values.result c.from_residual-in_err-values.ensures.1 in
    memory_is c.args.how c.args.format.now c.directives-units.result.now (map string_bytes c.args.words.now)
    (g.K.Sink.contents c.args.out.now)
    (length c.args.words.now) c.from_residual-in_err-values.result
    (p.1 ∙ ap (λ (f : ArgumentFault). Err f) p.2) c.directives-units.ensures.value many c.in_default.ensures.none
    (omega (arith, many, c.if-words-expected.false, c.values-expected.ensures.count))

pub returns-clause-answer : goal.returns-clause-answer
returns-clause-answer g c =
    let words = map string_bytes c.args.words.now in
    let units = c.args.format.now in
    let told =
    refused_is c.args.how g.K.Sink.contents units c.directives-units.result.now words c.in_ok-values.values.items
    c.deref-2.result.now c.args.out.now c.fprint.new.to c.in-Err.fault
    c.directives-units.ensures.value c.deref-2.ensures.value c.directives-units.ensures.proper c.directives-units.ensures.slots
    c.in_ok-values.ensures c.in-Err.ensures.refused c.in-Err.ensures.written in
    subst (λ (f : ArgumentFault). Answers c.args.how units words (g.K.Sink.contents c.args.out.now) (g.K.Sink.contents c.fprint.new.to)
    (Err f))
    (sym c.fault_of_print.ensures) told.answer

pub returns-clause-failures : goal.returns-clause-failures
returns-clause-failures g c =
    let told =
    refused_is c.args.how g.K.Sink.contents c.args.format.now c.directives-units.result.now
    (map string_bytes c.args.words.now) c.in_ok-values.values.items c.deref-2.result.now c.args.out.now c.fprint.new.to c.in-Err.fault
    c.directives-units.ensures.value c.deref-2.ensures.value c.directives-units.ensures.proper c.directives-units.ensures.slots
    c.in_ok-values.ensures c.in-Err.ensures.refused c.in-Err.ensures.written in
    let failed = g.K.Sink.failures c.args.out.now in
    c.in-Err.ensures.failures
    ∙ ap (λ (b : Bool). cond b (counted_on failed) failed) (sym told.failures)
    ∙ ap (λ (f : ArgumentFault). cond (is_write_fault (Err f)) (counted_on failed) failed) (sym c.fault_of_print.ensures)

pub returns-then-words-expected-clause-answer : goal.returns-then-words-expected-clause-answer
returns-then-words-expected-clause-answer g c = grind (arith, common_steps)
