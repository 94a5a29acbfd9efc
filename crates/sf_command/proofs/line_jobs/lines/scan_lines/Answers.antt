use Rattle.std.proofs.Common.{◌≡◌, ◌<◌, ◌-◌, ◌∙◌, ap, arith, length, map, rules, string_bytes, subst, sym, inr, true, List, Some, ℕ}
use Rattle.std.specs.Prelude.{option_map, slice_get}
use Rattle.std.proofs.lemmas.List.{length-map}
use Rattle.sf_format.specs.declared.directive.Directive.{Directive}
use Rattle.sf_messages.specs.declared.fault.CommandFault.TheVariants.{Memory}
use Rattle.sf_command.specs.jobs.Heads.{is_headed, names_text}
use Rattle.sf_command.specs.jobs.Commands.{form_of, grammar_of}
use Rattle.sf_arguments.specs.Escapes.{Unescapes}
use Rattle.sf_command.specs.notes.Explains.{OfWord}
use Rattle.sf_command.specs.console.Fronts.{file_name}
use Rattle.sf_command.specs.line_jobs.Lines.{RunsWriting, SaysLines, SomeIsSaid}
use Rattle.sf_command.specs.jobs.LinesJobs.{AreRefused}
use Rattle.sf_command.proofs.LineJobLemmas.Lining.{no_memory, refused_memory, some_said, telling_of}
use Rattle.sf_command.proofs.JobLemmas.LineWords.{as_many, refused_after}
use Rattle.sf_command.proofs.line_jobs.lines.scan_lines.Goals as goal

pub returns-in_err-text : goal.returns-in_err-text
returns-in_err-text g c =
    let order = c.args.order.now in
    let texts = order.texts.items in
    let words : List (List ℕ) = map string_bytes texts in
    let passed : List (List ℕ) = map string_bytes order.ignored.items in
    let profile = grammar_of order.profile in
    let some : 0 < length words = omega (arith, length-map texts string_bytes, c.requires.some) in
    let (word, first) = refused_memory order.strict profile words c.args.job.now.formats.tried.items c.requires.tried some in
    let form = form_of order.output in
    let print = option_map string_bytes order.print in
    let none : AreRefused order.strict profile form print passed words Memory = no_memory order.strict profile form print passed words
    c.args.job.now.writing
    c.requires.writing word
    (refused_after order.strict profile passed words c.args.job.now.formats.ignored.items word Memory c.requires.ignored first) in
    let bad : AreRefused order.strict profile form print passed words c.in_err-text.field-0.0 =
    subst (λ fault. AreRefused order.strict profile form print passed words fault) (sym c.in_err-text.ensures.err) none in
    search (rules, bad)

pub invariant_of-scan : goal.invariant_of-scan
invariant_of-scan g c =
    let order = c.args.order.now in
    let texts = order.texts.items in
    let words : List (List ℕ) = map string_bytes texts in
    let profile = grammar_of order.profile in
    let explain = c.args.explain in
    let quiet = c.args.options.quiet in
    let formats : List (List Directive) = c.args.job.now.formats.tried.items in
    let size : length words ≡ length texts = length-map texts string_bytes in
    let reads : explain ≡ true → OfWord Unescapes (slice_get words (length words - 1)) c.in_ok-text.text.items =
    λ e. subst (λ w. OfWord Unescapes w c.in_ok-text.text.items)
    (c.last_word.ensures ∙ ap (λ ts. slice_get (map string_bytes ts) (length ts - 1)) c.deref.ensures.value
    ∙ ap (λ n. slice_get words (n - 1)) (sym size)) (c.in_ok-text.ensures.ok e) in
    let some : 0 < length formats = omega (arith, as_many order.strict profile words formats c.requires.tried, size, c.requires.some) in
    let said : (ds : List Directive) → slice_get formats (length formats - 1) ≡ Some ds
    → SomeIsSaid (file_name order) profile quiet explain c.deref-4.result.now ds =
    λ ds is. subst (λ t. SomeIsSaid (file_name order) profile quiet explain t ds) (sym c.deref-4.ensures.value)
    (some_said (file_name order) order.strict profile quiet explain words formats c.requires.tried (omega (arith, size, c.requires.some))
    c.in_ok-text.text.items reads ds
    is) in
    let both : (tried : List (List Directive)) → tried ≡ formats
    → (0 < length tried) × ((ds : List Directive) → slice_get tried (length tried - 1) ≡ Some ds
    → SomeIsSaid (file_name order) profile quiet explain c.deref-4.result.now ds) =
    λ tried same. subst (λ fs. (0 < length fs) × ((ds : List Directive) → slice_get fs (length fs - 1) ≡ Some ds
    → SomeIsSaid (file_name order) profile quiet explain c.deref-4.result.now ds)) (sym same) (some, said) in
    let (tried, last) = both c.deref-3.result.now c.deref-3.ensures.value in
    record { limit = c.requires.limit; some = tried; said = last }

pub returns : goal.returns
returns g c =
    let order = c.args.order.now in
    let texts = order.texts.items in
    let words : List (List ℕ) = map string_bytes texts in
    let profile = grammar_of order.profile in
    let explain = c.args.explain in
    let quiet = c.args.options.quiet in
    let formats : List (List Directive) = c.args.job.now.formats.tried.items in
    let ignored : List (List Directive) = c.args.job.now.formats.ignored.items in
    let text : List ℕ = c.in_ok-text.text.items in
    let size : length words ≡ length texts = length-map texts string_bytes in
    let some : 0 < length words = omega (arith, size, c.requires.some) in
    let reads : explain ≡ true → OfWord Unescapes (slice_get words (length words - 1)) text =
    λ e. subst (λ w. OfWord Unescapes w text)
    (c.last_word.ensures ∙ ap (λ ts. slice_get (map string_bytes ts) (length ts - 1)) c.deref.ensures.value
    ∙ ap (λ n. slice_get words (n - 1)) (sym size)) (c.in_ok-text.ensures.ok e) in
    let (ds, telling, last, says, is) = telling_of (file_name order) order.strict profile quiet explain words formats c.requires.tried some
    text reads in
    let told = subst (λ t. SaysLines (file_name order) profile quiet explain t ds telling) (sym c.deref-4.ensures.value) says in
    let there = subst (λ (fs : List (List Directive)). slice_get fs (length fs - 1) ≡ Some ds) (sym c.deref-3.ensures.value) last in
    let ran = c.lines_by.ensures ds telling there told in
    let by = subst (λ (fs : List (List Directive)). RunsWriting g.S.Source.to_come g.S.Source.failures g.K.Sink.contents g.K.Sink.failures
    g.C.Console.said g.C.Console.unsaid order.tag
    (is_headed order.file) (names_text order) c.args.job.now.writing c.args.options order.limit c.deref-2.result.now fs telling
    c.args.from.now c.lines_by.new.from c.args.out.now c.lines_by.new.out c.args.err.now c.lines_by.new.err c.lines_by.result)
    c.deref-3.ensures.value ran in
    let all = subst (λ (fs : List (List Directive)). RunsWriting g.S.Source.to_come g.S.Source.failures g.K.Sink.contents g.K.Sink.failures
    g.C.Console.said g.C.Console.unsaid order.tag (is_headed order.file) (names_text order) c.args.job.now.writing c.args.options
    order.limit fs formats telling
    c.args.from.now c.lines_by.new.from c.args.out.now c.lines_by.new.out c.args.err.now c.lines_by.new.err c.lines_by.result)
    c.deref-2.ensures.value by in
    inr (
      c.args.job.now.writing,
      ignored,
      formats,
      telling,
      c.requires.writing,
      c.requires.ignored,
      c.requires.tried,
      c.requires.suits,
      is,
      all,
    )
