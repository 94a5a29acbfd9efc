use Rattle.std.proofs.Common.{◌≡◌, ◌∙◌, ◌<◌, ◌-◌, ◌∷◌, [], ap, arith, length, refl, subst, sym, List, Some}
use Rattle.std.specs.Prelude.{slice_get}
use Rattle.std.proofs.lemmas.Option.{same_Some}
use Rattle.sf_format.specs.declared.directive.Directive.{Directive}
use Rattle.sf_pair.specs.Formats.{Formats}
use Rattle.sf_command.specs.jobs.Commands.{grammar_of}
use Rattle.sf_command.specs.jobs.CopyFormats.{line_of}
use Rattle.sf_command.specs.declared.jobs.formats.ScanText.{ScanText}
use Rattle.sf_records.specs.Copies.{copying}
use Rattle.sf_words.specs.declared.order.LineOptions.{LineOptions}
use Rattle.sf_command.specs.line_jobs.Copies.{line_options}
use Rattle.sf_command.specs.console.Fronts.{file_name}
use Rattle.sf_command.specs.line_jobs.Lines.{RunsLines, SaysLines, SomeIsSaid}
use Rattle.sf_command.proofs.LineJobLemmas.Copying.{said_by, some_said_by}
use Rattle.sf_command.proofs.line_jobs.copies.copy_by_pair.Goals as goal

pub invariant_of-scan : goal.invariant_of-scan
invariant_of-scan g c =
    let order = c.args.order.now in
    let formats = c.args.formats.now in
    let profile = grammar_of order.profile in
    let line = (line_of formats).format in
    let text = (line_of formats).text.items in
    let explain = c.args.explain in
    let tried : c.from_ref.result.now ≡ line ∷ [] =
    c.from_ref.ensures.value ∙ ap (λ (s : ScanText). s.format ∷ []) c.line-line.ensures in
    let bytes : c.deref.result.now ≡ text = c.deref.ensures.value ∙ ap (λ (s : ScanText). s.text.items) c.line-line.ensures in
    let said : (ds : List Directive) → slice_get (line ∷ []) (length (line ∷ []) - 1) ≡ Some ds
    → SomeIsSaid (file_name order) profile c.line_options-how.result.quiet explain c.deref.result.now ds =
    λ ds is. subst (λ (o : LineOptions). SomeIsSaid (file_name order) profile o.quiet explain c.deref.result.now ds)
    (sym c.line_options-how.ensures)
    (subst (λ t. SomeIsSaid (file_name order) profile c.args.options.quiet explain t ds) (sym bytes)
    (subst (λ (d : List Directive). SomeIsSaid (file_name order) profile c.args.options.quiet explain text d) (same_Some line ds is)
    (some_said_by (file_name order) profile c.args.options.quiet explain text line c.requires.line))) in
    let both = subst (λ (fs : List (List Directive)). (0 < length fs) × ((ds : List Directive) → slice_get fs (length fs - 1) ≡ Some ds
    → SomeIsSaid (file_name order) profile c.line_options-how.result.quiet explain c.deref.result.now ds)) (sym tried)
    (omega arith, said) in
    record { limit = c.requires.limit; some = both.0; said = both.1 }

pub returns : goal.returns
returns g c =
    let order = c.args.order.now in
    let formats = c.args.formats.now in
    let profile = grammar_of order.profile in
    let line : List Directive = (line_of formats).format in
    let text = (line_of formats).text.items in
    let explain = c.args.explain in
    let (telling, says) = said_by (file_name order) profile c.args.options.quiet explain text line c.requires.line in
    let tried : c.from_ref.result.now ≡ line ∷ [] =
    c.from_ref.ensures.value ∙ ap (λ (s : ScanText). s.format ∷ []) c.line-line.ensures in
    let bytes : c.deref.result.now ≡ text = c.deref.ensures.value ∙ ap (λ (s : ScanText). s.text.items) c.line-line.ensures in
    let last : slice_get c.from_ref.result.now (length c.from_ref.result.now - 1) ≡ Some line =
    subst (λ (fs : List (List Directive)). slice_get fs (length fs - 1) ≡ Some line) (sym tried) refl in
    let told : SaysLines (file_name order) profile c.line_options-how.result.quiet explain c.deref.result.now line telling =
    subst (λ (o : LineOptions). SaysLines (file_name order) profile o.quiet explain c.deref.result.now line telling)
    (sym c.line_options-how.ensures)
    (subst (λ t. SaysLines (file_name order) profile c.args.options.quiet explain t line telling) (sym bytes) says) in
    let made : c.new-maker.result ≡ record { print = formats.print; scan = formats.scan.format } = c.new-maker.ensures ∙ c.requires.pair in
    let runs : Formats → LineOptions → List (List Directive) → Type 0 =
    λ pair how fs. RunsLines g.S.Source.to_come g.S.Source.failures g.K.Sink.contents g.K.Sink.failures g.C.Console.said
    g.C.Console.unsaid (λ number ds. copying pair.print pair.scan) how order.limit [] fs telling c.args.from.now c.lines_with.new.from
    c.args.out.now c.lines_with.new.out c.args.err.now c.lines_with.new.err c.lines_with.result in
    let by_pair = subst (λ pair. runs pair c.line_options-how.result c.from_ref.result.now) made
    (c.lines_with.ensures line telling last told) in
    let by_how = subst (λ how. runs (record { print = formats.print; scan = formats.scan.format }) how c.from_ref.result.now)
    c.line_options-how.ensures by_pair in
    let ran = subst (runs (record { print = formats.print; scan = formats.scan.format })
    (line_options c.args.options formats)) tried by_how in
    (telling, says, ran)
