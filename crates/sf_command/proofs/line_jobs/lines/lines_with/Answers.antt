use Rattle.std.proofs.Common.{◌≡◌, ◌∙◌, ◌-◌, get_or, length, subst, sym, arith, rules, List}
use Rattle.std.specs.Prelude.{option_map}
use Rattle.std.proofs.lemmas.Option.{same_Some, slice_get-get_or}
use Rattle.sf_format.specs.declared.directive.Directive.{Directive}
use Rattle.sf_command.specs.jobs.Commands.{grammar_of}
use Rattle.sf_command.specs.console.Fronts.{file_name}
use Rattle.sf_command.specs.line_jobs.Lines.{SaysLines, SomeIsSaid}
use Rattle.sf_command.proofs.LineJobLemmas.Lining.{spans_lent}
use Rattle.sf_command.proofs.line_jobs.lines.lines_with.Goals as goal

-- the last format says of lines what the words do
pub lines_told-requires : goal.lines_told-requires
lines_told-requires g c =
    let scan = c.args.scan.now in
    let file = file_name scan.order.now in
    let formats = scan.formats.now.tried.now in
    let any = c.index-formats-formats.result in
    let last = get_or formats (length formats - 1) any in
    let is = slice_get-get_or formats (length formats - 1) any (omega (arith, scan.some)) in
    let said = subst (λ name. SomeIsSaid name c.grammar_of-profile.result scan.options.quiet scan.explain scan.text.now last)
    (sym c.file_name.ensures)
    (subst (λ p. SomeIsSaid file p scan.options.quiet scan.explain scan.text.now last) (sym c.grammar_of-profile.ensures)
    (scan.said last is)) in
    let known = spans_lent c.grammar_of-profile.result scan.text.now c.known_spans-spans.result c.as_ref.result
    c.as_ref.ensures.value c.known_spans-spans.ensures in
    (search rules, (scan.limit, (scan.some, (said, known))))

pub returns : goal.returns
returns g c ds telling last says =
    let scan = c.args.scan.now in
    let file = file_name scan.order.now in
    let formats = scan.formats.now.tried.now in
    let any : List Directive = c.index-formats-formats.result in
    let by : List Directive = get_or formats (length formats - 1) any in
    let same : ds ≡ by = same_Some ds by (sym last ∙ slice_get-get_or formats (length formats - 1) any (omega (arith, scan.some))) in
    let told : SaysLines (option_map (λ name. name.now) c.file_name.result) c.grammar_of-profile.result scan.options.quiet scan.explain
    scan.text.now by telling =
    subst (λ name. SaysLines name c.grammar_of-profile.result scan.options.quiet scan.explain scan.text.now by telling)
    (sym c.file_name.ensures)
    (subst (λ p. SaysLines file p scan.options.quiet scan.explain scan.text.now by telling) (sym c.grammar_of-profile.ensures)
    (subst (λ d. SaysLines file (grammar_of scan.order.now.profile) scan.options.quiet scan.explain scan.text.now d telling) same says)) in
    c.lines_told.ensures telling told
