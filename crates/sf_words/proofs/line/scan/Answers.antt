use Rattle.std.proofs.Common.{◌∙◌, ap, codes}
use Rattle.std.proofs.lemmas.Result.{IfOk-weaker}
use Rattle.clap.specs.Simple.{app_of_fields}
use Rattle.clap.specs.Words.{App, new_app, new_rule}
use Rattle.sf_words.specs.Line.{IsLine, options_of, words_rule}
use Rattle.sf_words.specs.declared.order.Verb.TheVariants.{Scan}
use Rattle.sf_words.proofs.Lines.{with_one_arg}
use Rattle.sf_words.proofs.line.scan.Goals as goal

pub returns : goal.returns
returns c =
    let app : App = options_of Scan (new_app (codes "scan")) in
    let bare : IsLine app c.override_usage.result = record {
      is = ap app_of_fields c.override_usage.ensures ∙ c.in_ok-with_options.ensures.is;
      local = ap (λ f. f.has_globals) c.override_usage.ensures ∙ c.in_ok-with_options.ensures.local;
    } in
    let one = with_one_arg app (new_rule (codes "FORMAT")) c.override_usage.result _ c.optional.result bare
    c.optional.ensures.rule c.optional.ensures.local c.in_ok-arg.ensures in
    IfOk-weaker c.arg-2.result _ _
    (λ m. with_one_arg _ (words_rule (codes "FILE")) _ m c.files.result one
    c.files.ensures.rule c.files.ensures.local)
    c.arg-2.ensures
