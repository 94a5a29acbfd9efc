use Rattle.std.proofs.Common.{rules, codes}
use Rattle.std.proofs.lemmas.Result.{IfOk-weaker}
use Rattle.clap.specs.Words.{new_app}
use Rattle.sf_words.specs.Line.{IsLine, wanting_subcommand}
use Rattle.sf_words.proofs.Lines.{with_one_more}
use Rattle.sf_words.proofs.line.line.Goals as goal

pub returns : goal.returns
returns c =
    let bare : IsLine (wanting_subcommand (new_app (codes "sf"))) c.subcommand_required.result = record {
      is = search rules;
      local = search rules;
    } in
    let one = with_one_more _ _ _ _ _ bare c.in_ok-show.ensures c.in_ok-subcommand.ensures in
    let two = with_one_more _ _ _ _ _ one c.in_ok-scan.ensures c.in_ok-subcommand-2.ensures in
    let three = with_one_more _ _ _ _ _ two c.in_ok-print.ensures c.in_ok-subcommand-3.ensures in
    let four = with_one_more _ _ _ _ _ three c.in_ok-check.ensures c.in_ok-subcommand-4.ensures in
    IfOk-weaker c.subcommand-5.result _ _ (λ m. with_one_more _ _ _ _ m four c.in_ok-copy.ensures) c.subcommand-5.ensures
