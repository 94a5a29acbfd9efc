use Rattle.std.proofs.Common.{List, ℕ, ◌+◌, ◌++◌, ◌∙◌, ap, length}
use Rattle.std.proofs.lemmas.List.{length-map}
use Rattle.sf_forms.specs.Columns.{texts}
use Rattle.sf_forms.specs.Heads.{column_names}
use Rattle.sf_forms.proofs.Heading.{line_in_tables, names_count}
use Rattle.sf_forms.proofs.Lone.{ok_then}
use Rattle.sf_forms.proofs.heads.push_names.Goals as goal

pub returns-in-Tsv-clause-pushed : goal.returns-in-Tsv-clause-pushed
returns-in-Tsv-clause-pushed c =
    let names : List (List ℕ) = texts c.args.names.now in
    ok_then c.push_framed.result c.push_framed.ensures.pushed (λ e. e ∙ ap (λ (line : List ℕ). c.args.output.now.items ++ line)
    (line_in_tables c.args.form (column_names c.args.tagged names) _ c.in-Tsv.is
    (names_count c.args.tagged names (length c.args.names.now) _ (ap (λ (n : ℕ). length c.args.names.now + n) c.from.ensures)
    (length-map c.args.names.now _))))
