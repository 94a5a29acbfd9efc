use Rattle.std.proofs.Common.{ℕ, List, ◌++◌, length, map, ap, ◌∙◌, arith}
use Rattle.std.specs.List.{join_with_byte, range_with_len}
use Rattle.sf_forms.specs.Forms.{opening}
use Rattle.sf_forms.proofs.Lone.{ok_then, record_is}
use Rattle.sf_forms.proofs.columns.push_framed.Goals as goal

pub returns-clause-pushed : goal.returns-clause-pushed
returns-clause-pushed g c =
    let f = g.C.Columns.text c.args.columns.now in
    let begun = c.in_ok-push_opening in
    let columns = c.in_ok-push_columns in
    let quotes = c.in_ok-push_filler in
    let old : List ℕ = c.args.output.now.items in
    ok_then c.push_closing.result c.push_closing.ensures.pushed (record_is c.args.form f c.args.count _ old c.push_columns.new.output.items
    c.push_filler.new.output.items _ (columns.ensures.pushed
    ∙ ap (λ (t : List ℕ). t ++ join_with_byte c.separator.result (map f (range_with_len 1 c.args.count))) begun.ensures.pushed
    ∙ ap (λ (b : ℕ). (old ++ opening c.args.form) ++ join_with_byte b (map f (range_with_len 1 c.args.count)))
    c.separator.ensures) (omega (arith, ap length begun.ensures.pushed)) quotes.ensures.pushed)
