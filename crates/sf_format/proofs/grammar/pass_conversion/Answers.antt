use Rattle.std.proofs.Common.{◌+◌, ◌-◌, ◌∙◌, Err, length, refl, sym, arith}
use Rattle.sf_format.specs.declared.fault.FormatWhy.TheVariants.{Truncated}
use Rattle.sf_format.specs.Passing.{opening_of, fault_of}
use Rattle.sf_format.proofs.WholeTexts.{no_bytes}
use Rattle.sf_format.proofs.Passages.{cut_fault, cut_passes, first_and_rest}
use Rattle.sf_format.proofs.grammar.pass_conversion.Goals as goal

pub returns-in-Some : goal.returns-in-Some
returns-in-Some g c =
    λ earlier holds.
    cut_fault (g.G.Grammar.language c.args.grammar) earlier c.args.at c.args.text.now (opening_of c.opening.result.0)
    (fault_of c.in-Some.fault)
    c.opening.ensures.opening (sym c.in-Some.ensures)

pub returns-in-empty : goal.returns-in-empty
returns-in-empty g c =
    λ earlier holds.
    let place = c.args.at + 1 + (length c.args.text.now - length c.opening.result.1.now) in
    let none = sym (no_bytes c.opening.result.1.now (omega arith)) in
    cut_passes c.args.wanted (g.G.Grammar.means c.args.grammar) (g.G.Grammar.language c.args.grammar) earlier c.args.at place
    c.args.text.now _
    (opening_of c.opening.result.0) (Err (record { at = place; why = Truncated })) c.opening.ensures.opening (none ∙ c.opening.ensures.rest)
    (omega (arith, c.opening.ensures.length)) (sym c.in_default.ensures) refl

pub returns-in-len1-up : goal.returns-in-len1-up
returns-in-len1-up g c =
    λ earlier holds.
    let place = c.args.at + 1 + (length c.args.text.now - length c.opening.result.1.now) in
    let all = first_and_rest c.opening.result.1.now c.in-len1-up.len_at_least in
    cut_passes c.args.wanted (g.G.Grammar.means c.args.grammar) (g.G.Grammar.language c.args.grammar) earlier c.args.at place
    c.args.text.now _
    (opening_of c.opening.result.0) c.pass_letter.result c.opening.ensures.opening (all ∙ c.opening.ensures.rest)
    (omega (arith, c.opening.ensures.length)) (sym c.in_default.ensures) (c.pass_letter.ensures earlier holds)
