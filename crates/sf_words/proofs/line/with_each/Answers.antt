use Rattle.std.proofs.Common.{◌∙◌, ap, fold, subst, sym}
use Rattle.std.proofs.lemmas.List.{at_drop_more, drop_all}
use Rattle.sf_words.specs.Line.{IsLine}
use Rattle.sf_words.specs.Options.{with_option}
use Rattle.sf_words.proofs.line.with_each.Goals as goal

pub loop-option-preserved : goal.loop-option-preserved
loop-option-preserved c = λ app line.
    let before = c.loop-option.invariant app line in
    let rest = sym (at_drop_more (fold (with_option c.args.verb) before.0) c.args.options.now c.loop-option.option-index _
    c.loop-option-test.true) in
    (_, c.in_ok-command.ensures before.0 before.1, rest ∙ before.2)

pub returns : goal.returns
returns c = λ app line.
    let before = c.loop-option.invariant app line in
    let none = ap (fold (with_option c.args.verb) before.0) (drop_all c.loop-option.option-index c.args.options.now
    c.loop-option-test.false) in
    subst (λ a. IsLine a c.loop-option.command) (sym none ∙ before.2) before.1
