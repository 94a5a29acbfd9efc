use Rattle.std.proofs.Common.{subst}
use Rattle.sf_base.specs.Data.{Datum}
use Rattle.sf_format.specs.declared.unit.PrintLetter.{PrintLetter}
use Rattle.sf_arguments.specs.Words.{IsNumberOf, StandsFor}
use Rattle.sf_arguments.proofs.Finding.{number_stands}
use Rattle.sf_arguments.proofs.Reading.{text_stands}
use Rattle.sf_arguments.proofs.argument.value_of_word.Goals as goal

pub unreachable-requires : goal.unreachable-requires
unreachable-requires c =
    let letter = c.args.conv.now.letter in
    let kind = c.args.conv.now.kind in
    let word = c.args.word.now in
    let number = number_stands c.args.how letter c.in-Signed.is (λ S. (v : Datum) → S v → IsNumberOf kind word v) kind word (λ v of. of) in
    c.in-None.ensures.none c.requires.stands.0 (number c.requires.stands.0 c.requires.stands.1)

pub unreachable-requires-in-None-float_of_word : goal.unreachable-requires-in-None-float_of_word
unreachable-requires-in-None-float_of_word c =
    let value = c.requires.stands.0 in
    c.in-None-float_of_word.ensures.none value
    (subst (λ (l : PrintLetter). StandsFor c.args.how l c.args.conv.now.kind c.args.word.now value) c.in-Float.is c.requires.stands.1)

pub returns-in-Text : goal.returns-in-Text
returns-in-Text c =
    text_stands c.args.how c.args.conv.now.letter c.in-Text.is c.args.conv.now.kind c.args.word.now c.args.text.now c.requires.stands.0
    c.requires.text c.requires.stands.1
