use Rattle.std.proofs.Common.{◌≡◌, ◌∙◌, None, Some, ap, rules, sym}
use Rattle.std.specs.Prelude.{option_map}
use Rattle.clap.specs.Words.{found_of}
use Rattle.clap.proofs.WalkLemmas.{first_value-rows}
use Rattle.sf_words.proofs.words.text_given.Goals as goal

pub returns-in_ok-from_str-in-Some : goal.returns-in_ok-from_str-in-Some
returns-in_ok-from_str-in-Some c =
    let given : c.get_str.result ≡ Some c.in-Some.text = search rules in
    ap Some c.in_ok-from_str-in-Some.ensures.ok ∙ ap (option_map (λ s. s.now)) (sym given) ∙ c.get_str.ensures
    ∙ first_value-rows (found_of c.args.given.now) c.args.id.now

pub returns-in-None : goal.returns-in-None
returns-in-None c =
    let none : c.get_str.result ≡ None = search rules in
    ap (option_map (λ s. s.now)) (sym none) ∙ c.get_str.ensures ∙ first_value-rows (found_of c.args.given.now) c.args.id.now
