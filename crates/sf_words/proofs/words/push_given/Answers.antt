use Rattle.std.proofs.Common.{◌≡◌, ◌∙◌, ◌++◌, OnOk, ap, append-nil, map, string_bytes, subst, sym}
use Rattle.clap.specs.Walk.{texts}
use Rattle.clap.specs.Words.{found_of}
use Rattle.sf_words.proofs.Given.{none_given, some_given}
use Rattle.sf_words.proofs.words.push_given.Goals as goal

pub returns-in-Some : goal.returns-in-Some
returns-in-Some c =
    let given = some_given (λ s. texts s.now) c.get_strs.result c.in-Some.values
    (found_of c.args.given.now) c.args.id.now c.get_strs.ensures c.in-Some.is in
    subst (λ vs. OnOk c.push_all.result (map string_bytes c.push_all.new.out.items ≡ map string_bytes c.args.out.now.items ++ vs)) given
    c.push_all.ensures

pub returns-in-None : goal.returns-in-None
returns-in-None c =
    let given = none_given (λ s. texts s.now) c.get_strs.result (found_of c.args.given.now) c.args.id.now c.get_strs.ensures c.in-None.is in
    sym (append-nil (map string_bytes c.args.out.now.items)) ∙ ap (λ vs. map string_bytes c.args.out.now.items ++ vs) given
