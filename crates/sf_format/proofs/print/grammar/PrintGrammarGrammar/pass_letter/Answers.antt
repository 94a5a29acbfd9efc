use Rattle.std.proofs.Common.{refl, ◌+◌, length, sym, ap, ◌∙◌}
use Rattle.std.proofs.lemmas.Result.{err_from_is_err_and}
use Rattle.sf_format.specs.Language.{Print}
use Rattle.sf_format.specs.Slots.{slot_of}
use Rattle.sf_format.specs.Faults.{ending_rules}
use Rattle.sf_format.specs.Rules.{slot_rules}
use Rattle.sf_format.specs.Passing.{opening_of, fault_of}
use Rattle.sf_format.proofs.Destinations.{slot_there}
use Rattle.sf_format.proofs.Rules.{first_append}
use Rattle.sf_format.proofs.Suits.{print_letter_is}
use Rattle.sf_format.proofs.Passages.{first_left, number_bound}
use Rattle.sf_format.proofs.print.grammar.PrintGrammarGrammar.pass_letter.Goals as goal

pub returns-in_err-found : goal.returns-in_err-found
returns-in_err-found c =
    λ earlier holds.
    let o = opening_of c.args.written.now in
    let p = err_from_is_err_and c.from_residual.result c.from_residual.ensures.1 in
    rw (p.1, p.2)
    (first_left (ending_rules (Print c.args.self.profile) c.args.percent o c.args.at c.args.letter c.args.text.now)
    (slot_rules earlier c.args.percent o) (fault_of c.in_err-found.field-0.0) c.in_err-found.ensures)

pub pushed-requires-clause-bound : goal.pushed-requires-clause-bound
pushed-requires-clause-bound c = number_bound (Print c.args.self.profile) c.args.percent (opening_of c.args.written.now) c.requires.opening

pub returns-in_err-slot : goal.returns-in_err-slot
returns-in_err-slot c =
    λ earlier holds.
    let o = opening_of c.args.written.now in
    let p = err_from_is_err_and c.from_residual-in_err-slot.result c.from_residual-in_err-slot.ensures.1 in
    let ending = ending_rules (Print c.args.self.profile) c.args.percent o c.args.at c.args.letter c.args.text.now in
    rw (p.1, p.2, first_append ending (slot_rules earlier c.args.percent o), c.in_ok-found.ensures.0)
    (c.in_err-slot.ensures.pushed earlier holds)

pub returns : goal.returns
returns c =
    λ earlier holds.
    let o = opening_of c.args.written.now in
    let (quiet, found, known) = c.in_ok-found.ensures in
    let (none, held) = c.in_ok-slot.ensures.pushed earlier holds in
    let placed = c.in_ok-slot.ensures.slot ∙ ap (λ n. slot_of (1 + n) o) holds.count in
    let ending = ending_rules (Print c.args.self.profile) c.args.percent o c.args.at c.args.letter c.args.text.now in
    rw (print_letter_is c.args.self.profile c.args.letter c.in_ok-found.found found).plain (
      rw (first_append ending (slot_rules earlier c.args.percent o), quiet) none,
      refl,
      (
        c.in_ok-found.found,
        c.conversion-conversion.result,
        found,
        c.conversion-conversion.ensures (1 + length earlier) (sym placed ∙ c.unwrap.ensures) known,
        refl,
      ),
      held,
      placed ∙ slot_there (1 + length earlier) o,
      c.role.ensures,
    )
