use Rattle.std.proofs.Common.{◌+◌, ◌++◌, length, inl, sym, ap, ◌∙◌, subst}
use Rattle.std.proofs.lemmas.Result.{err_from_is_err_and}
use Rattle.sf_format.specs.Slots.{slot_of}
use Rattle.sf_format.specs.Language.{Scan}
use Rattle.sf_format.specs.Faults.{letter_rules, scanlist_rules, ending_rules}
use Rattle.sf_format.specs.Rules.{slot_rules}
use Rattle.sf_format.specs.Passing.{opening_of, fault_of, is_set, rest_behind, slot_at, Holds}
use Rattle.sf_format.proofs.Destinations.{slot_there}
use Rattle.sf_format.proofs.Suits.{bracket_is}
use Rattle.sf_format.proofs.Passages.{first_left, rest_first, number_bound, listed_forward, letter_rest, letter_destination, match_map}
use Rattle.sf_format.proofs.Passages.{letter_role, match_none, width_bound}
use Rattle.sf_format.proofs.Passages.{made_means}
use Rattle.sf_format.proofs.scan.grammar.ScanGrammarGrammar.pass_letter.Goals as goal

pub returns-in_err-found : goal.returns-in_err-found
returns-in_err-found c =
    λ earlier holds.
    let o = opening_of c.args.written.now in
    let p = err_from_is_err_and c.from_residual.result c.from_residual.ensures.1 in
    rw (p.1, p.2)
    (first_left (ending_rules (Scan c.args.self.profile) c.args.percent o c.args.at c.args.letter c.args.text.now)
    (slot_rules earlier c.args.percent o) (fault_of c.in_err-found.field-0.0)
    (first_left (letter_rules c.args.self.profile o c.args.letter c.args.at) (scanlist_rules c.args.letter c.args.at c.args.text.now)
    (fault_of c.in_err-found.field-0.0) c.in_err-found.ensures))

pub returns-in_err-list : goal.returns-in_err-list
returns-in_err-list c =
    λ earlier holds.
    let p = err_from_is_err_and c.from_residual-in_err-list.result c.from_residual-in_err-list.ensures.1 in
    let first = rest_first c.args.self.profile earlier c.args.percent
    (opening_of c.args.written.now) c.args.at c.args.letter c.args.text.now
    c.in_ok-found.found c.in_ok-found.ensures.0 c.in_ok-found.ensures.1 in
    rw (p.1, p.2) (first ∙ rw c.in_err-list.ensures)

pub pushed-requires-clause-bound : goal.pushed-requires-clause-bound
pushed-requires-clause-bound c = number_bound (Scan c.args.self.profile) c.args.percent (opening_of c.args.written.now) c.requires.opening

pub returns-in_err-slot : goal.returns-in_err-slot
returns-in_err-slot c =
    λ earlier holds.
    let p = err_from_is_err_and c.from_residual-in_err-slot.result c.from_residual-in_err-slot.ensures.1 in
    rw (p.1, p.2)
    (rest_first c.args.self.profile earlier c.args.percent (opening_of c.args.written.now) c.args.at c.args.letter c.args.text.now
    c.in_ok-found.found c.in_ok-found.ensures.0 c.in_ok-found.ensures.1
    ∙ rw (c.in_ok-list.ensures.0) (c.in_err-slot.ensures.pushed earlier holds))

pub conversion-requires-clause-bound : goal.conversion-requires-clause-bound
conversion-requires-clause-bound c = width_bound c.args.self.profile c.args.percent (opening_of c.args.written.now) c.requires.opening

pub conversion-requires-clause-forward : goal.conversion-requires-clause-forward
conversion-requires-clause-forward c = λ e.
    listed_forward (is_set c.in_ok-found.found) c.args.at c.args.text.now c.in_ok-list.list e c.in_ok-list.ensures.0 c.in_ok-list.ensures.1

pub returns : goal.returns
returns c =
    λ earlier holds.
    let o = opening_of c.args.written.now in
    let (rules, found, known) = c.in_ok-found.ensures in
    let (fault, is, after) = c.in_ok-list.ensures in
    let letter = c.in_ok-found.found in
    let (none, held) = c.in_ok-slot.ensures.pushed earlier holds in
    let placed = c.in_ok-slot.ensures.slot ∙ ap (λ n. slot_of (1 + n) o) holds.count in
    let there = letter_destination o c.args.letter c.args.text.now in (
      rest_first c.args.self.profile earlier c.args.percent o c.args.at c.args.letter c.args.text.now letter rules found ∙ rw (fault, none),
      after ∙ ap (λ v. rest_behind v c.args.text.now) (bracket_is c.args.self.profile c.args.letter letter found)
          ∙ sym (letter_rest o c.args.letter c.args.text.now),
      match_map _ _ _
          (λ d made. made_means c.args.self.profile (1 + length earlier) c.args.at c.args.letter c.args.text.now o letter _
          c.in_ok-slot.slot
          c.in_ok-list.list d found known fault is placed made)
          c.conversion.result (match_none _ c.conversion.result (λ e. inl e) c.conversion.ensures),
      subst (λ os. Holds c.in_ok-slot.slots (earlier ++ os)) (sym there) held,
      placed ∙ slot_there (1 + length earlier) o ∙ ap (slot_at (1 + length earlier)) (sym there),
      c.role.ensures ∙ letter_role o c.args.letter c.args.text.now,
    )
