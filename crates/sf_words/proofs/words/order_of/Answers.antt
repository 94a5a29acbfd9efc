use Rattle.std.proofs.Common.{rules, ◌≡◌, ◌∙◌, [], ◌∷◌, None, Some, ap, refl, subst, sym}
use Rattle.clap.specs.Words.{found_of, rows_of, subcommand_rows_of}
use Rattle.sf_words.specs.Misuses.{misuse_kind, misuse_kinds}
use Rattle.sf_words.specs.Orders.{HasTextsFor, IsRefusal, entered_faults, own_faults, verb_text}
use Rattle.sf_words.proofs.Given.{enough_for, taken_at}
use Rattle.sf_words.proofs.words.order_of.Goals as goal

pub returns-in-Some-misuse_of-clause-refused : goal.returns-in-Some-misuse_of-clause-refused
returns-in-Some-misuse_of-clause-refused c =
    let rows = rows_of (found_of c.in-Some.given.now) in
    let verb = c.verb_of-verb.result in
    let is_given : subcommand_rows_of c.args.matches.now ≡ Some (verb_text verb, rows) = search rules in
    let kinds : own_faults (verb_text verb) rows ≡ misuse_kind c.in-Some-misuse_of.misuse ∷ [] =
    sym c.misuse_of.ensures ∙ ap misuse_kinds c.in-Some-misuse_of.is in
    subst (λ e. IsRefusal (entered_faults e) c.refusal.result) (sym is_given)
    (subst (λ ks. IsRefusal ks c.refusal.result) (sym kinds) c.refusal.ensures)

pub returns-clause-order : goal.returns-clause-order
returns-clause-order c =
    let rows = rows_of (found_of c.in-Some.given.now) in
    let verb = c.verb_of-verb.result in
    let is_given : subcommand_rows_of c.args.matches.now ≡ Some (verb_text verb, rows) = search rules in
    let none : c.misuse_of.result ≡ None = search rules in
    let taken = taken_at (subcommand_rows_of c.args.matches.now) c.requires verb rows is_given in
    record {
      given = rows;
      is_given = is_given;
      limit = c.limit_of.ensures.value;
      small = c.limit_of.ensures.small;
      profile = c.profile_of.ensures;
      line_buffered = c.is_set.ensures;
      notes = c.notes_of.ensures;
      output = c.output_of.ensures;
      strict = c.is_set-2.ensures;
      lines = c.lines_of.ensures;
      print = c.in_ok-text_given.ensures;
      names = c.in_ok-text_given-2.ensures;
      tag = c.is_set-3.ensures;
      ignored = c.in_ok-ignored_of.ensures;
      raw = c.is_set-4.ensures;
      width = c.width_of.ensures.value;
      wide = c.width_of.ensures.wide;
      texts = c.in_ok-texts_of.ensures;
      files = c.in_ok-files_of.ensures;
      file = refl;
      enough = subst (HasTextsFor c.lines_of.result verb) (sym c.in_ok-texts_of.ensures)
          (enough_for verb rows c.lines_of.result taken.0 taken.1 c.lines_of.ensures (sym c.misuse_of.ensures ∙ ap misuse_kinds none));
    }

pub returns-clause-taken : goal.returns-clause-taken
returns-clause-taken c =
    let rows = rows_of (found_of c.in-Some.given.now) in
    let verb = c.verb_of-verb.result in
    let is_given : subcommand_rows_of c.args.matches.now ≡ Some (verb_text verb, rows) = search rules in
    let none : c.misuse_of.result ≡ None = search rules in
    subst (λ e. entered_faults e ≡ []) (sym is_given) (sym c.misuse_of.ensures ∙ ap misuse_kinds none)
