-- Formats of lines, each after -e.
use Rattle.std.proofs.Common.{◌≡◌, ◌∙◌, false, true, cond, List, [], ◌∷◌, ◌++◌, None, Some, refl, sym, ap, subst, codes}
use Rattle.std.specs.Prelude.{fold}
use Rattle.std.specs.List.{AllByRecursion}
use Rattle.std.specs.Option.{option_map_or}
use Rattle.std.proofs.lemmas.List.{append_assoc}
use Rattle.clap.specs.Kinds.{or_else}
use Rattle.clap.specs.Lexer.{long_of}
use Rattle.clap.specs.Simple.{Shape, subcommand_of}
use Rattle.clap.specs.Walk.{Held, Row, Step, Text, Walk, after_step, finished, idle, long_or_other, next, nothing_held, option}
use Rattle.clap.specs.Walk.{short_or_plain, trailing, walk, walk_from, walked, word_met}
use Rattle.clap.specs.Faults.{bundle_fault, fault_of, flag_word_fault, step_fault, turn_fault, walk_fault, word_fault}
use Rattle.clap.proofs.OnLiterals.{clap_on_literals}
use Rattle.sf_words.specs.Hyphens.{begins_with_hyphen, clap_words, joined}
use Rattle.sf_words.specs.Laws.{IsPlain, TakesFormats, with_flags}
use Rattle.sf_words.specs.Line.{sf_app}
use Rattle.sf_words.specs.Orders.{is_set, own_faults, texts_by, verb_text}
use Rattle.sf_words.specs.declared.order.Verb.TheVariants.{Scan}
use Rattle.sf_words.proofs.Dashes.{checks_after, none_at_fault, nothing, row}
use Rattle.sf_words.proofs.Plain.{NoFlag, entered_by, fine_by, level, no_flags, state}

abbrev scan : Shape
scan = level Scan

abbrev lines_row : Row
lines_row = row (codes "lines") (codes "true" ∷ [])

-- the rows after --lines and these formats
abbrev rows_with : List Text → List Row
rows_with [] = lines_row ∷ []
rows_with (format ∷ more) = lines_row ∷ row (codes "formats") (format ∷ more) ∷ []

abbrev held : List Row → List Text → Held
held rows values = record { rows = rows; pending = Some (codes "formats", values); skip = 0 }

-- after -e
abbrev asked : List Row → Walk
asked rows = state (held rows []) (option (codes "formats")) 1

-- after these formats and one more
abbrev given : List Text → Text → Walk
given before format = state (held (rows_with before) (format ∷ [])) idle 1

-- ---- -e

flag_step : (before : List Text) (format : Text) → walked scan.rules [] (given before format) (codes "-e")
    ≡ asked (rows_with (before ++ format ∷ []))
unfolding clap_on_literals
flag_step [] format = refl
flag_step (first ∷ rest) format = refl

flag_fine : (before : List Text) (format : Text) → turn_fault scan [] (given before format) (codes "-e") ≡ []
unfolding clap_on_literals
flag_fine before format = refl

-- ---- the text after it

module _ (rows : List Row) (word : Text) (fact : NoFlag word) where
  met : word_met scan.rules [] false (option (codes "formats")) 1 word (held rows []) ≡ (held rows (word ∷ []), next idle)
  met =
      ap (λ b. cond b (held rows [], trailing 1) (long_or_other scan.rules (option (codes "formats")) word (long_of word) (held rows [])))
      fact.dashes
      ∙ ap (λ l. long_or_other scan.rules (option (codes "formats")) word l (held rows [])) fact.long
      ∙ ap (λ s. short_or_plain scan.rules (option (codes "formats")) word s (held rows [])) fact.short

  text_step : walked scan.rules [] (asked rows) word ≡ state (held rows (word ∷ [])) idle 1
  unfolding walked
  text_step = ap (λ (m : Held × Step). after_step scan.rules word (asked rows) m.0 m.1) met

  text_fine : turn_fault scan [] (asked rows) word ≡ []
  text_fine =
      nothing (word_fault scan [] false (option (codes "formats")) word (held rows [])) _
      (ap (λ b. cond b [] (flag_word_fault scan.rules scan.args_override_self (long_of word) word (held rows []))) fact.dashes
      ∙ ap (λ l. flag_word_fault scan.rules scan.args_override_self l word (held rows [])) fact.long
      ∙ ap (λ o. option_map_or (λ flags. bundle_fault scan.rules scan.args_override_self flags (held rows [])) o []) fact.short)
      (subst (λ (m : Held × Step). step_fault scan 1 m.0 m.1 ≡ []) (sym met) refl)

-- ---- all of them

-- after these formats, one more, and then others
abbrev end : List Text → Text → List Text → Walk
end before format [] = given before format
end before format (other ∷ rest) = end (before ++ format ∷ []) other rest

formats_walk : (before : List Text) (format : Text) (more : List Text) → AllByRecursion NoFlag more
    → fold (walked scan.rules []) (given before format) (with_flags more) ≡ end before format more
formats_walk before format [] facts = refl
formats_walk before format (other ∷ rest) facts =
    ap (λ w. fold (walked scan.rules []) (walked scan.rules [] w other) (with_flags rest)) (flag_step before format)
    ∙ ap (λ w. fold (walked scan.rules []) w (with_flags rest)) (text_step (rows_with (before ++ format ∷ [])) other facts.0)
    ∙ formats_walk (before ++ format ∷ []) other rest facts.1

-- a flag and its text without a fault
pair_fine : (w : Walk) (rows : List Row) (word : Text) (rest : List Text) → NoFlag word → walked scan.rules [] w (codes "-e") ≡ asked rows
    → turn_fault scan [] w (codes "-e") ≡ [] → walk_fault scan [] (state (held rows (word ∷ [])) idle 1) rest ≡ []
    → walk_fault scan [] w (codes "-e" ∷ word ∷ rest) ≡ []
unfolding walk_fault
pair_fine w rows word rest fact is flag others =
    nothing (turn_fault scan [] w (codes "-e")) _ flag
    (subst (λ v. or_else (turn_fault scan [] v word) (walk_fault scan [] (walked scan.rules [] v word) rest) ≡ []) (sym is)
    (nothing (turn_fault scan [] (asked rows) word) _ (text_fine rows word fact)
    (subst (λ v. walk_fault scan [] v rest ≡ []) (sym (text_step rows word fact)) others)))

formats_fine : (before : List Text) (format : Text) (more : List Text) → AllByRecursion NoFlag more
    → walk_fault scan [] (given before format) (with_flags more) ≡ []
unfolding walk_fault
formats_fine before format [] facts = refl
formats_fine before format (other ∷ rest) facts =
    pair_fine (given before format) (rows_with (before ++ format ∷ [])) other (with_flags rest) facts.0 (flag_step before format)
    (flag_fine before format)
    (formats_fine (before ++ format ∷ []) other rest facts.1)

-- ---- after --lines

abbrev begun : Walk
begun = walked scan.rules [] (walk_from nothing_held) (codes "--lines")

begun_fine : turn_fault scan [] (walk_from nothing_held) (codes "--lines") ≡ []
unfolding clap_on_literals
begun_fine = refl

first_step : walked scan.rules [] begun (codes "-e") ≡ asked (rows_with [])
unfolding clap_on_literals
first_step = refl

first_fine : turn_fault scan [] begun (codes "-e") ≡ []
unfolding clap_on_literals
first_fine = refl

lines_walk : (format : Text) (more : List Text) → AllByRecursion NoFlag (format ∷ more)
    → walk scan.rules [] nothing_held (codes "--lines" ∷ with_flags (format ∷ more)) ≡ end [] format more
lines_walk format more facts =
    ap (λ w. fold (walked scan.rules []) (walked scan.rules [] w format) (with_flags more)) first_step
    ∙ ap (λ w. fold (walked scan.rules []) w (with_flags more)) (text_step (rows_with []) format facts.0)
    ∙ formats_walk [] format more facts.1

lines_fine : (format : Text) (more : List Text) → AllByRecursion NoFlag (format ∷ more)
    → walk_fault scan [] (walk_from nothing_held) (codes "--lines" ∷ with_flags (format ∷ more)) ≡ []
unfolding walk_fault
lines_fine format more facts =
    nothing (turn_fault scan [] (walk_from nothing_held) (codes "--lines")) _ begun_fine
    (pair_fine begun (rows_with []) format (with_flags more) facts.0 first_step first_fine (formats_fine [] format more facts.1))

-- ---- at the end

-- what holds of each end holds of all
at_end : (P : Walk → Type 0) → ((before : List Text) (format : Text) → P (given before format))
    → (before : List Text) (format : Text) (more : List Text)
    → P (end before format more)
at_end P each before format [] = each before format
at_end P each before format (other ∷ rest) = at_end P each (before ++ format ∷ []) other rest

checks_fine : (before : List Text) (format : Text) → checks_after scan false (given before format) ≡ []
unfolding clap_on_literals
checks_fine [] format = refl
checks_fine (first ∷ rest) format = refl

own_fine : (before : List Text) (format : Text) → own_faults (verb_text Scan) (finished scan.rules (given before format).held) ≡ []
unfolding clap_on_literals
own_fine [] format = refl
own_fine (first ∷ rest) format = refl

lines_set : (before : List Text) (format : Text) → is_set (codes "lines") (finished scan.rules (given before format).held) ≡ true
unfolding clap_on_literals
lines_set [] format = refl
lines_set (first ∷ rest) format = refl

one_text : (before : List Text) (format : Text) → texts_by Scan (finished scan.rules (given before format).held) ≡ before ++ format ∷ []
unfolding clap_on_literals
one_text [] format = refl
one_text (first ∷ rest) format = refl

all_texts : (before : List Text) (format : Text) (more : List Text)
    → texts_by Scan (finished scan.rules (end before format more).held) ≡ before ++ format ∷ more
all_texts before format [] = one_text before format
all_texts before format (other ∷ rest) = all_texts (before ++ format ∷ []) other rest ∙ append_assoc before (format ∷ []) (other ∷ rest)

-- none of them is joined to its -e
plain_hyphen : (word : Text) → IsPlain word → begins_with_hyphen word ≡ false
plain_hyphen [] plain = refl
plain_hyphen (b ∷ rest) plain = plain

as_they_are : (formats : List Text) → AllByRecursion IsPlain formats → joined None (with_flags formats) ≡ with_flags formats
as_they_are [] plain = refl
as_they_are (word ∷ rest) plain =
    ap (λ b. cond b ((codes "-e" ++ codes "=" ++ word) ∷ joined None (with_flags rest))
    (codes "-e" ∷ word ∷ joined None (with_flags rest))) (plain_hyphen word plain.0)
    ∙ ap (λ ws. codes "-e" ∷ word ∷ ws) (as_they_are rest plain.1)

pub formats_taken : TakesFormats
formats_taken format more plain = (
  record {
    taken =
        none_at_fault Scan words rows fine entered_is
        (at_end (λ w. own_faults (verb_text Scan) (finished scan.rules w.held) ≡ []) own_fine [] format more);
    given = rows;
    is_given = entered_is;
    texts_are = all_texts [] format more;
  },
  at_end (λ w. is_set (codes "lines") (finished scan.rules w.held) ≡ true) lines_set [] format more,
)
  where
    words : List Text
    words = codes "--lines" ∷ with_flags (format ∷ more)

    rows : List Row
    rows = finished scan.rules (end [] format more).held

    facts : AllByRecursion NoFlag (format ∷ more)
    facts = no_flags (format ∷ more) plain

    is : walk scan.rules [] nothing_held words ≡ end [] format more
    is = lines_walk format more facts

    checks : checks_after scan false (end [] format more) ≡ []
    checks = at_end (λ w. checks_after scan false w ≡ []) checks_fine [] format more

    same : clap_words (codes "scan" ∷ words) ≡ codes "scan" ∷ words
    same = ap (λ ws. codes "scan" ∷ codes "--lines" ∷ ws) (as_they_are (format ∷ more) plain)

    fine : fault_of sf_app (codes "sf" ∷ clap_words (codes "scan" ∷ words)) ≡ []
    fine = subst (λ ws. fault_of sf_app (codes "sf" ∷ ws) ≡ []) (sym same)
        (fine_by Scan words (end [] format more) is (lines_fine format more facts) checks)

    entered_is : subcommand_of sf_app (codes "sf" ∷ clap_words (codes "scan" ∷ words)) ≡ Some (verb_text Scan, rows)
    entered_is =
        subst (λ ws. subcommand_of sf_app (codes "sf" ∷ ws) ≡ Some (verb_text Scan, rows)) (sym same)
        (entered_by Scan words (end [] format more) rows is refl)
