-- Words after `--`.
use Rattle.std.proofs.Common.{◌≡◌, ◌∙◌, cond, ◌<◌, ◌≤◌, ◌^◌, ℕ, Bool, true, false, nat_lt, List, [], ◌∷◌, ◌++◌}
use Rattle.std.proofs.Common.{length, Some, None, is_some, refl}
use Rattle.std.proofs.Common.{sym, ap, subst, arith, inl, inr, append-nil, codes}
use Rattle.std.specs.Prelude.{fold}
use Rattle.std.proofs.lemmas.Bool.{ltb-true}
use Rattle.std.proofs.lemmas.List.{append_assoc}
use Rattle.clap.specs.Kinds.{Kinds, or_else, range_kinds}
use Rattle.clap.specs.Lexer.{usize_max}
use Rattle.clap.specs.Simple.{Shape, built, built_leaf, entered, inherited, marked_built, names_of, on_top, subcommand_of, with_leaf_noted}
use Rattle.clap.specs.Walk.{Names, Row, Text, Walk, finished, idle, nothing_held, positional, settled, walk, walk_from, walked}
use Rattle.clap.specs.Faults.{check_fault, defaults_fault, entered_fault, fault_of, level_fault, settle_fault, values_fault, walk_fault}
use Rattle.clap.specs.declared.parser.matches.ValueSource.TheVariants.{CommandLine}
use Rattle.clap.specs.declared.builder.value_parser.Reading.TheVariants.{AsWritten}
use Rattle.clap.proofs.FaultLemmas.{stopped_fault}
use Rattle.clap.proofs.OnLiterals.{clap_on_literals}
use Rattle.clap.proofs.WalkLemmas.{walk_stopped}
use Rattle.sf_words.specs.Hyphens.{clap_words}
use Rattle.sf_words.specs.Laws.{IsTakenAs, TakesBehindDashes}
use Rattle.sf_words.specs.Line.{print_app, sf_app, words_rule}
use Rattle.clap.specs.declared.error.kind.ErrorKind.TheVariants as kind
use Rattle.sf_words.specs.Orders.{asks_formats, entered_faults, faults_of, order_faults, own_faults, texts_by, verb_text}
use Rattle.sf_words.specs.declared.order.Verb.{Verb}
use Rattle.sf_words.specs.declared.order.Verb.TheVariants.{Show, Scan, Print, Check, Copy}
use Rattle.sf_words.proofs.Rows.{either, no_kind}

-- ---- as many texts as there are words

show_taken : (format : Text) → IsTakenAs (codes "show" ∷ codes "--" ∷ format ∷ []) Show (format ∷ [])
unfolding clap_on_literals
show_taken format = record { taken = refl; given = _; is_given = refl; texts_are = refl }

scan_taken : (format : Text) → IsTakenAs (codes "scan" ∷ codes "--" ∷ format ∷ []) Scan (format ∷ [])
unfolding clap_on_literals
scan_taken format = record { taken = refl; given = _; is_given = refl; texts_are = refl }

print_alone_taken : (print : Text) → IsTakenAs (codes "check" ∷ codes "--" ∷ print ∷ []) Check (print ∷ [])
unfolding clap_on_literals
print_alone_taken print = record { taken = refl; given = _; is_given = refl; texts_are = refl }

check_taken : (print scan : Text) → IsTakenAs (codes "check" ∷ codes "--" ∷ print ∷ scan ∷ []) Check (print ∷ scan ∷ [])
unfolding clap_on_literals
check_taken print scan = record { taken = refl; given = _; is_given = refl; texts_are = refl }

copy_taken : (print scan : Text) → IsTakenAs (codes "copy" ∷ codes "--" ∷ print ∷ scan ∷ []) Copy (print ∷ scan ∷ [])
unfolding clap_on_literals
copy_taken print scan = record { taken = refl; given = _; is_given = refl; texts_are = refl }

-- ---- any number of values

format_taken : (format : Text) → IsTakenAs (codes "print" ∷ codes "--" ∷ format ∷ []) Print (format ∷ [])
unfolding clap_on_literals
format_taken format = record { taken = refl; given = _; is_given = refl; texts_are = refl }

abbrev pub top : Shape
top = (built sf_app).top

abbrev pub names : Names
names = names_of (built sf_app)

abbrev print_level : Shape
print_level = built_leaf (inherited (on_top with_leaf_noted (on_top marked_built sf_app)).top print_app.top)

abbrev pub row : Text → List Text → Row
row id values = record { id = id; values = values; count = None; source = Some CommandLine; reading = AsWritten }

-- after the format and the values
abbrev at_values : Text → List Text → Walk
at_values format values = record {
  held = record { rows = row (codes "FORMAT") (format ∷ []) ∷ []; pending = Some (codes "VALUES", values); skip = 0 };
  waiting = positional;
  position = 2;
  is_trailing = true;
  stopped = None;
}

one_more : (format : Text) (values : List Text) (word : Text) → walked print_level.rules [] (at_values format values) word
    ≡ at_values format (values ++ word ∷ [])
unfolding clap_on_literals
one_more format values word = refl

more : (format : Text) (values rest : List Text) → fold (walked print_level.rules []) (at_values format values) rest
    ≡ at_values format (values ++ rest)
more format values [] = ap (at_values format) (sym (append-nil values))
more format values (word ∷ rest) =
    ap (λ w. fold (walked print_level.rules []) w rest) (one_more format values word)
    ∙ more format (values ++ word ∷ []) rest
    ∙ ap (at_values format) (append_assoc values (word ∷ []) rest)

more_fine : (format : Text) (values rest : List Text) → walk_fault print_level [] (at_values format values) rest ≡ []
unfolding clap_on_literals walk_fault walked
more_fine format values [] = refl
more_fine format values (word ∷ rest) = more_fine format (values ++ word ∷ []) rest

first_value : (format value : Text)
    → walked print_level.rules [] (walked print_level.rules [] (walked print_level.rules [] (walk_from nothing_held) (codes "--")) format)
    value ≡ at_values format (value ∷ [])
unfolding clap_on_literals
first_value format value = refl

print_walk : (format value : Text) (rest : List Text) → walk print_level.rules [] nothing_held (codes "--" ∷ format ∷ value ∷ rest)
    ≡ at_values format (value ∷ rest)
print_walk format value rest = ap (λ w. fold (walked print_level.rules []) w rest) (first_value format value)
    ∙ more format (value ∷ []) rest

print_walk_fine : (format value : Text) (rest : List Text) → walk_fault print_level [] (walk_from nothing_held)
    (codes "--" ∷ format ∷ value ∷ rest) ≡ []
unfolding clap_on_literals walk_fault walked
print_walk_fine format value rest = more_fine format (value ∷ []) rest

-- every text is a value
texts_fine : (values : List Text) → values_fault (words_rule (codes "VALUES")) values ≡ []
texts_fine [] = refl
texts_fine (value ∷ rest) = texts_fine rest

not_less : (a b : ℕ) → b ≤ a → nat_lt a b ≡ false
not_less a b le = elim (either (nat_lt a b)) [
  | inl lt ↦ absurd (omega (arith, ltb-true a b lt))
  | inr differs ↦ differs
]

count_fine : (n : ℕ) → n ≤ usize_max → range_kinds 0 usize_max n ≡ []
count_fine n le = rw (not_less n 0 (omega arith), not_less usize_max n le) refl

-- ---- the levels

pub nothing : (a b : Kinds) → a ≡ [] → b ≡ [] → or_else a b ≡ []
nothing [] b none_a none_b = none_b
nothing (k ∷ ks) b none_a none_b = absurd (no_kind none_a)

-- nothing is at fault where clap finds nothing, and the command nothing in the rows
-- no verb asks for the page on formats
pub no_page : (verb : Verb) (words : List Text) → asks_formats (verb_text verb ∷ words) ≡ false
no_page verb [] = refl
no_page verb (word ∷ next ∷ rest) = refl
no_page Show (word ∷ []) = refl
no_page Scan (word ∷ []) = refl
no_page Print (word ∷ []) = refl
no_page Check (word ∷ []) = refl
no_page Copy (word ∷ []) = refl

pub none_at_fault : (verb : Verb) (words : List Text) (rows : List Row)
    → fault_of sf_app (codes "sf" ∷ clap_words (verb_text verb ∷ words)) ≡ []
    → subcommand_of sf_app (codes "sf" ∷ clap_words (verb_text verb ∷ words)) ≡ Some (verb_text verb, rows)
    → own_faults (verb_text verb) rows ≡ [] → faults_of (verb_text verb ∷ words) ≡ []
none_at_fault verb words rows taken is own =
    ap (λ b. cond b (kind.DisplayHelp ∷ []) (order_faults (verb_text verb ∷ words))) (no_page verb words)
    ∙ nothing (fault_of sf_app (codes "sf" ∷ clap_words (verb_text verb ∷ words)))
    (entered_faults (subcommand_of sf_app (codes "sf" ∷ clap_words (verb_text verb ∷ words)))) taken
    (subst (λ e. entered_faults e ≡ []) (sym is) own)

-- what is checked after a walk
abbrev pub checks_after : Shape → Bool → Walk → Kinds
checks_after s has end =
    or_else (settle_fault s.rules s.args_override_self end.held)
    (or_else (defaults_fault (settled s.rules end.held).rows s.rules) (check_fault s (finished s.rules end.held) has))

pub values_checks : (format value : Text) (rest : List Text) → length (value ∷ rest) ≤ usize_max
    → checks_after print_level false (at_values format (value ∷ rest)) ≡ []
unfolding clap_on_literals
values_checks format value rest few =
    nothing (settle_fault print_level.rules print_level.args_override_self (at_values format (value ∷ rest)).held) _
    (nothing (range_kinds 0 usize_max (length (value ∷ rest))) _ (count_fine (length (value ∷ rest)) few) (texts_fine (value ∷ rest)))
    refl

print_fine : (format value : Text) (rest : List Text) → length (value ∷ rest) ≤ usize_max
    → level_fault print_level [] nothing_held (codes "--" ∷ format ∷ value ∷ rest) false [] ≡ []
print_fine format value rest few =
    nothing (walk_fault print_level [] (walk_from nothing_held) (codes "--" ∷ format ∷ value ∷ rest)) _ (print_walk_fine format value rest)
    (subst (λ w. checks_after print_level false w ≡ []) (sym (print_walk format value rest)) (values_checks format value rest few))

-- the walk of the top command, which stops at the subcommand
abbrev stopped_at : List Text → Walk
stopped_at words = record { held = nothing_held; waiting = idle; position = 1; is_trailing = false; stopped = Some (codes "print", words) }

top_walk : (words : List Text) → walk top.rules names nothing_held (codes "print" ∷ words) ≡ stopped_at words
unfolding clap_on_literals
top_walk words = sym (walk_stopped top.rules names (walk_from nothing_held) (codes "print") [] words)

top_walk_fine : (words : List Text) → walk_fault top names (walk_from nothing_held) (codes "print" ∷ words) ≡ []
unfolding clap_on_literals walk_fault walked
top_walk_fine words = stopped_fault top names (walk_from nothing_held) (codes "print", []) words

top_checks : (words : List Text) → checks_after top true (stopped_at words) ≡ []
unfolding clap_on_literals
top_checks words = refl

pub texts_of_values : (format value : Text) (rest : List Text)
    → texts_by Print (finished print_level.rules (at_values format (value ∷ rest)).held) ≡ format ∷ value ∷ rest
unfolding clap_on_literals
texts_of_values format value rest = refl

pub values_own : (format value : Text) (rest : List Text) → own_faults (verb_text Print)
    (finished print_level.rules (at_values format (value ∷ rest)).held) ≡ []
unfolding clap_on_literals
values_own format value rest = refl

print_taken : (format value : Text) (rest : List Text) → length (format ∷ value ∷ rest) < 2 ^ 64
    → IsTakenAs (codes "print" ∷ codes "--" ∷ format ∷ value ∷ rest) Print (format ∷ value ∷ rest)
print_taken format value rest few = record {
  taken = none_at_fault Print words rows fine is (values_own format value rest);
  given = rows;
  is_given = is;
  texts_are = texts_of_values format value rest;
}
  where
    words : List Text
    words = codes "--" ∷ format ∷ value ∷ rest

    rows : List Row
    rows = finished print_level.rules (at_values format (value ∷ rest)).held

    fine : fault_of sf_app (codes "sf" ∷ codes "print" ∷ words) ≡ []
    fine =
        nothing (walk_fault top names (walk_from nothing_held) (codes "print" ∷ words)) _ (top_walk_fine words)
        (subst (λ w. or_else (entered_fault (built sf_app) w.stopped) (checks_after top (is_some (entered (built sf_app) w.stopped)) w)
        ≡ []) (sym (top_walk words))
        (nothing (level_fault print_level [] nothing_held words false []) _ (print_fine format value rest (omega (arith, few)))
        (top_checks words)))

    is : subcommand_of sf_app (codes "sf" ∷ codes "print" ∷ words) ≡ Some (verb_text Print, rows)
    is =
        ap (λ w. entered (built sf_app) w.stopped) (top_walk words)
        ∙ ap (λ w. Some (codes "print", finished print_level.rules w.held)) (print_walk format value rest)

-- ---- all of them

pub texts_taken : TakesBehindDashes
texts_taken Show [] has few = elim has [ ]
texts_taken Show (format ∷ []) has few = show_taken format
texts_taken Show (format ∷ next ∷ rest) has few = elim has [ ]
texts_taken Scan [] has few = elim has [ ]
texts_taken Scan (format ∷ []) has few = scan_taken format
texts_taken Scan (format ∷ next ∷ rest) has few = elim has [ ]
texts_taken Print [] has few = elim has [ ]
texts_taken Print (format ∷ []) has few = format_taken format
texts_taken Print (format ∷ value ∷ rest) has few = print_taken format value rest few
texts_taken Check [] has few = elim has [ ]
texts_taken Check (print ∷ []) has few = print_alone_taken print
texts_taken Check (print ∷ scan ∷ []) has few = check_taken print scan
texts_taken Check (print ∷ scan ∷ next ∷ rest) has few = elim has [ ]
texts_taken Copy [] has few = elim has [ ]
texts_taken Copy (print ∷ []) has few = elim has [ ]
texts_taken Copy (print ∷ scan ∷ []) has few = copy_taken print scan
texts_taken Copy (print ∷ scan ∷ next ∷ rest) has few = elim has [ ]
