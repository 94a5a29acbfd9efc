-- Words that don't begin with `-`.
use Rattle.std.proofs.Common.{◌≡◌, ◌∙◌, ◌&&◌, ◌<◌, ◌^◌, ℕ, Bool, true, false, true≢false, cond, List, [], ◌∷◌}
use Rattle.std.proofs.Common.{◌++◌, length, Option, Some, None}
use Rattle.std.proofs.Common.{is_some, refl, sym, ap, subst, arith, append-nil, codes}
use Rattle.std.specs.Prelude.{fold}
use Rattle.std.specs.List.{AllByRecursion}
use Rattle.std.specs.Option.{option_map_or}
use Rattle.std.specs.Str.{bytes_eq}
use Rattle.std.proofs.lemmas.List.{append_assoc}
use Rattle.clap.specs.Kinds.{or_else}
use Rattle.clap.specs.Lexer.{long_of, short_of}
use Rattle.clap.specs.Simple.{Shape, built, built_leaf, entered, inherited, marked_built, on_top, rows_at, subcommand_of, with_leaf_noted}
use Rattle.clap.specs.Walk.{Held, Row, Rule, Step, Text, Waiting, Walk, after_step, arg_by_index, finished, idle, long_or_other}
use Rattle.clap.specs.Walk.{nothing_held, option, positional, short_or_plain, to_positional, trailing, value, walk, walk_from, walked}
use Rattle.clap.specs.Walk.{word_met}
use Rattle.clap.specs.Faults.{bundle_fault, entered_fault, fault_of, flag_word_fault, level_fault, step_fault, turn_fault, walk_fault}
use Rattle.clap.specs.Faults.{word_fault}
use Rattle.clap.proofs.FaultLemmas.{stopped_fault}
use Rattle.clap.proofs.OnLiterals.{clap_on_literals}
use Rattle.clap.proofs.WalkLemmas.{walk_stopped}
use Rattle.sf_words.specs.Hyphens.{asks_format, asks_number, clap_words, is_digit, is_negative, joined, valued}
use Rattle.sf_words.specs.Laws.{IsPlain, IsTakenAs, TakesPlainTexts}
use Rattle.sf_words.specs.Line.{check_app, copy_app, print_app, scan_app, sf_app, show_app}
use Rattle.sf_words.specs.Orders.{own_faults, texts_by, verb_text}
use Rattle.sf_words.specs.declared.order.Verb.{Verb}
use Rattle.sf_words.specs.declared.order.Verb.TheVariants.{Show, Scan, Print, Check, Copy}
use Rattle.sf_words.proofs.Dashes.{checks_after, names, none_at_fault, nothing, row, texts_of_values, top, values_checks, values_own}

-- the word is no flag
pub record NoFlag (word : Text) : Type 0 where
  pub dashes : bytes_eq word (45 ∷ 45 ∷ []) ≡ false
  pub long : long_of word ≡ None
  pub short : short_of word ≡ None

no_flag : (word : Text) → IsPlain word → NoFlag word
no_flag [] plain = record { dashes = refl; long = refl; short = refl }
no_flag (b ∷ rest) plain = record { dashes = rw plain refl; long = rw plain refl; short = rw plain refl }

-- no option waits for a value
abbrev is_calm : Waiting → Bool
is_calm (option id) = false
is_calm _ = true

abbrev pub state : Held → Waiting → ℕ → Walk
state held waiting position = record { held = held; waiting = waiting; position = position; is_trailing = false; stopped = None }

module _ (word : Text) (fact : NoFlag word) (h : Held) where
  met : (c : List Rule) (waiting : Waiting) (position : ℕ) → is_calm waiting ≡ true
      → word_met c [] false waiting position word h ≡ (h, value)
  met c idle position calm =
      ap (λ b. cond b (h, trailing position) (long_or_other c idle word (long_of word) h)) fact.dashes
      ∙ ap (λ l. long_or_other c idle word l h) fact.long
      ∙ ap (λ s. short_or_plain c idle word s h) fact.short
  met c positional position calm =
      ap (λ b. cond b (h, trailing position) (long_or_other c positional word (long_of word) h)) fact.dashes
      ∙ ap (λ l. long_or_other c positional word l h) fact.long
      ∙ ap (λ s. short_or_plain c positional word s h) fact.short
  met c (option id) position calm = absurd (true≢false (sym calm))

  fine : (s : Shape) (waiting : Waiting) → is_calm waiting ≡ true → word_fault s [] false waiting word h ≡ []
  fine s idle calm =
      ap (λ b. cond b [] (flag_word_fault s.rules s.args_override_self (long_of word) word h)) fact.dashes
      ∙ ap (λ l. flag_word_fault s.rules s.args_override_self l word h) fact.long
      ∙ ap (λ o. option_map_or (λ flags. bundle_fault s.rules s.args_override_self flags h) o []) fact.short
  fine s positional calm =
      ap (λ b. cond b [] (flag_word_fault s.rules s.args_override_self (long_of word) word h)) fact.dashes
      ∙ ap (λ l. flag_word_fault s.rules s.args_override_self l word h) fact.long
      ∙ ap (λ o. option_map_or (λ flags. bundle_fault s.rules s.args_override_self flags h) o []) fact.short
  fine s (option id) calm = absurd (true≢false (sym calm))

  -- the word goes to the positional of the place
  step : (c : List Rule) (waiting : Waiting) (position : ℕ) → is_calm waiting ≡ true
      → walked c [] (state h waiting position) word ≡ to_positional c (arg_by_index c position) word (state h waiting position) h
  unfolding walked
  step c waiting position calm = ap (λ (m : Held × Step). after_step c word (state h waiting position) m.0 m.1)
      (met c waiting position calm)

  turn : (s : Shape) (waiting : Waiting) (position : ℕ) → is_calm waiting ≡ true → step_fault s position h value ≡ []
      → turn_fault s [] (state h waiting position) word ≡ []
  turn s waiting position calm goes =
      nothing (word_fault s [] false waiting word h) _ (fine s waiting calm)
      (subst (λ (m : Held × Step). step_fault s position m.0 m.1 ≡ []) (sym (met s.rules waiting position calm)) goes)

-- ---- the level of a verb

abbrev pub level_of : Shape → Shape
level_of s = built_leaf (inherited (on_top with_leaf_noted (on_top marked_built sf_app)).top s)

abbrev pub level : Verb → Shape
level Show = level_of show_app.top
level Scan = level_of scan_app.top
level Print = level_of print_app.top
level Check = level_of check_app.top
level Copy = level_of copy_app.top

abbrev stopped_at : Verb → List Text → Walk
stopped_at verb words = record {
  held = nothing_held;
  waiting = idle;
  position = 1;
  is_trailing = false;
  stopped =
      Some (verb_text verb, words);
}

first : (verb : Verb) → walked top.rules names (walk_from nothing_held) (verb_text verb) ≡ stopped_at verb []
unfolding clap_on_literals
first Show = refl
first Scan = refl
first Print = refl
first Check = refl
first Copy = refl

first_fine : (verb : Verb) → turn_fault top names (walk_from nothing_held) (verb_text verb) ≡ []
unfolding clap_on_literals
first_fine Show = refl
first_fine Scan = refl
first_fine Print = refl
first_fine Check = refl
first_fine Copy = refl

top_walk : (verb : Verb) (words : List Text) → walk top.rules names nothing_held (verb_text verb ∷ words) ≡ stopped_at verb words
top_walk verb words =
    ap (λ w. fold (walked top.rules names) w words) (first verb) ∙ sym
    (walk_stopped top.rules names (walk_from nothing_held) (verb_text verb) [] words)

top_fine : (verb : Verb) (words : List Text) → walk_fault top names (walk_from nothing_held) (verb_text verb ∷ words) ≡ []
unfolding walk_fault
top_fine verb words =
    nothing (turn_fault top names (walk_from nothing_held) (verb_text verb)) _ (first_fine verb)
    (subst (λ w. walk_fault top names w words ≡ []) (sym (first verb))
    (stopped_fault top names (walk_from nothing_held) (verb_text verb, []) words))

top_checks : (verb : Verb) (words : List Text) → checks_after top true (stopped_at verb words) ≡ []
unfolding clap_on_literals
top_checks verb words = refl

enters : (verb : Verb) (words : List Text) → entered (built sf_app) (Some (verb_text verb, words)) ≡ Some (rows_at (level verb) words)
enters Show words = refl
enters Scan words = refl
enters Print words = refl
enters Check words = refl
enters Copy words = refl

enters_fine : (verb : Verb) (words : List Text) → level_fault (level verb) [] nothing_held words false [] ≡ []
    → entered_fault (built sf_app) (Some (verb_text verb, words)) ≡ []
enters_fine Show words e = e
enters_fine Scan words e = e
enters_fine Print words e = e
enters_fine Check words e = e
enters_fine Copy words e = e

-- a level whose walk is fine, and so are its checks
level_fine : (s : Shape) (words : List Text) (end : Walk) → walk s.rules [] nothing_held words ≡ end
    → walk_fault s [] (walk_from nothing_held) words ≡ []
    → checks_after s false end ≡ [] → level_fault s [] nothing_held words false [] ≡ []
level_fine s words end is walk_fine checks =
    nothing (walk_fault s [] (walk_from nothing_held) words) _ walk_fine (subst (λ w. checks_after s false w ≡ []) (sym is) checks)

abbrev pub rows_named : Verb → List Row → List Row → Type 0
rows_named verb found rows = ◌≡◌ {A = Option (Text × List Row)} (Some ((level verb).name, found)) (Some (verb_text verb, rows))

-- a command whose walk and checks are fine has no fault
pub fine_by : (verb : Verb) (words : List Text) (end : Walk) → walk (level verb).rules [] nothing_held words ≡ end
    → walk_fault (level verb) [] (walk_from nothing_held) words ≡ [] → checks_after (level verb) false end ≡ []
    → fault_of sf_app (codes "sf" ∷ verb_text verb ∷ words) ≡ []
fine_by verb words end is walk_fine checks =
    nothing (walk_fault top names (walk_from nothing_held) (verb_text verb ∷ words)) _ (top_fine verb words)
    (subst (λ w. or_else (entered_fault (built sf_app) w.stopped) (checks_after top (is_some (entered (built sf_app) w.stopped)) w) ≡ [])
    (sym (top_walk verb words))
    (nothing (entered_fault (built sf_app) (Some (verb_text verb, words))) _
    (enters_fine verb words (level_fine (level verb) words end is walk_fine checks))
    (subst (λ o. checks_after top (is_some o) (stopped_at verb words) ≡ []) (sym (enters verb words)) (top_checks verb words))))

-- and its rows are those of its walk
pub entered_by : (verb : Verb) (words : List Text) (end : Walk) (rows : List Row) → walk (level verb).rules [] nothing_held words ≡ end
    → rows_named verb (finished (level verb).rules end.held) rows
    → subcommand_of sf_app (codes "sf" ∷ verb_text verb ∷ words) ≡ Some (verb_text verb, rows)
entered_by verb words end rows is named =
    ap (λ w. entered (built sf_app) w.stopped) (top_walk verb words)
    ∙ enters verb words
    ∙ ap (λ w. Some ((level verb).name, finished (level verb).rules w.held)) is
    ∙ named

taken_by : (verb : Verb) (words texts : List Text) (end : Walk) (rows : List Row) → walk (level verb).rules [] nothing_held words ≡ end
    → walk_fault (level verb) [] (walk_from nothing_held) words ≡ [] → checks_after (level verb) false end ≡ []
    → rows_named verb (finished (level verb).rules end.held) rows → own_faults (verb_text verb) rows ≡ [] → texts_by verb rows ≡ texts
    → clap_words (verb_text verb ∷ words) ≡ verb_text verb ∷ words → IsTakenAs (verb_text verb ∷ words) verb texts
taken_by verb words texts end rows is walk_fine checks named own are same =
    let entered = subst (λ ws. subcommand_of sf_app (codes "sf" ∷ ws) ≡ Some (verb_text verb, rows)) (sym same)
    (entered_by verb words end rows is named) in
    let fine = subst (λ ws. fault_of sf_app (codes "sf" ∷ ws) ≡ []) (sym same) (fine_by verb words end is walk_fine checks) in
    record {
      taken = none_at_fault verb words rows fine entered own;
      given = rows;
      is_given = entered;
      texts_are = are;
    }

-- one word of a scan is handed on as it is
one_word : (w : Text) → joined None (w ∷ []) ≡ w ∷ []
one_word w = go (asks_format w) (bytes_eq w (codes "--"))
  where
    go : (asks dashes : Bool) → cond asks (w ∷ []) (w ∷ cond dashes [] []) ≡ w ∷ []
    go true dashes = refl
    go false true = refl
    go false false = refl

-- and those of a print, where none is below zero
plain_negative : (word : Text) → IsPlain word → is_negative word ≡ false
plain_negative [] plain = refl
plain_negative (b ∷ []) plain = refl
plain_negative (b ∷ digit ∷ rest) plain = ap (λ minus. minus && is_digit digit) plain

as_values : (asked : Bool) (words : List Text) → AllByRecursion IsPlain words → valued asked words ≡ words
as_values true [] plain = refl
as_values false [] plain = refl
as_values true (word ∷ rest) plain = ap (λ ws. word ∷ ws) (as_values false rest plain.1)
as_values false (word ∷ rest) plain =
    ap (λ b. cond b (codes "--" ∷ word ∷ rest) (word ∷ cond (bytes_eq word (codes "--")) rest (valued (asks_number word) rest)))
    (plain_negative word plain.0)
    ∙ ap (λ ws. word ∷ ws) (after (bytes_eq word (codes "--")) (as_values (asks_number word) rest plain.1))
  where
    after : (dashes : Bool) → valued (asks_number word) rest ≡ rest → cond dashes rest (valued (asks_number word) rest) ≡ rest
    after true same = refl
    after false same = same

-- ---- the five

abbrev one_pending : Text → Text → List Row → ℕ → Walk
one_pending id word rows position = state (record { rows = rows; pending = Some (id, word ∷ []); skip = 0 }) idle position

show_walk : (w : Text) → NoFlag w → walk (level Show).rules [] nothing_held (w ∷ []) ≡ one_pending (codes "FORMAT") w [] 2
show_walk w fact = step w fact nothing_held (level Show).rules idle 1 refl

show_fine : (w : Text) → NoFlag w → walk_fault (level Show) [] (walk_from nothing_held) (w ∷ []) ≡ []
unfolding walk_fault
show_fine w fact = nothing (turn_fault (level Show) [] (walk_from nothing_held) w) []
    (turn w fact nothing_held (level Show) idle 1 refl refl) refl

show_plain : (w : Text) → NoFlag w → IsTakenAs (codes "show" ∷ w ∷ []) Show (w ∷ [])
unfolding clap_on_literals
show_plain w fact =
    taken_by Show (w ∷ []) (w ∷ []) (one_pending (codes "FORMAT") w [] 2)
    (finished (level Show).rules (one_pending (codes "FORMAT") w [] 2).held) (show_walk w fact) (show_fine w fact) refl refl refl refl refl

scan_walk : (w : Text) → NoFlag w → walk (level Scan).rules [] nothing_held (w ∷ []) ≡ one_pending (codes "FORMAT") w [] 2
scan_walk w fact = step w fact nothing_held (level Scan).rules idle 1 refl

scan_fine : (w : Text) → NoFlag w → walk_fault (level Scan) [] (walk_from nothing_held) (w ∷ []) ≡ []
unfolding walk_fault
scan_fine w fact = nothing (turn_fault (level Scan) [] (walk_from nothing_held) w) []
    (turn w fact nothing_held (level Scan) idle 1 refl refl) refl

scan_plain : (w : Text) → NoFlag w → IsTakenAs (codes "scan" ∷ w ∷ []) Scan (w ∷ [])
unfolding clap_on_literals
scan_plain w fact =
    taken_by Scan (w ∷ []) (w ∷ []) (one_pending (codes "FORMAT") w [] 2)
    (finished (level Scan).rules (one_pending (codes "FORMAT") w [] 2).held) (scan_walk w fact) (scan_fine w fact) refl refl refl refl
    (ap (λ ws. codes "scan" ∷ ws) (one_word w))

alone_walk : (w : Text) → NoFlag w → walk (level Check).rules [] nothing_held (w ∷ []) ≡ one_pending (codes "PRINT") w [] 2
alone_walk w fact = step w fact nothing_held (level Check).rules idle 1 refl

alone_fine : (w : Text) → NoFlag w → walk_fault (level Check) [] (walk_from nothing_held) (w ∷ []) ≡ []
unfolding walk_fault
alone_fine w fact = nothing (turn_fault (level Check) [] (walk_from nothing_held) w) []
    (turn w fact nothing_held (level Check) idle 1 refl refl) refl

alone_plain : (w : Text) → NoFlag w → IsTakenAs (codes "check" ∷ w ∷ []) Check (w ∷ [])
unfolding clap_on_literals
alone_plain w fact =
    taken_by Check (w ∷ []) (w ∷ []) (one_pending (codes "PRINT") w [] 2)
    (finished (level Check).rules (one_pending (codes "PRINT") w [] 2).held) (alone_walk w fact) (alone_fine w fact)
    refl refl refl refl refl

-- PRINT and then SCAN
abbrev two_texts : Text → Text → Walk
two_texts p s = one_pending (codes "SCAN") s (row (codes "PRINT") (p ∷ []) ∷ []) 3

check_walk : (p s : Text) → NoFlag p → NoFlag s → walk (level Check).rules [] nothing_held (p ∷ s ∷ []) ≡ two_texts p s
check_walk p s print scan =
    ap (λ w. walked (level Check).rules [] w s) (step p print nothing_held (level Check).rules idle 1 refl)
    ∙ step s scan (one_pending (codes "PRINT") p [] 2).held (level Check).rules idle 2 refl

check_fine : (p s : Text) → NoFlag p → NoFlag s → walk_fault (level Check) [] (walk_from nothing_held) (p ∷ s ∷ []) ≡ []
unfolding walk_fault
check_fine p s print scan =
    nothing (turn_fault (level Check) [] (walk_from nothing_held) p) _ (turn p print nothing_held (level Check) idle 1 refl refl)
    (nothing (turn_fault (level Check) [] (walked (level Check).rules [] (walk_from nothing_held) p) s) []
    (subst (λ w. turn_fault (level Check) [] w s ≡ []) (sym (step p print nothing_held (level Check).rules idle 1 refl))
    (turn s scan (one_pending (codes "PRINT") p [] 2).held (level Check) idle 2 refl refl)) refl)

check_plain : (p s : Text) → NoFlag p → NoFlag s → IsTakenAs (codes "check" ∷ p ∷ s ∷ []) Check (p ∷ s ∷ [])
unfolding clap_on_literals
check_plain p s print scan =
    taken_by Check (p ∷ s ∷ []) (p ∷ s ∷ []) (two_texts p s) (finished (level Check).rules (two_texts p s).held)
    (check_walk p s print scan) (check_fine p s print scan) refl refl refl refl refl

copy_walk : (p s : Text) → NoFlag p → NoFlag s → walk (level Copy).rules [] nothing_held (p ∷ s ∷ []) ≡ two_texts p s
copy_walk p s print scan =
    ap (λ w. walked (level Copy).rules [] w s) (step p print nothing_held (level Copy).rules idle 1 refl)
    ∙ step s scan (one_pending (codes "PRINT") p [] 2).held (level Copy).rules idle 2 refl

copy_fine : (p s : Text) → NoFlag p → NoFlag s → walk_fault (level Copy) [] (walk_from nothing_held) (p ∷ s ∷ []) ≡ []
unfolding walk_fault
copy_fine p s print scan =
    nothing (turn_fault (level Copy) [] (walk_from nothing_held) p) _ (turn p print nothing_held (level Copy) idle 1 refl refl)
    (nothing (turn_fault (level Copy) [] (walked (level Copy).rules [] (walk_from nothing_held) p) s) []
    (subst (λ w. turn_fault (level Copy) [] w s ≡ []) (sym (step p print nothing_held (level Copy).rules idle 1 refl))
    (turn s scan (one_pending (codes "PRINT") p [] 2).held (level Copy) idle 2 refl refl)) refl)

copy_plain : (p s : Text) → NoFlag p → NoFlag s → IsTakenAs (codes "copy" ∷ p ∷ s ∷ []) Copy (p ∷ s ∷ [])
unfolding clap_on_literals
copy_plain p s print scan =
    taken_by Copy (p ∷ s ∷ []) (p ∷ s ∷ []) (two_texts p s) (finished (level Copy).rules (two_texts p s).held)
    (copy_walk p s print scan) (copy_fine p s print scan) refl refl refl refl refl

-- ---- print, with any number of values

print_walk : (w : Text) → NoFlag w → walk (level Print).rules [] nothing_held (w ∷ []) ≡ one_pending (codes "FORMAT") w [] 2
print_walk w fact = step w fact nothing_held (level Print).rules idle 1 refl

print_fine : (w : Text) → NoFlag w → walk_fault (level Print) [] (walk_from nothing_held) (w ∷ []) ≡ []
unfolding walk_fault
print_fine w fact = nothing (turn_fault (level Print) [] (walk_from nothing_held) w) []
    (turn w fact nothing_held (level Print) idle 1 refl refl) refl

format_plain : (w : Text) → IsPlain w → NoFlag w → IsTakenAs (codes "print" ∷ w ∷ []) Print (w ∷ [])
unfolding clap_on_literals
format_plain w plain fact =
    taken_by Print (w ∷ []) (w ∷ []) (one_pending (codes "FORMAT") w [] 2)
    (finished (level Print).rules (one_pending (codes "FORMAT") w [] 2).held) (print_walk w fact)
    (print_fine w fact) refl refl refl refl
    (ap (λ ws. codes "print" ∷ ws) (as_values false (w ∷ []) (plain, tt)))

abbrev values_held : Text → List Text → Held
values_held format values = record { rows = row (codes "FORMAT") (format ∷ []) ∷ []; pending = Some (codes "VALUES", values); skip = 0 }

more : (format : Text) (values rest : List Text) → AllByRecursion NoFlag rest
    → fold (walked (level Print).rules []) (state (values_held format values) positional 2) rest
    ≡ state (values_held format (values ++ rest)) positional 2
more format values [] facts = ap (λ vs. state (values_held format vs) positional 2) (sym (append-nil values))
more format values (word ∷ rest) facts =
    ap (λ w. fold (walked (level Print).rules []) w rest) (step word facts.0 (values_held format values)
    (level Print).rules positional 2 refl)
    ∙ more format (values ++ word ∷ []) rest facts.1
    ∙ ap (λ vs. state (values_held format vs) positional 2) (append_assoc values (word ∷ []) rest)

more_fine : (format : Text) (values rest : List Text) → AllByRecursion NoFlag rest
    → walk_fault (level Print) [] (state (values_held format values) positional 2) rest ≡ []
unfolding walk_fault
more_fine format values [] facts = refl
more_fine format values (word ∷ rest) facts =
    nothing (turn_fault (level Print) [] (state (values_held format values) positional 2) word) _
    (turn word facts.0 (values_held format values) (level Print) positional 2 refl refl)
    (subst (λ w. walk_fault (level Print) [] w rest ≡ []) (sym (step word facts.0 (values_held format values)
    (level Print).rules positional 2 refl))
    (more_fine format (values ++ word ∷ []) rest facts.1))

values_walk : (f v : Text) (rest : List Text) → NoFlag f → NoFlag v → AllByRecursion NoFlag rest
    → walk (level Print).rules [] nothing_held (f ∷ v ∷ rest) ≡ state (values_held f (v ∷ rest)) positional 2
values_walk f v rest format first_value others =
    ap (λ w. fold (walked (level Print).rules []) (walked (level Print).rules [] w v) rest)
    (step f format nothing_held (level Print).rules idle 1 refl)
    ∙ ap (λ w. fold (walked (level Print).rules []) w rest) (step v first_value (one_pending (codes "FORMAT") f [] 2).held
    (level Print).rules idle 2 refl)
    ∙ more f (v ∷ []) rest others

values_fine : (f v : Text) (rest : List Text) → NoFlag f → NoFlag v → AllByRecursion NoFlag rest
    → walk_fault (level Print) [] (walk_from nothing_held) (f ∷ v ∷ rest) ≡ []
unfolding walk_fault
values_fine f v rest format first_value others =
    nothing (turn_fault (level Print) [] (walk_from nothing_held) f) _ (turn f format nothing_held (level Print) idle 1 refl refl)
    (subst (λ w. or_else (turn_fault (level Print) [] w v) (walk_fault (level Print) [] (walked (level Print).rules [] w v) rest) ≡ [])
    (sym (step f format nothing_held (level Print).rules idle 1 refl))
    (nothing (turn_fault (level Print) [] (one_pending (codes "FORMAT") f [] 2) v) _
    (turn v first_value (one_pending (codes "FORMAT") f [] 2).held (level Print) idle 2 refl refl)
    (subst (λ w. walk_fault (level Print) [] w rest ≡ []) (sym (step v first_value (one_pending (codes "FORMAT") f [] 2).held
    (level Print).rules idle 2 refl))
    (more_fine f (v ∷ []) rest others))))

values_plain : (f v : Text) (rest : List Text) → AllByRecursion IsPlain (f ∷ v ∷ rest) → NoFlag f → NoFlag v
    → AllByRecursion NoFlag rest → length (f ∷ v ∷ rest) < 2 ^ 64 → IsTakenAs (codes "print" ∷ f ∷ v ∷ rest) Print (f ∷ v ∷ rest)
values_plain f v rest plain format first_value others few =
    taken_by Print (f ∷ v ∷ rest) (f ∷ v ∷ rest) (state (values_held f (v ∷ rest)) positional 2)
    (finished (level Print).rules (values_held f (v ∷ rest))) (values_walk f v rest format first_value others)
    (values_fine f v rest format first_value others) (values_checks f v rest (omega (arith, few))) refl
    (values_own f v rest) (texts_of_values f v rest)
    (ap (λ ws. codes "print" ∷ ws) (as_values false (f ∷ v ∷ rest) plain))

-- ---- all of them

pub no_flags : (words : List Text) → AllByRecursion IsPlain words → AllByRecursion NoFlag words
no_flags [] plain = tt
no_flags (word ∷ rest) plain = (no_flag word plain.0, no_flags rest plain.1)

pub plain_taken : TakesPlainTexts
plain_taken Show [] has plain few = elim has [ ]
plain_taken Show (format ∷ []) has plain few = show_plain format (no_flag format plain.0)
plain_taken Show (format ∷ next ∷ rest) has plain few = elim has [ ]
plain_taken Scan [] has plain few = elim has [ ]
plain_taken Scan (format ∷ []) has plain few = scan_plain format (no_flag format plain.0)
plain_taken Scan (format ∷ next ∷ rest) has plain few = elim has [ ]
plain_taken Print [] has plain few = elim has [ ]
plain_taken Print (format ∷ []) has plain few = format_plain format plain.0 (no_flag format plain.0)
plain_taken Print (format ∷ v ∷ rest) has plain few =
    values_plain format v rest plain (no_flag format plain.0) (no_flag v plain.1.0) (no_flags rest plain.1.1) few
plain_taken Check [] has plain few = elim has [ ]
plain_taken Check (print ∷ []) has plain few = alone_plain print (no_flag print plain.0)
plain_taken Check (print ∷ scan ∷ []) has plain few = check_plain print scan (no_flag print plain.0) (no_flag scan plain.1.0)
plain_taken Check (print ∷ scan ∷ next ∷ rest) has plain few = elim has [ ]
plain_taken Copy [] has plain few = elim has [ ]
plain_taken Copy (print ∷ []) has plain few = elim has [ ]
plain_taken Copy (print ∷ scan ∷ []) has plain few = copy_plain print scan (no_flag print plain.0) (no_flag scan plain.1.0)
plain_taken Copy (print ∷ scan ∷ next ∷ rest) has plain few = elim has [ ]
