-- The subcommand that a command without a fault enters has no fault either.
use Rattle.std.proofs.Common.{◌≡◌, ℕ, Bool, true, false, not, cond, ◌&&◌, List, [], ◌∷◌, length, Option, Some, None, refl, sym, ap, subst}
use Rattle.std.proofs.Common.{arith, true≢false, codes}
use Rattle.std.specs.Prelude.{find, fold, is_some}
use Rattle.std.specs.Option.{option_map, option_map_or}
use Rattle.std.specs.Str.{bytes_eq}
use Rattle.clap.specs.Lexer.{long_of, short_of}
use Rattle.clap.specs.Kinds.{or_else}
use Rattle.clap.specs.Walk.{answers_to, stop_after, Held, Names, Outcome, Row, Rule, Step, Text, Waiting, Walk, after_flag, after_step}
use Rattle.clap.specs.Walk.{arg_by_index, arg_by_long, bundle, done, idle, long_met, long_or_other, next, nothing_held, option, plain}
use Rattle.clap.specs.Walk.{plain_word, positional, refused, short_or_plain, subcommand, subcommand_met, subcommand_or_other, to_positional}
use Rattle.clap.specs.Walk.{trailing, value, waits, walk_from, walked, walked_from, word_met}
use Rattle.clap.specs.Simple.{App, Shape, entered, label_of, names_of, rows_at}
use Rattle.clap.specs.Faults.{built_fault, entered_fault, level_fault, other_fault, step_fault, turn_fault, walk_fault, word_fault}
use Rattle.clap.specs.declared.error.ErrorKind.TheVariants as kind
use Rattle.sf_words.proofs.Walking.{both_pass}

-- a command without a fault doesn't enter its subcommand help
abbrev StepFine : Step → Type 0
StepFine (subcommand name) = bytes_eq name (codes "help") ≡ false
StepFine _ = Unit {0}

abbrev StopFine : Option (Text × List Text) → Type 0
StopFine None = Unit {0}
StopFine (Some p) = bytes_eq p.0 (codes "help") ≡ false

module _ (s : Shape) (has_help : s.disable_help_subcommand ≡ false) (names : Names) where
  plain_fine : (waiting : Waiting) (word : Text) (h : Held) → StepFine (plain_word s.rules waiting word h).1
  plain_fine idle word h = tt
  plain_fine positional word h = tt
  plain_fine (option id) word h = tt

  after_fine : (waiting : Waiting) (word : Text) (h : Held) (o : Outcome) → StepFine (after_flag s.rules waiting word h o).1
  after_fine waiting word h done = tt
  after_fine waiting word h (waits id) = tt
  after_fine waiting word h plain = plain_fine waiting word h
  after_fine waiting word h refused = plain_fine waiting word h

  short_word_fine : (waiting : Waiting) (word : Text) (o : Option Text) (h : Held) → StepFine (short_or_plain s.rules waiting word o h).1
  short_word_fine waiting word None h = plain_fine waiting word h
  short_word_fine waiting word (Some flags) h = after_fine waiting word (bundle s.rules flags h).0 (bundle s.rules flags h).1

  flag_word_fine : (waiting : Waiting) (word : Text) (o : Option (Text × Option Text)) (h : Held)
      → StepFine (long_or_other s.rules waiting word o h).1
  flag_word_fine waiting word (Some p) h =
      after_fine waiting word (long_met s.rules (arg_by_long s.rules p.0) p.1 h).0 (long_met s.rules (arg_by_long s.rules p.0) p.1 h).1
  flag_word_fine waiting word None h = short_word_fine waiting word (short_of word) h

  dashes_fine : (b : Bool) (waiting : Waiting) (position : ℕ) (word : Text) (h : Held)
      → StepFine (cond b (h, trailing position) (long_or_other s.rules waiting word (long_of word) h)).1
  dashes_fine true waiting position word h = tt
  dashes_fine false waiting position word h = flag_word_fine waiting word (long_of word) h

  no_help : (b d : Bool) → d ≡ false → cond (b && not d) (kind.DisplayHelp ∷ kind.InvalidSubcommand ∷ []) [] ≡ [] → b ≡ false
  no_help false d off e = refl
  no_help true d off e =
      let yes : cond (true && not false) (kind.DisplayHelp ∷ kind.InvalidSubcommand ∷ []) [] ≡ [] =
      subst (λ x. cond (true && not x) (kind.DisplayHelp ∷ kind.InvalidSubcommand ∷ []) [] ≡ []) off e in
      absurd (omega (arith, ap length yes))

  other_fine : (o : Option Text) (waiting : Waiting) (position : ℕ) (word : Text) (h : Held) → other_fault s o word h ≡ []
      → StepFine (subcommand_or_other s.rules o waiting position word h).1
  other_fine (Some name) waiting position word h e = no_help (bytes_eq name (codes "help")) s.disable_help_subcommand has_help e
  other_fine None waiting position word h e = dashes_fine (bytes_eq word (45 ∷ 45 ∷ [])) waiting position word h

  word_fine : (is_trailing : Bool) (waiting : Waiting) (position : ℕ) (word : Text) (h : Held)
      → word_fault s names is_trailing waiting word h ≡ []
      → StepFine (word_met s.rules names is_trailing waiting position word h).1
  word_fine true waiting position word h e = tt
  word_fine false waiting position word h e = other_fine (subcommand_met names waiting word) waiting position word h e

  value_fine : (o : Option Rule) (word : Text) (w : Walk) (h : Held) → w.stopped ≡ None
      → StopFine (to_positional s.rules o word w h).stopped
  value_fine None word w h none = subst StopFine (sym none) tt
  value_fine (Some a) word w h none = tt

  step_fine : (word : Text) (w : Walk) (h : Held) (step : Step) → w.stopped ≡ None → StepFine step
      → StopFine (after_step s.rules word w h step).stopped
  step_fine word w h (next waiting) none f = subst StopFine (sym none) tt
  step_fine word w h (trailing position) none f = subst StopFine (sym none) tt
  step_fine word w h (subcommand name) none f = f
  step_fine word w h value none f = value_fine (arg_by_index s.rules w.position) word w h none

  turn_by_fine : (o : Option (Text × List Text)) (w : Walk) (word : Text) → w.stopped ≡ o
      → cond (is_some o) [] (or_else (word_fault s names w.is_trailing w.waiting word w.held)
      (step_fault s w.position (word_met s.rules names w.is_trailing w.waiting w.position word w.held).0
      (word_met s.rules names w.is_trailing w.waiting w.position word w.held).1)) ≡ []
      → StopFine o → StopFine (walked_from s.rules names o w word).stopped
  turn_by_fine (Some p) w word is e f = f
  turn_by_fine None w word is e f =
      let met = word_met s.rules names w.is_trailing w.waiting w.position word w.held in
      let two = both_pass (word_fault s names w.is_trailing w.waiting word w.held) (step_fault s w.position met.0 met.1) e in
      step_fine word w met.0 met.1 is (word_fine w.is_trailing w.waiting w.position word w.held two.0)

  walk_fine : (w : Walk) (words : List Text) → walk_fault s names w words ≡ [] → StopFine w.stopped
      → StopFine (fold (walked s.rules names) w words).stopped
  unfolding walk_fault walked
  walk_fine w [] e f = f
  walk_fine w (word ∷ rest) e f =
      let two = both_pass (turn_fault s names w word) (walk_fault s names (walked s.rules names w word) rest) e in
      walk_fine (walked s.rules names w word) rest two.1 (turn_by_fine w.stopped w word refl two.0 f)

-- the subcommand that a command without a fault entered: its level has no fault either
pub record Entered (a : App) (given : Text × List Row) : Type 0 where
  pub shape : Shape
  pub name : Text
  pub words : List Text
  pub found : find (λ s. answers_to name (label_of s)) a.subs ≡ Some shape
  pub no_help : bytes_eq name (codes "help") ≡ false
  pub is : rows_at shape words ≡ given
  pub fine : level_fault shape [] nothing_held words false [] ≡ []

abbrev given_or : Text × List Row → Option (Text × List Row) → Text × List Row
given_or d None = d
given_or d (Some g) = g

abbrev is_given : Option (Text × List Row) → Bool
is_given None = false
is_given (Some g) = true

pub entered_is : (a : App) → a.top.disable_help_subcommand ≡ false → (words : List Text) (given : Text × List Row)
    → built_fault a nothing_held words ≡ []
    → entered a (stop_after a.top.rules (names_of a) words) ≡ Some given → Entered a given
entered_is a has_help words given e is =
    let one = both_pass _ _ e in
    let two = both_pass _ _ one.1 in
    by_stop (stop_after a.top.rules (names_of a) words) (walk_fine a.top has_help (names_of a) (walk_from nothing_held) words one.0 tt)
    two.0 is
  where
    by_shape : (name : Text) (rest : List Text) (o : Option Shape) → find (λ s. answers_to name (label_of s)) a.subs ≡ o
        → bytes_eq name (codes "help") ≡ false
        → option_map_or (λ s. level_fault s [] nothing_held rest false []) o [] ≡ [] → option_map (λ s. rows_at s rest) o ≡ Some given
        → Entered a given
    by_shape name rest None found fine e is = absurd (true≢false (sym (ap is_given is)))
    by_shape name rest (Some shape) found fine e is = record {
      shape = shape;
      name = name;
      words = rest;
      found = found;
      no_help = fine;
      is = ap (given_or given) is;
      fine = e;
    }

    by_stop : (o : Option (Text × List Text)) → StopFine o → entered_fault a o ≡ [] → entered a o ≡ Some given → Entered a given
    by_stop None fine e is = absurd (true≢false (sym (ap is_given is)))
    by_stop (Some p) fine e is = by_shape p.0 p.1 (find (λ s. answers_to p.0 (label_of s)) a.subs) refl fine e is
