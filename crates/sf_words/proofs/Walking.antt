-- What a parse without a fault keeps of the rows: whatever each use of an argument keeps.
use Rattle.std.proofs.Common.{◌≡◌, ℕ, zero, suc, Bool, true, false, not, cond, ◌&&◌, List, [], ◌∷◌, length, drop, Option, Some, None, refl}
use Rattle.std.proofs.Common.{ap, arith}
use Rattle.std.specs.Prelude.{encode_utf8, find, fold, is_some, slice_get}
use Rattle.std.specs.List.{AllByRecursion}
use Rattle.std.specs.Option.{option_map_or}
use Rattle.std.specs.Str.{bytes_eq, chars}
use Rattle.clap.specs.Lexer.{long_of, short_of}
use Rattle.clap.specs.Kinds.{Kinds, or_else}
use Rattle.clap.specs.Walk.{Held, Names, Outcome, Row, Rule, Step, Text, Waiting, Walk, after_flag, after_step, arg_by_id, arg_by_index}
use Rattle.clap.specs.Walk.{arg_by_long, arg_by_short, attached_value, bundle, bundle_met, bundle_step, done, finished, flag_met, has_long}
use Rattle.clap.specs.Walk.{has_short, idle, is_pending, long_met, long_or_other, next, nothing_held, option, option_met, option_word}
use Rattle.clap.specs.Walk.{plain, plain_word, positional, pushed, reacted, refused, settled, settled_rows, short_met, short_or_plain}
use Rattle.clap.specs.Walk.{subcommand, subcommand_met, subcommand_or_other, takes_several, takes_values, to_positional, trailing, used}
use Rattle.clap.specs.Walk.{used_by_id, value, waits, walk, walk_from, walked, walked_from, with_default, word_met}
use Rattle.clap.specs.Simple.{Shape}
use Rattle.clap.specs.Faults.{bundle_fault, bundle_step_fault, check_fault, default_fault, defaults_fault, flag_word_fault, flags_fault}
use Rattle.clap.specs.Faults.{level_fault, long_fault, option_fault, other_fault, positional_fault, react_fault, settle_fault, short_fault}
use Rattle.clap.specs.Faults.{step_fault, stray_fault, turn_fault, use_fault, walk_fault, word_fault}
use Rattle.clap.specs.declared.error.ErrorKind.TheVariants as kind

pub both_pass : (a b : Kinds) → or_else a b ≡ [] → (a ≡ []) × (b ≡ [])
both_pass [] b e = (refl, e)
both_pass (k ∷ ks) b e = absurd (omega (arith, ap length e))

module _ (s : Shape) (Good : List Row → Type 0)
    (keeps : (p : Rule → Bool) (a : Rule) (values : List Text) (rows : List Row) → find p s.rules ≡ Some a
    → use_fault s.args_override_self a values rows ≡ [] → Good rows → Good (used a values rows)) where
  abbrev c : List Rule
  c = s.rules

  abbrev again : Bool
  again = s.args_override_self

  -- some search finds the rule
  abbrev Found : Rule → Type 0
  Found a = (p : Rule → Bool) × (find p c ≡ Some a)

  used_good : (o : Option Rule) → ((a : Rule) → o ≡ Some a → Found a) → (values : List Text) (rows : List Row)
      → option_map_or (λ a. use_fault again a values rows) o [] ≡ [] → Good rows → Good (used_by_id o values rows)
  used_good None found values rows e g = g
  used_good (Some a) found values rows e g = let f = found a refl in keeps f.0 a values rows f.1 e g

  settles : (p : Option (Text × List Text)) (rows : List Row)
      → option_map_or (λ q. option_map_or (λ a. use_fault again a q.1 rows) (arg_by_id c q.0) []) p [] ≡ [] → Good rows
      → Good (settled_rows c p rows)
  settles None rows e g = g
  settles (Some q) rows e g = used_good (arg_by_id c q.0) (λ a is. ((λ r. bytes_eq r.id q.0), is)) q.1 rows e g

  settled_good : (h : Held) → settle_fault c again h ≡ [] → Good h.rows → Good (settled c h).rows
  settled_good h e g = settles h.pending h.rows e g

  reacted_good : (a : Rule) → Found a → (values : List Text) (h : Held) → react_fault c again a values h ≡ [] → Good h.rows
      → Good (reacted c a values h).rows
  reacted_good a f values h e g =
      let two = both_pass (settle_fault c again h) (use_fault again a values (settled c h).rows) e in
      keeps f.0 a values (settled c h).rows f.1 two.1 (settled_good h two.0 g)

  option_good : (a : Rule) → Found a → (v : Option Text) (h : Held) → option_fault c again a v h ≡ [] → Good h.rows
      → Good (option_met c a v h).0.rows
  option_good a f (Some v) h e g = reacted_good a f (v ∷ []) h e g
  option_good a f None h e g = settled_good h e g

  flag_good : (a : Rule) → Found a → (v : Option Text) (h : Held)
      → cond (is_some v) (kind.TooManyValues ∷ []) (react_fault c again a [] h) ≡ [] → Good h.rows
      → Good (flag_met c a v h).0.rows
  flag_good a f (Some v) h e g = g
  flag_good a f None h e g = reacted_good a f [] h e g

  long_good : (o : Option Rule) → ((a : Rule) → o ≡ Some a → Found a) → (v : Option Text) (h : Held) → long_fault c again o v h ≡ []
      → Good h.rows → Good (long_met c o v h).0.rows
  long_good None found v h e g = g
  long_good (Some a) found v h e g = go (takes_values a) e
    where
      go : (b : Bool) → cond b (option_fault c again a v h) (cond (is_some v) (kind.TooManyValues ∷ []) (react_fault c again a [] h)) ≡ []
          → Good (cond b (option_met c a v h) (flag_met c a v h)).0.rows
      go true e = option_good a (found a refl) v h e g
      go false e = flag_good a (found a refl) v h e g

  short_good : (o : Option Rule) → ((a : Rule) → o ≡ Some a → Found a)
      → (rest : Text) (h : Held) (then : Held → Held × Outcome) (fails : Held → Kinds)
      → ((j : Held) → fails j ≡ [] → Good j.rows → Good (then j).0.rows)
      → short_fault c again o rest h fails ≡ [] → Good h.rows → Good (short_met c o rest h then).0.rows
  short_good None found rest h then fails later e g = g
  short_good (Some a) found rest h then fails later e g = go (takes_values a) e
    where
      go : (b : Bool) → cond b (option_fault c again a (attached_value rest) h)
          (or_else (react_fault c again a [] h) (fails (reacted c a [] h))) ≡ []
          → Good (cond b (option_met c a (attached_value rest) h) (then (reacted c a [] h))).0.rows
      go true e = option_good a (found a refl) (attached_value rest) h e g
      go false e =
          let two = both_pass (react_fault c again a [] h) (fails (reacted c a [] h)) e in
          later (reacted c a [] h) two.1 (reacted_good a (found a refl) [] h two.0 g)

  abbrev BundleGood : ℕ → Type 0
  BundleGood k = (flags : Text) (skip : ℕ) (so_far : Outcome) (h : Held) → flags_fault c again k flags skip h ≡ [] → Good h.rows
      → Good (bundle_met c k flags skip so_far h).0.rows

  bundle_step_good : (k : ℕ) → BundleGood k → (o : Option ℕ) (flags : Text) (skip : ℕ) (so_far : Outcome) (h : Held)
      → bundle_step_fault c again o flags skip h (flags_fault c again k) ≡ [] → Good h.rows
      → Good (bundle_step c o flags skip so_far h (bundle_met c k)).0.rows
  bundle_step_good k rest_good None flags skip so_far h e g = g
  bundle_step_good k rest_good (Some x) flags zero so_far h e g =
      let rest = drop (length (encode_utf8 x)) flags in
      short_good (arg_by_short c x) (λ a is. ((λ r. not (is_some r.index) && has_short r x), is)) rest h (bundle_met c k rest 0 done)
      (flags_fault c again k rest 0)
      (λ j f i. rest_good rest 0 done j f i) e g
  bundle_step_good k rest_good (Some x) flags (suc skip) so_far h e g = rest_good (drop (length (encode_utf8 x)) flags) skip so_far h e g

  bundle_good : (k : ℕ) → BundleGood k
  unfolding bundle_met flags_fault
  bundle_good zero flags skip so_far h e g = g
  bundle_good (suc k) flags skip so_far h e g = bundle_step_good k (bundle_good k) (slice_get (chars flags) 0) flags skip so_far h e g

  option_word_good : (o : Option Rule) (id word : Text) (h : Held) → Good h.rows → Good (option_word o id word h).0.rows
  option_word_good None id word h g = g
  option_word_good (Some a) id word h g = g

  plain_good : (waiting : Waiting) (word : Text) (h : Held) → Good h.rows → Good (plain_word c waiting word h).0.rows
  plain_good idle word h g = g
  plain_good positional word h g = g
  plain_good (option id) word h g = option_word_good (arg_by_id c id) id word h g

  after_good : (waiting : Waiting) (word : Text) (h : Held) (o : Outcome) → Good h.rows → Good (after_flag c waiting word h o).0.rows
  after_good waiting word h done g = g
  after_good waiting word h (waits id) g = g
  after_good waiting word h plain g = plain_good waiting word h g
  after_good waiting word h refused g = plain_good waiting word h g

  short_word_good : (waiting : Waiting) (word : Text) (o : Option Text) (h : Held)
      → option_map_or (λ flags. bundle_fault c again flags h) o [] ≡ [] → Good h.rows
      → Good (short_or_plain c waiting word o h).0.rows
  short_word_good waiting word None h e g = plain_good waiting word h g
  short_word_good waiting word (Some flags) h e g =
      after_good waiting word (bundle c flags h).0 (bundle c flags h).1
      (bundle_good (length flags) flags h.skip plain (record h { skip = 0 }) e g)

  flag_word_good : (waiting : Waiting) (word : Text) (o : Option (Text × Option Text)) (h : Held) → flag_word_fault c again o word h ≡ []
      → Good h.rows
      → Good (long_or_other c waiting word o h).0.rows
  flag_word_good waiting word (Some p) h e g =
      after_good waiting word (long_met c (arg_by_long c p.0) p.1 h).0 (long_met c (arg_by_long c p.0) p.1 h).1
      (long_good (arg_by_long c p.0) (λ a is. ((λ r. not (is_some r.index) && has_long r p.0), is)) p.1 h e g)
  flag_word_good waiting word None h e g = short_word_good waiting word (short_of word) h e g

  dashes_good : (b : Bool) (waiting : Waiting) (position : ℕ) (word : Text) (h : Held)
      → cond b [] (flag_word_fault c again (long_of word) word h) ≡ [] → Good h.rows
      → Good (cond b (h, trailing position) (long_or_other c waiting word (long_of word) h)).0.rows
  dashes_good true waiting position word h e g = g
  dashes_good false waiting position word h e g = flag_word_good waiting word (long_of word) h e g

  other_good : (o : Option Text) (waiting : Waiting) (position : ℕ) (word : Text) (h : Held) → other_fault s o word h ≡ [] → Good h.rows
      → Good (subcommand_or_other c o waiting position word h).0.rows
  other_good (Some name) waiting position word h e g = g
  other_good None waiting position word h e g = dashes_good (bytes_eq word (45 ∷ 45 ∷ [])) waiting position word h e g

  word_good : (names : Names) (is_trailing : Bool) (waiting : Waiting) (position : ℕ) (word : Text) (h : Held)
      → word_fault s names is_trailing waiting word h ≡ [] → Good h.rows
      → Good (word_met c names is_trailing waiting position word h).0.rows
  word_good names true waiting position word h e g = g
  word_good names false waiting position word h e g = other_good (subcommand_met names waiting word) waiting position word h e g

  positional_good : (b : Bool) (a : Rule) (word : Text) (h : Held) → cond b [] (settle_fault c again h) ≡ [] → Good h.rows
      → Good (pushed a.id word (cond b h (settled c h))).rows
  positional_good true a word h e g = g
  positional_good false a word h e g = settled_good h e g

  value_good : (o : Option Rule) (word : Text) (w : Walk) (h : Held)
      → option_map_or (λ a. positional_fault c again a h) o (stray_fault s) ≡ [] → Good h.rows
      → Good (to_positional c o word w h).held.rows
  value_good None word w h e g = g
  value_good (Some a) word w h e g = positional_good (is_pending a h.pending && takes_several a) a word h e g

  step_good : (word : Text) (w : Walk) (h : Held) (step : Step) → step_fault s w.position h step ≡ [] → Good h.rows
      → Good (after_step c word w h step).held.rows
  step_good word w h (next waiting) e g = g
  step_good word w h (trailing position) e g = g
  step_good word w h (subcommand name) e g = g
  step_good word w h value e g = value_good (arg_by_index c w.position) word w h e g

  module _ (names : Names) where
    turn_by_good : (o : Option (Text × List Text)) (w : Walk) (word : Text)
        → cond (is_some o) [] (or_else (word_fault s names w.is_trailing w.waiting word w.held)
        (step_fault s w.position (word_met c names w.is_trailing w.waiting w.position word w.held).0
        (word_met c names w.is_trailing w.waiting w.position word w.held).1)) ≡ []
        → Good w.held.rows → Good (walked_from c names o w word).held.rows
    turn_by_good (Some p) w word e g = g
    turn_by_good None w word e g =
        let met = word_met c names w.is_trailing w.waiting w.position word w.held in
        let two = both_pass (word_fault s names w.is_trailing w.waiting word w.held) (step_fault s w.position met.0 met.1) e in
        step_good word w met.0 met.1 two.1 (word_good names w.is_trailing w.waiting w.position word w.held two.0 g)

    turn_good : (w : Walk) (word : Text) → turn_fault s names w word ≡ [] → Good w.held.rows → Good (walked c names w word).held.rows
    unfolding walked
    turn_good w word e g = turn_by_good w.stopped w word e g

    walk_good : (w : Walk) (words : List Text) → walk_fault s names w words ≡ [] → Good w.held.rows
        → Good (fold (walked c names) w words).held.rows
    unfolding walk_fault
    walk_good w [] e g = g
    walk_good w (word ∷ rest) e g =
        let two = both_pass (turn_fault s names w word) (walk_fault s names (walked c names w word) rest) e in
        walk_good (walked c names w word) rest two.1 (turn_good w word two.0 g)

  -- each default that is filled in
  abbrev DefaultGood : Rule → Type 0
  DefaultGood a = (rows : List Row) → default_fault rows a ≡ [] → Good rows → Good (with_default rows a)

  defaults_good : (rules : List Rule) → AllByRecursion DefaultGood rules → (rows : List Row) → defaults_fault rows rules ≡ [] → Good rows
      → Good (fold with_default rows rules)
  unfolding defaults_fault
  defaults_good [] each rows e g = g
  defaults_good (a ∷ rest) each rows e g =
      let two = both_pass (default_fault rows a) (defaults_fault (with_default rows a) rest) e in
      defaults_good rest each.1 (with_default rows a) two.1 (each.0 rows two.0 g)

  -- the rows of a level that has no fault
  pub level_good : (names : Names) (words : List Text) (has : Bool) (below : Kinds) → AllByRecursion DefaultGood c
      → level_fault s names nothing_held words has below ≡ [] → Good []
      → Good (finished c (walk c names nothing_held words).held)
  level_good names words has below each e g =
      let end = (walk c names nothing_held words).held in
      let one = both_pass _ _ e in
      let two = both_pass _ _ one.1 in
      let three = both_pass _ _ two.1 in
      let four = both_pass _ _ three.1 in
      defaults_good c each (settled c end).rows four.0 (settled_good end three.0 (walk_good names (walk_from nothing_held) words one.0 g))

-- the checks at the end of a level without a fault
pub checks_pass : (s : Shape) (names : Names) (words : List Text) (has : Bool) (below : Kinds)
    → level_fault s names nothing_held words has below ≡ []
    → check_fault s (finished s.rules (walk s.rules names nothing_held words).held) has ≡ []
checks_pass s names words has below e =
    let end = (walk s.rules names nothing_held words).held in
    let checks = check_fault s (finished s.rules end) has in
    let defaults = defaults_fault (settled s.rules end).rows s.rules in
    let settling = settle_fault s.rules s.args_override_self end in
    let one = both_pass (walk_fault s names (walk_from nothing_held) words)
    (or_else below (or_else settling (or_else defaults checks))) e in
    let two = both_pass below (or_else settling (or_else defaults checks)) one.1 in
    let three = both_pass settling (or_else defaults checks) two.1 in
    let four = both_pass defaults checks three.1 in
    four.1
