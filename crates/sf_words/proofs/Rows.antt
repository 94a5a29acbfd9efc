-- The rows of a level without a fault: each is of one of its rules, and where that reads one value, the row has one, which passed.
use Rattle.std.proofs.Common.{◌≡◌, ◌⊎◌, ◌∙◌, ◌<◌, ℕ, Bool, true, false, not, cond, ◌&&◌, ◌||◌, ◌==◌, List, [], ◌∷◌, ◌++◌, length, nat_lt}
use Rattle.std.proofs.Common.{◌+◌, min, Option, Some, None, refl, sym, ap, subst, arith, true≢false, inl, inr, append-nil}
use Rattle.std.specs.Prelude.{find}
use Rattle.std.specs.List.{AllByRecursion}
use Rattle.std.specs.Str.{bytes_eq}
use Rattle.std.proofs.lemmas.Bool.{eqb-true, ltb-true, ne_eqb}
use Rattle.std.proofs.lemmas.Slice.Eq.{bytes_eq-Decides}
use Rattle.clap.specs.Facts.{parser_of_value, unwrap_or_range}
use Rattle.clap.specs.Kinds.{Kinds, range_kinds, request_kinds, value_kinds}
use Rattle.clap.specs.Matches.{count_text}
use Rattle.clap.specs.Simple.{Shape}
use Rattle.clap.specs.Walk.{Row, Rule, Text, action_of, at_row, counted, default_rows, finished, count_of, has_row, is_empty, more_values}
use Rattle.clap.specs.Walk.{most_values, new_count, nothing_held, reading_by, stronger, used, used_as, values_or_missing, walk, with_count}
use Rattle.clap.specs.Walk.{with_default, with_values, without}
use Rattle.clap.specs.Faults.{action_fault, default_fault, given_default_fault, level_fault, repeat_fault, use_fault, values_fault}
use Rattle.clap.specs.declared.builder.action.ArgAction.{ArgAction}
use Rattle.clap.specs.declared.builder.action.ArgAction.TheVariants as action
use Rattle.clap.specs.declared.error.ErrorKind.{ErrorKind}
use Rattle.clap.specs.declared.error.ErrorKind.TheVariants as kind
use Rattle.clap.specs.declared.parser.matches.ValueSource.{ValueSource}
use Rattle.clap.specs.declared.parser.matches.ValueSource.TheVariants.{DefaultValue, CommandLine}
use Rattle.sf_words.proofs.Walking.{both_pass, level_good}

-- ---- a rule of a list

abbrev pub In : {X : Type 0} → X → List X → Type 0
In x [] = ⊥
In x (y ∷ ys) = (x ≡ y) ⊎ In x ys

pub either : (b : Bool) → (b ≡ true) ⊎ (b ≡ false)
either true = inl refl
either false = inr refl

module _ {X : Type 0} where
  -- what a search finds passes, and is in the list
  pub found_in : (p : X → Bool) (xs : List X) (x : X) → find p xs ≡ Some x → (p x ≡ true) × In x xs
  found_in p [] x is = absurd (none_is_some is)
    where
      is_none : Option X → Bool
      is_none None = true
      is_none (Some x) = false

      none_is_some : ◌≡◌ {A = Option X} None (Some x) → ⊥
      none_is_some e = true≢false (ap is_none e)
  found_in p (y ∷ ys) x is = go (found_in p ys x) (p y) refl is
    where
      or_else_x : Option X → X
      or_else_x None = x
      or_else_x (Some z) = z

      go : (find p ys ≡ Some x → (p x ≡ true) × In x ys) → (b : Bool) → p y ≡ b → cond b (Some y) (find p ys) ≡ Some x
          → (p x ≡ true) × In x (y ∷ ys)
      go later true passes e =
          let same : y ≡ x = ap or_else_x e in
          (subst (λ z. p z ≡ true) same passes, inl (sym same))
      go later false passes e =
          let rest = later e in
          (rest.0, inr rest.1)

  -- what holds of each holds of what is found
  pub all_in : (P : X → Type 0) (xs : List X) (x : X) → AllByRecursion P xs → In x xs → P x
  all_in P [] x each is = elim is [ ]
  all_in P (y ∷ ys) x each (inl is) = subst P (sym is) each.0
  all_in P (y ∷ ys) x each (inr rest) = all_in P ys x each.1 rest

  pub all_append : (P : X → Type 0) (xs ys : List X) → AllByRecursion P xs → AllByRecursion P ys → AllByRecursion P (xs ++ ys)
  all_append P [] ys left right = right
  all_append P (x ∷ xs) ys left right = (left.0, all_append P xs ys left.1 right)

-- ---- rows of an id

module _ (P : Row → Type 0) (id : Text) (change : Row → List Row) (missing : List Row) where
  -- what each row of the id becomes, and what is added
  pub all_at_row : ((r : Row) → bytes_eq r.id id ≡ true → P r → AllByRecursion P (change r)) → AllByRecursion P missing → (rows : List Row)
      → AllByRecursion P rows
      → AllByRecursion P (at_row id change missing rows)
  all_at_row changed added [] each = added
  all_at_row changed added (r ∷ rs) each = go (all_at_row changed added rs each.1) (bytes_eq r.id id) refl
    where
      go : AllByRecursion P (at_row id change missing rs) → (b : Bool) → bytes_eq r.id id ≡ b
          → AllByRecursion P (cond b (change r ++ rs) (r ∷ at_row id change missing rs))
      go later true same = all_append P (change r) rs (changed r same each.0) each.1
      go later false same = (each.0, later)

-- where no row has the id, the new one comes last
pub at_row_new : (id : Text) (change : Row → List Row) (missing rows : List Row) → has_row id rows ≡ false
    → at_row id change missing rows ≡ rows ++ missing
at_row_new id change missing [] no_row = refl
at_row_new id change missing (r ∷ rs) no_row = go (at_row_new id change missing rs) (bytes_eq r.id id) no_row
  where
    go : (has_row id rs ≡ false → at_row id change missing rs ≡ rs ++ missing) → (b : Bool) → (b || has_row id rs) ≡ false
        → cond b (change r ++ rs) (r ∷ at_row id change missing rs) ≡ r ∷ rs ++ missing
    go later true e = absurd (true≢false e)
    go later false e = ap (λ l. r ∷ l) (later e)

-- ---- rules that read one value

abbrev pub is_set_action : ArgAction → Bool
is_set_action action.Set = true
is_set_action _ = false

-- each use has one value, and replaces none; and so has the default
abbrev pub reads_one : Rule → Bool
reads_one a =
    is_set_action (action_of a)
    && (((unwrap_or_range a.range).start_inclusive == 1) && ((most_values a == 1) && nat_lt (length a.defaults) 2))

pub both : (a b : Bool) → (a && b) ≡ true → (a ≡ true) × (b ≡ true)
both true b e = (refl, e)
both false b e = absurd (true≢false (sym e))

set_action : (x : ArgAction) → is_set_action x ≡ true → x ≡ action.Set
set_action action.Set e = refl
set_action action.Append e = absurd (true≢false (sym e))
set_action action.SetTrue e = absurd (true≢false (sym e))
set_action action.SetFalse e = absurd (true≢false (sym e))
set_action action.Count e = absurd (true≢false (sym e))
set_action action.Help e = absurd (true≢false (sym e))
set_action action.HelpShort e = absurd (true≢false (sym e))
set_action action.HelpLong e = absurd (true≢false (sym e))
set_action action.Version e = absurd (true≢false (sym e))

-- the row has one value, which passed the rule's parser
pub record Passing (a : Rule) (r : Row) : Type 0 where
  pub text : Text
  pub values : r.values ≡ text ∷ []
  pub passes : value_kinds a.ignore_case (parser_of_value a.parser) text ≡ []
  pub reading : r.reading ≡ reading_by a

-- the row is of one of the rules
pub record Fits (c : List Rule) (r : Row) : Type 0 where
  pub rule : Rule
  pub is_in : In rule c
  pub named : r.id ≡ rule.id
  pub one : reads_one rule ≡ true → Passing rule r

-- the row of an argument that had none
abbrev new_row : Rule → Option ℕ → ValueSource → List Text → Row
new_row a count source values = record { id = a.id; values = values; count = count; source = Some source; reading = reading_by a }

pub no_kind : {k : ErrorKind} {ks : Kinds} → ◌≡◌ {A = Kinds} (k ∷ ks) [] → ⊥
no_kind e = omega (arith, ap length e)

-- ---- one use

-- where one value is wanted there is one
one_wanted : (n : ℕ) → range_kinds 1 1 n ≡ [] → n ≡ 1
one_wanted n e = sym (eqb-true 1 n (go (n == 0) (1 == n) e))
  where
    go : (b d : Bool) → cond b (kind.InvalidValue ∷ []) (cond d [] (kind.WrongNumberOfValues ∷ [])) ≡ [] → d ≡ true
    go true d e = absurd (no_kind e)
    go false true e = refl
    go false false e = absurd (no_kind e)

module _ (c : List Rule) where
  -- a row that was made of one value
  made : (a : Rule) → In a c → (values : List Text) (source : ValueSource) → length values ≡ 1 → values_fault a values ≡ []
      → Fits c (new_row a None source values)
  made a a_in [] source one e = absurd (omega (arith, one))
  made a a_in (v ∷ []) source one e = record {
    rule = a;
    is_in = a_in;
    named = refl;
    one = λ _. record {
      text = v;
      values = refl;
      passes = (both_pass (value_kinds a.ignore_case (parser_of_value a.parser) v) [] e).0;
      reading = refl;
    };
  }
  made a a_in (v ∷ w ∷ vs) source one e = absurd (omega (arith, one))

  -- of a rule that doesn't read one value
  loose : (a : Rule) → In a c → reads_one a ≡ false → (r : Row) → r.id ≡ a.id → Fits c r
  loose a a_in many r named = record { rule = a; is_in = a_in; named = named; one = λ one. absurd (true≢false (sym one ∙ many)) }

  abbrev pub Good : List Row → Type 0
  Good = AllByRecursion (Fits c)

  module _ (a : Rule) (a_in : In a c) where
    same_id : (r : Row) → bytes_eq r.id a.id ≡ true → r.id ≡ a.id
    same_id r same = (bytes_eq-Decides r.id a.id).0 same

    -- of a rule that reads one value
    used_one : reads_one a ≡ true → (values : List Text) (rows : List Row) → use_fault false a values rows ≡ [] → Good rows
        → Good (used a values rows)
    used_one one values rows e g =
        let parts = both (is_set_action (action_of a)) _ one in
        let ends = both ((unwrap_or_range a.range).start_inclusive == 1) _ parts.1 in
        let last = both (most_values a == 1) _ ends.1 in
        let is_action = set_action (action_of a) parts.0 in
        let faults = both_pass (range_kinds (unwrap_or_range a.range).start_inclusive (most_values a) (length values)) _ e in
        let count : length values ≡ 1 =
        one_wanted (length values) (subst (λ n. range_kinds n 1 (length values) ≡ []) (eqb-true _ 1 ends.0)
        (subst (λ n. range_kinds (unwrap_or_range a.range).start_inclusive n (length values) ≡ []) (eqb-true _ 1 last.0) faults.0)) in
        let fault : action_fault action.Set false a (values_or_missing a values) rows ≡ [] =
        subst (λ x. action_fault x false a (values_or_missing a values) rows ≡ []) is_action faults.1 in
        subst (λ x. Good (used_as x a.id (reading_by a) (values_or_missing a values) rows)) (sym is_action) (by_values values count fault)
      where
        no_repeat : (b : Bool) → cond (b && not false) (kind.ArgumentConflict ∷ []) [] ≡ [] → b ≡ false
        no_repeat true e = absurd (no_kind e)
        no_repeat false e = refl

        appended : (vs : List Text) → has_row a.id rows ≡ false → with_values a.id (reading_by a) CommandLine vs (without a.id rows)
            ≡ rows ++ new_row a None CommandLine vs ∷ []
        appended vs no_row =
            let kept : without a.id rows ≡ rows = at_row_new a.id (λ _. []) [] rows no_row ∙ append-nil rows in
            ap (with_values a.id (reading_by a) CommandLine vs) kept ∙ at_row_new a.id (more_values CommandLine vs)
            (new_row a None CommandLine vs ∷ []) rows no_row

        by_values : (vs : List Text) → length vs ≡ 1 → action_fault action.Set false a (values_or_missing a vs) rows ≡ []
            → Good (with_values a.id (reading_by a) CommandLine (values_or_missing a vs) (without a.id rows))
        by_values [] count e = absurd (omega (arith, count))
        by_values (v ∷ vs) count e =
            let two = both_pass (repeat_fault false a.id rows) (values_fault a (v ∷ vs)) e in
            subst Good (sym (appended (v ∷ vs) (no_repeat (has_row a.id rows) two.0)))
            (all_append (Fits c) rows (new_row a None CommandLine (v ∷ vs) ∷ []) g (made a a_in (v ∷ vs) CommandLine count two.1, tt))

    -- of another rule
    used_many : reads_one a ≡ false → (x : ArgAction) (values : List Text) (rows : List Row) → Good rows
        → Good (used_as x a.id (reading_by a) values rows)
    used_many many = by_action
      where
        fits : (r : Row) → r.id ≡ a.id → Fits c r
        fits = loose a a_in many

        removed : (rows : List Row) → Good rows → Good (without a.id rows)
        removed rows g = all_at_row (Fits c) a.id (λ _. []) [] (λ r same f. tt) tt rows g

        with_more : (source : ValueSource) (values : List Text) (rows : List Row) → Good rows
            → Good (with_values a.id (reading_by a) source values rows)
        with_more source values rows g =
            all_at_row (Fits c) a.id (more_values source values) (new_row a None source values ∷ [])
            (λ r same f. (fits (record r { values = r.values ++ values; source = Some (stronger r.source source) }) (same_id r same), tt))
            (fits (new_row a None source values) refl, tt) rows g

        with_one : (n : ℕ) (rows : List Row) → Good rows → Good (with_count a.id (reading_by a) CommandLine n rows)
        with_one n rows g =
            all_at_row (Fits c) a.id (new_count CommandLine n) (new_row a (Some n) CommandLine (count_text n ∷ []) ∷ [])
            (λ r same f. (
              fits (record r {
                values = r.values ++ count_text n ∷ [];
                count = Some n;
                source =
                    Some (stronger r.source CommandLine);
              }) (same_id r same),
              tt,
            ))
            (fits (new_row a (Some n) CommandLine (count_text n ∷ [])) refl, tt) rows g

        counts : (values : List Text) (rows : List Row) → Good rows → Good (counted a.id (reading_by a) values rows)
        counts [] rows g = with_one (min (count_of a.id rows + 1) 255) (without a.id rows) (removed rows g)
        counts (v ∷ vs) rows g = with_more CommandLine (v ∷ vs) (without a.id rows) (removed rows g)

        by_action : (x : ArgAction) (values : List Text) (rows : List Row) → Good rows → Good (used_as x a.id (reading_by a) values rows)
        by_action action.Set values rows g = with_more CommandLine values (without a.id rows) (removed rows g)
        by_action action.SetTrue values rows g = with_more CommandLine values (without a.id rows) (removed rows g)
        by_action action.SetFalse values rows g = with_more CommandLine values (without a.id rows) (removed rows g)
        by_action action.Append values rows g = with_more CommandLine values rows g
        by_action action.Count values rows g = counts values rows g
        by_action action.Help values rows g = g
        by_action action.HelpShort values rows g = g
        by_action action.HelpLong values rows g = g
        by_action action.Version values rows g = g

    pub used_keeps : (values : List Text) (rows : List Row) → use_fault false a values rows ≡ [] → Good rows → Good (used a values rows)
    used_keeps values rows e g = elim (either (reads_one a)) [
      | inl one ↦ used_one one values rows e g
      | inr many ↦ used_many many (action_of a) (values_or_missing a values) rows g
    ]

    -- the default
    pub default_keeps : (rows : List Row) → default_fault rows a ≡ [] → Good rows → Good (with_default rows a)
    default_keeps rows e g = by_row (has_row a.id rows) refl e
      where
        fits_default : (values : List Text) → values_fault a values ≡ [] → 0 < length values → nat_lt (length values) 2 ≡ true
            → Fits c (new_row a None DefaultValue values)
        fits_default values fine some few = made a a_in values DefaultValue (omega (arith, ltb-true (length values) 2 few)) fine

        fits : (values : List Text) → values ≡ a.defaults → values_fault a values ≡ [] → 0 < length values
            → Fits c (new_row a None DefaultValue values)
        fits values is fine some = elim (either (reads_one a)) [
          | inl one ↦
              let parts = both (is_set_action (action_of a)) _ one in
              let ends = both ((unwrap_or_range a.range).start_inclusive == 1) _ parts.1 in
              let last = both (most_values a == 1) _ ends.1 in
              fits_default values fine some (subst (λ vs. nat_lt (length vs) 2 ≡ true) (sym is) last.1)
          | inr many ↦ loose a a_in many (new_row a None DefaultValue values) refl
        ]

        by_values : (values : List Text) → values ≡ a.defaults → has_row a.id rows ≡ false
            → cond (is_empty values) [] (given_default_fault a values) ≡ [] → Good (default_rows a.id (reading_by a) values rows)
        by_values [] is no_row e = g
        by_values (v ∷ vs) is no_row e =
            let some : is_empty (v ∷ vs) ≡ false = ne_eqb (length (v ∷ vs)) 0 (λ none. omega (arith, none)) in
            let fine = subst (λ b. cond b [] (given_default_fault a (v ∷ vs)) ≡ []) some e in
            let two = both_pass (request_kinds (action_of a)) (values_fault a (v ∷ vs)) fine in
            let new = at_row_new a.id (more_values DefaultValue (v ∷ vs)) (new_row a None DefaultValue (v ∷ vs) ∷ []) rows no_row in
            subst Good (sym new) (all_append (Fits c) rows (new_row a None DefaultValue (v ∷ vs) ∷ []) g
            (fits (v ∷ vs) is two.1 (omega arith), tt))

        by_row : (b : Bool) → has_row a.id rows ≡ b → cond (b || is_empty a.defaults) [] (given_default_fault a a.defaults) ≡ []
            → Good (cond b rows (default_rows a.id (reading_by a) a.defaults rows))
        by_row true is e = g
        by_row false is e = by_values a.defaults refl is e

-- ---- a level

-- the rows of a level without a fault
pub level_rows : (s : Shape) → s.args_override_self ≡ false → (words : List Text) → level_fault s [] nothing_held words false [] ≡ []
    → Good s.rules (finished s.rules (walk s.rules [] nothing_held words).held)
level_rows s once words e =
    level_good s (Good s.rules)
    (λ p a values rows is fault g. used_keeps s.rules a (found_in p s.rules a is).1 values rows
    (subst (λ again. use_fault again a values rows ≡ []) once fault) g)
    [] words false [] (each s.rules (λ a a_in. a_in)) e tt
  where
    each : (rest : List Rule) → ((a : Rule) → In a rest → In a s.rules)
        → AllByRecursion (λ a. (rows : List Row) → default_fault rows a ≡ [] → Good s.rules rows → Good s.rules (with_default rows a)) rest
    each [] inside = tt
    each (a ∷ rest) inside = (default_keeps s.rules a (inside a (inl refl)), each rest (λ b b_in. inside b (inr b_in)))
