-- Words place by place.
use Rattle.std.proofs.Common.{◌≡◌, ℕ, ◌+◌, ◌<◌, ◌≤◌, List, [], ◌∷◌, ◌++◌, length, map, get_or, Option, Some, ◌⊎◌, inl, inr, zero, suc}
use Rattle.std.proofs.Common.{arith, refl, sym, ap, subst, ◌∙◌, length-append}
use Rattle.std.proofs.Math.Nat.{eq-or-lt_of_le}
use Rattle.std.proofs.lemmas.Option.{slice_get_read, slice_get-map, slice_get_within, slice_get-get_or}
use Rattle.std.specs.Prelude.{slice_get}
use Rattle.std.specs.Option.{option_map}
use Rattle.sf_base.specs.Data.{Datum}
use Rattle.sf_format.specs.declared.unit.Unit.{Unit as PrintUnit}
use Rattle.sf_format.specs.Units.{values_of}
use Rattle.sf_format.specs.declared.unit.PrintConv.{PrintConv}
use Rattle.sf_arguments.specs.declared.argument_fault.ArgumentFault.{ArgumentFault}
use Rattle.sf_format.specs.declared.unit.PrintLetter.{PrintLetter}
use Rattle.sf_format.specs.declared.unit.PrintLetter.TheVariants as letter
use Rattle.sf_arguments.specs.Words.{StandsFor}
use Rattle.sf_arguments.specs.Arguments.{AllStand, IsAtFault, IsLowestFault, IsRefusedBy, IsTextAt, StandsAt, TextsOf, ValuesOf}
use Rattle.sf_arguments.proofs.Readings.{one_list, unread_or_read}
use Rattle.sf_arguments.specs.declared.word_reading.WordReading.{WordReading}

-- the element at a place, as it is shown
pub shown_is : {A : Type 0} (v : A → List ℕ) (xs : List A) (i : ℕ) (x : A) (shown : List ℕ) → i < length xs → x ≡ get_or xs i x
    → shown ≡ v x → slice_get (map v xs) i ≡ Some shown
shown_is v xs i x shown below is same = slice_get-map v xs i ∙ ap (option_map v) (slice_get_read xs (length xs) i x refl below is)
    ∙ ap (λ (s : List ℕ). Some s) (sym same)

pub some_same : {A : Type 0} (a b : A) (o : Option A) → o ≡ Some a → o ≡ Some b → a ≡ b
some_same a b o e f = cc

-- the list with one more element
pub get_front : {A : Type 0} (xs : List A) (x : A) (k : ℕ) (y : A) → slice_get xs k ≡ Some y → slice_get (xs ++ x ∷ []) k ≡ Some y
get_front [] x k y e = absurd (cc)
get_front (z ∷ xs) x zero y e = e
get_front (z ∷ xs) x (suc k) y e = get_front xs x k y e

pub get_last : {A : Type 0} (xs : List A) (x : A) → slice_get (xs ++ x ∷ []) (length xs) ≡ Some x
get_last [] x = refl
get_last (z ∷ xs) x = get_last xs x

-- ---- so many words, each with what it was given

module _ {A : Type 0} (R : ℕ → List ℕ → A → Type 0) (words : List (List ℕ)) where
  pub record Stood (at : ℕ) (values : List A) : Type 0 where
    pub same : length values ≡ at
    pub each : (k : ℕ) (word : List ℕ) → k < at → slice_get words k ≡ Some word
        → (value : A) × (slice_get values k ≡ Some value) × R (k + 1) word value

  pub stood_none : Stood 0 []
  stood_none = record { same = refl; each = λ k word below is. absurd (omega arith) }

  pub stood_more : (at : ℕ) (word : List ℕ) (values : List A) (value : A) → Stood at values → slice_get words at ≡ Some word
      → R (at + 1) word value → Stood (at + 1) (values ++ value ∷ [])
  stood_more at word values value all is stands = record {
    same = length-append values (value ∷ []) ∙ ap (λ n. n + 1) all.same;
    each = λ k other below is_other. by k other (let le : k ≤ at = omega arith in eq-or-lt_of_le le) is_other;
  }
    where
      by : (k : ℕ) (other : List ℕ) → (k ≡ at) ⊎ (k < at) → slice_get words k ≡ Some other
          → (v : A) × (slice_get (values ++ value ∷ []) k ≡ Some v) × R (k + 1) other v
      by k other (inr less) is_other = let h = all.each k other less is_other in (h.0, get_front values value k h.0 h.1, h.2)
      by k other (inl e) is_other =
          let same : word ≡ other = some_same word other (slice_get words at) is
          (subst (λ n. slice_get words n ≡ Some other) e is_other) in (
            value,
            subst (λ n. slice_get (values ++ value ∷ []) n ≡ Some value) (all.same ∙ sym e) (get_last values value),
            subst (λ n. R (n + 1) other value) (sym e) (subst (λ (w : List ℕ). R (at + 1) w value) same stands),
          )

-- ---- values

module _ (how : WordReading) (units : List PrintUnit) (words : List (List ℕ)) where
  -- one word more stands for a value
  pub stand_more : (at : ℕ) (word : List ℕ) (value : Datum) → AllStand how units words at → slice_get words at ≡ Some word
      → StandsAt how units (at + 1) word value → AllStand how units words (at + 1)
  stand_more at word value all is stands k other below is_other = by (let le : k ≤ at = omega arith in eq-or-lt_of_le le)
    where
      by : (k ≡ at) ⊎ (k < at) → (v : Datum) × StandsAt how units (k + 1) other v
      by (inr less) = all k other less is_other
      by (inl e) =
          let same : word ≡ other = some_same word other (slice_get words at) is
          (subst (λ n. slice_get words n ≡ Some other) e is_other) in (
            value,
            subst (λ n. StandsAt how units (n + 1) other value) (sym e)
                (subst (λ (w : List ℕ). StandsAt how units (at + 1) w value) same stands),
          )

  pub stood_all : (values : List Datum) → length words ≡ length (values_of units) → Stood (StandsAt how units) words (length words) values
      → ValuesOf how units words values
  stood_all values count all = record {
    count = count;
    same = all.same;
    each = λ k word is. all.each k word (slice_get_within words k word is) is;
  }

  -- the values of words that stand for some
  collected : (at : ℕ) → at ≤ length words → AllStand how units words at → (values : List Datum)
      × Stood (StandsAt how units) words at values
  collected zero within all = ([], stood_none (StandsAt how units) words)
  collected (suc n) within all =
      let before = collected n (omega arith) (λ k word below is. all k word (omega arith) is) in
      let word = get_or words n [] in
      let is : slice_get words n ≡ Some word = slice_get-get_or words n [] (omega arith) in
      let last = all n word (omega arith) is in (
        before.0 ++ last.0 ∷ [],
        subst (λ m. Stood (StandsAt how units) words m (before.0 ++ last.0 ∷ []))
            (let e : n + 1 ≡ suc n = omega arith in e) (stood_more (StandsAt how units) words n word before.0 last.0 before.1 is last.1),
      )

  pub values_are : length words ≡ length (values_of units) → AllStand how units words (length words)
      → (values : List Datum) × ValuesOf how units words values
  values_are count all = let c = collected (length words) (omega arith) all in (c.0, stood_all c.0 count c.1)

  -- the words' bytes
  pub texts_all : (texts : List (List ℕ)) → Stood (IsTextAt how units) words (length words) texts → TextsOf how units words texts
  texts_all texts all = record { same = all.same; each = λ k word is. all.each k word (slice_get_within words k word is) is }

  -- the bytes at a word's place are the word's
  pub text_is : (texts : List (List ℕ)) (at : ℕ) (word text : List ℕ) → TextsOf how units words texts → slice_get words at ≡ Some word
      → slice_get texts at ≡ Some text → IsTextAt how units (at + 1) word text
  text_is texts at word text of is there =
      let e = of.each at word is in subst (IsTextAt how units (at + 1) word) (some_same e.0 text (slice_get texts at) e.1 there) e.2

  -- a word that is refused stands for no value
  refused_stands_for_none : {A : Type 0} (l : PrintLetter) (c : PrintConv) (word : List ℕ) (fault : ArgumentFault) (value : Datum)
      → IsRefusedBy how l c word fault → StandsFor how l c.kind word value → A
  refused_stands_for_none letter.Text c word fault value (at, bad, is) (bytes, good, of) = unread_or_read how word bytes at bad good
  refused_stands_for_none letter.One c word fault value (inl (at, bad, is))
      (bytes, good, one, of) = unread_or_read how word bytes at bad good
  refused_stands_for_none letter.One c word fault value (inr (bytes, good, other, is)) (others, too, one, of) =
      absurd (other (ap (length {A = ℕ}) (one_list how word bytes others good too) ∙ one))
  refused_stands_for_none letter.Signed c word fault value (none, is) stands = absurd (none value stands)
  refused_stands_for_none letter.Unsigned c word fault value (none, is) stands = absurd (none value stands)
  refused_stands_for_none letter.Octal c word fault value (none, is) stands = absurd (none value stands)
  refused_stands_for_none letter.HexLower c word fault value (none, is) stands = absurd (none value stands)
  refused_stands_for_none letter.HexUpper c word fault value (none, is) stands = absurd (none value stands)
  refused_stands_for_none letter.Binary c word fault value (none, is) stands = absurd (none value stands)
  refused_stands_for_none (letter.Float style upper) c word fault value (none, is) stands = absurd (none value stands)

  -- a word at fault stands for no value
  pub fault_stands_for_none : {A : Type 0} (slot : ℕ) (word : List ℕ) (fault : ArgumentFault) (value : Datum)
      → IsAtFault how units slot word fault → StandsAt how units slot word value → A
  fault_stands_for_none slot word fault value (c, is, of) (d, is_other, stands) =
      let same : d ≡ c = cc in refused_stands_for_none c.letter c word fault value of
      (subst (λ (x : PrintConv). StandsFor how x.letter x.kind word value) same stands)

  pub lowest_is : (at : ℕ) (word : List ℕ) (fault : ArgumentFault) → length words ≡ length (values_of units)
      → slice_get words at ≡ Some word → IsAtFault how units (at + 1) word fault
      → AllStand how units words at → IsLowestFault how units words fault
  lowest_is at word fault count is faulty before = record {
    count = count;
    place = at;
    word = word;
    is_word = is;
    at_fault = faulty;
    before = before;
  }
