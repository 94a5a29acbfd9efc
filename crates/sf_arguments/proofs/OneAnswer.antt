-- Words have one list of values, or one answer that tells of them.
use Rattle.std.proofs.Common.{◌≡◌, ℕ, suc, ◌+◌, ◌<◌, List, [], ◌∷◌, length, get_or, Some, Ok, Err, ◌⊎◌, inl, inr, arith, refl, sym, ap}
use Rattle.std.proofs.Common.{subst, ◌∙◌}
use Rattle.std.proofs.lemmas.Bool.{cases_order}
use Rattle.std.proofs.lemmas.Option.{slice_get-get_or}
use Rattle.std.specs.Prelude.{slice_get}
use Rattle.sf_base.specs.Data.{Datum}
use Rattle.sf_base.specs.Data.Datum.{Bytes, Number}
use Rattle.sf_base.specs.declared.values.Kind.{Kind}
use Rattle.sf_format.specs.declared.unit.PrintLetter.{PrintLetter}
use Rattle.sf_format.specs.declared.unit.PrintLetter.TheVariants as letter
use Rattle.sf_format.specs.declared.unit.PrintConv.{PrintConv}
use Rattle.sf_format.specs.declared.unit.Unit.{Unit as PrintUnit}
use Rattle.sf_arguments.specs.declared.argument_fault.ArgumentFault.{ArgumentFault}
use Rattle.sf_arguments.specs.declared.argument_fault.ArgumentFault.TheVariants.{WrongCount, BadEscape, NotInKind, NotOneByte, TooLong}
use Rattle.sf_arguments.specs.declared.argument_fault.ArgumentFault.TheVariants.{Write, Memory}
use Rattle.sf_arguments.specs.Words.{IsNumberOf, StandsFor}
use Rattle.sf_arguments.specs.Arguments.{IsAtFault, IsLowestFault, IsRefusedBy, StandsAt, ValuesOf}
use Rattle.sf_arguments.specs.Laws.{OneValue, OneList, CountIsTold, FirstIsTold}
use Rattle.sf_arguments.proofs.Floats.{one_float}
use Rattle.sf_arguments.proofs.Numbers.{one_number}
use Rattle.sf_arguments.proofs.Readings.{one_list, one_unread, unread_or_read}
use Rattle.sf_arguments.specs.declared.word_reading.WordReading.{WordReading}
use Rattle.sf_arguments.proofs.Places.{fault_stands_for_none, some_same}

-- ---- one value

same_number : (k : Kind) (word : List ℕ) (a b : Datum) → IsNumberOf k word a → IsNumberOf k word b → a ≡ b
same_number k word a b (y, d, i, is) (z, e, j, too) = is ∙ ap (Number k) (one_number word y z d e) ∙ sym too

pub one_value_holds : OneValue
one_value_holds how letter.Text k word a b (bytes, good, is) (others, fine, too) =
    is ∙ ap (λ (t : List ℕ). Bytes t) (one_list how word bytes others good fine) ∙ sym too
one_value_holds how letter.One k word a b (bytes, good, one, is) (others, fine, also, too) =
    is ∙ ap (λ (t : List ℕ). Bytes t) (one_list how word bytes others good fine) ∙ sym too
one_value_holds how letter.Signed k word a b is too = same_number k word a b is too
one_value_holds how letter.Unsigned k word a b is too = same_number k word a b is too
one_value_holds how letter.Octal k word a b is too = same_number k word a b is too
one_value_holds how letter.HexLower k word a b is too = same_number k word a b is too
one_value_holds how letter.HexUpper k word a b is too = same_number k word a b is too
one_value_holds how letter.Binary k word a b is too = same_number k word a b is too
one_value_holds how (letter.Float style upper) k word a b is too = one_float word a b is too

-- ---- one list

same_at : (how : WordReading) (units : List PrintUnit) (slot : ℕ) (word : List ℕ) (a b : Datum) → StandsAt how units slot word a
    → StandsAt how units slot word b
    → a ≡ b
same_at how units slot word a b (c, is, stands) (d, too, also) =
    let same : d ≡ c = cc in one_value_holds how c.letter c.kind word a b stands
    (subst (λ (x : PrintConv). StandsFor how x.letter x.kind word b) same also)

-- lists with the same element at each place are the same
same_lists : (xs ys : List Datum) → length xs ≡ length ys → ((k : ℕ) → k < length xs → slice_get xs k ≡ slice_get ys k) → xs ≡ ys
same_lists [] [] e at = refl
same_lists [] (y ∷ ys) e at = absurd (omega arith)
same_lists (x ∷ xs) [] e at = absurd (omega arith)
same_lists (x ∷ xs) (y ∷ ys) e at =
    let first : Some x ≡ Some y = at 0 (omega arith) in
    let heads : x ≡ y = cc in
    let tails : xs ≡ ys = same_lists xs ys (omega arith) (λ k below. at (suc k) (omega arith)) in
    cc

pub one_list_holds : OneList
one_list_holds how units words values others of too = same_lists values others (of.same ∙ sym too.same) at
  where
    at : (k : ℕ) → k < length values → slice_get values k ≡ slice_get others k
    at k below =
        let word = get_or words k [] in
        let is : slice_get words k ≡ Some word = slice_get-get_or words k [] (omega (arith, below, of.same)) in
        let a = of.each k word is in
        let b = too.each k word is in
        a.1 ∙ ap (λ (v : Datum). Some v) (same_at how units (k + 1) word a.0 b.0 a.2 b.2) ∙ sym b.1

-- ---- one answer

module _ (how : WordReading) (units : List PrintUnit) (words : List (List ℕ)) where
  not_both : {A : Type 0} (fault : ArgumentFault) (values : List Datum) → IsLowestFault how units words fault
      → ValuesOf how units words values → A
  not_both fault values lowest of =
      let e = of.each lowest.place lowest.word lowest.is_word in
      fault_stands_for_none how units words (lowest.place + 1) lowest.word fault e.0 lowest.at_fault e.2

  none_before : {A : Type 0} (f g : ArgumentFault) (lowest : IsLowestFault how units words f) (other : IsLowestFault how units words g)
      → lowest.place < other.place → A
  none_before f g lowest other less =
      let e = other.before lowest.place lowest.word less lowest.is_word in
      fault_stands_for_none how units words (lowest.place + 1) lowest.word f e.0 lowest.at_fault e.1

  same_refusal : (l : PrintLetter) (f g : ArgumentFault) (c : PrintConv) (word : List ℕ) → IsRefusedBy how l c word f
      → IsRefusedBy how l c word g
      → f ≡ g
  same_refusal letter.Text f g c word (a, bad, is) (b, ill, too) = is ∙ ap (BadEscape c.slot) (one_unread how word a b bad ill) ∙ sym too
  same_refusal letter.One f g c word (inl (a, bad, is)) (inl (b, ill, too)) =
      is ∙ ap (BadEscape c.slot) (one_unread how word a b bad ill) ∙ sym too
  same_refusal letter.One f g c word (inl (a, bad, is)) (inr (bytes, good, other, too)) = unread_or_read how word bytes a bad good
  same_refusal letter.One f g c word (inr (bytes, good, other, is)) (inl (b, ill, too)) = unread_or_read how word bytes b ill good
  same_refusal letter.One f g c word (inr (bytes, good, other, is)) (inr (others, fine, too, also)) = is ∙ sym also
  same_refusal letter.Signed f g c word (none, is) (nor, too) = is ∙ sym too
  same_refusal letter.Unsigned f g c word (none, is) (nor, too) = is ∙ sym too
  same_refusal letter.Octal f g c word (none, is) (nor, too) = is ∙ sym too
  same_refusal letter.HexLower f g c word (none, is) (nor, too) = is ∙ sym too
  same_refusal letter.HexUpper f g c word (none, is) (nor, too) = is ∙ sym too
  same_refusal letter.Binary f g c word (none, is) (nor, too) = is ∙ sym too
  same_refusal (letter.Float style upper) f g c word (none, is) (nor, too) = is ∙ sym too

  same_fault : (f g : ArgumentFault) (slot : ℕ) (word other : List ℕ) → word ≡ other → IsAtFault how units slot word f
      → IsAtFault how units slot other g → f ≡ g
  same_fault f g slot word other same (c, is, of) (d, too, by) =
      let convs : d ≡ c = cc in
      same_refusal c.letter f g c word of (subst (λ (x : PrintConv). IsRefusedBy how x.letter x word g) convs
      (subst (λ (w : List ℕ). IsRefusedBy how d.letter d w g) (sym same) by))

  one_fault : (f g : ArgumentFault) → IsLowestFault how units words f → IsLowestFault how units words g → f ≡ g
  one_fault f g lowest other = by (cases_order lowest.place other.place)
    where
      by : (lowest.place ≡ other.place) ⊎ ((lowest.place < other.place) ⊎ (other.place < lowest.place)) → f ≡ g
      by (inl e) =
          let words_same : lowest.word ≡ other.word = some_same lowest.word other.word (slice_get words lowest.place) lowest.is_word
          (subst (λ n. slice_get words n ≡ Some other.word) (sym e) other.is_word) in
          same_fault f g (lowest.place + 1) lowest.word other.word words_same lowest.at_fault
          (subst (λ n. IsAtFault how units (n + 1) other.word g) (sym e) other.at_fault)
      by (inr (inl less)) = none_before f g lowest other less
      by (inr (inr less)) = none_before g f other lowest less

pub first_is_told_holds : FirstIsTold
first_is_told_holds how units words before after (Ok _) fault lowest (values, of, writes) = not_both how units words fault values lowest of
first_is_told_holds how units words before after (Err TooLong) fault lowest
    (values, of, writes) = not_both how units words fault values lowest of
first_is_told_holds how units words before after (Err Write) fault lowest
    (values, of, writes) = not_both how units words fault values lowest of
first_is_told_holds how units words before after (Err Memory) fault lowest
    (values, of, writes) = not_both how units words fault values lowest of
first_is_told_holds how units words before after (Err (WrongCount e g)) fault lowest (is, got, differ) =
    absurd (differ (got ∙ lowest.count ∙ sym is))
first_is_told_holds how units words before after (Err (BadEscape at offset)) fault lowest also =
    ap (λ (f : ArgumentFault). Err f) (one_fault how units words (BadEscape at offset) fault also lowest)
first_is_told_holds how units words before after (Err (NotInKind at kind)) fault lowest also =
    ap (λ (f : ArgumentFault). Err f) (one_fault how units words (NotInKind at kind) fault also lowest)
first_is_told_holds how units words before after (Err (NotOneByte at)) fault lowest also =
    ap (λ (f : ArgumentFault). Err f) (one_fault how units words (NotOneByte at) fault also lowest)

pub count_is_told_holds : CountIsTold
count_is_told_holds how units words before after (Ok _) differ (values, of, writes) = absurd (differ of.count)
count_is_told_holds how units words before after (Err TooLong) differ (values, of, writes) = absurd (differ of.count)
count_is_told_holds how units words before after (Err Write) differ (values, of, writes) = absurd (differ of.count)
count_is_told_holds how units words before after (Err Memory) differ (values, of, writes) = absurd (differ of.count)
count_is_told_holds how units words before after (Err (WrongCount e g)) differ (is, got, apart) = cc
count_is_told_holds how units words before after (Err (BadEscape at offset)) differ lowest = absurd (differ lowest.count)
count_is_told_holds how units words before after (Err (NotInKind at kind)) differ lowest = absurd (differ lowest.count)
count_is_told_holds how units words before after (Err (NotOneByte at)) differ lowest = absurd (differ lowest.count)
