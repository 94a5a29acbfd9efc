-- The tests say what the definitions say.
use Rattle.std.proofs.Common.{◌≡◌, ℕ, ◌+◌, ◌<◌, length, take, get_or, true, false, List, [], ◌∷◌, ◌++◌, refl, sym, ap, ◌∙◌, subst}
use Rattle.std.proofs.Common.{true≢false, Some, None, append_assoc, append-nil}
use Rattle.std.specs.Prelude.{Option, is_some}
use Rattle.sf_float_read.specs.declared.item.reached.Forms.{Forms}
use Rattle.sf_float_read.specs.declared.item.reached.Reached.{Reached}
use Rattle.sf_float_read.specs.item.Sequences.{IsFloatOf}
use Rattle.sf_float_read.specs.item.Steps.{Completes, Goes, HasRead, BeginsFloat}
use Rattle.sf_float_read.specs.item.Tests.{next, read, start_of, is_whole_at, is_float_of, begins_float_of, TestsAreSequences}
use Rattle.sf_float_read.proofs.ItemLemmas.GoingOn.{goes_on, nothing_read, read_on, whole}
use Rattle.sf_float_read.proofs.ItemLemmas.Whole.{one_more}
use Rattle.sf_float_read.proofs.ItemLemmas.Places.{next_goes, whole_is}

-- what is known after the bytes f
abbrev Known : Forms → Option Reached → List ℕ → Type 0
Known forms None f = (t : List ℕ) → IsFloatOf forms (f ++ t) → ⊥
Known forms (Some r) f = HasRead forms r f

known_none : (forms : Forms) (f g : List ℕ) → Known forms None f → Known forms None (f ++ g)
known_none forms f g h = λ t i. h (g ++ t) (subst (IsFloatOf forms) (append_assoc f g t) i)

known_next : (forms : Forms) (r : Reached) (f : List ℕ) (b : ℕ) → HasRead forms r f → Known forms (next r b) (f ++ b ∷ [])
known_next forms r f b h = by_case (next r b) (next_goes r b)
  where
    by_case : (o : Option Reached) → Goes (λ t. Completes r (b ∷ t)) o → Known forms o (f ++ b ∷ [])
    by_case None g = λ t i. g t ((h (b ∷ t)).0 (subst (IsFloatOf forms) (append_assoc f (b ∷ []) t) i))
    by_case (Some q) g = read_on forms r q f b h g

known_all : (forms : Forms) (o : Option Reached) (f g : List ℕ) → Known forms o f → Known forms (read o g) (f ++ g)
known_all forms None f g h = known_none forms f g h
known_all forms (Some r) f [] h = subst (HasRead forms r) (sym (append-nil f)) h
known_all forms (Some r) f (b ∷ g) h = subst (Known forms (read (next r b) g)) (append_assoc f (b ∷ []) g)
    (known_all forms (next r b) (f ++ b ∷ []) g (known_next forms r f b h))

known : (forms : Forms) (f : List ℕ) → Known forms (read (Some (start_of forms)) f) f
known forms f = known_all forms (Some (start_of forms)) [] f (nothing_read forms)

false_not : false ≡ true → ⊥
false_not e = true≢false (sym e)

pub float_decided : (forms : Forms) (f : List ℕ) → (is_float_of forms f ≡ true → IsFloatOf forms f)
    × (IsFloatOf forms f → is_float_of forms f ≡ true)
float_decided forms f = by_case (read (Some (start_of forms)) f) (known forms f)
  where
    by_case : (o : Option Reached) → Known forms o f → (is_whole_at o ≡ true → IsFloatOf forms f)
        × (IsFloatOf forms f → is_whole_at o ≡ true)
    by_case None h = ((λ e. absurd (false_not e)), (λ i. absurd (h [] (subst (IsFloatOf forms) (sym (append-nil f)) i))))
    by_case (Some r) h =
        ((λ e. (whole forms r f h).0 ((whole_is r).0 e)), (λ i. (whole_is r).1 ((whole forms r f h).1 i)))

pub begins_decided : (forms : Forms) (f : List ℕ) → (begins_float_of forms f ≡ true → BeginsFloat forms f)
    × (BeginsFloat forms f → begins_float_of forms f ≡ true)
begins_decided forms f = by_case (read (Some (start_of forms)) f) (known forms f)
  where
    by_case : (o : Option Reached) → Known forms o f → (is_some o ≡ true → BeginsFloat forms f) × (BeginsFloat forms f → is_some o ≡ true)
    by_case None h = ((λ e. absurd (false_not e)), (λ b. absurd (h b.0 b.2)))
    by_case (Some r) h = let w = goes_on r in ((λ e. (w.0, w.1, (h w.0).1 w.2)), (λ b. refl))

pub decided : TestsAreSequences
decided forms f = (float_decided forms f, begins_decided forms f)

-- ---- one part after the other

pub read_more : (o : Option Reached) (f g : List ℕ) → read o (f ++ g) ≡ read (read o f) g
read_more None f g = refl
read_more (Some r) [] g = refl
read_more (Some r) (b ∷ f) g = read_more (next r b) f g

-- nothing more
pub read_nothing : (o : Option Reached) → read o [] ≡ o
read_nothing None = refl
read_nothing (Some r) = refl

-- with one byte more
pub read_one : (r s : Reached) (piece : List ℕ) (i : ℕ) → i < length piece → read (Some r) (take i piece) ≡ Some s
    → read (Some r) (take (i + 1) piece) ≡ next s (get_or piece i 0)
read_one r s piece i below is =
    let b = get_or piece i 0 in
    ap (read (Some r)) (one_more piece i below) ∙ read_more (Some r) (take i piece) (b ∷ []) ∙ ap (λ o. read o (b ∷ [])) is
    ∙ read_nothing (next s b)
