-- A conversion takes the text in front of it, and nothing of what follows.
use Rattle.std.proofs.Common.{◌≡◌, ℕ, suc, ◌+◌, ◌<◌, ◌≤◌, ◌⊎◌, inl, inr, Bool, true, false, cond, ◌&&◌, nat_le, List, [], ◌∷◌, ◌++◌, length}
use Rattle.std.proofs.Common.{drop, Option, Some, None, is_some, ℤ, refl, sym, ap, subst, ◌∙◌, arith, append_assoc, append-nil}
use Rattle.std.proofs.Common.{length-append}
use Rattle.std.proofs.lemmas.Bool.Decides.{nat_tests}
use Rattle.std.proofs.lemmas.List.{take_at}
use Rattle.sf_base.specs.Data.{Number}
use Rattle.sf_format.specs.declared.directive.Numeral.{Numeral}
use Rattle.sf_format.specs.declared.directive.Shape.{Shape}
use Rattle.sf_format.specs.declared.directive.Shape.TheVariants as shape
use Rattle.sf_format.specs.declared.directive.Conversion.{Conversion}
use Rattle.sf_format.specs.declared.directive.Directive.TheVariants.{Conv}
use Rattle.sf_format.specs.declared.unit.PrintConv.{PrintConv}
use Rattle.sf_item.specs.Progress.{Progress, Start, advance}
use Rattle.sf_item.specs.Tests.{read, integer_in, shape_matches, shape_begins, is_within, matches, can_take, has_item}
use Rattle.sf_report.specs.Steps.{StepEnd, Stores, Fails}
use Rattle.sf_report.specs.declared.outcome.Status.TheVariants.{MatchingFailure}
use Rattle.sf_report.specs.Machine.{item_end, passed_end, stored_end, integer_end, number_end}
use Rattle.sf_print.specs.texts.Visible.{visible}
use Rattle.sf_report.specs.Computed.{len, skip_before, item_ended, item_step, conversion_step, step_by, step_of}
use Rattle.sf_pair.specs.conversions.Below.{LawsBelow}
use Rattle.sf_pair.specs.conversions.Neighbours.{Bytes as ByteTest, stop_set}
use Rattle.sf_pair.specs.Fits.{IsOfKind}
use Rattle.sf_pair.proofs.Paired.{and_so}
use Rattle.sf_pair.proofs.Numbers.{NumberRead}

-- the next byte, if there is one, can't be taken
abbrev pub Ends : Conversion → List ℕ → List ℕ → Type 0
Ends c f [] = Unit {0}
Ends c f (b ∷ rest) = can_take c (f ++ b ∷ []) ≡ false

-- all of t is taken after f, and no more
pub len_is : LawsBelow → (c : Conversion) (f t rest : List ℕ) → can_take c (f ++ t) ≡ true → Ends c (f ++ t) rest
    → len c f (t ++ rest) ≡ length t
len_is laws c f [] [] taken ends = refl
len_is laws c f [] (b ∷ rest) taken ends =
    let no : can_take c (f ++ b ∷ []) ≡ false = ap (λ (g : List ℕ). can_take c (g ++ b ∷ [])) (sym (append-nil f)) ∙ ends in
    ap (λ (v : Bool). cond v (suc (len c (f ++ b ∷ []) rest)) 0) no
len_is laws c f (b ∷ t) rest taken ends =
    let regroup : (f ++ b ∷ []) ++ t ≡ f ++ b ∷ t = append_assoc f (b ∷ []) t in
    let all : can_take c ((f ++ b ∷ []) ++ t) ≡ true = ap (can_take c) regroup ∙ taken in
    let one : can_take c (f ++ b ∷ []) ≡ true = laws.fronts c (f ++ b ∷ []) t all in
    ap (λ (v : Bool). cond v (suc (len c (f ++ b ∷ []) (t ++ rest))) 0) one
    ∙ ap suc (len_is laws c (f ++ b ∷ []) t rest all (subst (λ (g : List ℕ). Ends c g rest) (sym regroup) ends))

-- what is known where a conversion takes the text f of f ++ rest
pub record Takes (c : Conversion) (f rest : List ℕ) : Type 0 where
  pub some : 0 < length f
  pub item : has_item c.shape ≡ true
  pub taken : can_take c f ≡ true
  pub ends : Ends c f rest
  pub matches_it : matches c f ≡ true

ended : (c : Conversion) (f rest : List ℕ) → 0 < length f → matches c f ≡ true → item_ended c (f ++ rest) (length f) ≡ passed_end c c.slot f
ended c [] rest some is = absurd (omega arith)
ended c (b ∷ f) rest some is =
    ap (item_end c) (take_at (b ∷ f) rest (length (b ∷ f)) refl) ∙ ap
    (λ (v : Bool). cond v (passed_end c c.slot (b ∷ f)) (Fails MatchingFailure)) is

item_taken : LawsBelow → (c : Conversion) (x f rest : List ℕ) (s : ℕ) → drop s x ≡ f ++ rest → Takes c f rest
    → ◌≡◌ {A = ℕ × StepEnd} (s + len c [] (drop s x), item_ended c (drop s x) (len c [] (drop s x))) (s + length f, passed_end c c.slot f)
item_taken laws c x f rest s e t =
    let k : len c [] (drop s x) ≡ length f = ap (len c []) e ∙ len_is laws c [] f rest t.taken t.ends in
    (λ i. (s + k i, item_ended c (e i) (k i))) ∙ ap (λ (end : StepEnd). (s + length f, end)) (ended c f rest t.some t.matches_it)

by_shape : (c : Conversion) (shape : Shape) (x : List ℕ) (n : ℕ) → has_item shape ≡ true → conversion_step c shape x n ≡ item_step c x
by_shape c (shape.Int numeral) x n h = refl
by_shape c (shape.Text lead) x n h = refl
by_shape c (shape.Set members) x n h = refl
by_shape c shape.Chars x n h = refl
by_shape c (shape.Float lead) x n h = refl
by_shape c shape.Count x n h = absurd cc

-- the step of one that reads an item
pub item_stepped : (c : Conversion) (x : List ℕ) (n : ℕ) → c.column ≡ false → has_item c.shape ≡ true → step_of (Conv c) x n ≡ item_step c x
item_stepped c x n item h = ap (λ (t : Bool). step_by t c x n) item ∙ by_shape c c.shape x n h

-- the step of a conversion that takes just the text in front
pub conversion_taken : LawsBelow → (c : Conversion) (x f rest : List ℕ) (n : ℕ) → c.column ≡ false
    → drop (skip_before c.shape x) x ≡ f ++ rest → Takes c f rest
    → step_of (Conv c) x n ≡ (skip_before c.shape x + length f, passed_end c c.slot f)
conversion_taken laws c x f rest n item e t =
    item_stepped c x n item t.item ∙ item_taken laws c x f rest (skip_before c.shape x) e t

-- ---- what ends an item

-- the next byte, if there is one, isn't in the set
abbrev pub FirstOut : ByteTest → List ℕ → Type 0
FirstOut set [] = Unit {0}
FirstOut set (b ∷ rest) = set b ≡ false

and_none : (a b : Bool) → (a ≡ false) ⊎ (b ≡ false) → (a && b) ≡ false
and_none true b (inl e) = absurd cc
and_none true b (inr e) = e
and_none false b h = refl

too_long : (n w : ℕ) → n ≡ w → nat_le (n + 1) w ≡ false
too_long n w e = grind (arith, nat_tests)

fits_in : (n w : ℕ) → n ≤ w → nat_le n w ≡ true
fits_in n w h = grind (arith, nat_tests)

-- the text is as long as the width
pub full_ends : (c : Conversion) (f rest : List ℕ) (w : ℕ) → c.width ≡ Some w → length f ≡ w → Ends c f rest
full_ends c f [] w e full = tt
full_ends c f (b ∷ rest) w e full =
    and_none (is_within c.width (length (f ++ b ∷ []))) (shape_begins c.shape c.width (f ++ b ∷ []))
    (inl (ap (λ (o : Option ℕ). is_within o (length (f ++ b ∷ []))) e ∙ ap (λ (k : ℕ). nat_le k w) (length-append f (b ∷ []))
    ∙ too_long (length f) w full))

-- or the next byte goes on with no matching sequence
stopped_ends : (c : Conversion) (f rest : List ℕ) (set : ByteTest)
    → ((b : ℕ) → set b ≡ false → shape_begins c.shape c.width (f ++ b ∷ []) ≡ false) → FirstOut set rest → Ends c f rest
stopped_ends c f [] set stops out = tt
stopped_ends c f (b ∷ rest) set stops out = and_none (is_within c.width (length (f ++ b ∷ [])))
    (shape_begins c.shape c.width (f ++ b ∷ [])) (inr (stops b out))

pub either_ends : (c : Conversion) (f rest : List ℕ) (w : ℕ) (set : ByteTest) → c.width ≡ Some w
    → ((b : ℕ) → set b ≡ false → shape_begins c.shape c.width (f ++ b ∷ []) ≡ false)
    → (length f ≡ w) ⊎ FirstOut set rest → Ends c f rest
either_ends c f rest w set e stops (inl full) = full_ends c f rest w e full
either_ends c f rest w set e stops (inr out) = stopped_ends c f rest set stops out

pub taken_within : (c : Conversion) (f : List ℕ) (w : ℕ) → c.width ≡ Some w → length f ≤ w → shape_begins c.shape c.width f ≡ true
    → can_take c f ≡ true
taken_within c f w e fits begins = and_so (is_within c.width (length f)) (shape_begins c.shape c.width f)
    (ap (λ (o : Option ℕ). is_within o (length f)) e ∙ fits_in (length f) w fits) begins

-- ---- integers

integer_begins : (numeral : Numeral) (width : Option ℕ) (f : List ℕ) (p : Progress) → read numeral (Some Start) f ≡ Some p
    → shape_begins (shape.Int numeral) width f ≡ true
integer_begins numeral width f p e = ap is_some e

integer_stops : LawsBelow → (numeral : Numeral) (width : Option ℕ) (f : List ℕ) (p : Progress) (b : ℕ)
    → read numeral (Some Start) f ≡ Some p
    → advance numeral p b ≡ None → shape_begins (shape.Int numeral) width (f ++ b ∷ []) ≡ false
integer_stops laws numeral width f p b e none = ap is_some (laws.parts numeral (Some Start) f (b ∷ [])
    ∙ ap (λ (o : Option Progress). read numeral o (b ∷ [])) e ∙ ap (λ (o : Option Progress). read numeral o []) none)

module _ (laws : LawsBelow) (c : PrintConv) (s : Conversion) (z : ℤ) (numeral : Numeral) (w slot : ℕ) (rest : List ℕ)
    (is_int : s.shape ≡ shape.Int numeral) (width : s.width ≡ Some w) (at : s.slot ≡ Some slot)
    (number : NumberRead numeral c z) (some : 0 < length (visible c z)) (fits : length (visible c z) ≤ w) where
  pub integer_takes : (length (visible c z) ≡ w) ⊎ FirstOut (stop_set (shape.Int numeral) c) rest → Takes s (visible c z) rest
  integer_takes closed = record {
    some = some;
    item = ap has_item is_int;
    taken = taken_within s (visible c z) w width fits (ap (λ (h : Shape). shape_begins h s.width (visible c z)) is_int
        ∙ integer_begins numeral s.width (visible c z) number.progress number.is);
    ends = either_ends s (visible c z) rest w (stop_set (shape.Int numeral) c) width
        (λ b out. ap (λ (h : Shape). shape_begins h s.width (visible c z ++ b ∷ [])) is_int
        ∙ integer_stops laws numeral s.width (visible c z) number.progress b number.is (number.stops b out)) closed;
    matches_it = ap (λ (h : Shape). shape_matches h s.width (visible c z)) is_int ∙ ap is_some (ap integer_in number.is ∙ number.value);
  }

  pub integer_stored : IsOfKind s.kind z → passed_end s s.slot (visible c z) ≡ Stores slot (Number s.kind z)
  integer_stored kind =
      ap (λ (o : Option ℕ). passed_end s o (visible c z)) at
      ∙ ap (λ (h : Shape). stored_end s slot h (visible c z)) is_int
      ∙ ap (integer_end s slot) (ap integer_in number.is ∙ number.value)
      ∙ ap (number_end s slot) kind
