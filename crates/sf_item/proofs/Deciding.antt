-- The tests say what the definitions say.
use Rattle.std.proofs.Common.{◌≡◌, ℕ, zero, suc, ◌-◌, ◌<◌, ◌≤◌, Bool, true, false, not, ◌&&◌, nat_eq, nat_lt, nat_le, List, [], ◌∷◌, ◌++◌}
use Rattle.std.proofs.Common.{length, replicate, Option, Some, None, is_some, unwrap_or, refl, sym, ap, ◌∙◌, subst, lit≤, arith}
use Rattle.std.proofs.Common.{append_assoc, append-nil, true≢false, length-append}
use Rattle.std.proofs.lemmas.List.{length-replicate}
use Rattle.std.specs.Prelude.{IfSome}
use Rattle.std.specs.List.{AllByRecursion, list_all}
use Rattle.std.proofs.lemmas.Bool.Decides.{nat_tests}
use Rattle.sf_base.specs.Bytes.{AreBytes, is_white}
use Rattle.sf_base.specs.Sets.{has_byte}
use Rattle.sf_format.specs.declared.directive.Lead.{Lead}
use Rattle.sf_format.specs.declared.directive.Numeral.{Numeral}
use Rattle.sf_format.specs.declared.directive.Shape.{Shape}
use Rattle.sf_format.specs.declared.directive.Shape.TheVariants.{Int, Text, Set, Chars, Float, Count}
use Rattle.sf_format.specs.declared.directive.Conversion.{Conversion}
use Rattle.sf_format.specs.Proper.{IsProperShape}
use Rattle.sf_float_read.specs.item.Steps.{AllBytes}
use Rattle.sf_float_read.specs.item.Tests.{begins_float_of}
use Rattle.sf_float_read.proofs.ItemLemmas.Deciding.{float_decided, begins_decided}
use Rattle.sf_item.specs.Matching.{IsInteger, ShapeMatches, Matches, forms_of}
use Rattle.sf_item.specs.Progress.{Progress, Start, IsAfter, advance}
use Rattle.sf_item.specs.Taking.{CanTake}
use Rattle.sf_item.specs.Tests.{read, integer_in, integer_at, is_ink, shape_matches, shape_begins, is_within, matches, can_take}
use Rattle.sf_item.proofs.Integers.{IsAfter-start, IsAfter-advance, stuck, MayHaveRadix, next_radix, completion, integer_next, integer_back}

-- ---- integers

-- what is known after the bytes f
abbrev Known : Numeral → Option Progress → List ℕ → Type 0
Known numeral None f = (t : List ℕ) (negative : Bool) (m : ℕ) → IsInteger numeral (f ++ t) negative m → ⊥
Known numeral (Some p) f = IsAfter numeral p f

known_none : (numeral : Numeral) (f g : List ℕ) → Known numeral None f → Known numeral None (f ++ g)
known_none numeral f g h = λ t negative m i. h (g ++ t) negative m (subst (λ s. IsInteger numeral s negative m) (append_assoc f g t) i)

known_next : (numeral : Numeral) (p : Progress) (f : List ℕ) (b : ℕ) → IsAfter numeral p f
    → Known numeral (advance numeral p b) (f ++ b ∷ [])
known_next numeral p f b h = by_case (advance numeral p b) refl
  where
    by_case : (o : Option Progress) → advance numeral p b ≡ o → Known numeral o (f ++ b ∷ [])
    by_case None e = stuck numeral p f b h e
    by_case (Some q) e = IsAfter-advance numeral p q f b h e

known_all : (numeral : Numeral) (o : Option Progress) (f g : List ℕ) → Known numeral o f → Known numeral (read numeral o g) (f ++ g)
known_all numeral None f g h = known_none numeral f g h
known_all numeral (Some p) f [] h = subst (IsAfter numeral p) (sym (append-nil f)) h
known_all numeral (Some p) f (b ∷ g) h =
    subst (Known numeral (read numeral (advance numeral p b) g)) (append_assoc f (b ∷ []) g)
    (known_all numeral (advance numeral p b) (f ++ b ∷ []) g (known_next numeral p f b h))

pub read_radix : (numeral : Numeral) (o : Option Progress) (f : List ℕ) → MayHaveRadix o → MayHaveRadix (read numeral o f)
read_radix numeral None f h = tt
read_radix numeral (Some p) [] h = h
read_radix numeral (Some p) (b ∷ f) h = read_radix numeral (advance numeral p b) f (next_radix numeral p b)

known : (numeral : Numeral) (f : List ℕ) → Known numeral (read numeral (Some Start) f) f
known numeral f = known_all numeral (Some Start) [] f (IsAfter-start numeral)

pub integer_at_is : (numeral : Numeral) (f : List ℕ) (negative : Bool) (m : ℕ) → IsInteger numeral f negative m
    → integer_at numeral f ≡ Some (negative, m)
integer_at_is numeral f negative m i = by_case (read numeral (Some Start) f) (known numeral f)
  where
    whole : IsInteger numeral (f ++ []) negative m
    whole = subst (λ s. IsInteger numeral s negative m) (sym (append-nil f)) i

    by_case : (o : Option Progress) → Known numeral o f → integer_in o ≡ Some (negative, m)
    by_case None h = absurd (h [] negative m whole)
    by_case (Some p) h = integer_next numeral p negative m ((h [] negative m).0 whole)

pub integer_from_at : (numeral : Numeral) (f : List ℕ) (negative : Bool) (m : ℕ) → integer_at numeral f ≡ Some (negative, m)
    → IsInteger numeral f negative m
integer_from_at numeral f negative m = by_case (read numeral (Some Start) f) (known numeral f)
  where
    by_case : (o : Option Progress) → Known numeral o f → integer_in o ≡ Some (negative, m) → IsInteger numeral f negative m
    by_case None h e = absurd (cc)
    by_case (Some p) h e =
        subst (λ s. IsInteger numeral s negative m) (append-nil f) ((h [] negative m).1 (integer_back numeral p negative m e))

-- ---- tests of each byte

pub all_pass : {P : ℕ → Type 0} (p : ℕ → Bool) → ((b : ℕ) → P b → p b ≡ true) → (f : List ℕ) → AllByRecursion P f → list_all p f ≡ true
all_pass p says [] h = refl
all_pass p says (b ∷ f) h = ap (λ v. v && list_all p f) (says b h.0) ∙ all_pass p says f h.1

pub passed : (P : ℕ → Type 0) (p : ℕ → Bool) → ((b : ℕ) → p b ≡ true → P b) → (f : List ℕ) → list_all p f ≡ true → AllByRecursion P f
passed P p says [] h = tt
passed P p says (b ∷ f) h = by_case (p b) refl h (passed P p says f)
  where
    by_case : (v : Bool) → p b ≡ v → (v && list_all p f) ≡ true → (list_all p f ≡ true → AllByRecursion P f) → P b × AllByRecursion P f
    by_case true e k rest = (says b e, rest k)
    by_case false e k rest = absurd (true≢false (sym k))

-- the test passes exactly where the fact holds
pub record Tests (test : Bool) (P : Type 0) : Type 0 where
  pub from : test ≡ true → P
  pub to : P → test ≡ true

pub fails : {test : Bool} {P : Type 0} → Tests test P → test ≡ false → P → ⊥
fails tests e p = true≢false (sym (tests.to p) ∙ e)

pub tests_both : {a b : Bool} {P Q : Type 0} → Tests a P → Tests b Q → Tests (a && b) (P × Q)
tests_both {a = true} s t = record { from = λ e. (s.from refl, t.from e); to = λ h. t.to h.1 }
tests_both {a = false} s t = record { from = λ e. absurd (true≢false (sym e)); to = λ h. s.to h.0 }

not_false : (b : Bool) → not b ≡ true → b ≡ false
not_false true e = absurd (true≢false (sym e))
not_false false e = refl

false_not : (b : Bool) → b ≡ false → not b ≡ true
false_not true e = absurd (true≢false e)
false_not false e = refl

pub tests_less : (m n : ℕ) → Tests (nat_lt m n) (m < n)
tests_less m n = record { from = λ e. grind (arith, nat_tests); to = λ e. grind (arith, nat_tests) }

pub tests_all : (P : ℕ → Type 0) (p : ℕ → Bool) → ((b : ℕ) → Tests (p b) (P b)) → (f : List ℕ) → Tests (list_all p f) (AllByRecursion P f)
tests_all P p each f = record { from = passed P p (λ b. (each b).from) f; to = all_pass {P = P} p (λ b. (each b).to) f }

pub tests_itself : (test : Bool) → Tests test (test ≡ true)
tests_itself test = record { from = λ e. e; to = λ e. e }

tests_ink : (b : ℕ) → Tests (is_ink b) (is_white b ≡ false)
tests_ink b = record { from = not_false (is_white b); to = false_not (is_white b) }

pub tests_same : (m n : ℕ) → Tests (nat_eq m n) (m ≡ n)
tests_same m n = record { from = λ e. grind (arith, nat_tests); to = λ e. grind (arith, nat_tests) }

pub tests_most : (m n : ℕ) → Tests (nat_le m n) (m ≤ n)
tests_most m n = record { from = λ e. grind (arith, nat_tests); to = λ e. grind (arith, nat_tests) }

-- ---- matching sequences

tests_integer : (numeral : Numeral) (width : Option ℕ) (s : List ℕ)
    → Tests (is_some (integer_at numeral s)) (ShapeMatches (Int numeral) width s)
tests_integer numeral width s = record {
  from = λ e. by_case (integer_at numeral s) refl e;
  to = λ h. ap is_some (integer_at_is numeral s h.0 h.1 h.2);
}
  where
    by_case : (o : Option (Bool × ℕ)) → integer_at numeral s ≡ o → is_some o ≡ true → ShapeMatches (Int numeral) width s
    by_case None e some = absurd (true≢false (sym some))
    by_case (Some i) e some = (i.0, i.1, integer_from_at numeral s i.0 i.1 e)

pub tests_shape : (shape : Shape) (width : Option ℕ) (s : List ℕ) → Tests (shape_matches shape width s) (ShapeMatches shape width s)
tests_shape (Int numeral) width s = tests_integer numeral width s
tests_shape (Text lead) width s = tests_both (tests_less 0 (length s)) (tests_all _ is_ink tests_ink s)
tests_shape (Set members) width s =
    tests_both (tests_less 0 (length s)) (tests_all (λ b. has_byte members b ≡ true) (has_byte members)
    (λ b. tests_itself (has_byte members b)) s)
tests_shape Chars width s = tests_same (length s) (unwrap_or width 1)
tests_shape (Float lead) width s =
    record { from = (float_decided (forms_of lead) s).0; to = (float_decided (forms_of lead) s).1 }
tests_shape Count width s = record { from = λ e. absurd (true≢false (sym e)); to = λ h. absurd h }

pub tests_matches : (c : Conversion) (s : List ℕ) → Tests (matches c s) (Matches c s)
tests_matches c s = tests_shape c.shape c.width s

-- ---- fronts of matching sequences

abbrev pub ShapeBegins : Shape → Option ℕ → List ℕ → Type 0
ShapeBegins shape width f = (t : List ℕ) × AreBytes t × ShapeMatches shape width (f ++ t)

integer_begins : (numeral : Numeral) (width : Option ℕ) (f : List ℕ)
    → Tests (is_some (read numeral (Some Start) f)) (ShapeBegins (Int numeral) width f)
integer_begins numeral width f = by_case (read numeral (Some Start) f) (known numeral f) (read_radix numeral (Some Start) f tt)
  where
    by_case : (o : Option Progress) → Known numeral o f → MayHaveRadix o → Tests (is_some o) (ShapeBegins (Int numeral) width f)
    by_case None h some = record {
      from = λ e. absurd (true≢false (sym e));
      to = λ b. absurd (h b.0 b.2.0 b.2.1 b.2.2);
    }
    by_case (Some p) h some =
        let rest = completion numeral p some in
        record {
          from = λ e. (rest.text, rest.bytes, (rest.negative, rest.magnitude, (h rest.text rest.negative rest.magnitude).1 rest.completes));
          to = λ b. refl;
        }

-- a front whose bytes all pass, made longer by one that passes
all_push : (P : ℕ → Type 0) (f : List ℕ) (b : ℕ) → AllByRecursion P f → P b → AllByRecursion P (f ++ b ∷ [])
all_push P [] b h one = (one, tt)
all_push P (x ∷ f) b h one = (h.0, all_push P f b h.1 one)

all_front : (P : ℕ → Type 0) (f t : List ℕ) → AllByRecursion P (f ++ t) → AllByRecursion P f
all_front P [] t h = tt
all_front P (x ∷ f) t h = (h.0, all_front P f t h.1)

some_push : (f : List ℕ) (b : ℕ) → 0 < length (f ++ b ∷ [])
some_push f b = omega (arith, length-append f (b ∷ []))

each_begins : (P : ℕ → Type 0) (p : ℕ → Bool) (b : ℕ) → b < 256 → P b → ((x : ℕ) → Tests (p x) (P x)) → (f : List ℕ)
    → Tests (list_all p f) ((t : List ℕ) × AreBytes t × ((0 < length (f ++ t)) × AllByRecursion P (f ++ t)))
each_begins P p b byte one each f =
    let all = tests_all P p each f in
    record {
      from = λ e. (b ∷ [], (byte, tt), (some_push f b, all_push P f b (all.from e) one));
      to = λ h. all.to (all_front P f h.0 h.2.1);
    }

zeros_are_bytes : (n : ℕ) → AreBytes (replicate n 0)
zeros_are_bytes zero = tt
zeros_are_bytes (suc n) = (lit≤ tt, zeros_are_bytes n)

length_zeros : (f : List ℕ) (w : ℕ) → length f ≤ w → length (f ++ replicate (w - length f) 0) ≡ w
length_zeros f w fits = omega (arith, length-append f (replicate (w - length f) 0), length-replicate {A = ℕ} (w - length f) 0)

count_begins : (f : List ℕ) (w : ℕ) → Tests (nat_le (length f) w) ((t : List ℕ) × AreBytes t × (length (f ++ t) ≡ w))
count_begins f w = record {
  from = λ e. (replicate (w - length f) 0, zeros_are_bytes (w - length f), length_zeros f w ((tests_most (length f) w).from e));
  to = λ h. let long = length-append f h.0 in let whole = h.2 in (tests_most (length f) w).to (omega (arith, long, whole));
}

all_bytes : (t : List ℕ) → AreBytes t → AllBytes t
all_bytes [] h = tt
all_bytes (b ∷ t) h = (h.0, all_bytes t h.1)

are_bytes : (t : List ℕ) → AllBytes t → AreBytes t
are_bytes [] h = tt
are_bytes (b ∷ t) h = (h.0, are_bytes t h.1)

float_begins : (lead : Lead) (width : Option ℕ) (f : List ℕ) → Tests (begins_float_of (forms_of lead) f) (ShapeBegins (Float lead) width f)
float_begins lead width f = record {
  from = λ e. let rest = (begins_decided (forms_of lead) f).0 e in (rest.0, are_bytes rest.0 rest.1, rest.2);
  to = λ h. (begins_decided (forms_of lead) f).1 (h.0, all_bytes h.0 h.1, h.2);
}

pub tests_begins : (shape : Shape) (width : Option ℕ) → IsProperShape shape → (f : List ℕ)
    → Tests (shape_begins shape width f) (ShapeBegins shape width f)
tests_begins (Int numeral) width proper f = integer_begins numeral width f
tests_begins (Text lead) width proper f = each_begins (λ b. is_white b ≡ false) is_ink 65 (lit≤ tt) refl tests_ink f
tests_begins (Set members) width proper f =
    each_begins (λ b. has_byte members b ≡ true) (has_byte members) proper.0 proper.1 proper.2 (λ b. tests_itself (has_byte members b)) f
tests_begins Chars width proper f = count_begins f (unwrap_or width 1)
tests_begins (Float lead) width proper f = float_begins lead width f
tests_begins Count width proper f = record { from = λ e. absurd (true≢false (sym e)); to = λ h. absurd h.2 }

tests_within : (width : Option ℕ) (n : ℕ) → Tests (is_within width n) (IfSome width (λ w. n ≤ w))
tests_within None n = record { from = λ e. tt; to = λ h. refl }
tests_within (Some w) n = tests_most n w

pub tests_can_take : (c : Conversion) → IsProperShape c.shape → (g : List ℕ) → Tests (can_take c g) (CanTake c g)
tests_can_take c proper g = tests_both (tests_within c.width (length g)) (tests_begins c.shape c.width proper g)

-- ---- fronts that have a byte: none of a set without a member begins a matching sequence, so each set will do

some_begins : (shape : Shape) (width : Option ℕ) (f : List ℕ) (b : ℕ)
    → Tests (shape_begins shape width (f ++ b ∷ [])) (ShapeBegins shape width (f ++ b ∷ []))
some_begins (Int numeral) width f b = integer_begins numeral width (f ++ b ∷ [])
some_begins (Text lead) width f b = tests_begins (Text lead) width tt (f ++ b ∷ [])
some_begins (Set members) width f b =
    let g = f ++ b ∷ [] in
    let all = tests_all (λ x. has_byte members x ≡ true) (has_byte members) (λ x. tests_itself (has_byte members x)) g in
    record {
      from = λ e. ([], tt, subst (ShapeMatches (Set members) width) (sym (append-nil g)) (some_push f b, all.from e));
      to = λ h. all.to (all_front (λ x. has_byte members x ≡ true) g h.0 h.2.1);
    }
some_begins Chars width f b = tests_begins Chars width tt (f ++ b ∷ [])
some_begins (Float lead) width f b = float_begins lead width (f ++ b ∷ [])
some_begins Count width f b = tests_begins Count width tt (f ++ b ∷ [])

pub tests_can_take_more : (c : Conversion) (f : List ℕ) (b : ℕ) → Tests (can_take c (f ++ b ∷ [])) (CanTake c (f ++ b ∷ []))
tests_can_take_more c f b = tests_both (tests_within c.width (length (f ++ b ∷ []))) (some_begins c.shape c.width f b)
