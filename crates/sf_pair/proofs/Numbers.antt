-- How an integer's text is read, and what goes on after it.
use Rattle.std.proofs.Common.{◌≡◌, ℕ, ◌+◌, ◌*◌, ◌<◌, ◌≤◌, ◌⊎◌, inl, inr, Bool, true, false, cond, eqb, ltb, ◌&&◌, ◌||◌, List, [], ◌∷◌, ◌++◌}
use Rattle.std.proofs.Common.{length, slice_index, ℤ, pos, negsuc, unsigned_abs, Option, Some, None, is_some, refl, sym, ap, subst, ◌∙◌}
use Rattle.std.proofs.Common.{arith, eq-eqb, nat_eq, lit≤, true≢false}
use Rattle.std.proofs.lemmas.Bool.{ne_eqb}
use Rattle.std.proofs.lemmas.Bool.Decides.{nat_tests}
use Rattle.std.specs.Char.{digit_value, is_digit}
use Rattle.std.specs.Prelude.{not}
use Rattle.std.specs.Str.Parse.{AllDigits, digits_value}
use Rattle.sf_format.specs.declared.directive.Base.{Base}
use Rattle.sf_format.specs.declared.directive.Lead.{Lead}
use Rattle.sf_format.specs.declared.directive.Numeral.{Numeral}
use Rattle.sf_format.specs.declared.directive.Base.TheVariants.{Dec, Oct, Hex, Bin, Auto, AutoBin}
use Rattle.sf_format.specs.declared.directive.Shape.TheVariants as shape
use Rattle.sf_format.specs.declared.unit.PrintConv.{PrintConv}
use Rattle.sf_format.specs.declared.unit.PrintLetter.{PrintLetter}
use Rattle.sf_format.specs.Leads.{has_plus, has_minus, has_prefix}
use Rattle.sf_item.specs.Radices.{radices, radix_of_letter, first_radix, zero_radix, prefix_radix}
use Rattle.sf_item.specs.Progress.{Progress, Start, Signed, Zero, Prefix, Digits, integer_of, with_digit, with_first_digit, after_zero}
use Rattle.sf_item.specs.Progress.{advance}
use Rattle.sf_item.specs.Tests.{read}
use Rattle.sf_print.specs.texts.Text.{mark, base_mark, base_of, least_digits, pads_with_zeros, is_octal}
use Rattle.sf_print.specs.texts.Visible.{visible, least}
use Rattle.sf_pair.specs.conversions.Neighbours.{prefix_letters, is_auto_base, integer_stops, stop_set}
use Rattle.sf_pair.specs.Fits.{is_negative}
use Rattle.sf_pair.proofs.ConversionLemmas.Parts.{bare_sign}
use Rattle.sf_pair.proofs.ConversionLemmas.Tests.{and_both}
use Rattle.sf_pair.proofs.ConversionLemmas.Bodies.{digit_above, Body}
use Rattle.sf_pair.proofs.ReadDigits.{digit_taken, reads_on, no_prefix_of_dec, no_prefix_of_oct, IsRead, DigitsRead, first_digits}

-- ---- the sign

-- what stands before the digits of the text may stand there
pub record Leads (lead : Lead) (c : PrintConv) (z : ℤ) : Type 0 where
  pub plus : (has_plus lead ≡ true) ⊎ (c.plus ≡ false)
  pub minus : (has_minus lead ≡ true) ⊎ (is_negative z ≡ false)
  pub prefix : (has_prefix lead ≡ true) ⊎ (c.alt ≡ false)

-- the first tests of a first byte
is_minus : (p m : Bool) (sign plus more : Option Progress) → m ≡ true → cond (p && false) plus (cond (m && true) sign more) ≡ sign
is_minus true true sign plus more e = refl
is_minus false true sign plus more e = refl
is_minus p false sign plus more e = absurd cc

is_plus : (p : Bool) (plus more : Option Progress) → p ≡ true → cond (p && true) plus more ≡ plus
is_plus true plus more e = refl
is_plus false plus more e = absurd cc

is_neither : (p m a b : Bool) (plus minus more : Option Progress) → a ≡ false → b ≡ false
    → cond (p && a) plus (cond (m && b) minus more) ≡ more
is_neither true true false false plus minus more e f = refl
is_neither true false false b plus minus more e f = refl
is_neither false true a false plus minus more e f = refl
is_neither false false a b plus minus more e f = refl
is_neither _ _ true b plus minus more e f = absurd cc
is_neither _ _ a true plus minus more e f = absurd cc

-- after a sign or none a first digit is due
record Opening (numeral : Numeral) (sign : List ℕ) (negative : Bool) : Type 0 where
  progress : Progress
  goes : (t : List ℕ) → read numeral (Some Start) (sign ++ t) ≡ read numeral (Some progress) t
  opens : (d : ℕ) → 48 ≤ d → advance numeral progress d ≡ with_first_digit numeral negative d

pub start_opens : (numeral : Numeral) (d : ℕ) → 48 ≤ d → advance numeral Start d ≡ with_first_digit numeral false d
start_opens numeral d h =
    is_neither (has_plus numeral.lead) (has_minus numeral.lead) (nat_eq d 43) (nat_eq d 45) (Some (Signed false)) (Some (Signed true))
    (with_first_digit numeral false d) (ne_eqb d 43 (λ e. omega arith)) (ne_eqb d 45 (λ e. omega arith))

opening : (numeral : Numeral) (c : PrintConv) (z : ℤ) → Leads numeral.lead c z → Opening numeral (bare_sign c z) (is_negative z)
opening numeral c (negsuc n) k = by k.minus
  where
    by : (has_minus numeral.lead ≡ true) ⊎ (true ≡ false) → Opening numeral (45 ∷ []) true
    by (inl e) = record {
      progress = Signed true;
      goes = λ t. ap (λ (o : Option Progress). read numeral o t)
          (is_minus (has_plus numeral.lead) (has_minus numeral.lead) (Some (Signed true)) (Some (Signed false))
          (with_first_digit numeral false 45) e);
      opens = λ d h. refl;
    }
    by (inr e) = absurd cc
opening numeral c (pos n) k = by c.plus k.plus
  where
    plus : List ℕ
    plus = 43 ∷ []

    by : (p : Bool) → (has_plus numeral.lead ≡ true) ⊎ (p ≡ false) → Opening numeral (cond p plus []) false
    by true (inl e) = record {
      progress = Signed false;
      goes = λ t. ap (λ (o : Option Progress). read numeral o t)
          (is_plus (has_plus numeral.lead) (Some (Signed false)) (cond (has_minus numeral.lead && false) (Some (Signed true))
          (with_first_digit numeral false 43)) e);
      opens = λ d h. refl;
    }
    by true (inr e) = absurd cc
    by false h = record { progress = Start; goes = λ t. refl; opens = start_opens numeral }

-- a lone 0 is read as such, after a sign or none
pub lone_zero_read : (numeral : Numeral) (c : PrintConv) (z : ℤ) (t : List ℕ) → Leads numeral.lead c z → t ≡ bare_sign c z ++ 48 ∷ []
    → read numeral (Some Start) t ≡ Some (Zero (is_negative z))
lone_zero_read numeral c z t k e =
    let o = opening numeral c z k in
    ap (read numeral (Some Start)) e ∙ o.goes (48 ∷ []) ∙ ap (λ (q : Option Progress). read numeral q []) (o.opens 48 (lit≤ tt))

-- ---- digits after it

read_body : (numeral : Numeral) (q : Progress) (s : Bool) (r : ℕ) (body : List ℕ)
    → ((d : ℕ) → 48 ≤ d → advance numeral q d ≡ with_first_digit numeral s d) → first_radix numeral ≡ r → r ≤ 16
    → (zero_radix numeral ≡ r) ⊎ (slice_index body 0 ≡ 48 → length body ≡ 1) → AllDigits r body → 0 < length body
    → DigitsRead numeral q s r body
read_body numeral q s r [] opens first small second all some = absurd (omega arith)
read_body numeral q s r (d ∷ ds) opens first small second all some =
    first_digits numeral q s r d ds (opens d (let h = all.0 in digit_above d (omega arith))) first small (by second) all
  where
    none_left : (ds : List ℕ) → length (d ∷ ds) ≡ 1 → ds ≡ []
    none_left [] e = refl
    none_left (x ∷ xs) e = absurd (omega arith)

    by : (zero_radix numeral ≡ r) ⊎ (slice_index (d ∷ ds) 0 ≡ 48 → length (d ∷ ds) ≡ 1) → (zero_radix numeral ≡ r) ⊎ (d ≡ 48 → ds ≡ [])
    by (inl e) = inl e
    by (inr h) = inr (λ e. none_left ds (h e))

-- after the letter of a prefix
marked_body : (numeral : Numeral) (s : Bool) (r : ℕ) (body : List ℕ) → AllDigits r body → 0 < length body
    → read numeral (Some (Prefix s r)) body ≡ Some (Digits s r (digits_value r body))
marked_body numeral s r [] all some = absurd (omega arith)
marked_body numeral s r (d ∷ ds) all some = ap (λ (o : Option Progress). read numeral o ds) (digit_taken s r 0 d all.0)
    ∙ reads_on numeral s r (0 * r + digit_value d) ds all.1

-- ---- the number

integer_read : (s : Bool) (r m : ℕ) (body : List ℕ) (p : Progress) → IsRead s r body p → digits_value r body ≡ m
    → integer_of p ≡ Some (s, m)
integer_read s r m body p (inl h) e =
    let none : m ≡ 0 = sym e ∙ ap (digits_value r) h.1 ∙ (let k : 0 * r + 0 ≡ 0 = omega arith in k) in
    ap integer_of h.0 ∙ ap (λ (k : ℕ). Some (s, k)) (sym none)
integer_read s r m body p (inr h) e = ap integer_of h ∙ ap (λ (k : ℕ). Some (s, k)) e

-- where an integer's digits end: at one 0, or at digits of the radix that the base has without a prefix
abbrev pub EndsIn : Numeral → Bool → Progress → Type 0
EndsIn numeral s p = (p ≡ Zero s) ⊎ ((v : ℕ) × (p ≡ Digits s (first_radix numeral) v))

ends_in : (numeral : Numeral) (s : Bool) (ds : List ℕ) (p : Progress) → IsRead s (first_radix numeral) ds p → EndsIn numeral s p
ends_in numeral s ds p (inl h) = inl h.0
ends_in numeral s ds p (inr h) = inr (digits_value (first_radix numeral) ds, h)

-- the text of a number is read, to its sign and magnitude, and only a byte of the stop set goes on
pub record NumberRead (numeral : Numeral) (c : PrintConv) (z : ℤ) : Type 0 where
  pub progress : Progress
  pub is : read numeral (Some Start) (visible c z) ≡ Some progress
  pub value : integer_of progress ≡ Some (is_negative z, unsigned_abs z)
  pub end : EndsIn numeral (is_negative z) progress
  pub stops : (b : ℕ) → stop_set (shape.Int numeral) c b ≡ false → advance numeral progress b ≡ None

-- ---- without a mark

record Read (numeral : Numeral) (c : PrintConv) (z : ℤ) (body : List ℕ) (r : ℕ) : Type 0 where
  progress : Progress
  is : read numeral (Some Start) (visible c z) ≡ Some progress
  end : IsRead (is_negative z) r body progress

unmarked : (numeral : Numeral) (c : PrintConv) (z : ℤ) (b : Body c z) → Leads numeral.lead c z → mark c (unsigned_abs z) ≡ []
    → first_radix numeral ≡ base_of c.letter
    → base_of c.letter ≤ 16
    → (zero_radix numeral ≡ base_of c.letter) ⊎ (slice_index b.body 0 ≡ 48 → length b.body ≡ 1) → Read numeral c z b.body (base_of c.letter)
unmarked numeral c z b k none first small second =
    let o = opening numeral c z k in
    let d = read_body numeral o.progress (is_negative z) (base_of c.letter) b.body o.opens first small second b.all b.some in
    record {
      progress = d.progress;
      is = ap (read numeral (Some Start)) (b.visible_is ∙ ap (λ (xs : List ℕ). bare_sign c z ++ (xs ++ b.body)) none) ∙ o.goes b.body
          ∙ d.is;
      end = d.end;
    }

no_digit : (s : Bool) (r v b : ℕ) → is_digit b r ≡ false → with_digit s r v b ≡ None
no_digit s r v b e = ap (λ (t : Bool). cond t (Some (Digits s r (v * r + digit_value b))) None) e

or_none : (x y : Bool) → (x || y) ≡ false → (x ≡ false) × (y ≡ false)
or_none true y e = absurd cc
or_none false y e = (refl, e)

-- ---- what does not go on

no_radix : (o : Option ℕ) → is_some o ≡ false → o ≡ None
no_radix None e = refl
no_radix (Some r) e = absurd cc

-- a byte outside the stop set is no digit
outside_digits : (numeral : Numeral) (lone : Bool) (b : ℕ) → integer_stops numeral lone b ≡ false → is_digit b (first_radix numeral) ≡ false
outside_digits numeral lone b e = (or_none ((lone || is_auto_base numeral.base) && prefix_letters numeral b)
    (is_digit b (first_radix numeral)) e).1

-- nor the letter of a prefix, where a 0 may be alone
outside_letters : (numeral : Numeral) (lone : Bool) (b : ℕ) → (lone || is_auto_base numeral.base) ≡ true
    → integer_stops numeral lone b ≡ false
    → prefix_radix numeral b ≡ None
outside_letters numeral lone b may e =
    no_radix (prefix_radix numeral b)
    (sym (ap (λ (t : Bool). t && prefix_letters numeral b) may) ∙ (or_none ((lone || is_auto_base numeral.base) && prefix_letters numeral b)
    (is_digit b (first_radix numeral)) e).0)

lower : (m n d : ℕ) → m ≤ n → ltb d n ≡ false → ltb d m ≡ false
lower m n d h e = grind (arith, nat_tests)

-- after a 0 there are no more digits than before
fewer_digits : (base : Base) (b : ℕ) → is_digit b (radices base).first ≡ false → is_digit b (radices base).zero ≡ false
fewer_digits Dec b e = e
fewer_digits Oct b e = e
fewer_digits Hex b e = e
fewer_digits Bin b e = e
fewer_digits Auto b e = lower 8 10 (digit_value b) (lit≤ tt) e
fewer_digits AutoBin b e = lower 8 10 (digit_value b) (lit≤ tt) e

read_stops : (numeral : Numeral) (lone : Bool) (s : Bool) (body : List ℕ) (p : Progress) → IsRead s (first_radix numeral) body p
    → (b : ℕ) → (body ≡ 48 ∷ [] → prefix_radix numeral b ≡ None) → integer_stops numeral lone b ≡ false → advance numeral p b ≡ None
read_stops numeral lone s body p (inl h) b none e =
    ap (λ (q : Progress). advance numeral q b) h.0
    ∙ ap (after_zero s (zero_radix numeral) b) (none h.1)
    ∙ no_digit s (zero_radix numeral) 0 b (fewer_digits numeral.base b (outside_digits numeral lone b e))
read_stops numeral lone s body p (inr h) b none e =
    ap (λ (q : Progress). advance numeral q b) h ∙ no_digit s (first_radix numeral) (digits_value (first_radix numeral) body) b
    (outside_digits numeral lone b e)

-- ---- with a mark

-- the letter's mark is a prefix of the base
pub record HasMark (base : Base) (l : PrintLetter) : Type 0 where
  pub byte : ℕ
  pub mark : base_mark l ≡ 48 ∷ byte ∷ []
  pub radix : radix_of_letter (radices base) byte ≡ Some (base_of l)
  pub first : (radices base).first ≡ base_of l
  pub zero : (radices base).zero ≡ base_of l
  pub small : base_of l ≤ 16

marked : (c : PrintConv) (z : ℤ) (b : Body c z) (numeral : Numeral) → Leads numeral.lead c z → HasMark numeral.base c.letter → c.alt ≡ true
    → mark c (unsigned_abs z) ≡ base_mark c.letter → Read numeral c z b.body (base_of c.letter)
marked c z b numeral leads k alt is =
    let o = opening numeral c z leads in
    let letter : prefix_radix numeral k.byte ≡ Some (base_of c.letter) = elim leads.prefix [
      | inl may ↦ ap (λ (t : Bool). cond t (radix_of_letter (radices numeral.base) k.byte) None) may ∙ k.radix
      | inr none ↦ absurd (true≢false (sym alt ∙ none))
    ] in
    let s : Bool = is_negative z in
    let r : ℕ = base_of c.letter in
    record {
      progress = Digits s r (digits_value r b.body);
      is =
          ap (read numeral (Some Start)) (b.visible_is ∙ ap (λ (xs : List ℕ). bare_sign c z ++ (xs ++ b.body)) (is ∙ k.mark))
          ∙ o.goes (48 ∷ k.byte ∷ b.body)
          ∙ ap (λ (q : Option Progress). read numeral q (k.byte ∷ b.body)) (o.opens 48 (omega arith))
          ∙ ap (λ (q : Option ℕ). read numeral (after_zero s (zero_radix numeral) k.byte q) b.body) letter
          ∙ marked_body numeral s r b.body b.all b.some;
      end = inr refl;
    }

pub mark_of_zero : (c : PrintConv) → mark c 0 ≡ []
mark_of_zero c = by c.alt
  where
    none : List ℕ
    none = []

    by : (a : Bool) → cond (a && false) (base_mark c.letter) none ≡ none
    by true = refl
    by false = refl

-- the text of a lone 0 without a sign
lone_zero : (c : PrintConv) (m : ℕ) (b : Body c (pos m)) → c.plus ≡ false → b.body ≡ 48 ∷ [] → m ≡ 0 → length (least c) ≡ 1
lone_zero c m b plus body zero_is =
    ap (λ (k : ℕ). length (visible c (pos k))) (sym zero_is) ∙ ap length b.visible_is
    ∙ (λ t. length (cond (plus t) plus_sign [] ++ ((ap (mark c) zero_is ∙ mark_of_zero c) t ++ body t)))
  where
    plus_sign : List ℕ
    plus_sign = 43 ∷ []

-- ---- each base

module _ (c : PrintConv) (z : ℤ) (b : Body c z) where
  mark_by : (P : List ℕ → Type 0) → (mark c (unsigned_abs z) ≡ [] → P [])
      → (c.alt ≡ true → mark c (unsigned_abs z) ≡ base_mark c.letter → P (base_mark c.letter)) → P (mark c (unsigned_abs z))
  mark_by P none some = by (c.alt && not (eqb (unsigned_abs z) 0)) refl
    where
      by : (t : Bool) → (c.alt && not (eqb (unsigned_abs z) 0)) ≡ t → P (cond t (base_mark c.letter) [])
      by true e = some (and_both c.alt (not (eqb (unsigned_abs z) 0)) e).0 (ap (λ (t : Bool). cond t (base_mark c.letter) []) e)
      by false e = none (ap (λ (t : Bool). cond t (base_mark c.letter) []) e)

  pub none_marked : base_mark c.letter ≡ [] → mark c (unsigned_abs z) ≡ []
  none_marked e = mark_by (λ xs. xs ≡ []) (λ h. refl) (λ a h. e)

  number_read : (numeral : Numeral) → first_radix numeral ≡ base_of c.letter → Read numeral c z b.body (base_of c.letter)
      → ((x : ℕ) → stop_set (shape.Int numeral) c x ≡ false → b.body ≡ 48 ∷ [] → prefix_radix numeral x ≡ None) → NumberRead numeral c z
  number_read numeral first r none =
      let end : IsRead (is_negative z) (first_radix numeral) b.body r.progress =
      subst (λ (k : ℕ). IsRead (is_negative z) k b.body r.progress) (sym first) r.end in
      record {
        progress = r.progress;
        is = r.is;
        value = integer_read (is_negative z) (base_of c.letter) (unsigned_abs z) b.body r.progress r.end b.value;
        end = ends_in numeral (is_negative z) b.body r.progress end;
        stops = λ x e. read_stops numeral (eqb (length (least c)) 1) (is_negative z) b.body r.progress end x (none x e) e;
      }

  first_is : (numeral : Numeral) (base : Base) → numeral.base ≡ base → first_radix numeral ≡ (radices base).first
  first_is numeral base e = ap (λ (base : Base). (radices base).first) e

  zero_is : (numeral : Numeral) (base : Base) → numeral.base ≡ base → zero_radix numeral ≡ (radices base).zero
  zero_is numeral base e = ap (λ (base : Base). (radices base).zero) e

  pub read_decimal : (numeral : Numeral) → numeral.base ≡ Dec → Leads numeral.lead c z → base_of c.letter ≡ 10 → base_mark c.letter ≡ []
      → NumberRead numeral c z
  read_decimal numeral base k ten no_mark =
      number_read numeral (first_is numeral Dec base ∙ sym ten) (unmarked numeral c z b k (none_marked no_mark)
      (first_is numeral Dec base ∙ sym ten) (omega (arith, ten)) (inl (zero_is numeral Dec base ∙ sym ten)))
      (λ x e lone. no_prefix_of_dec numeral base x)

  pub read_octal : (numeral : Numeral) → numeral.base ≡ Oct → Leads numeral.lead c z → base_of c.letter ≡ 8 → base_mark c.letter ≡ []
      → NumberRead numeral c z
  read_octal numeral base k eight no_mark =
      number_read numeral (first_is numeral Oct base ∙ sym eight) (unmarked numeral c z b k (none_marked no_mark)
      (first_is numeral Oct base ∙ sym eight) (omega (arith, eight)) (inl (zero_is numeral Oct base ∙ sym eight)))
      (λ x e lone. no_prefix_of_oct numeral base x)

  pub read_auto : (numeral : Numeral) → Leads numeral.lead c z → is_auto_base numeral.base ≡ true → first_radix numeral ≡ 10
      → base_of c.letter ≡ 10 → base_mark c.letter ≡ []
      → is_octal c.letter ≡ false
      → least_digits c ≡ 1 → pads_with_zeros c ≡ false → NumberRead numeral c z
  read_auto numeral k auto first ten no_mark octal one pads =
      number_read numeral (first ∙ sym ten) (unmarked numeral c z b k (none_marked no_mark) (first ∙ sym ten) (omega (arith, ten))
      (inr (b.bare one pads octal)))
      (λ x e lone. outside_letters numeral (eqb (length (least c)) 1) x
      (or_true (eqb (length (least c)) 1) (is_auto_base numeral.base) auto) e)
    where
      or_true : (x y : Bool) → y ≡ true → (x || y) ≡ true
      or_true true y e = refl
      or_true false y e = e

pub read_marked : (c : PrintConv) (m : ℕ) (b : Body c (pos m)) (numeral : Numeral) → Leads numeral.lead c (pos m)
    → HasMark numeral.base c.letter → c.plus ≡ false
    → NumberRead numeral c (pos m)
read_marked c m b numeral leads k plus =
    mark_by c (pos m) b (λ xs. NumberRead numeral c (pos m))
    (λ none. number_read c (pos m) b numeral k.first (unmarked numeral c (pos m) b leads none k.first k.small (inl k.zero)) letters)
    (λ alt some. number_read c (pos m) b numeral k.first (marked c (pos m) b numeral leads k alt some) letters)
  where
    lone : b.body ≡ 48 ∷ [] → (eqb (length (least c)) 1 || is_auto_base numeral.base) ≡ true
    lone e =
        let zero_is : m ≡ 0 = sym b.value ∙ ap (digits_value (base_of c.letter)) e
        ∙ (let none : 0 * base_of c.letter + 0 ≡ 0 = omega arith in none) in
        ap (λ (t : Bool). t || is_auto_base numeral.base) (eq-eqb (length (least c)) 1 (lone_zero c m b plus e zero_is))

    letters : (x : ℕ) → stop_set (shape.Int numeral) c x ≡ false → b.body ≡ 48 ∷ [] → prefix_radix numeral x ≡ None
    letters x e alone = outside_letters numeral (eqb (length (least c)) 1) x (lone alone) e
