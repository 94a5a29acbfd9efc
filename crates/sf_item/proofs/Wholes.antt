-- Items that end within a piece.
use Rattle.std.proofs.Common.{◌^◌, ◌≡◌, ◌≢◌, ℕ, zero, suc, ◌+◌, ◌-◌, ◌*◌, ◌<◌, ◌≤◌, ◌⊎◌, inl, inr, Bool, true, false, ◌&&◌, append_assoc}
use Rattle.std.proofs.Common.{append-nil, cond, eq-zero-or-pos, List, [], ◌∷◌, ◌++◌, length, take, get_or, slice_index_or, nat_lt, nat_le}
use Rattle.std.proofs.Common.{Option, Some, None, is_some, unwrap_or, refl, sym, ap, ◌∙◌, subst, arith}
use Rattle.std.proofs.lemmas.Bool.Decides.{nat_tests}
use Rattle.std.proofs.Math.Nat.{pow-succ'}
use Rattle.std.proofs.Math.Seq.{take-add}
use Rattle.std.proofs.lemmas.List.{get_or-drop, get_or-take, length-take, length-take-le, take-take}
use Rattle.std.specs.Prelude.{IsTrue}
use Rattle.std.specs.Char.{digit_value}
use Rattle.std.specs.List.{list_all, prefix_len}
use Rattle.sf_base.specs.declared.values.Kind.TheVariants.{I32}
use Rattle.sf_format.specs.declared.directive.Lead.{Lead}
use Rattle.sf_format.specs.declared.directive.Lead.TheVariants.{Any}
use Rattle.sf_format.specs.declared.directive.Numeral.{Numeral}
use Rattle.sf_format.specs.Leads.{has_plus, has_minus, has_prefix}
use Rattle.sf_format.specs.declared.directive.Base.{Base}
use Rattle.sf_format.specs.declared.directive.Base.TheVariants.{Dec, Hex}
use Rattle.sf_format.specs.declared.directive.Shape.{Shape}
use Rattle.sf_format.specs.declared.directive.Shape.TheVariants.{Int, Set, Chars}
use Rattle.sf_format.specs.declared.directive.Conversion.{Conversion}
use Rattle.sf_format.specs.Proper.{IsProperShape}
use Rattle.sf_item.specs.declared.reached.Digits.{Digits as Taken}
use Rattle.sf_item.specs.declared.reached.Reached.TheVariants as reached
use Rattle.sf_item.specs.declared.whole.WholeInteger.{WholeInteger}
use Rattle.sf_item.specs.Matching.{IsItem, Matches}
use Rattle.sf_item.specs.Progress.{Progress, Start, Zero, Prefix, Digits, integer_of, advance, with_digit, with_first_digit, after_zero}
use Rattle.sf_item.specs.Radices.{radices, first_radix, radix_of_letter, prefix_radix}
use Rattle.sf_item.specs.Scan.{FitsLeft, HoldsNumber, Shows, ShowsNext}
use Rattle.sf_item.specs.Tests.{read, integer_in, integer_at, is_within, shape_begins, shape_matches, can_take, has_item}
use Rattle.sf_item.specs.Wholes.{EndsWithin, NoneEndsWithin, ItemWithin, NoItemWithin, ReadsIn, DigitsOf, LongDigits, signed_as, SignOf}
use Rattle.sf_item.specs.Wholes.{HasPrefixAt, HexOpening, led_by}
use Rattle.sf_item.proofs.Integers.{by_lt, by_eq, by_sign, by_prefix, plain_zero, zero_first}
use Rattle.sf_item.proofs.Deciding.{integer_at_is, integer_from_at, tests_matches}
use Rattle.sf_item.proofs.Fronts.{read_more, one_more}
use Rattle.sf_item.proofs.ItemLaws.{item_ends, item_stays, item_whole, same_item}
use Rattle.sf_item.proofs.Runs.{run_passes, run_stops, run_within}
use Rattle.sf_item.proofs.Readings.{rest, rest_is, length_rest}
use Rattle.sf_item.proofs.Scanning.{read_push, read_nothing, shows_none, shows_some}

-- decimal digits were read whose number is m: so it is told, and so it goes on
pub record IsDecimal (lead : Lead) (sign : Bool) (m : ℕ) (p : Progress) : Type 0 where
  pub integer : integer_of p ≡ Some (sign, m)
  pub goes : (b : ℕ) → advance (led_by lead Dec) p b ≡ with_digit sign 10 m b

-- so far an integer was read, and it is such
abbrev pub ReadsTo : Lead → Bool → ℕ → Option Progress → Type 0
ReadsTo lead sign m o = (p : Progress) × (o ≡ Some p) × IsDecimal lead sign m p

-- ---- the first digit

first_digit : (lead : Lead) (sign : Bool) (b : ℕ) → digit_value b < 10
    → ReadsTo lead sign (0 * 10 + digit_value b) (with_first_digit (led_by lead Dec) sign b)
first_digit lead sign b low =
    by_eq b 48 (λ v. ReadsTo lead sign (0 * 10 + digit_value b) (cond v (Some (Zero sign)) (with_digit sign 10 0 b)))
    (λ is. subst (λ c. ReadsTo lead sign (0 * 10 + digit_value c) (Some (Zero sign))) (sym is)
    (Zero sign, refl, record { integer = refl; goes = λ c. plain_zero (led_by lead Dec) sign c refl refl }))
    (λ other.
    by_lt (digit_value b) 10
    (λ v. ReadsTo lead sign (0 * 10 + digit_value b) (cond v (Some (Digits sign 10 (0 * 10 + digit_value b))) None))
    (λ below. (Digits sign 10 (0 * 10 + digit_value b), refl, record { integer = refl; goes = λ c. refl }))
    (λ above. absurd (omega (arith, low, above))))

digit_more : (sign : Bool) (m b : ℕ) → digit_value b < 10 → with_digit sign 10 m b ≡ Some (Digits sign 10 (m * 10 + digit_value b))
digit_more sign m b low =
    by_lt (digit_value b) 10 (λ v. ◌≡◌ {A = Option Progress} (cond v (Some (Digits sign 10 (m * 10 + digit_value b))) None)
    (Some (Digits sign 10 (m * 10 + digit_value b))))
    (λ below. refl)
    (λ above. absurd (omega (arith, low, above)))

digit_ends : (sign : Bool) (radix m b : ℕ) → radix ≤ digit_value b → with_digit sign radix m b ≡ None
digit_ends sign radix m b high =
    by_lt (digit_value b) radix (λ v. ◌≡◌ {A = Option Progress} (cond v (Some (Digits sign radix (m * radix + digit_value b))) None) None)
    (λ below. absurd (omega (arith, high, below)))
    (λ above. refl)

-- what goes on as digits begins with one
begins_low : (numeral : Numeral) (sign : Bool) (radix m n b : ℕ) (t : List ℕ)
    → read numeral (Some (Digits sign radix m)) (b ∷ t) ≡ Some (Digits sign radix n) → digit_value b < radix
begins_low numeral sign radix m n b t reads =
    by_lt (digit_value b) radix (λ v. read numeral (cond v (Some (Digits sign radix (m * radix + digit_value b))) None) t
    ≡ Some (Digits sign radix n) → digit_value b < radix)
    (λ below h. below)
    (λ above h. absurd (nothing h))
    reads
  where
    nothing : ◌≡◌ {A = Option Progress} None (Some (Digits sign radix n)) → ⊥
    nothing h = cc

-- a first byte that is no sign
bare_first : (numeral : Numeral) (b : ℕ) → (has_plus numeral.lead ≡ true → b ≢ 43) → (has_minus numeral.lead ≡ true → b ≢ 45)
    → advance numeral Start b ≡ with_first_digit numeral false b
bare_first numeral b no_plus no_minus =
    by_sign numeral b (λ o. o ≡ with_first_digit numeral false b) (λ can is. absurd (no_plus can is))
    (λ can is. absurd (no_minus can is)) (λ _ _. refl)

plain_first : (numeral : Numeral) (b : ℕ) → digit_value b < 16 → advance numeral Start b ≡ with_first_digit numeral false b
plain_first numeral b low = bare_first numeral b (λ _. no_plus) (λ _. no_minus)
  where
    no_plus : b ≡ 43 → ⊥
    no_plus is = let high : digit_value 43 < 16 = subst (λ c. digit_value c < 16) is low in omega (arith, high)

    no_minus : b ≡ 45 → ⊥
    no_minus is = let high : digit_value 45 < 16 = subst (λ c. digit_value c < 16) is low in omega (arith, high)

-- a byte that is no digit is no first digit
first_ends : (numeral : Numeral) (sign : Bool) (b : ℕ) → 0 < first_radix numeral → first_radix numeral ≤ digit_value b
    → with_first_digit numeral sign b ≡ None
first_ends numeral sign b some high =
    by_eq b 48 (λ v. ◌≡◌ {A = Option Progress} (cond v (Some (Zero sign)) (with_digit sign (first_radix numeral) 0 b)) None)
    (λ is. absurd (let none : first_radix numeral ≤ digit_value 48 = subst (λ c. first_radix numeral ≤ digit_value c) is high in
    omega (arith, none, some)))
    (λ other. digit_ends sign (first_radix numeral) 0 b high)

-- nor does it follow a sign
sign_ends : (numeral : Numeral) (count : ℕ) (sign : Bool) (b : ℕ) → 0 < first_radix numeral → first_radix numeral ≤ digit_value b
    → (count ≡ 0 → (has_plus numeral.lead ≡ true → b ≢ 43) × (has_minus numeral.lead ≡ true → b ≢ 45))
    → advance numeral (signed_as count sign) b ≡ None
sign_ends numeral zero sign b some high bare = let (no_plus, no_minus) = bare refl in
    bare_first numeral b no_plus no_minus ∙ first_ends numeral false b some high
sign_ends numeral (suc k) sign b some high bare = first_ends numeral sign b some high

-- ---- digits after what was read

same_number : (sign : Bool) (radix m n : ℕ) → ◌≡◌ {A = Option Progress} (Some (Digits sign radix m)) (Some (Digits sign radix n)) → m ≡ n
same_number sign radix m n h = cc

decimal_goes : (lead : Lead) (sign : Bool) (m n : ℕ) (p : Progress) (t : List ℕ) → IsDecimal lead sign m p
    → read (led_by lead Dec) (Some (Digits sign 10 m)) t ≡ Some (Digits sign 10 n)
    → ReadsTo lead sign n (read (led_by lead Dec) (Some p) t)
decimal_goes lead sign m n p [] is reads = (p, refl, subst (λ k. IsDecimal lead sign k p) (same_number sign 10 m n reads) is)
decimal_goes lead sign m n p (b ∷ t) is reads = (
  Digits sign 10 n,
  ap (λ o. read (led_by lead Dec) o t) (is.goes b) ∙ reads,
  record { integer = refl; goes = λ c. refl },
)

signed_goes : (lead : Lead) (sign : Bool) (n b : ℕ) (t : List ℕ)
    → read (led_by lead Dec) (Some (Digits sign 10 0)) (b ∷ t) ≡ Some (Digits sign 10 n)
    → ReadsTo lead sign n (read (led_by lead Dec) (with_first_digit (led_by lead Dec) sign b) t)
signed_goes lead sign n b t reads =
    let low = begins_low (led_by lead Dec) sign 10 0 n b t reads in
    let (p, is, decimal) = first_digit lead sign b low in
    let next : read (led_by lead Dec) (Some (Digits sign 10 (0 * 10 + digit_value b))) t ≡ Some (Digits sign 10 n) =
    ap (λ o. read (led_by lead Dec) o t) (sym (digit_more sign 0 b low)) ∙ reads in
    let (q, goes, ends) = decimal_goes lead sign (0 * 10 + digit_value b) n p t decimal next in
    (q, ap (λ o. read (led_by lead Dec) o t) is ∙ goes, ends)

-- after a sign or none
digits_go : (lead : Lead) (start : ℕ) (sign : Bool) (t : List ℕ) (n : ℕ) → (start ≡ 0 → sign ≡ false) → 0 < length t
    → read (led_by lead Dec) (Some (Digits sign 10 0)) t ≡ Some (Digits sign 10 n)
    → ReadsTo lead sign n (read (led_by lead Dec) (Some (signed_as start sign)) t)
digits_go lead start sign [] n plain some reads = absurd (omega (arith, some))
digits_go lead zero sign (b ∷ t) n plain some reads =
    let low = begins_low (led_by lead Dec) sign 10 0 n b t reads in
    let (q, goes, ends) = signed_goes lead sign n b t reads in (
      q,
      ap (λ o. read (led_by lead Dec) o t) (plain_first (led_by lead Dec) b (omega (arith, low))
          ∙ ap (λ s. with_first_digit (led_by lead Dec) s b) (sym (plain refl))) ∙ goes,
      ends,
    )
digits_go lead (suc k) sign (b ∷ t) n plain some reads = signed_goes lead sign n b t reads

-- ---- the opening

-- digits were read whose number is n, after how far the integer was read
pub record Goes (numeral : Numeral) (radix : ℕ) (front : List ℕ) (state : Progress) (start count n : ℕ) (sign : Bool) : Type 0 where
  pub p : Progress
  pub reads : read numeral (Some state) (take count (rest front start)) ≡ Some p
  pub told : integer_of p ≡ Some (sign, n)
  pub ends : start + count < length front → radix ≤ digit_value (get_or front (start + count) 0)
      → advance numeral p (get_or front (start + count) 0) ≡ None

-- so many bytes were read, which are no integer, and what follows them goes on with digits of the radix or not at all
pub record Opened (numeral : Numeral) (radix : ℕ) (front : List ℕ) (start : ℕ) (sign : Bool) : Type 0 where
  pub inside : start ≤ length front
  pub state : Progress
  pub taken : read numeral (Some Start) (take start front) ≡ Some state
  pub untold : integer_of state ≡ None
  pub empty : start < length front → radix ≤ digit_value (get_or front start 0) → advance numeral state (get_or front start 0) ≡ None
  pub goes : (count n : ℕ) → 0 < count → count ≤ length (rest front start) → ReadsIn radix 0 (take count (rest front start)) n
      → Goes numeral radix front state start count n sign

sign_untold : (count : ℕ) (sign : Bool) → integer_of (signed_as count sign) ≡ None
sign_untold zero sign = refl
sign_untold (suc k) sign = refl

-- a sign or none, before a byte that is no digit
signed_ends : (numeral : Numeral) (front : List ℕ) (start : ℕ) (sign : Bool) → SignOf numeral.lead front start sign
    → 0 < first_radix numeral
    → start < length front → first_radix numeral ≤ digit_value (get_or front start 0)
    → advance numeral (signed_as start sign) (get_or front start 0) ≡ None
signed_ends numeral front start sign s some below high = sign_ends numeral start sign (get_or front start 0) some high bare
  where
    bare : start ≡ 0
        → (has_plus numeral.lead ≡ true → get_or front start 0 ≢ 43) × (has_minus numeral.lead ≡ true → get_or front start 0 ≢ 45)
    bare none =
        subst (λ n. (has_plus numeral.lead ≡ true → get_or front n 0 ≢ 43) × (has_minus numeral.lead ≡ true → get_or front n 0 ≢ 45))
        (sym none)
        (s.bare none (omega (arith, below)))

pub decimal_opened : (lead : Lead) (front : List ℕ) (start : ℕ) (sign : Bool) → SignOf lead front start sign
    → Opened (led_by lead Dec) 10 front start sign
decimal_opened lead front start sign s = record {
  inside = s.within;
  state = signed_as start sign;
  taken = s.read Dec;
  untold = sign_untold start sign;
  empty = signed_ends (led_by lead Dec) front start sign s (omega arith);
  goes = goes;
}
  where
    goes : (count n : ℕ) → 0 < count → count ≤ length (rest front start) → ReadsIn 10 0 (take count (rest front start)) n
        → Goes (led_by lead Dec) 10 front (signed_as start sign) start count n sign
    goes count n some most reads =
        let t = take count (rest front start) in
        let (q, is, decimal) = digits_go lead start sign t n s.plain (rw (length-take-le count (rest front start) most) some)
        (reads (led_by lead Dec) sign) in
        record {
          p = q;
          reads = is;
          told = decimal.integer;
          ends = λ below high. decimal.goes (get_or front (start + count) 0) ∙ digit_ends sign 10 n (get_or front (start + count) 0) high;
        }

-- ---- the width

fits_within : (width : Option ℕ) (k : ℕ) → FitsLeft width k → is_within width k ≡ true
fits_within None k fits = refl
fits_within (Some w) k fits = grind (arith, nat_tests, fits)

beyond : (width : Option ℕ) (k : ℕ) → width ≡ Some k → is_within width (k + 1) ≡ false
beyond width k is = subst (λ v. is_within v (k + 1) ≡ false) (sym is) (grind (arith, nat_tests))

abbrev a_conversion : Shape → Option ℕ → Conversion
a_conversion shape width = record { shape = shape; kind = I32; width = width; slot = None; optional = false; opens = None; column = false }

abbrev magnitude_in : Option (Bool × ℕ) → ℕ
magnitude_in None = 0
magnitude_in (Some i) = i.1

-- ---- the item

-- the front of a piece that the width lets through
module _ (piece front : List ℕ) (width : Option ℕ) (cut : front ≡ take (length front) piece) (short : length front ≤ length piece)
    (room : (k : ℕ) → k ≤ length front → FitsLeft width k) (whole : length front < length piece → width ≡ Some (length front)) where
  same_front : (k : ℕ) → k ≤ length front → take k front ≡ take k piece
  same_front k fits = ap (take k) cut ∙ take-take k (length front) piece fits

  -- the first k bytes begin a matching sequence, and those with the next one are too long or begin none
  module _ (shape : Shape) (k : ℕ) (fits : k ≤ length front) (begins : shape_begins shape width (take k front) ≡ true)
      (stops : k < length front → shape_begins shape width (take (k + 1) front) ≡ false) where
    within : is_within width k ≡ true
    within = fits_within width k (room k fits)

    no_more : k < length piece → (is_within width (k + 1) && shape_begins shape width (take (k + 1) piece)) ≡ false
    no_more behind =
        by_lt k (length front) (λ v. (is_within width (k + 1) && shape_begins shape width (take (k + 1) piece)) ≡ false)
        (λ below. by_second (is_within width (k + 1)) (ap (shape_begins shape width) (sym (same_front (k + 1) (omega (arith, below))))
        ∙ stops below))
        (λ above.
        let all : k ≡ length front = omega (arith, fits, above) in
        ap (λ v. v && shape_begins shape width (take (k + 1) piece))
        (beyond width k (subst (λ n. width ≡ Some n) (sym all) (whole (omega (arith, all, behind))))))
      where
        by_second : (a : Bool) {b : Bool} → b ≡ false → (a && b) ≡ false
        by_second true e = e
        by_second false e = refl

    can_take_is : (c : Conversion) → c.shape ≡ shape → c.width ≡ width → (g : List ℕ)
        → can_take c g ≡ (is_within width (length g) && shape_begins shape width g)
    can_take_is c same same_width g = rw (same, same_width) refl

    can : (c : Conversion) → c.shape ≡ shape → c.width ≡ width → can_take c (take k piece) ≡ true
    can c same same_width =
        can_take_is c same same_width (take k piece) ∙ rw (length-take-le k piece (omega (arith, fits, short)), within)
        (ap (shape_begins shape width) (sym (same_front k fits)) ∙ begins)

    cannot : (c : Conversion) → c.shape ≡ shape → c.width ≡ width → k < length piece → can_take c (take (k + 1) piece) ≡ false
    cannot c same same_width behind =
        can_take_is c same same_width (take (k + 1) piece) ∙ rw (length-take-le (k + 1) piece (omega (arith, behind))) (no_more behind)

    -- they are the item of the piece
    item_is : (c : Conversion) → c.shape ≡ shape → c.width ≡ width → IsProperShape c.shape → IsItem c piece k
    item_is c same same_width proper =
        by_lt k (length piece) (λ _. IsItem c piece k)
        (λ behind. item_ends c proper piece k behind (can c same same_width) (cannot c same same_width behind))
        (λ above. item_whole c proper piece k (omega (arith, above, fits, short)) (can c same same_width))

    pub item_within : k < length piece → (c : Conversion) → c.shape ≡ shape → c.width ≡ width → IsProperShape shape → (z : List ℕ)
        → IsItem c (piece ++ z) k
    item_within behind c same same_width proper z = item_stays c own piece z k (item_is c same same_width own) behind
      where
        own : IsProperShape c.shape
        own = subst IsProperShape (sym same) proper

    -- and no other item is
    pub only_item : has_item shape ≡ true → IsProperShape shape → (n : ℕ)
        → ((c : Conversion) → c.shape ≡ shape → c.width ≡ width → (z : List ℕ) → IsItem c (piece ++ z) n) → n ≡ k
    only_item takes proper n item =
        let c : Conversion = a_conversion shape width in
        same_item c takes proper piece n k (subst (λ x. IsItem c x n) (append-nil piece) (item c refl refl [])) (item_is c refl refl proper)

  -- an integer was read up to a byte with which it doesn't go on
  module _ (numeral : Numeral) (k : ℕ) (fits : k ≤ length front) (q : Progress) (taken : read numeral (Some Start) (take k front) ≡ Some q)
      (ends : k < length front → advance numeral q (get_or front k 0) ≡ None) where
    stops : k < length front → shape_begins (Int numeral) width (take (k + 1) front) ≡ false
    stops below =
        ap is_some (ap (read numeral (Some Start)) (sym (one_more [] front k 0 below))
        ∙ read_push numeral (take k front) (get_or front k 0) q taken ∙ ends below)

    told_is : integer_at numeral (take k piece) ≡ integer_of q
    told_is = ap (integer_at numeral) (sym (same_front k fits)) ∙ ap integer_in taken

    pub ends_within : (sign : Bool) (m : ℕ) → integer_of q ≡ Some (sign, m) → k < length piece
        → EndsWithin numeral width piece (record { bytes = k; negative = sign; magnitude = m })
    ends_within sign m told behind = record {
      behind = behind;
      item = λ c shape same_width. item_within (Int numeral) k fits (ap is_some taken) stops behind c shape same_width tt;
      integer = integer_from_at numeral (take k piece) sign m (told_is ∙ told);
    }

    -- no other integer ends within the piece
    pub only_end : (w : WholeInteger) → EndsWithin numeral width piece w → (w.bytes ≡ k) × (integer_of q ≡ Some (w.negative, w.magnitude))
    only_end w is =
        let same = only_item (Int numeral) k fits (ap is_some taken) stops refl tt w.bytes is.item in (
          same,
          sym told_is ∙ ap (λ n. integer_at numeral (take n piece)) (sym same)
              ∙ integer_at_is numeral (take w.bytes piece) w.negative w.magnitude is.integer,
        )

  -- digits after an opening
  module _ (numeral : Numeral) (radix start count number : ℕ) (sign : Bool) (opened : Opened numeral radix front start sign)
      (digits : DigitsOf radix (rest front start) count number) where
    far : start + count ≤ length front
    far = let long = length_rest front start in let most = digits.within in let inside = opened.inside in omega (arith, most, long, inside)

    parts : take (start + count) front ≡ take start front ++ take count (rest front start)
    parts = take-add start count front ∙ ap (λ d. take start front ++ take count d) (sym (rest_is front start))

    next_is : get_or (rest front start) count 0 ≡ get_or front (start + count) 0
    next_is = ap (λ d. get_or d count 0) (rest_is front start) ∙ get_or-drop start front count 0

    next : start + count < length front → radix ≤ digit_value (get_or front (start + count) 0)
    next below =
        subst (λ b. radix ≤ digit_value b) next_is
        (digits.stops (let long = length_rest front start in let inside = opened.inside in omega (arith, below, long, inside)))

    -- how far the integer is read with them
    record IsRead : Type 0 where
      pub q : Progress
      pub taken : read numeral (Some Start) (take (start + count) front) ≡ Some q
      pub told : 0 < count → integer_of q ≡ Some (sign, number)
      pub untold : count ≡ 0 → integer_of q ≡ None
      pub ends : start + count < length front → advance numeral q (get_or front (start + count) 0) ≡ None

    no_digits : count ≡ 0 → IsRead
    no_digits none =
        let all : start + count ≡ start = omega (arith, none) in
        record {
          q = opened.state;
          taken = ap (λ n. read numeral (Some Start) (take n front)) all ∙ opened.taken;
          told = λ some. absurd (omega (arith, none, some));
          untold = λ _. opened.untold;
          ends = λ below. subst (λ n. advance numeral opened.state (get_or front n 0) ≡ None) (sym all)
              (opened.empty (omega (arith, below, none)) (subst (λ n. radix ≤ digit_value (get_or front n 0)) all (next below)));
        }

    some_digits : 0 < count → IsRead
    some_digits some =
        let g = opened.goes count number some digits.within digits.read in
        record {
          q = g.p;
          taken = ap (read numeral (Some Start)) parts ∙ read_more numeral (Some Start) (take start front) (take count (rest front start))
              ∙ ap (λ o. read numeral o (take count (rest front start))) opened.taken ∙ g.reads;
          told = λ _. g.told;
          untold = λ none. absurd (omega (arith, none, some));
          ends = λ below. g.ends below (next below);
        }

    is_read : IsRead
    is_read = elim (eq-zero-or-pos count) [ inl none ↦ no_digits none | inr some ↦ some_digits some ]

    pub whole_integer : 0 < count → start + count < length piece → EndsWithin numeral width piece
        (record { bytes = start + count; negative = sign; magnitude = number })
    whole_integer some behind = ends_within numeral (start + count) far is_read.q is_read.taken is_read.ends sign number
        (is_read.told some) behind

    pub only_integer : (w : WholeInteger) → EndsWithin numeral width piece w
        → (start + count < length piece) × (0 < count) × (w.magnitude ≡ number)
    only_integer w is = by_count (eq-zero-or-pos count)
      where
        end : (w.bytes ≡ start + count) × (integer_of is_read.q ≡ Some (w.negative, w.magnitude))
        end = only_end numeral (start + count) far is_read.q is_read.taken is_read.ends w is

        nothing : ◌≡◌ {A = Option (Bool × ℕ)} None (Some (w.negative, w.magnitude)) → ⊥
        nothing h = cc

        same : ◌≡◌ {A = Option (Bool × ℕ)} (Some (w.negative, w.magnitude)) (Some (sign, number)) → w.magnitude ≡ number
        same h = ap magnitude_in h

        by_count : (count ≡ 0) ⊎ (0 < count) → (start + count < length piece) × (0 < count) × (w.magnitude ≡ number)
        by_count (inl none) = absurd (nothing (sym (is_read.untold none) ∙ end.1))
        by_count (inr some) = (subst (λ n. n < length piece) end.0 is.behind, some, same (sym end.1 ∙ is_read.told some))

    -- none ends within the piece where it has no digits, or they end with the piece
    pub no_integer : (0 < count → start + count < length piece → ⊥) → NoneEndsWithin numeral width piece
    no_integer none w is = let (behind, some, _) = only_integer w is in absurd (none some behind)

    -- nor a small one, where their number is large
    pub large_integer : 2 ^ 64 ≤ number → NoneEndsWithin numeral width piece
    large_integer large w is = let (_, _, same) = only_integer w is in omega (arith, large, same)

-- ---- the opening of a hexadecimal integer

-- digits were read: a 0 that may be that of a prefix, or others
abbrev HexRead : Bool → List ℕ → ℕ → Progress → Type 0
HexRead sign t n p = (p ≡ Digits sign 16 n) ⊎ (t ≡ 48 ∷ []) × (p ≡ Zero sign) × (n ≡ 0)

no_letter : (b : ℕ) → digit_value b < 16 → (b ≡ 120) ⊎ (b ≡ 88) → ⊥
no_letter b low (inl is) = let high : digit_value 120 < 16 = subst (λ c. digit_value c < 16) is low in omega (arith, high)
no_letter b low (inr is) = let high : digit_value 88 < 16 = subst (λ c. digit_value c < 16) is low in omega (arith, high)

zero_goes : (lead : Lead) (sign : Bool) (t : List ℕ) (n : ℕ)
    → read (led_by lead Hex) (Some (Digits sign 16 0)) (48 ∷ t) ≡ Some (Digits sign 16 n)
    → (p : Progress) × (read (led_by lead Hex) (Some (Zero sign)) t ≡ Some p) × HexRead sign (48 ∷ t) n p
zero_goes lead sign [] n reads = (Zero sign, refl, inr (refl, refl, sym (same_number sign 16 0 n reads)))
zero_goes lead sign (b ∷ t) n reads =
    let low = begins_low (led_by lead Hex) sign 16 0 n b t reads in (
      Digits sign 16 n,
      by_prefix (led_by lead Hex) b (λ o. read (led_by lead Hex) (after_zero sign 16 b o) t ≡ Some (Digits sign 16 n))
          (λ _ x. absurd (no_letter b low x))
          (λ _ other. reads) reads,
      inl refl,
    )

first_goes : (lead : Lead) (sign : Bool) (b : ℕ) (t : List ℕ) (n : ℕ)
    → read (led_by lead Hex) (Some (Digits sign 16 0)) (b ∷ t) ≡ Some (Digits sign 16 n)
    → (p : Progress) × (read (led_by lead Hex) (with_first_digit (led_by lead Hex) sign b) t ≡ Some p) × HexRead sign (b ∷ t) n p
first_goes lead sign b t n reads =
    by_eq b 48 (λ v. (p : Progress) × (read (led_by lead Hex) (cond v (Some (Zero sign)) (with_digit sign 16 0 b)) t ≡ Some p)
    × HexRead sign (b ∷ t) n p)
    (λ is.
    subst (λ c. (p : Progress) × (read (led_by lead Hex) (Some (Zero sign)) t ≡ Some p) × HexRead sign (c ∷ t) n p) (sym is)
    (zero_goes lead sign t n (subst (λ c. read (led_by lead Hex) (Some (Digits sign 16 0)) (c ∷ t) ≡ Some (Digits sign 16 n)) is reads)))
    (λ other. (Digits sign 16 n, reads, inl refl))

-- after a sign or none
hex_digits_go : (lead : Lead) (start : ℕ) (sign : Bool) (t : List ℕ) (n : ℕ) → (start ≡ 0 → sign ≡ false) → 0 < length t
    → read (led_by lead Hex) (Some (Digits sign 16 0)) t ≡ Some (Digits sign 16 n)
    → (p : Progress) × (read (led_by lead Hex) (Some (signed_as start sign)) t ≡ Some p) × HexRead sign t n p
hex_digits_go lead start sign [] n plain some reads = absurd (omega (arith, some))
hex_digits_go lead zero sign (b ∷ t) n plain some reads =
    let low = begins_low (led_by lead Hex) sign 16 0 n b t reads in
    let (p, goes, is) = first_goes lead sign b t n reads in (
      p,
      ap (λ o. read (led_by lead Hex) o t)
          (plain_first (led_by lead Hex) b low ∙ ap (λ s. with_first_digit (led_by lead Hex) s b) (sym (plain refl))) ∙ goes,
      is,
    )
hex_digits_go lead (suc k) sign (b ∷ t) n plain some reads = first_goes lead sign b t n reads

-- what ends them
hex_read_ends : (lead : Lead) (sign : Bool) (t : List ℕ) (n : ℕ) (p : Progress) (b : ℕ) → HexRead sign t n p → 16 ≤ digit_value b
    → (t ≡ 48 ∷ [] → has_prefix lead ≡ true → (b ≡ 120) ⊎ (b ≡ 88) → ⊥) → advance (led_by lead Hex) p b ≡ None
hex_read_ends lead sign t n p b (inl is) high plain = ap (λ q. advance (led_by lead Hex) q b) is ∙ digit_ends sign 16 n b high
hex_read_ends lead sign t n p b (inr zero_digit) high plain =
    ap (λ q. advance (led_by lead Hex) q b) zero_digit.1
    ∙ by_prefix (led_by lead Hex) b (λ o. after_zero sign 16 b o ≡ None) (λ can x. absurd (plain zero_digit.0 can x))
    (λ _ other. digit_ends sign 16 0 b high)
    (digit_ends sign 16 0 b high)

hex_told : (sign : Bool) (t : List ℕ) (n : ℕ) (p : Progress) → HexRead sign t n p → integer_of p ≡ Some (sign, n)
hex_told sign t n p (inl is) = ap integer_of is
hex_told sign t n p (inr zero_digit) = ap integer_of zero_digit.1 ∙ ap (λ m. Some (sign, m)) (sym zero_digit.2)

module _ (lead : Lead) (front : List ℕ) (start : ℕ) (sign : Bool) where
  -- no prefix stands after the sign
  plain_opened : SignOf lead front start sign → (has_prefix lead ≡ true → HasPrefixAt front start → ⊥)
      → Opened (led_by lead Hex) 16 front start sign
  plain_opened s plain = record {
    inside = s.within;
    state = signed_as start sign;
    taken = s.read Hex;
    untold = sign_untold start sign;
    empty = signed_ends (led_by lead Hex) front start sign s (omega arith);
    goes = goes;
  }
    where
      zero_at : (count : ℕ) → 0 < count → take count (rest front start) ≡ 48 ∷ [] → get_or front start 0 ≡ 48
      zero_at count some one =
          let same : start + 0 ≡ start = omega arith in
          ap (λ n. get_or front n 0) (sym same) ∙ sym (get_or-drop start front 0 0) ∙ ap (λ d. get_or d 0 0) (sym (rest_is front start))
          ∙ sym (get_or-take count (rest front start) 0 0 some) ∙ ap (λ f. get_or f 0 0) one

      goes : (count n : ℕ) → 0 < count → count ≤ length (rest front start) → ReadsIn 16 0 (take count (rest front start)) n
          → Goes (led_by lead Hex) 16 front (signed_as start sign) start count n sign
      goes count n some most reads =
          let t = take count (rest front start) in
          let long : length t ≡ count = length-take-le count (rest front start) most in
          let (p, is, read) = hex_digits_go lead start sign t n s.plain (rw long some) (reads (led_by lead Hex) sign) in
          record {
            p = p;
            reads = is;
            told = hex_told sign t n p read;
            ends = λ below high. hex_read_ends lead sign t n p (get_or front (start + count) 0) read high
                (λ one can letter.
                let single : count ≡ 1 = sym long ∙ ap length one in
                plain can (
                  omega (arith, below, single),
                  zero_at count some one,
                  subst (λ n. (get_or front (start + n) 0 ≡ 120) ⊎ (get_or front (start + n) 0 ≡ 88)) single letter,
                ));
          }

  behind_prefix : (t : List ℕ) (n : ℕ) → 0 < length t → read (led_by lead Hex) (Some (Digits sign 16 0)) t ≡ Some (Digits sign 16 n)
      → read (led_by lead Hex) (Some (Prefix sign 16)) t ≡ Some (Digits sign 16 n)
  behind_prefix [] n some is = absurd (omega (arith, some))
  behind_prefix (b ∷ t) n some is = is

  -- a prefix does
  prefixed_opened : start ≤ length front → read (led_by lead Hex) (Some Start) (take start front) ≡ Some (Prefix sign 16)
      → Opened (led_by lead Hex) 16 front start sign
  prefixed_opened inside taken = record {
    inside = inside;
    state = Prefix sign 16;
    taken = taken;
    untold = refl;
    empty = λ below high. digit_ends sign 16 0 (get_or front start 0) high;
    goes = λ count n some most reads. record {
      p = Digits sign 16 n;
      reads = behind_prefix (take count (rest front start)) n (rw (length-take-le count (rest front start) most) some)
          (reads (led_by lead Hex) sign);
      told = refl;
      ends = λ below high. digit_ends sign 16 n (get_or front (start + count) 0) high;
    };
  }

  pub hex_opened : HexOpening lead front start sign → Opened (led_by lead Hex) 16 front start sign
  hex_opened (inl h) = prefixed_opened h.0 h.1
  hex_opened (inr h) = plain_opened h.0 h.1

-- the letter of the prefix, where that may stand there
prefix_letter : (lead : Lead) (letter : ℕ) → has_prefix lead ≡ true → (letter ≡ 120) ⊎ (letter ≡ 88)
    → prefix_radix (led_by lead Hex) letter ≡ Some 16
prefix_letter lead letter can is =
    ap (λ v. cond v (radix_of_letter (radices Hex) letter) None) can ∙ of_letter is
  where
    of_letter : (letter ≡ 120) ⊎ (letter ≡ 88) → radix_of_letter (radices Hex) letter ≡ Some 16
    of_letter (inl is) = ap (radix_of_letter (radices Hex)) is
    of_letter (inr is) = ap (radix_of_letter (radices Hex)) is

-- the prefix after a sign or none
prefix_read : (lead : Lead) (start letter : ℕ) (sign : Bool) → (start ≡ 0 → sign ≡ false) → has_prefix lead ≡ true
    → (letter ≡ 120) ⊎ (letter ≡ 88) → read (led_by lead Hex) (Some (signed_as start sign)) (48 ∷ letter ∷ []) ≡ Some (Prefix sign 16)
prefix_read lead start letter sign plain can is =
    ap (λ o. read (led_by lead Hex) o (letter ∷ [])) (zero_after start plain)
    ∙ ap (λ o. read (led_by lead Hex) (after_zero sign 16 letter o) []) (prefix_letter lead letter can is)
  where
    zero_after : (start : ℕ) → (start ≡ 0 → sign ≡ false) → advance (led_by lead Hex) (signed_as start sign) 48 ≡ Some (Zero sign)
    zero_after zero plain = zero_first (led_by lead Hex) ∙ ap (λ s. Some (Zero s)) (sym (plain refl))
    zero_after (suc k) plain = refl

pub opens_prefixed : (lead : Lead) (bytes : List ℕ) (start : ℕ) (sign : Bool) → has_prefix lead ≡ true → SignOf lead bytes start sign
    → HasPrefixAt bytes start
    → HexOpening lead bytes (start + 2) sign
opens_prefixed lead bytes start sign can s at =
    let below = at.0 in
    let letter = get_or bytes (start + 1) 0 in
    let first : take start bytes ++ get_or bytes start 0 ∷ [] ≡ take (start + 1) bytes = one_more [] bytes start 0 (omega (arith, below)) in
    let second : take (start + 1) bytes ++ letter ∷ [] ≡ take (start + 1 + 1) bytes = one_more [] bytes (start + 1) 0 below in
    let two : start + 2 ≡ start + 1 + 1 = omega arith in
    let parts : take start bytes ++ 48 ∷ letter ∷ [] ≡ take (start + 2) bytes =
    ap (λ b. take start bytes ++ b ∷ letter ∷ []) (sym at.1)
    ∙ sym (append_assoc (take start bytes) (get_or bytes start 0 ∷ []) (letter ∷ []))
    ∙ ap (λ f. f ++ letter ∷ []) first ∙ second ∙ ap (λ n. take n bytes) (sym two) in
    inl (
      omega (arith, below),
      ap (read (led_by lead Hex) (Some Start)) (sym parts) ∙ read_more (led_by lead Hex) (Some Start) (take start bytes) (48 ∷ letter ∷ [])
          ∙ ap (λ o. read (led_by lead Hex) o (48 ∷ letter ∷ [])) (s.read Hex)
          ∙ prefix_read lead start letter sign s.plain can at.2,
    )

-- with one hexadecimal digit more
pub hex_read : (numeral : Numeral) (sign : Bool) (piece : List ℕ) (i before value digit : ℕ) → i < length piece
    → digit_value (slice_index_or piece i 0) < 16 → digit ≡ digit_value (slice_index_or piece i 0)
    → read numeral (Some (Digits sign 16 before)) (take i piece) ≡ Some (Digits sign 16 value)
    → read numeral (Some (Digits sign 16 before)) (take (i + 1) piece) ≡ Some (Digits sign 16 (value * 16 + digit))
hex_read numeral sign piece i before value digit below is_digit same is =
    let b = slice_index_or piece i 0 in
    ap (read numeral (Some (Digits sign 16 before))) (sym (one_more [] piece i 0 below))
    ∙ read_more numeral (Some (Digits sign 16 before)) (take i piece) (b ∷ [])
    ∙ ap (λ o. read numeral o (b ∷ [])) is
    ∙ read_nothing numeral (with_digit sign 16 value b)
    ∙ by_lt (digit_value b) 16 (λ v. cond v (Some (Digits sign 16 (value * 16 + digit_value b))) None
    ≡ Some (Digits sign 16 (value * 16 + digit_value b)))
    (λ _. refl) (λ above. absurd (omega (arith, is_digit, above)))
    ∙ ap (λ d. Some (Digits sign 16 (value * 16 + d))) (sym same)

-- ---- items of bytes

matched : (shape : Shape) (width : Option ℕ) (piece : List ℕ) (n : ℕ) → shape_matches shape width (take n piece) ≡ true → (c : Conversion)
    → c.shape ≡ shape → c.width ≡ width → Matches c (take n piece)
matched shape width piece n is c same same_width = (tests_matches c (take n piece)).from (rw (same, same_width) is)

-- a run of bytes that pass the test of the shape
module _ (shape : Shape) (width : Option ℕ) (piece front : List ℕ) (cut : front ≡ take (length front) piece)
    (room : (k : ℕ) → k ≤ length front → FitsLeft width k)
    (whole : length front < length piece → width ≡ Some (length front)) (test : ℕ → Bool)
    (begins : (f : List ℕ) → shape_begins shape width f ≡ list_all test f)
    (n : ℕ) (is : n ≡ prefix_len test front) where
  short : length front ≤ length piece
  short = let long = ap length cut in omega (arith, long, length-take (length front) piece)

  fits : n ≤ length front
  fits = run_within test front n is

  passes : list_all test (take n front) ≡ true
  passes = run_passes test front n is [] refl

  run_ends : n < length front → shape_begins shape width (take (n + 1) front) ≡ false
  run_ends below = begins (take (n + 1) front) ∙ run_stops test front n is [] refl below

  pub run_item : ((f : List ℕ) → shape_matches shape width f ≡ (nat_lt 0 (length f) && list_all test f)) → 0 < n → n < length piece
      → ItemWithin shape width piece n
  run_item matches some behind = record {
    some = some;
    behind = behind;
    item = item_within piece front width cut short room whole shape n fits (begins (take n front) ∙ passes) run_ends behind;
    matches =
        matched shape width piece n (matches (take n piece)
        ∙ rw (length-take-le n piece (omega (arith, behind)), sym (same_front piece front width cut short room whole n fits), passes)
        (grind (arith, nat_tests, some)));
  }

  -- the item is none that ends within the piece, where no byte passes or all do
  pub no_run : has_item shape ≡ true → ((k : ℕ) → ItemWithin shape width piece k → IsProperShape shape) → (0 < n → n < length piece → ⊥)
      → NoItemWithin shape width piece
  no_run takes proper none k h =
      let is_proper = proper k h in
      let same = only_item piece front width cut short room whole shape n fits (begins (take n front) ∙ passes) run_ends takes is_proper k
      (λ c shape_is width_is z. h.item c shape_is width_is is_proper z) in
      let some = h.some in
      let behind = h.behind in
      absurd (none (omega (arith, same, some)) (omega (arith, same, behind)))

-- a set with such an item has a member
pub set_proper : (members : List Bool) (width : Option ℕ) (piece : List ℕ) → ((i : ℕ) → get_or piece i 0 < 256) → (k : ℕ)
    → ItemWithin (Set members) width piece k → IsProperShape (Set members)
set_proper members width [] bytes k h = let behind = h.behind in absurd (omega (arith, behind))
set_proper members width (b ∷ piece) bytes zero h = let some = h.some in absurd (omega (arith, some))
set_proper members width (b ∷ piece) bytes (suc k) h = (b, bytes 0, (h.matches (a_conversion (Set members) width) refl refl).1.0)

-- as many bytes as the width says
pub chars_item : (width : Option ℕ) (piece : List ℕ) (n : ℕ) → 0 < n → n < length piece → n ≡ unwrap_or width 1
    → ItemWithin Chars width piece n
chars_item width piece n some behind is = record {
  some = some;
  behind = behind;
  item = λ c same same_width proper z. item_stays c (subst IsProperShape (sym same) proper) piece z n
      (item c same same_width (subst IsProperShape (sym same) proper)) behind;
  matches = matched Chars width piece n (rw (length-take-le n piece (omega (arith, behind))) (grind (arith, nat_tests, is)));
}
  where
    within : (w : Option ℕ) → n ≡ unwrap_or w 1 → is_within w n ≡ true
    within None e = refl
    within (Some w) e = grind (arith, nat_tests, e)

    by_first : (a b : Bool) → b ≡ false → (a && b) ≡ false
    by_first true b e = e
    by_first false b e = refl

    item : (c : Conversion) → c.shape ≡ Chars → c.width ≡ width → IsProperShape c.shape → IsItem c piece n
    item c same same_width proper =
        item_ends c proper piece n behind
        (rw (same, same_width, length-take-le n piece (omega (arith, behind)), within width is) (grind (arith, nat_tests, is)))
        (rw (same, same_width, length-take-le (n + 1) piece (omega (arith, behind)))
        (by_first (is_within width (n + 1)) (nat_le (n + 1) (unwrap_or width 1)) (grind (arith, nat_tests, is))))

pub no_chars : (width : Option ℕ) (piece : List ℕ) (n : ℕ) → n ≡ unwrap_or width 1 → (0 < n → n < length piece → ⊥)
    → NoItemWithin Chars width piece
no_chars width piece n is none k h =
    let some = h.some in
    let behind = h.behind in
    let long = h.matches (a_conversion Chars width) refl refl in
    let same : k ≡ n = sym (length-take-le k piece (omega (arith, behind))) ∙ long ∙ sym is in
    absurd (none (omega (arith, same, some)) (omega (arith, same, behind)))

-- ---- digits, of whichever number

digits_stay : (numeral : Numeral) (s : Bool) (radix v : ℕ) (t : List ℕ) (q : Progress) → read numeral (Some (Digits s radix v)) t ≡ Some q
    → (n : ℕ) × (q ≡ Digits s radix n) × ReadsIn radix v t n
digits_stay numeral s radix v [] q is = (v, same is, λ b sign. refl)
  where
    same : ◌≡◌ {A = Option Progress} (Some (Digits s radix v)) (Some q) → q ≡ Digits s radix v
    same h = cc
digits_stay numeral s radix v (b ∷ t) q reads =
    by_lt (digit_value b) radix
    (λ o. read numeral (cond o (Some (Digits s radix (v * radix + digit_value b))) None) t ≡ Some q
    → (n : ℕ) × (q ≡ Digits s radix n) × ((other : Numeral) (sign : Bool)
    → read other (cond o (Some (Digits sign radix (v * radix + digit_value b))) None) t ≡ Some (Digits sign radix n)))
    (λ below is. digits_stay numeral s radix (v * radix + digit_value b) t q is)
    (λ above is. absurd (nothing is))
    reads
  where
    nothing : ◌≡◌ {A = Option Progress} None (Some q) → ⊥
    nothing h = cc

digits_stop : (s : Bool) (radix v b : ℕ) → with_digit s radix v b ≡ None → radix ≤ digit_value b
digits_stop s radix v b =
    by_lt (digit_value b) radix (λ o. ◌≡◌ {A = Option Progress} (cond o (Some (Digits s radix (v * radix + digit_value b))) None) None
    → radix ≤ digit_value b)
    (λ below h. absurd (something h))
    (λ above h. above)
  where
    something : ◌≡◌ {A = Option Progress} (Some (Digits s radix (v * radix + digit_value b))) None → ⊥
    something h = cc

-- digits that were read one by one, with a number that may be large
module _ (bytes : List ℕ) (radix count : ℕ) (after : Taken) (within : count ≤ length bytes)
    (reads : ShowsNext (Some (reached.Digits after)) (read (led_by Any Dec) (Some (Digits false radix 0)) (take count bytes)))
    (stops : count < length bytes → ShowsNext None (read (led_by Any Dec) (Some (Digits false radix 0)) (take (count + 1) bytes))) where
  shown : (q : Progress) × (read (led_by Any Dec) (Some (Digits false radix 0)) (take count bytes) ≡ Some q)
      × Shows (reached.Digits after) q
  shown = shows_some (reached.Digits after) (read (led_by Any Dec) (Some (Digits false radix 0)) (take count bytes)) reads

  stayed : (n : ℕ) × (shown.0 ≡ Digits false radix n) × ReadsIn radix 0 (take count bytes) n
  stayed = digits_stay (led_by Any Dec) false radix 0 (take count bytes) shown.0 shown.1

  number_is : shown.2.0 ≡ stayed.0
  number_is = same (sym shown.2.1 ∙ stayed.1)
    where
      same : Digits after.negative after.radix shown.2.0 ≡ Digits false radix stayed.0 → shown.2.0 ≡ stayed.0
      same h = cc

  digits_read : DigitsOf radix bytes count stayed.0
  digits_read = record {
    within = within;
    read = stayed.2;
    stops = λ below.
        let b = get_or bytes count 0 in
        digits_stop false radix stayed.0 b
        (sym (read_nothing (led_by Any Dec) (with_digit false radix stayed.0 b))
        ∙ ap (λ o. read (led_by Any Dec) o (b ∷ [])) (sym (stayed.2 (led_by Any Dec) false))
        ∙ sym (read_more (led_by Any Dec) (Some (Digits false radix 0)) (take count bytes) (b ∷ []))
        ∙ ap (read (led_by Any Dec) (Some (Digits false radix 0))) (one_more [] bytes count 0 below)
        ∙ shows_none (read (led_by Any Dec) (Some (Digits false radix 0)) (take (count + 1) bytes)) (stops below));
  }

  holds : HoldsNumber after.magnitude after.overflowed stayed.0
  holds = subst (HoldsNumber after.magnitude after.overflowed) number_is shown.2.2

  pub long_digits : after.overflowed ≡ true → LongDigits radix bytes
  long_digits over = record {
    count = count;
    number = stayed.0;
    digits = digits_read;
    large = (subst (λ v. HoldsNumber after.magnitude v stayed.0) over holds).1;
  }

  pub short_digits : after.overflowed ≡ false → DigitsOf radix bytes count after.magnitude
  short_digits fits =
      let is : stayed.0 ≡ after.magnitude = subst (λ v. HoldsNumber after.magnitude v stayed.0) fits holds in
      subst (DigitsOf radix bytes count) is digits_read

-- ---- how great a number of so many digits is

tens_more : (k i : ℕ) → 10 ^ i ≤ 10 ^ (k + i)
tens_more zero i = let same : i ≡ 0 + i = omega arith in subst (λ n. 10 ^ i ≤ 10 ^ n) same (omega arith)
tens_more (suc k) i = let same : suc (k + i) ≡ suc k + i = omega arith in
    subst (λ n. 10 ^ i ≤ 10 ^ n) same (let less = tens_more k i in let more : 10 ^ suc (k + i) ≡ 10 * 10 ^ (k + i) =
    pow-succ' 10 (k + i) in omega (arith, less, more))

pub tens : (i : ℕ) → i < 19 → 10 ^ i ≤ 1000000000000000000
tens i below = let all : 18 - i + i ≡ 18 = omega (arith, below) in subst (λ n. 10 ^ i ≤ 10 ^ n) all (tens_more (18 - i) i)

pub ten_more : (i n d : ℕ) → n < 10 ^ i → d < 10 → n * 10 + d < 10 ^ (i + 1)
ten_more i n d small low = let one : i + 1 ≡ suc i = omega arith in
    subst (λ k. n * 10 + d < 10 ^ k) (sym one) (let more : 10 ^ suc i ≡ 10 * 10 ^ i = pow-succ' 10 i in omega (arith, more, small, low))

sixteens_more : (k i : ℕ) → 16 ^ i ≤ 16 ^ (k + i)
sixteens_more zero i = let same : i ≡ 0 + i = omega arith in subst (λ n. 16 ^ i ≤ 16 ^ n) same (omega arith)
sixteens_more (suc k) i = let same : suc (k + i) ≡ suc k + i = omega arith in
    subst (λ n. 16 ^ i ≤ 16 ^ n) same (let less = sixteens_more k i in let more : 16 ^ suc (k + i) ≡ 16 * 16 ^ (k + i) =
    pow-succ' 16 (k + i) in omega (arith, less, more))

pub sixteens : (i : ℕ) → i < 16 → 16 ^ i ≤ 1152921504606846976
sixteens i below = let all : 15 - i + i ≡ 15 = omega (arith, below) in subst (λ n. 16 ^ i ≤ 16 ^ n) all (sixteens_more (15 - i) i)

pub sixteen_more : (i n d : ℕ) → n < 16 ^ i → d < 16 → n * 16 + d < 16 ^ (i + 1)
sixteen_more i n d small low = let one : i + 1 ≡ suc i = omega arith in
    subst (λ k. n * 16 + d < 16 ^ k) (sym one) (let more : 16 ^ suc i ≡ 16 * 16 ^ i = pow-succ' 16 i in omega (arith, more, small, low))

-- ---- the opening of an integer of any base whose first digit is no 0, where a 0 might show another radix

pub unless_so : {A : Type 0} → (A → IsTrue false) → A → ⊥
unless_so test a = let no = test a in absurd (cc)

module _ (base : Base) (radix : ℕ) (own : first_radix (led_by Any base) ≡ radix) (range : (0 < radix) × (radix ≤ 16)) where
  plain_digit : (sign : Bool) (b : ℕ) → b ≢ 48 → with_first_digit (led_by Any base) sign b ≡ with_digit sign radix 0 b
  plain_digit sign b other =
      by_eq b 48 (λ v. ◌≡◌ {A = Option Progress} (cond v (Some (Zero sign)) (with_digit sign (first_radix (led_by Any base)) 0 b))
      (with_digit sign radix 0 b))
      (λ is. absurd (other is))
      (λ _. ap (λ r. with_digit sign r 0 b) own)

  digits_follow : (start : ℕ) (sign : Bool) (t : List ℕ) (n : ℕ) → (start ≡ 0 → sign ≡ false) → 0 < length t → get_or t 0 0 ≢ 48
      → read (led_by Any base) (Some (Digits sign radix 0)) t ≡ Some (Digits sign radix n)
      → read (led_by Any base) (Some (signed_as start sign)) t ≡ Some (Digits sign radix n)
  digits_follow start sign [] n plain some other reads = absurd (omega (arith, some))
  digits_follow zero sign (b ∷ t) n plain some other reads =
      let low = begins_low (led_by Any base) sign radix 0 n b t reads in
      ap (λ o. read (led_by Any base) o t)
      (plain_first (led_by Any base) b (let most = range.1 in omega (arith, low, most))
      ∙ ap (λ s. with_first_digit (led_by Any base) s b) (sym (plain refl))
      ∙ plain_digit sign b other)
      ∙ reads
  digits_follow (suc k) sign (b ∷ t) n plain some other reads = ap (λ o. read (led_by Any base) o t) (plain_digit sign b other) ∙ reads

  pub unprefixed_opened : (front : List ℕ) (start : ℕ) (sign : Bool) → SignOf Any front start sign
      → (start < length front → get_or front start 0 ≢ 48) → Opened (led_by Any base) radix front start sign
  unprefixed_opened front start sign s other = record {
    inside = s.within;
    state = signed_as start sign;
    taken = s.read base;
    untold = sign_untold start sign;
    empty = λ below high. signed_ends (led_by Any base) front start sign s (rw own range.0) below (rw own high);
    goes = goes;
  }
    where
      first_of : (count : ℕ) → 0 < count → get_or (take count (rest front start)) 0 0 ≡ get_or front start 0
      first_of count some =
          let same : start + 0 ≡ start = omega arith in
          get_or-take count (rest front start) 0 0 some ∙ ap (λ d. get_or d 0 0) (rest_is front start) ∙ get_or-drop start front 0 0
          ∙ ap (λ n. get_or front n 0) same

      goes : (count n : ℕ) → 0 < count → count ≤ length (rest front start) → ReadsIn radix 0 (take count (rest front start)) n
          → Goes (led_by Any base) radix front (signed_as start sign) start count n sign
      goes count n some most reads =
          let t = take count (rest front start) in
          let below : start < length front = omega (arith, some, most, length_rest front start) in
          record {
            p = Digits sign radix n;
            reads = digits_follow start sign t n s.plain (rw (length-take-le count (rest front start) most) some)
                (λ zero_first. other below (sym (first_of count some) ∙ zero_first)) (reads (led_by Any base) sign);
            told = refl;
            ends = λ inside high. digit_ends sign radix n (get_or front (start + count) 0) high;
          }
