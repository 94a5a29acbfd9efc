-- The cut of a conversion specification gives its parts, and joins to its text.
use Rattle.std.proofs.Common.{◌≡◌, ℕ, ◌+◌, ◌≤◌, Bool, true, false, ◌||◌, nat_eq, List, [], ◌∷◌, ◌++◌, length, drop, refl, ap, ◌∙◌}
use Rattle.std.proofs.Common.{cond, append_assoc, length-append, arith, Option, Some, None}
use Rattle.std.proofs.lemmas.Bool.Decides.{nat_tests}
use Rattle.std.specs.Prelude.{codes, IfSome}
use Rattle.sf_format.specs.Digits.{is_decimal}
use Rattle.sf_format.specs.Lists.{front, behind, begins, mark_at, is_any_of}
use Rattle.sf_format.specs.declared.letter.Length.{Length}
use Rattle.sf_format.specs.declared.letter.Length.TheVariants.{NoLength, HH, H, LL, L, J, Z, T}
use Rattle.sf_format.specs.Letters.{has_doubles, length_text}
use Rattle.sf_format.specs.declared.directive.Profile.{Profile}
use Rattle.sf_format.specs.PrintLetters.{is_flag}
use Rattle.sf_format.specs.Language.{Language, Scan, Print}
use Rattle.sf_format.specs.Pieces.{Opening, number_text, star_text, optional_text, column_text, strict_text, opening_text, precision_text}
use Rattle.sf_format.specs.Cut.{number_before, number_at, first_length, length_at, cut, precision_behind, precision_at, mark_of_three}
use Rattle.sf_format.specs.Cut.{Part, has_groups, short_part}
use Rattle.sf_format.proofs.Prefixes.{Stops, AllPass, front_behind, front_passes, front_of, behind_of, behind_stops}
use Rattle.sf_format.proofs.Rules.{all_map, all_append}
use Rattle.sf_format.specs.PrintGrammar.{StartsAboveZero}
use Rattle.sf_format.specs.Passing.{IsIn}

-- ---- a byte in front

pub mark_none : (mark : ℕ) (x : List ℕ) → Stops (λ b. nat_eq b mark) x → mark_at mark x ≡ (false, x)
mark_none mark x stops = grind arith

-- what is cut off in front, by the text of the mark
pub mark_joined : (text : Bool → List ℕ) (mark : ℕ) (x : List ℕ) → text true ≡ mark ∷ [] → text false ≡ []
    → text (mark_at mark x).0 ++ (mark_at mark x).1 ≡ x
mark_joined text mark [] there none = rw none
mark_joined text mark (b ∷ x) there none = grind (arith, nat_tests)

-- the mark, or none, before what begins with no such byte
mark_is : (text : Bool → List ℕ) (mark : ℕ) (v : Bool) (x : List ℕ) → text true ≡ mark ∷ [] → text false ≡ []
    → Stops (λ b. nat_eq b mark) x → mark_at mark (text v ++ x) ≡ (v, x)
mark_is text mark true x there none stops = grind (arith, nat_tests, there)
mark_is text mark false x there none stops = rw none (mark_none mark x stops)

-- ---- bytes that parts begin with

-- a byte of a star, of a ?, of a =, of a !, of flags or of a width
abbrev pub is_inside : ℕ → Bool
is_inside b = is_decimal b || is_flag b || is_any_of (codes "*?=!") b

-- one that a part before the precision begins with, or one of % ( and )
abbrev pub is_head : ℕ → Bool
is_head b = is_inside b || is_any_of (codes "$%()") b

-- one before a length
abbrev pub is_part : ℕ → Bool
is_part b = is_head b || nat_eq b 46

-- a byte that no part before a letter begins with
abbrev pub IsLast : ℕ → Type 0
IsLast b = (is_part b || is_any_of (codes "hjltz") b) ≡ false

pub stops_less : (test other : ℕ → Bool) → ((b : ℕ) → other b ≡ false → test b ≡ false) → (x : List ℕ) → Stops other x → Stops test x
stops_less test other less [] stops = tt
stops_less test other less (b ∷ x) stops = less b stops

pub head_stops : (x : List ℕ) → Stops is_part x → Stops is_head x
head_stops x stops = stops_less is_head is_part (λ b e. grind arith) x stops

pub digit_stops : (x : List ℕ) → Stops is_head x → Stops is_decimal x
digit_stops x stops =
    stops_less is_decimal is_head
    (λ b e. no_digit (is_decimal b) (is_flag b) (is_any_of (codes "*?=!") b) (is_any_of (codes "$%()") b) e) x stops
  where
    no_digit : (digit flag mark other : Bool) → ((digit || flag || mark) || other) ≡ false → digit ≡ false
    no_digit digit flag mark other e = grind arith

-- ---- the number

number_joined : (ds after x : List ℕ) → ds ++ after ≡ x → number_text (number_before ds after x).0 ++ (number_before ds after x).1 ≡ x
number_joined [] after x e = refl
number_joined (d ∷ ds) [] x e = refl
number_joined (d ∷ ds) (b ∷ after) x e = grind (arith, nat_tests, append_assoc (d ∷ ds) (36 ∷ []) after)

number_passes : (ds after x : List ℕ) → AllPass is_decimal ds → AllPass is_decimal (number_before ds after x).0
number_passes ds after x h = grind arith

number_none : (ds after x : List ℕ) → Stops (λ b. nat_eq b 36) after → number_before ds after x ≡ ([], x)
number_none ds after x h = grind arith

-- the number in front of a text, whatever follows
pub number_whole : (x : List ℕ) → number_text (number_at x).0 ++ (number_at x).1 ≡ x
number_whole x = number_joined (front is_decimal x) (behind is_decimal x) x (front_behind is_decimal x)

pub number_passing : (x : List ℕ) → AllPass is_decimal (number_at x).0
number_passing x = number_passes (front is_decimal x) (behind is_decimal x) x (front_passes is_decimal x)

no_dollar : (u z : List ℕ) → AllPass is_inside u → Stops is_head z → Stops (λ b. nat_eq b 36) (behind is_decimal (u ++ z))
no_dollar [] [] inside stops = tt
no_dollar [] (b ∷ z) inside stops = grind (arith, nat_tests)
no_dollar (a ∷ u) z inside stops = grind (arith, nat_tests, no_dollar u z inside.1 stops)

pub number_of : (number u z : List ℕ) → AllPass is_decimal number → AllPass is_inside u → Stops is_head z
    → number_at (number_text number ++ (u ++ z)) ≡ (number, u ++ z)
number_of [] u z digits inside stops = number_none (front is_decimal (u ++ z)) _ (u ++ z) (no_dollar u z inside stops)
number_of (d ∷ ds) u z digits inside stops =
    let whole = append_assoc (d ∷ ds) (36 ∷ []) (u ++ z) in
    ap number_at whole
    ∙ rw (front_of is_decimal (d ∷ ds) (36 ∷ (u ++ z)) digits refl, behind_of is_decimal (d ∷ ds) (36 ∷ (u ++ z)) digits refl)

-- what stands after the % of a specification is no such byte, nor a ? and then such a one
none_begins : (mark : ℕ) → is_decimal mark ≡ false → is_inside mark ≡ false → is_head mark ≡ true → (number u z : List ℕ)
    → AllPass is_decimal number → AllPass is_inside u → Stops is_head z
    → begins (mark ∷ []) (number_text number ++ (u ++ z)) ≡ false
none_begins mark other out head (d ∷ ds) u z digits inside stops = grind (arith, nat_tests)
none_begins mark other out head [] (a ∷ u) z digits inside stops = grind (arith, nat_tests)
none_begins mark other out head [] [] [] digits inside stops = refl
none_begins mark other out head [] [] (b ∷ z) digits inside stops = grind (arith, nat_tests)

no_group : (number u z : List ℕ) → AllPass is_decimal number → AllPass is_inside u → Stops is_head z
    → begins (63 ∷ 40 ∷ []) (number_text number ++ (u ++ z)) ≡ false
no_group (d ∷ ds) u z digits inside stops = grind (arith, nat_tests)
no_group [] (a ∷ b ∷ u) z digits inside stops = grind (arith, nat_tests)
no_group [] (a ∷ []) [] digits inside stops = grind (arith, nat_tests)
no_group [] (a ∷ []) (b ∷ z) digits inside stops = grind (arith, nat_tests)
no_group [] [] [] digits inside stops = refl
no_group [] [] (b ∷ z) digits inside stops = grind (arith, nat_tests)

-- so it is no part but a specification
none_short : (language : Language) (number u z : List ℕ) → AllPass is_decimal number → AllPass is_inside u → Stops is_head z
    → short_part language (number_text number ++ (u ++ z)) ≡ None
none_short language number u z digits inside stops =
    rw (
      none_begins 37 refl refl refl number u z digits inside stops,
      none_begins 41 refl refl refl number u z digits inside stops,
      no_group number u z digits inside stops,
    ) (none_of (has_groups language))
  where
    none_of : (v : Bool) → cond {A = Option Part} v None None ≡ None
    none_of v = grind arith

-- ---- the length

pub length_of : (size : Length) (letter : ℕ) (x : List ℕ) → IsLast letter → length_at (length_text size ++ letter ∷ x) ≡ size
length_of NoLength letter x last = grind (arith, nat_tests)
length_of H letter x last = grind (arith, nat_tests)
length_of L letter x last = grind (arith, nat_tests)
length_of _ letter x last = refl

pub begins_joined : (word x : List ℕ) → begins word x ≡ true → word ++ drop (length word) x ≡ x
begins_joined [] x e = refl
begins_joined (a ∷ word) [] e = cc
begins_joined (a ∷ word) (b ∷ x) e = grind (arith, nat_tests, begins_joined word x)

length_joined : (sizes : List Length) (x : List ℕ)
    → length_text (first_length sizes x) ++ drop (length (length_text (first_length sizes x))) x ≡ x
length_joined [] x = refl
length_joined (size ∷ sizes) x = by_size (begins (length_text size) x) refl (length_joined sizes x)
  where
    by_size : (v : Bool) → begins (length_text size) x ≡ v
        → length_text (first_length sizes x) ++ drop (length (length_text (first_length sizes x))) x ≡ x
        → length_text (first_length (size ∷ sizes) x) ++ drop (length (length_text (first_length (size ∷ sizes) x))) x ≡ x
    by_size true e later = rw e (begins_joined (length_text size) x e)
    by_size false e later = rw e later

pub length_whole : (x : List ℕ) → length_text (length_at x) ++ drop (length (length_text (length_at x))) x ≡ x
length_whole x = length_joined (HH ∷ H ∷ LL ∷ L ∷ J ∷ Z ∷ T ∷ []) x

pub length_dropped : (size : Length) (y : List ℕ) → drop (length (length_text size)) (length_text size ++ y) ≡ y
length_dropped NoLength y = refl
length_dropped _ y = refl

-- a length, or the letter, begins with no byte of the parts before it
pub sized_stops : (size : Length) (letter : ℕ) (x : List ℕ) → IsLast letter → Stops is_part (length_text size ++ letter ∷ x)
sized_stops NoLength letter x last = grind arith
sized_stops _ letter x last = refl

-- ---- the whole cut

-- what stands after the % of an opening
abbrev pub inside : Opening → List ℕ → List ℕ
inside o y = number_text o.number ++ (star_text o.star ++ (optional_text o.optional ++ (column_text o.column ++ (strict_text o.strict ++
    (o.flags ++ (o.width ++ (precision_text o.precision ++ (length_text o.size ++ y))))))))

-- its parts have these bytes
pub record HasParts (o : Opening) : Type 0 where
  pub number : AllPass is_decimal o.number
  pub flags : AllPass is_flag o.flags
  pub width : AllPass is_decimal o.width
  pub precision : IfSome o.precision (AllPass is_decimal)

-- a mark before such bytes is one of them
mark_inside : (text : Bool → List ℕ) (mark : ℕ) (v : Bool) (x : List ℕ) → text true ≡ mark ∷ [] → text false ≡ []
    → is_inside mark ≡ true → AllPass is_inside x → AllPass is_inside (text v ++ x)
mark_inside text mark true x there none inside h = rw there (inside, h)
mark_inside text mark false x there none inside h = rw none h

parts_inside : (star optional column strict : Bool) (flags width : List ℕ) → AllPass is_flag flags → AllPass is_decimal width
    → AllPass is_inside (star_text star ++ (optional_text optional ++ (column_text column ++ (strict_text strict ++ (flags ++ width)))))
parts_inside star optional column strict flags width h k =
    mark_inside star_text 42 star _ refl refl refl
    (mark_inside optional_text 63 optional _ refl refl refl
    (mark_inside column_text 61 column _ refl refl refl (mark_inside strict_text 33 strict _ refl refl refl inside)))
  where
    inside : AllPass is_inside (flags ++ width)
    inside =
        all_append (λ b. is_inside b ≡ true) flags width (all_map (λ b. is_flag b ≡ true) (λ b. is_inside b ≡ true)
        (λ b e. grind arith) flags h)
        (all_map (λ b. is_decimal b ≡ true) (λ b. is_inside b ≡ true) (λ b e. rw e) width k)

-- neither a *, a ?, a = nor a ! begins a width or what follows it
no_mark : (mark : ℕ) → is_decimal mark ≡ false → is_head mark ≡ true → (width z : List ℕ) → AllPass is_decimal width → Stops is_head z
    → Stops (λ b. nat_eq b mark) (width ++ z)
no_mark mark other head [] z digits stops = stops_less (λ b. nat_eq b mark) is_head (λ b e. grind (arith, nat_tests, head)) z stops
no_mark mark other head (d ∷ ds) z digits stops = grind (arith, nat_tests)

-- no = begins what follows one
no_column : (strict : Bool) (width z : List ℕ) → AllPass is_decimal width → Stops is_head z
    → Stops (λ b. nat_eq b 61) (strict_text strict ++ (width ++ z))
no_column true width z digits stops = refl
no_column false width z digits stops = no_mark 61 refl refl width z digits stops

-- no ? begins what follows one
no_optional : (column strict : Bool) (width z : List ℕ) → AllPass is_decimal width → Stops is_head z
    → Stops (λ b. nat_eq b 63) (column_text column ++ (strict_text strict ++ (width ++ z)))
no_optional true strict width z digits stops = refl
no_optional false true width z digits stops = refl
no_optional false false width z digits stops = no_mark 63 refl refl width z digits stops

-- no * begins what follows one
no_star : (optional column strict : Bool) (width z : List ℕ) → AllPass is_decimal width → Stops is_head z
    → Stops (λ b. nat_eq b 42) (optional_text optional ++ (column_text column ++ (strict_text strict ++ (width ++ z))))
no_star true column strict width z digits stops = refl
no_star false true strict width z digits stops = refl
no_star false false true width z digits stops = refl
no_star false false false width z digits stops = no_mark 42 refl refl width z digits stops

-- the mark of a profile that has it
mark_of : (profile : Profile) (text : Bool → List ℕ) (mark : ℕ) (v : Bool) (x : List ℕ) → text true ≡ mark ∷ [] → text false ≡ []
    → (v ≡ true → has_doubles profile ≡ true) → Stops (λ b. nat_eq b mark) x → mark_of_three profile mark (text v ++ x) ≡ (v, x)
mark_of profile text mark v x there none has stops = by_profile (has_doubles profile) v refl has
  where
    by_profile : (has w : Bool) → has_doubles profile ≡ has → (w ≡ true → has ≡ true)
        → mark_of_three profile mark (text w ++ x) ≡ (w, x)
    by_profile true w e h = rw e (mark_is text mark w x there none stops)
    by_profile false true e h = absurd (let f = h refl in cc)
    by_profile false false e h = rw (e, none) refl

width_stops : (width z : List ℕ) → AllPass is_decimal width → StartsAboveZero width → Stops is_head z → Stops is_flag (width ++ z)
width_stops [] z digits first stops =
    stops_less is_flag is_head
    (λ b e. no_flag (is_decimal b) (is_flag b) (is_any_of (codes "*?=!") b) (is_any_of (codes "$%()") b) e) z stops
  where
    no_flag : (digit flag mark other : Bool) → ((digit || flag || mark) || other) ≡ false → flag ≡ false
    no_flag digit flag mark other e = grind arith
width_stops (d ∷ ds) z digits first stops = grind (arith, nat_tests)

precision_stops : (precision : Option (List ℕ)) (z : List ℕ) → Stops is_part z → Stops is_head (precision_text precision ++ z)
precision_stops precision z stops = grind (arith, head_stops z stops)

precision_is : (precision : Option (List ℕ)) (z : List ℕ) → IfSome precision (AllPass is_decimal) → Stops is_part z
    → precision_at (precision_text precision ++ z) ≡ (precision, z)
precision_is None z digits stops = rw (mark_none 46 z (stops_less (λ b. nat_eq b 46) is_part (λ b e. grind arith) z stops))
precision_is (Some ds) z digits stops =
    let other = digit_stops z (head_stops z stops) in
    rw (front_of is_decimal ds z digits other, behind_of is_decimal ds z digits other)

-- after the number
cut_behind : (language : Language) (o : Opening) (letter : ℕ) (x : List ℕ) → HasParts o → IsIn language o → IsLast letter
    → number_at (inside o (letter ∷ x))
    ≡ (
      o.number,
      star_text o.star ++ (optional_text o.optional ++ (column_text o.column ++ (strict_text o.strict ++ (o.flags ++ (o.width
          ++ (precision_text o.precision ++ (length_text o.size ++ letter ∷ x))))))),
    )
    → cut language (inside o (letter ∷ x)) ≡ record { opening = o; rest = letter ∷ x }
cut_behind (Scan profile) o letter x parts is last number =
    let z = length_text o.size ++ letter ∷ x in
    let head = head_stops z (sized_stops o.size letter x last) in
    let stops = digit_stops z head in
    rw (
      number,
      is.0,
      is.1,
      mark_is star_text 42 o.star _ refl refl (no_star o.optional o.column o.strict o.width z parts.width head),
      mark_of profile optional_text 63 o.optional _ refl refl is.2 (no_optional o.column o.strict o.width z parts.width head),
      mark_of profile column_text 61 o.column _ refl refl is.3 (no_column o.strict o.width z parts.width head),
      mark_of profile strict_text 33 o.strict (o.width ++ z) refl refl is.4 (no_mark 33 refl refl o.width z parts.width head),
      front_of is_decimal o.width z parts.width stops,
      behind_of is_decimal o.width z parts.width stops,
      length_of o.size letter x last,
      length_dropped o.size (letter ∷ x),
    )
cut_behind (Print profile) o letter x parts is last number =
    let sized = length_text o.size ++ letter ∷ x in
    let z = precision_text o.precision ++ sized in
    let part = sized_stops o.size letter x last in
    let head = precision_stops o.precision sized part in
    let wide = width_stops o.width z parts.width is.4 head in
    let stops = digit_stops z head in
    rw (
      number,
      is.0,
      is.1,
      is.2,
      is.3,
      front_of is_flag o.flags (o.width ++ z) parts.flags wide,
      behind_of is_flag o.flags (o.width ++ z) parts.flags wide,
      front_of is_decimal o.width z parts.width stops,
      behind_of is_decimal o.width z parts.width stops,
      precision_is o.precision sized parts.precision part,
      length_of o.size letter x last,
      length_dropped o.size (letter ∷ x),
    )

-- it begins no other part, and is cut where it was joined
pub cut_of : (language : Language) (o : Opening) (letter : ℕ) (x : List ℕ) → HasParts o → IsIn language o → IsLast letter
    → (short_part language (inside o (letter ∷ x)) ≡ None) × (cut language (inside o (letter ∷ x))
    ≡ record { opening = o; rest = letter ∷ x })
cut_of language o letter x parts is last =
    let sized = length_text o.size ++ letter ∷ x in
    let z = precision_text o.precision ++ sized in
    let head = precision_stops o.precision sized (sized_stops o.size letter x last) in
    let u = star_text o.star ++ (optional_text o.optional ++ (column_text o.column ++ (strict_text o.strict ++ (o.flags ++ o.width)))) in
    let inner = parts_inside o.star o.optional o.column o.strict o.flags o.width parts.flags parts.width in
    let whole : star_text o.star ++ (optional_text o.optional ++ (column_text o.column ++ (strict_text o.strict ++ (o.flags
    ++ (o.width ++ z))))) ≡ u ++ z = simp append_assoc in (
      rw whole (none_short language o.number u z parts.number inner head),
      cut_behind language o letter x parts is last (rw whole (number_of o.number u z parts.number inner head)),
    )

-- ---- the cut joins

abbrev pub point_text : Bool → List ℕ
point_text true = 46 ∷ []
point_text false = []

precision_joined : (point : Bool) (x : List ℕ)
    → precision_text (precision_behind (point, x)).0 ++ (precision_behind (point, x)).1 ≡ point_text point ++ x
precision_joined true x = rw (front_behind is_decimal x)
precision_joined false x = refl

three_joined : (profile : Profile) (text : Bool → List ℕ) (mark : ℕ) (x : List ℕ) → text true ≡ mark ∷ [] → text false ≡ []
    → text (mark_of_three profile mark x).0 ++ (mark_of_three profile mark x).1 ≡ x
three_joined profile text mark x there none = by_profile (has_doubles profile) refl
  where
    by_profile : (v : Bool) → has_doubles profile ≡ v → text (mark_of_three profile mark x).0 ++ (mark_of_three profile mark x).1 ≡ x
    by_profile true e = rw e (mark_joined text mark x there none)
    by_profile false e = rw (e, none) refl

-- where such a mark is cut off, the profile has it
three_had : (profile : Profile) (mark : ℕ) (x : List ℕ) → (mark_of_three profile mark x).0 ≡ true → has_doubles profile ≡ true
three_had profile mark x found = by_profile (has_doubles profile) refl
  where
    by_profile : (v : Bool) → has_doubles profile ≡ v → v ≡ true
    by_profile true e = refl
    by_profile false e = rw e at found

pub cut_joined : (language : Language) (x : List ℕ) → inside (cut language x).opening (cut language x).rest ≡ x
cut_joined (Scan profile) x =
    let number = number_at x in
    let star = mark_at 42 number.1 in
    let optional = mark_of_three profile 63 star.1 in
    let column = mark_of_three profile 61 optional.1 in
    let strict = mark_of_three profile 33 column.1 in
    rw (
      length_whole (behind is_decimal strict.1),
      front_behind is_decimal strict.1,
      three_joined profile strict_text 33 column.1 refl refl,
      three_joined profile column_text 61 optional.1 refl refl,
      three_joined profile optional_text 63 star.1 refl refl,
      mark_joined star_text 42 number.1 refl refl,
    )
    (number_whole x)
cut_joined (Print profile) x =
    let number = number_at x in
    let wide = behind is_flag number.1 in
    let pointed = behind is_decimal wide in
    let point = mark_at 46 pointed in
    rw (
      length_whole (precision_at pointed).1,
      precision_joined point.0 point.1,
      mark_joined point_text 46 pointed refl refl,
      front_behind is_decimal wide,
      front_behind is_flag number.1,
    )
    (number_whole x)

precision_passes : (point : Bool) (x : List ℕ) → IfSome (precision_behind (point, x)).0 (AllPass is_decimal)
precision_passes true x = front_passes is_decimal x
precision_passes false x = tt

-- what follows flags is no 0
above_zero : (x : List ℕ) → Stops is_flag x → StartsAboveZero (front is_decimal x)
above_zero [] stops = tt
above_zero (b ∷ x) stops = grind (arith, nat_tests)

pub cut_parts : (language : Language) (x : List ℕ) → HasParts (cut language x).opening
cut_parts (Scan profile) x =
    let optional = mark_of_three profile 63 (mark_at 42 (number_at x).1).1 in
    let column = mark_of_three profile 61 optional.1 in record {
      number = number_passing x;
      flags = tt;
      width = front_passes is_decimal (mark_of_three profile 33 column.1).1;
      precision = tt;
    }
cut_parts (Print profile) x =
    let number = number_at x in
    let wide = behind is_flag number.1 in
    let point = mark_at 46 (behind is_decimal wide) in record {
      number = number_passing x;
      flags = front_passes is_flag number.1;
      width = front_passes is_decimal wide;
      precision = precision_passes point.0 point.1;
    }

pub cut_in : (language : Language) (x : List ℕ) → IsIn language (cut language x).opening
cut_in (Scan profile) x =
    let star = mark_at 42 (number_at x).1 in
    let optional = mark_of_three profile 63 star.1 in
    let column = mark_of_three profile 61 optional.1 in
    (refl, refl, three_had profile 63 star.1, three_had profile 61 optional.1, three_had profile 33 column.1)
cut_in (Print profile) x =
    let number = number_at x in (refl, refl, refl, refl, above_zero (behind is_flag number.1) (behind_stops is_flag number.1))

pub opening_regroup : (o : Opening) (y : List ℕ) → opening_text o ++ y ≡ 37 ∷ inside o y
opening_regroup o y = simp append_assoc

-- ---- lengths

number_text_longer : (number : List ℕ) → length number ≤ length (number_text number)
number_text_longer [] = omega arith
number_text_longer (d ∷ ds) = omega (arith, length-append ds (36 ∷ []))

pub length-cut : (language : Language) (x : List ℕ) → length (opening_text (cut language x).opening) + length (cut language x).rest
    ≡ 1 + length x
length-cut language x =
    let cut = cut language x in
    let e = opening_regroup cut.opening cut.rest ∙ ap (λ t. 37 ∷ t) (cut_joined language x) in
    omega (arith, length-append (opening_text cut.opening) cut.rest, ap length e)

-- the parts are no longer than what was cut
pub parts_shorter : (language : Language) (x : List ℕ)
    → let o = (cut language x).opening in length o.number + length o.flags + length o.width ≤ length x
parts_shorter language x =
    let o = (cut language x).opening in
    let sized = precision_text o.precision ++ (length_text o.size ++ (cut language x).rest) in
    omega (
      arith,
      ap length (cut_joined language x),
      length-append (number_text o.number)
          (star_text o.star ++ (optional_text o.optional ++ (column_text o.column ++ (strict_text o.strict ++ (o.flags ++ (o.width
          ++ sized)))))),
      length-append (star_text o.star)
          (optional_text o.optional ++ (column_text o.column ++ (strict_text o.strict ++ (o.flags ++ (o.width ++ sized))))),
      length-append (optional_text o.optional) (column_text o.column ++ (strict_text o.strict ++ (o.flags ++ (o.width ++ sized)))),
      length-append (column_text o.column) (strict_text o.strict ++ (o.flags ++ (o.width ++ sized))),
      length-append (strict_text o.strict) (o.flags ++ (o.width ++ sized)),
      length-append o.flags (o.width ++ sized),
      length-append o.width sized,
      number_text_longer o.number,
    )
