-- What follows a part that no rule refuses.
use Rattle.std.proofs.Common.{◌≡◌, ℕ, ◌+◌, ◌-◌, ◌≤◌, Bool, true, false, ◌&&◌, ◌||◌, nat_eq, nat_lt, List, [], ◌∷◌, ◌++◌, length, get_or}
use Rattle.std.proofs.Common.{take, drop, Option, Some, None, Result, Ok, Err, refl, sym, ap, ◌∙◌, subst, arith}
use Rattle.std.proofs.lemmas.Bool.Decides.{nat_tests}
use Rattle.std.proofs.lemmas.List.{take_rest}
use Rattle.std.specs.Prelude.{MatchOption, IfSome}
use Rattle.sf_base.specs.Bytes.{magnitude}
use Rattle.sf_base.specs.declared.values.Kind.{Kind}
use Rattle.sf_format.specs.declared.directive.Profile.{Profile}
use Rattle.sf_format.specs.declared.directive.Conversion.{Conversion}
use Rattle.sf_format.specs.declared.directive.Directive.{Directive}
use Rattle.sf_format.specs.declared.directive.Directive.TheVariants as directive
use Rattle.sf_format.specs.declared.scan.scanlist.Listed.{Listed}
use Rattle.sf_format.specs.declared.fault.FormatFault.{FormatFault}
use Rattle.sf_format.specs.declared.fault.FormatWhy.{FormatWhy}
use Rattle.sf_format.specs.declared.letter.Letter.{Letter}
use Rattle.sf_format.specs.declared.letter.Letter.TheVariants.{Set}
use Rattle.sf_format.specs.declared.grammar.Passed.{Passed}
use Rattle.sf_format.specs.Scanlist.{backward_range}
use Rattle.sf_format.specs.Letters.{letter_of, kind_of}
use Rattle.sf_format.specs.Lists.{is_written, mark_at, begins}
use Rattle.sf_format.specs.Pieces.{Opening, Piece, opening_text}
use Rattle.sf_format.specs.Cut.{Part, cut, letter_at, conversion_at}
use Rattle.sf_format.specs.Groups.{role_by, role_of}
use Rattle.sf_format.specs.Slots.{slot_of}
use Rattle.sf_format.specs.Grammar.{destinations, assigned_opening, IsConversion, Means}
use Rattle.sf_format.specs.Rules.{Rule, first_of, slot_rules}
use Rattle.sf_format.specs.Faults.{letter_rules, bracket_rules, scanlist_rules, ending_rules, rest_rules, opening_rules, conversion_rules}
use Rattle.sf_format.specs.Passing.{rest_behind, is_set, IsListed, ShapeBy, IsMade, PassesBy, precision_of}
use Rattle.sf_format.specs.Language.{Language, Scan, Print}
use Rattle.sf_format.proofs.Outcomes.{within}
use Rattle.sf_format.proofs.Rules.{quiet_is, or_else, first_append}
use Rattle.sf_format.proofs.Scanlists.{list_forward, list_set}
use Rattle.sf_format.proofs.Suits.{bracket_is}
use Rattle.sf_format.specs.declared.unit.PrintLetter.{PrintLetter}
use Rattle.sf_format.specs.PrintLetters.{print_letter_of}
use Rattle.sf_format.specs.PrintRules.{print_letter_rules, flag_rules}

pub first_left : (a b : List Rule) (f : FormatWhy × ℕ) → first_of a ≡ Some f → first_of (a ++ b) ≡ Some f
first_left a b f e = rw (first_append a b, e)

-- the rules of what stands from a letter on that has no fault itself
pub rest_first : (profile : Profile) (earlier : List Opening) (p : ℕ) (o : Opening) (q b : ℕ) (x : List ℕ) (letter : Letter)
    → first_of (letter_rules profile o b q) ≡ None → letter_of profile b ≡ Some letter
    → first_of (rest_rules (Scan profile) earlier p o q (b ∷ x))
    ≡ or_else (first_of (bracket_rules (is_set letter) q x)) (first_of (slot_rules earlier p o))
rest_first profile earlier p o q b x letter rules found =
    rw (
      first_append (ending_rules (Scan profile) p o q b x) (slot_rules earlier p o),
      first_append (letter_rules profile o b q) (scanlist_rules b q x),
      rules,
      bracket_is profile b letter found,
    )

pub letter_rest : (o : Opening) (letter : ℕ) (x : List ℕ) → (letter_at o (letter ∷ x)).rest ≡ rest_behind (nat_eq letter 91) x
letter_rest o letter x = grind arith

pub letter_destination : (o : Opening) (letter : ℕ) (x : List ℕ)
    → destinations ((letter_at o (letter ∷ x)).piece ∷ []) ≡ assigned_opening o []
letter_destination o letter x = grind arith

or_none : (v : Bool) → (v || false) ≡ v
or_none v = grind arith

pub letter_role : (o : Opening) (letter : ℕ) (x : List ℕ)
    → role_by (o.optional || nat_eq letter 110) ≡ role_of (letter_at o (letter ∷ x)).piece
letter_role o letter x = by_bracket (nat_eq letter 91) refl
  where
    by_bracket : (v : Bool) → nat_eq letter 91 ≡ v → role_by (o.optional || nat_eq letter 110) ≡ role_of (letter_at o (letter ∷ x)).piece
    by_bracket false e = rw e refl
    by_bracket true e =
        let other : nat_eq letter 110 ≡ false = grind (arith, nat_tests) in
        rw (e, other) (ap role_by (or_none o.optional))

-- ---- the conversion by a letter

only_set : (letter : Letter) → is_set letter ≡ true → letter ≡ Set
only_set letter e = grind arith

pub listed_forward : (bracket : Bool) (q : ℕ) (x : List ℕ) (listed : Listed) → bracket ≡ true → first_of (bracket_rules bracket q x) ≡ None
    → IsListed bracket x listed → backward_range 0 listed.members.now ≡ None
listed_forward true q x listed e none is = list_forward q _ (mark_at 94 x).1 listed.members.now is.1 none
listed_forward false q x listed e none is = absurd (cc)

-- a conversion by a letter that is a bracket or isn't, and by the scanlist that was read after it
made_by : (v : Bool) (profile : Profile) (place q b : ℕ) (x : List ℕ) (o : Opening) (letter : Letter) (listed : Listed) (c : Conversion)
    → is_set letter ≡ v → nat_eq b 91 ≡ v → letter_of profile b ≡ Some letter → first_of (bracket_rules v q x) ≡ None → IsListed v x listed
    → IsConversion None place o letter c → ShapeBy v letter o.strict listed c.shape
    → Means profile None place (letter_at o (b ∷ x)).piece (directive.Conv c)
made_by true profile place q b x o letter listed c set same found none is conversion (members, by, shape) =
    let chosen = list_set q _ (mark_at 94 x).0 (mark_at 94 x).1 listed.members.now members is.1 none (rw is.0 at by) in
    rw same (c, members, rw (only_set letter set) at conversion, chosen, shape, refl)
made_by false profile place q b x o letter listed c set other found none is conversion shape =
    rw other (letter, c, found, conversion, shape, refl)

pub match_map : {A : Type 0} (N : Type 0) (P Q : A → Type 0) → ((a : A) → P a → Q a) → (o : Option A) → MatchOption o N P
    → MatchOption o N Q
match_map N P Q f o h = grind arith

pub match_none : {A : Type 0} {N M : Type 0} (P : A → Type 0) (o : Option A) → (N → M) → MatchOption o N P → MatchOption o M P
match_none P None f h = f h
match_none P (Some a) f h = h

-- the conversion that was made is what the part stands for
pub made_means : (profile : Profile) (place q b : ℕ) (x : List ℕ) (o : Opening) (letter : Letter) (kind : Kind) (slot : Option ℕ)
    (listed : Listed)
    (d : Directive) → letter_of profile b ≡ Some letter → kind_of letter o.size ≡ Some kind
    → first_of (bracket_rules (is_set letter) q x) ≡ None
    → IsListed (is_set letter) x listed → slot ≡ slot_of place o → IsMade letter kind o slot listed d
    → Means profile None place (letter_at o (b ∷ x)).piece d
made_means profile place q b x o letter kind slot listed (directive.Conv c) found known none is placed h =
    made_by (is_set letter) profile place q b x o letter listed c refl (sym (bracket_is profile b letter found)) found none is
    (record {
      kind = known ∙ ap Some (sym h.0);
      width = h.1;
      slot = h.2 ∙ placed;
      optional = h.3 ∙ sym (or_none o.optional);
      opens = h.4;
      column = h.5;
    }) h.6
made_means profile place q b x o letter kind slot listed _ found known none is placed h = absurd h

pub number_low : (ds : List ℕ) → (is_written ds && (nat_eq (magnitude 10 ds) 0 || nat_lt 32 (magnitude 10 ds))) ≡ false
    → magnitude 10 ds ≤ 32
number_low [] e = omega arith
number_low (d ∷ ds) e = grind (arith, nat_tests)

-- an opening without a fault has numbers within their limits
pub number_bound : (language : Language) (p : ℕ) (o : Opening) → first_of (opening_rules language p o) ≡ None → magnitude 10 o.number ≤ 32
number_bound (Scan profile) p o none = number_low o.number (quiet_is (opening_rules (Scan profile) p o) none).0
number_bound (Print profile) p o none = number_low o.number (quiet_is (opening_rules (Print profile) p o) none).0

pub width_bound : (profile : Profile) (p : ℕ) (o : Opening) → first_of (opening_rules (Scan profile) p o) ≡ None
    → magnitude 10 o.width ≤ 65535
width_bound profile p o none = within 65535 (magnitude 10 o.width) (quiet_is (opening_rules (Scan profile) p o) none).1.1.1.0

-- ---- after a %, in both languages

pub begins_mark : (x : List ℕ) → begins (37 ∷ []) x ≡ (mark_at 37 x).0
begins_mark [] = refl
begins_mark (b ∷ x) = grind arith

pub behind_mark : (x : List ℕ) → (mark_at 37 x).0 ≡ true → (mark_at 37 x).1 ≡ drop 1 x
behind_mark [] found = absurd (cc)
behind_mark (b ∷ x) found = grind arith

-- after an opening without a fault
pub passes_behind : {D : Type 0} (wanted : Bool) (means : Option ℕ → ℕ → Piece → D → Type 0) (opening rest : List Rule)
    (earlier : List Opening) (part : Part)
    (r : Result (Passed D) FormatFault) → first_of opening ≡ None → PassesBy wanted means rest earlier part r
    → PassesBy wanted means (opening ++ rest) earlier part r
passes_behind wanted means opening rest earlier part (Ok passed) quiet h =
    (rw (first_append opening rest, quiet) h.0, h.1, h.2, h.3, h.4, h.5)
passes_behind wanted means opening rest earlier part (Err fault) quiet h = rw (first_append opening rest, quiet) h

-- the first byte and those that follow it
pub first_and_rest : (x : List ℕ) → 1 ≤ length x → get_or x 0 0 ∷ take (length x - 1) (drop 1 x) ≡ x
first_and_rest [] h = absurd (omega (arith, h))
first_and_rest (b ∷ x) h = ap (λ y. b ∷ y) (take_rest (b ∷ x) 1)

pub cut_fault : (language : Language) (earlier : List Opening) (p : ℕ) (x : List ℕ) (o : Opening) (f : FormatWhy × ℕ)
    → o ≡ (cut language x).opening
    → first_of (opening_rules language p o) ≡ Some f → first_of (conversion_rules language earlier p x) ≡ Some f
cut_fault language earlier p x o f same first =
    first_left (opening_rules language p (cut language x).opening)
    (rest_rules language earlier p (cut language x).opening (p + length (opening_text (cut language x).opening)) (cut language x).rest) f
    (subst (λ a. first_of (opening_rules language p a) ≡ Some f) same first)

pub cut_passes : {D : Type 0} (wanted : Bool) (means : Option ℕ → ℕ → Piece → D → Type 0) (language : Language)
    (earlier : List Opening) (p q : ℕ) (x rest : List ℕ) (o : Opening) (r : Result (Passed D) FormatFault)
    → o ≡ (cut language x).opening → rest ≡ (cut language x).rest → q ≡ p + length (opening_text o)
    → first_of (opening_rules language p o) ≡ None
    → PassesBy wanted means (rest_rules language earlier p o q rest) earlier (letter_at o rest) r
    → PassesBy wanted means (conversion_rules language earlier p x) earlier (conversion_at language x) r
cut_passes wanted means language earlier p q x rest o r same behind place quiet passes =
    let by : Opening → ℕ → List ℕ → Type 0
    = λ a n y. PassesBy wanted means (opening_rules language p a ++ rest_rules language earlier p a n y) earlier (letter_at a y) r in
    subst (λ a. by a (p + length (opening_text a)) (cut language x).rest) same
    (subst (by o (p + length (opening_text o))) behind
    (subst (λ n. by o n rest) place
    (passes_behind wanted means (opening_rules language p o) (rest_rules language earlier p o q rest) earlier
    (letter_at o rest) r quiet passes)))

-- what holds of a precision that is there
pub if_point : (P : List ℕ → Type 0) (point : Bool) (ds : List ℕ) → IfSome (precision_of point ds) P → point ≡ true → P ds
if_point P point ds h e = grind arith

-- after a letter that has no fault itself, what stands before it decides
pub flags_first : (profile : Profile) (p : ℕ) (o : Opening) (q b : ℕ) (letter : PrintLetter)
    → first_of (print_letter_rules profile o b q) ≡ None
    → print_letter_of profile b ≡ Some letter
    → first_of (print_letter_rules profile o b q ++ flag_rules p o (print_letter_of profile b)) ≡ first_of (flag_rules p o (Some letter))
flags_first profile p o q b letter rules found =
    rw (first_append (print_letter_rules profile o b q) (flag_rules p o (print_letter_of profile b)), rules, found)
