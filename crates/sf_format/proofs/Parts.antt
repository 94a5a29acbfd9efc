-- The part that a format without a fault there begins with, and the text of a part.
use Rattle.std.proofs.Common.{is_none, None, Some, Option, ◌≡◌, ◌≢◌, ℕ, Bool, true, false, cond, nat_eq, List, [], ◌∷◌, ◌++◌, refl}
use Rattle.std.proofs.Common.{append-nil, arith, ◌+◌, ◌<◌, length, sym, ap, ◌∙◌, subst, append_assoc, drop}
use Rattle.std.proofs.lemmas.Bool.Decides.{nat_tests}
use Rattle.sf_base.specs.Bytes.{is_white, AreBytes}
use Rattle.sf_format.specs.Language.{Language, Scan, Print}
use Rattle.sf_format.specs.Pieces.{Opening, Piece, WhiteSpace, piece_text, Ordinary, Percents, Plain, Bracket, opening_text}
use Rattle.sf_format.specs.Pieces.{GroupStart, GroupEnd}
use Rattle.sf_format.specs.declared.directive.Profile.{Profile}
use Rattle.sf_format.specs.Cut.{Part, conversion_at, specification_at, Cut, cut, letter_at, part_at}
use Rattle.sf_format.specs.Cut.{has_groups, group_mark, short_part}
use Rattle.sf_format.specs.Grammar.{IsPiece, AreAlike, destinations, assigned_opening}
use Rattle.sf_format.specs.Faults.{percent_rules, part_rules, conversion_rules, opening_rules, letter_rules, bracket_rules, scanlist_rules}
use Rattle.sf_format.specs.Faults.{ending_rules, rest_rules}
use Rattle.sf_format.specs.Passing.{IsIn}
use Rattle.sf_format.specs.Lists.{begins, front, behind}
use Rattle.sf_format.proofs.Prefixes.{Stops, front_behind, front_passes, behind_stops, front_of, behind_of}
use Rattle.sf_format.proofs.Cutting.{begins_joined, IsLast, HasParts, inside, cut_of, cut_joined, cut_parts, cut_in, opening_regroup}
use Rattle.sf_format.proofs.Rules.{Quiet, quiet_join, quiet_split, all_back}
use Rattle.sf_format.proofs.Outcomes.{same_byte, other_byte, byte_differs}
use Rattle.sf_format.specs.Letters.{has_doubles, letter_of}
use Rattle.sf_format.specs.Scanlist.{Scanlist, scanlist_text}
use Rattle.sf_format.specs.Rules.{slot_rules}
use Rattle.sf_format.specs.declared.letter.Letter.TheVariants.{Set}
use Rattle.sf_format.proofs.Scanlists.{listed, marked, bracket_of, quiet_list}
use Rattle.sf_format.proofs.Suits.{letter_is, suits_from, suits_parts, opening_quiet, letter_quiet, print_letter_is, suits_print_from}
use Rattle.sf_format.proofs.Suits.{print_opening_quiet, print_letter_quiet, flags_quiet, suits_print_parts}
use Rattle.sf_format.proofs.Destinations.{assigned_alike, slot_quiet}
use Rattle.sf_format.specs.PrintLetters.{print_letter_of}
use Rattle.sf_format.specs.PrintRules.{print_letter_rules, flag_rules}

-- what follows a run of white space begins with none
abbrev pub StopsAfter : Piece → List ℕ → Type 0
StopsAfter (WhiteSpace bs) rest = Stops is_white rest
StopsAfter _ rest = Unit {0}

-- the text begins with the part, which has no fault after these destinations
pub record BeginsWith (language : Language) (earlier : List Opening) (x : List ℕ) (part : Part) : Type 0 where
  pub text : x ≡ piece_text part.piece ++ part.rest
  pub is : IsPiece language part.piece
  pub alike : AreAlike earlier → AreAlike (earlier ++ destinations (part.piece ∷ []))
  pub apart : StopsAfter part.piece part.rest

pub nothing_more : (earlier : List Opening) → AreAlike earlier → AreAlike (earlier ++ [])
nothing_more earlier h = rw append-nil h

-- nothing is wrong with a byte that begins no specification
pub byte_quiet : (language : Language) (earlier : List Opening) (p b : ℕ) (x : List ℕ) → nat_eq b 0 ≡ false → nat_eq b 37 ≡ false
    → Quiet (part_rules language earlier p (b ∷ x))
byte_quiet language earlier p b x zero percent = rw percent (zero, tt)

pub white_quiet : (language : Language) (earlier : List Opening) (p b : ℕ) (x : List ℕ) → is_white b ≡ true
    → Quiet (part_rules language earlier p (b ∷ x))
white_quiet language earlier p b x white = byte_quiet language earlier p b x (grind (arith, nat_tests)) (grind (arith, nat_tests))

-- ---- after a %

pub letter_some : {L : Type 0} (found : Option L) → is_none found ≡ false → (letter : L) × (found ≡ Some letter)
letter_some None e = absurd (cc)
letter_some (Some letter) e = (letter, refl)

-- one of two parts
abbrev pub chosen_part : Bool → Part → Part → Part
chosen_part v a b = cond v a b

abbrev pub byte_part : ℕ → List ℕ → Part
byte_part b x = record { piece = Ordinary b; rest = x }

percents_are : (language : Language) → IsPiece language Percents
percents_are (Scan profile) = tt
percents_are (Print profile) = tt

-- the text begins with a mark that it begins with
marked_begins : (earlier : List Opening) (profile : Profile) (x : List ℕ) (part : Part) → has_doubles profile ≡ true
    → group_mark x ≡ Some part → BeginsWith (Scan profile) earlier (37 ∷ x) part
marked_begins earlier profile x part has e = by_start (begins (63 ∷ 40 ∷ []) x) refl
  where
    by_end : (v : Bool) → begins (41 ∷ []) x ≡ v → cond v (Some (record { piece = GroupEnd; rest = drop 1 x })) None ≡ Some part
        → BeginsWith (Scan profile) earlier (37 ∷ x) part
    by_end false f g = absurd (cc)
    by_end true f g =
        let same : record { piece = GroupEnd; rest = drop 1 x } ≡ part = cc in
        subst (BeginsWith (Scan profile) earlier (37 ∷ x)) same
        (record { text = rw (begins_joined (41 ∷ []) x f); is = has; alike = nothing_more earlier; apart = tt })

    by_start : (v : Bool) → begins (63 ∷ 40 ∷ []) x ≡ v → BeginsWith (Scan profile) earlier (37 ∷ x) part
    by_start false f = by_end (begins (41 ∷ []) x) refl (rw f at e)
    by_start true f =
        let g = rw f at e in
        let same : record { piece = GroupStart; rest = drop 2 x } ≡ part = cc in
        subst (BeginsWith (Scan profile) earlier (37 ∷ x)) same
        (record { text = rw (begins_joined (63 ∷ 40 ∷ []) x f); is = has; alike = nothing_more earlier; apart = tt })

-- the part that is no specification
short_begins : (language : Language) (earlier : List Opening) (x : List ℕ) (part : Part) → short_part language x ≡ Some part
    → BeginsWith language earlier (37 ∷ x) part
short_begins language earlier x part e = by_percent (begins (37 ∷ []) x) refl
  where
    by_groups : (language : Language) (v : Bool) → has_groups language ≡ v → cond v (group_mark x) None ≡ Some part
        → BeginsWith language earlier (37 ∷ x) part
    by_groups language false f g = absurd (cc)
    by_groups (Scan profile) true f g = marked_begins earlier profile x part f g
    by_groups (Print profile) true f g = absurd (cc)

    by_percent : (v : Bool) → begins (37 ∷ []) x ≡ v → BeginsWith language earlier (37 ∷ x) part
    by_percent false f = by_groups language (has_groups language) refl (rw f at e)
    by_percent true f =
        let g = rw f at e in
        let same : record { piece = Percents; rest = drop 1 x } ≡ part = cc in
        subst (BeginsWith language earlier (37 ∷ x)) same
        (record { text = rw (begins_joined (37 ∷ []) x f); is = percents_are language; alike = nothing_more earlier; apart = tt })

specification_begins : (language : Language) (earlier : List Opening) (p : ℕ) (x : List ℕ)
    → (Quiet (conversion_rules language earlier p x) → BeginsWith language earlier (37 ∷ x) (conversion_at language x))
    → Quiet (percent_rules language earlier p x) → BeginsWith language earlier (37 ∷ x) (specification_at language x)
specification_begins language earlier p x conversion quiet = by_short (short_part language x) refl
  where
    by_short : (found : Option Part) → short_part language x ≡ found → BeginsWith language earlier (37 ∷ x) (specification_at language x)
    by_short None e = rw e (conversion (rw e at quiet))
    by_short (Some part) e = rw e (short_begins language earlier x part e)

-- a byte that begins no run of white space
pub byte_begins : (language : Language) (earlier : List Opening) (p b : ℕ) (x : List ℕ) → (b ≢ 0 → b ≢ 37 → IsPiece language (Ordinary b))
    → (Quiet (conversion_rules language earlier p x) → BeginsWith language earlier (37 ∷ x) (conversion_at language x))
    → Quiet (part_rules language earlier p (b ∷ x))
    → BeginsWith language earlier (b ∷ x) (chosen_part (nat_eq b 37) (specification_at language x) (byte_part b x))
byte_begins language earlier p b x ordinary conversion quiet = by_percent (nat_eq b 37) refl
  where
    by_percent : (v : Bool) → nat_eq b 37 ≡ v
        → BeginsWith language earlier (b ∷ x) (chosen_part (nat_eq b 37) (specification_at language x) (byte_part b x))
    by_percent true e =
        rw (e, same_byte b 37 e) (specification_begins language earlier p x conversion (rw e at quiet.1))
    by_percent false e =
        rw e (record { text = refl; is = ordinary (other_byte b 0 quiet.0) (other_byte b 37 e); alike = nothing_more earlier; apart = tt })

-- a specification whose rules refuse nothing
pub percent_quiet : (language : Language) (earlier : List Opening) (p : ℕ) (x : List ℕ) → short_part language x ≡ None
    → Quiet (conversion_rules language earlier p x) → Quiet (part_rules language earlier p (37 ∷ x))
percent_quiet language earlier p x other quiet = rw other (refl, quiet)

pub percent_part : (language : Language) (x : List ℕ) → short_part language x ≡ None → part_at language (37 ∷ x) ≡ conversion_at language x
percent_part (Scan profile) x other = rw other
percent_part (Print profile) x other = rw other

plain_text : (o : Opening) (letter : ℕ) (y : List ℕ) → piece_text (Plain o letter) ++ y ≡ 37 ∷ inside o (letter ∷ y)
plain_text o letter y = append_assoc (opening_text o) (letter ∷ []) y ∙ opening_regroup o (letter ∷ y)

bracket_text : (o : Opening) (list : Scanlist) (y : List ℕ) → piece_text (Bracket o list) ++ y
    ≡ 37 ∷ inside o (91 ∷ (scanlist_text list ++ y))
bracket_text o list y = append_assoc (opening_text o) (91 ∷ scanlist_text list) y ∙ opening_regroup o (91 ∷ (scanlist_text list ++ y))

-- what stands after an opening of bytes are bytes
inside_bytes : (o : Opening) (y : List ℕ) → AreBytes (inside o y) → AreBytes y
inside_bytes o y h = let whole : inside o y ≡ inside o [] ++ y = simp append_assoc in
    all_back (λ b. b < 256) (inside o []) y (rw whole at h)

-- ---- from the text to the part

letter_begins : (language : Language) (earlier : List Opening) (p : ℕ) (o : Opening) (q : ℕ) (rest x : List ℕ) → inside o rest ≡ x
    → AreBytes x
    → HasParts o → IsIn language o → Quiet (opening_rules language p o) → Quiet (rest_rules language earlier p o q rest)
    → BeginsWith language earlier (37 ∷ x) (letter_at o rest)
letter_begins language earlier p o q [] x e bytes parts own opening quiet = absurd (let h = quiet.0 in cc)
letter_begins (Scan profile) earlier p o q (letter ∷ y) x e bytes parts own opening quiet =
    let split = quiet_split (ending_rules (Scan profile) p o q letter y) (slot_rules earlier p o) quiet in
    let rules = quiet_split (letter_rules profile o letter q) (scanlist_rules letter q y) split.0 in
    by_bracket (nat_eq letter 91) refl rules.0 rules.1 (λ k. assigned_alike earlier p o k split.1)
  where
    by_bracket : (v : Bool) → nat_eq letter 91 ≡ v → Quiet (letter_rules profile o letter q) → Quiet (bracket_rules v q y)
        → (AreAlike earlier → AreAlike (earlier ++ assigned_opening o []))
        → BeginsWith (Scan profile) earlier (37 ∷ x) (letter_at o (letter ∷ y))
    by_bracket false other rules list alike =
        let l = letter_some (letter_of profile letter) rules.1.1.0 in
        rw other
        (record {
          text = ap (λ t. 37 ∷ t) (sym e) ∙ sym (plain_text o letter y);
          is = (other_byte letter 91 other, (l.0, l.1, suits_from profile l.0 o letter p q l.1 parts own opening rules));
          alike = alike;
          apart = tt;
        })
    by_bracket true same rules list alike =
        let a : letter ≡ 91 = same_byte letter 91 same in
        let whole : inside o (91 ∷ y) ≡ x = rw (← a) e in
        let h = listed q _ y (inside_bytes o (91 ∷ y) (rw whole bytes)).1 list in
        rw same
        (record {
          text = ap (λ t. 37 ∷ t) (sym whole) ∙ ap (λ t. 37 ∷ inside o (91 ∷ t)) (sym h.text) ∙ sym (bracket_text o _ _);
          is = (suits_from profile Set o 91 p q refl parts own opening (rw a at rules), h.is);
          alike = alike;
          apart = tt;
        })
letter_begins (Print profile) earlier p o q (b ∷ y) x e bytes parts own opening quiet =
    let split = quiet_split (ending_rules (Print profile) p o q b y) (slot_rules earlier p o) quiet in
    let rules = quiet_split (print_letter_rules profile o b q) (flag_rules p o (print_letter_of profile b)) split.0 in
    let l = letter_some (print_letter_of profile b) rules.0.1.1.0 in
    rw (print_letter_is profile b l.0 l.1).plain
    (record {
      text = ap (λ t. 37 ∷ t) (sym e) ∙ sym (plain_text o b y);
      is = (l.0, l.1, suits_print_from profile l.0 o b p q l.1 parts own opening rules.0 (rw l.1 at rules.1));
      alike = λ h. assigned_alike earlier p o h split.1;
      apart = tt;
    })

conversion_begins : (language : Language) (earlier : List Opening) (p : ℕ) (x : List ℕ) → AreBytes x
    → Quiet (conversion_rules language earlier p x)
    → BeginsWith language earlier (37 ∷ x) (conversion_at language x)
conversion_begins language earlier p x bytes quiet =
    let o = (cut language x).opening in
    let q = p + length (opening_text o) in
    let split = quiet_split (opening_rules language p o) (rest_rules language earlier p o q (cut language x).rest) quiet in
    letter_begins language earlier p o q _ x (cut_joined language x) bytes (cut_parts language x) (cut_in language x) split.0 split.1

-- a text of bytes that no rule refuses begins with its part
pub begins_with : (language : Language) (earlier : List Opening) (p b : ℕ) (x : List ℕ) → AreBytes (b ∷ x)
    → Quiet (part_rules language earlier p (b ∷ x)) → BeginsWith language earlier (b ∷ x) (part_at language (b ∷ x))
begins_with (Scan profile) earlier p b x bytes quiet = by_white (is_white b) refl
  where
    by_white : (v : Bool) → is_white b ≡ v → BeginsWith (Scan profile) earlier (b ∷ x) (part_at (Scan profile) (b ∷ x))
    by_white true white =
        let run : BeginsWith (Scan profile) earlier (b ∷ x) (record
        { piece = WhiteSpace (front is_white (b ∷ x)); rest = behind is_white (b ∷ x) }) = record {
          text = sym (front_behind is_white (b ∷ x));
          is = (rw white (omega arith), front_passes is_white (b ∷ x));
          alike = nothing_more earlier;
          apart = behind_stops is_white (b ∷ x);
        } in
        rw white (rw white at run)
    by_white false black =
        rw black
        (byte_begins (Scan profile) earlier p b x (λ other percent. (bytes.0, other, percent, black))
        (conversion_begins (Scan profile) earlier p x bytes.1) quiet)
begins_with (Print profile) earlier p b x bytes quiet =
    byte_begins (Print profile) earlier p b x (λ other percent. (bytes.0, other, percent))
    (conversion_begins (Print profile) earlier p x bytes.1) quiet

-- ---- from the part to the text

-- no rule refuses a specification, and it is what its text begins with
specification_is : (language : Language) (earlier : List Opening) (p : ℕ) (o : Opening) (letter : ℕ) (y : List ℕ) → HasParts o
    → IsIn language o
    → IsLast letter → Quiet (opening_rules language p o) → ((q : ℕ) → Quiet (ending_rules language p o q letter y))
    → AreAlike (earlier ++ assigned_opening o [])
    → Quiet (part_rules language earlier p (37 ∷ inside o (letter ∷ y)))
    × (part_at language (37 ∷ inside o (letter ∷ y)) ≡ letter_at o (letter ∷ y))
specification_is language earlier p o letter y parts own last opening ending alike =
    let (other, is_cut) = cut_of language o letter y parts own last in
    let q = p + length (opening_text o) in
    let rest = quiet_join (ending_rules language p o q letter y) (slot_rules earlier p o) (ending q) (slot_quiet earlier p o alike) in (
      percent_quiet language earlier p (inside o (letter ∷ y)) other
          (subst
          (λ (c : Cut). Quiet (opening_rules language p c.opening ++ rest_rules language earlier p c.opening
          (p + length (opening_text c.opening)) c.rest))
          (sym is_cut) (quiet_join (opening_rules language p o) (rest_rules language earlier p o q (letter ∷ y)) opening rest)),
      percent_part language (inside o (letter ∷ y)) other ∙ ap (λ (c : Cut). letter_at c.opening c.rest) is_cut,
    )

-- no rule refuses the text, and it begins with the part
abbrev IsPartOf : Language → List Opening → ℕ → Piece → List ℕ → List ℕ → Type 0
IsPartOf language earlier p piece rest x =
    Quiet (part_rules language earlier p x) × (part_at language x ≡ record { piece = piece; rest = rest })

pub part_of : (language : Language) (earlier : List Opening) (p : ℕ) (piece : Piece) (rest : List ℕ) → IsPiece language piece
    → StopsAfter piece rest
    → AreAlike (earlier ++ destinations (piece ∷ [])) → IsPartOf language earlier p piece rest (piece_text piece ++ rest)
part_of (Scan profile) earlier p (WhiteSpace []) rest is stops alike = absurd (omega (arith, is.0))
part_of (Scan profile) earlier p (WhiteSpace (b ∷ bs)) rest is stops alike = (
  white_quiet (Scan profile) earlier p b (bs ++ rest) is.1.0,
  rw (is.1.0, front_of is_white bs rest is.1.1 stops, behind_of is_white bs rest is.1.1 stops),
)
part_of (Scan profile) earlier p (Ordinary b) rest is stops alike =
    let byte = byte_differs b 37 is.2 in
    (byte_quiet (Scan profile) earlier p b rest (byte_differs b 0 is.1) byte, rw (is.3, byte))
part_of (Scan profile) earlier p Percents rest is stops alike = ((refl, tt), refl)
part_of (Scan profile) earlier p (Plain o b) rest is stops alike =
    let (letter, found, suits) = is.1 in
    let other = byte_differs b 91 is.0 in
    let all = specification_is (Scan profile) earlier p o b rest (suits_parts profile letter o suits)
    (suits.flags, suits.precision, suits.optional, suits.column, suits.strict) (letter_is profile b letter found).last
    (opening_quiet profile letter o p suits)
    (λ q. quiet_join (letter_rules profile o b q) (scanlist_rules b q rest) (letter_quiet profile letter o b q found suits) (rw other tt))
    alike in
    subst (IsPartOf (Scan profile) earlier p (Plain o b) rest) (sym (plain_text o b rest)) (all.0, all.1 ∙ rw other)
part_of (Scan profile) earlier p (Bracket o list) rest is stops alike =
    let y = scanlist_text list ++ rest in
    let all = specification_is (Scan profile) earlier p o 91 y (suits_parts profile Set o is.0)
    (is.0.flags, is.0.precision, is.0.optional, is.0.column, is.0.strict) (letter_is profile 91 Set refl).last
    (opening_quiet profile Set o p is.0)
    (λ q. quiet_join (letter_rules profile o 91 q) (scanlist_rules 91 q y) (letter_quiet profile Set o 91 q refl is.0)
    (rw (marked list rest is.1) (quiet_list q _ list rest is.1))) alike in
    subst (IsPartOf (Scan profile) earlier p (Bracket o list) rest) (sym (bracket_text o list rest))
    (all.0, all.1 ∙ bracket_of o list rest is.1)
part_of (Scan profile) earlier p GroupStart rest is stops alike =
    (rw is (refl, tt), rw is refl)
part_of (Scan profile) earlier p GroupEnd rest is stops alike =
    (rw is (refl, tt), rw is refl)
part_of (Print profile) earlier p (Ordinary b) rest is stops alike =
    let byte = byte_differs b 37 is.2 in
    (byte_quiet (Print profile) earlier p b rest (byte_differs b 0 is.1) byte, rw byte)
part_of (Print profile) earlier p Percents rest is stops alike = ((refl, tt), refl)
part_of (Print profile) earlier p (Plain o b) rest (letter, found, suits) stops alike =
    let known = print_letter_is profile b letter found in
    let all = specification_is (Print profile) earlier p o b rest (suits_print_parts letter o suits)
    (suits.star, suits.optional, suits.column, suits.strict, suits.first) known.last (print_opening_quiet profile letter o p suits)
    (λ q. quiet_join (print_letter_rules profile o b q) (flag_rules p o (print_letter_of profile b))
    (print_letter_quiet profile letter o b q found suits) (rw found (flags_quiet letter o p suits))) alike in
    subst (IsPartOf (Print profile) earlier p (Plain o b) rest) (sym (plain_text o b rest)) (all.0, all.1 ∙ rw known.plain)
part_of (Print profile) earlier p _ rest is stops alike = absurd is

-- no part is empty
pub empty_text : (language : Language) (piece : Piece) → IsPiece language piece → 0 < length (piece_text piece)
empty_text (Scan profile) (WhiteSpace bs) is = is.0
empty_text (Print profile) (WhiteSpace bs) is = absurd is
empty_text language _ is = omega arith
