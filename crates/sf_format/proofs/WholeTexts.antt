-- What is read of a text is its parts or its first fault, and no others are.
use Rattle.std.proofs.Common.{◌≡◌, ℕ, zero, suc, ◌+◌, ◌<◌, ◌≤◌, Bool, true, false, List, [], ◌∷◌, ◌++◌, length, Option, Some, None, Result}
use Rattle.std.proofs.Common.{Ok, Err, refl, ap, sym, nat_eq, ◌∙◌, subst, arith, append_assoc, append-nil, length-append}
use Rattle.std.proofs.lemmas.Bool.Decides.{nat_tests}
use Rattle.std.specs.List.{AllByRecursion}
use Rattle.sf_base.specs.Bytes.{AreBytes, is_white}
use Rattle.sf_format.specs.Language.{Language, Scan, Print}
use Rattle.sf_format.specs.declared.fault.FormatWhy.{FormatWhy}
use Rattle.sf_format.specs.Pieces.{Piece, WhiteSpace, Ordinary, piece_text, text_of}
use Rattle.sf_format.specs.Cut.{Part, part_at}
use Rattle.sf_format.specs.declared.groups.Role.{Role}
use Rattle.sf_format.specs.declared.groups.Role.TheVariants.{Start, End, Leads, Follows}
use Rattle.sf_format.specs.declared.groups.Stage.{Stage}
use Rattle.sf_format.specs.declared.groups.Stage.TheVariants.{Outside, First, Inside}
use Rattle.sf_format.specs.Groups.{role_of, may_stand, next_stage, stage_after, AreGrouped}
use Rattle.sf_format.specs.Grammar.{IsPiece, IsFormat, RunsApart, AreAlike, destinations}
use Rattle.sf_format.specs.Passing.{is_marking}
use Rattle.sf_format.specs.Rules.{first_of}
use Rattle.sf_format.specs.Faults.{part_rules, group_rules, next_rules, PartFault}
use Rattle.sf_format.specs.Reading.{unless, put, read}
use Rattle.sf_format.proofs.Prefixes.{Stops}
use Rattle.sf_format.proofs.Rules.{Quiet, quiet_is, quiet_from, quiet_join, quiet_split, all_back}
use Rattle.sf_format.proofs.Outcomes.{not_false}
use Rattle.sf_format.proofs.Numbers.{slots_alike}
use Rattle.sf_format.proofs.Groupings.{stage_push}
use Rattle.sf_format.proofs.Destinations.{alike_front, destinations_join, destinations_push}
use Rattle.sf_format.proofs.Parts.{StopsAfter, BeginsWith, white_quiet, begins_with, part_of, empty_text}

-- ---- runs of white space

-- a run before such a text is apart from its parts
run_apart : (language : Language) (a : List ℕ) (pieces : List Piece) (rest : List ℕ) → AllByRecursion (IsPiece language) pieces
    → Stops is_white (text_of pieces ++ rest) → RunsApart pieces → RunsApart (WhiteSpace a ∷ pieces)
run_apart language a [] rest each stops apart = tt
run_apart (Scan profile) a (WhiteSpace [] ∷ pieces) rest each stops apart = absurd (omega (arith, each.0.0))
run_apart (Scan profile) a (WhiteSpace (b ∷ bs) ∷ pieces) rest each stops apart = absurd (let white = each.0.1.0 in cc)
run_apart (Print profile) a (WhiteSpace b ∷ pieces) rest each stops apart = absurd each.0
run_apart language a (_ ∷ pieces) rest each stops apart = apart

apart_more : (language : Language) (piece : Piece) (pieces : List Piece) (rest : List ℕ) → AllByRecursion (IsPiece language) pieces
    → StopsAfter piece (text_of pieces ++ rest) → RunsApart pieces → RunsApart (piece ∷ pieces)
apart_more language (WhiteSpace a) pieces rest each stops apart = run_apart language a pieces rest each stops apart
apart_more language _ pieces rest each stops apart = apart

-- a run of white space at the end of the parts doesn't go on
abbrev StopsBehind : List Piece → List ℕ → Type 0
StopsBehind [] rest = Unit {0}
StopsBehind (piece ∷ []) rest = StopsAfter piece rest
StopsBehind (piece ∷ next ∷ pieces) rest = StopsBehind (next ∷ pieces) rest

stops_one : (piece : Piece) (rest : List ℕ) → Stops is_white rest → StopsAfter piece rest
stops_one (WhiteSpace bs) rest stops = stops
stops_one _ rest stops = tt

stops_behind : (done : List Piece) (rest : List ℕ) → Stops is_white rest → StopsBehind done rest
stops_behind [] rest stops = tt
stops_behind (piece ∷ []) rest stops = stops_one piece rest stops
stops_behind (piece ∷ next ∷ done) rest stops = stops_behind (next ∷ done) rest stops

stops_tail : (piece : Piece) (done : List Piece) (rest : List ℕ) → StopsBehind (piece ∷ done) rest → StopsBehind done rest
stops_tail piece [] rest stops = tt
stops_tail piece (next ∷ done) rest stops = stops

stops_after : (language : Language) (piece : Piece) (pieces : List Piece) (rest : List ℕ)
    → AllByRecursion (IsPiece language) (piece ∷ pieces)
    → RunsApart (piece ∷ pieces) → StopsBehind (piece ∷ pieces) rest → StopsAfter piece (text_of pieces ++ rest)
stops_after (Print profile) (WhiteSpace a) pieces rest each apart stops = absurd each.0
stops_after (Scan profile) (WhiteSpace a) [] rest each apart stops = stops
stops_after (Scan profile) (WhiteSpace a) (WhiteSpace b ∷ pieces) rest each apart stops = absurd apart
stops_after (Scan profile) (WhiteSpace a) (Ordinary b ∷ pieces) rest each apart stops = each.1.0.3
stops_after (Scan profile) (WhiteSpace a) (_ ∷ pieces) rest each apart stops = refl
stops_after language _ pieces rest each apart stops = tt

apart_tail : (piece : Piece) (pieces : List Piece) → RunsApart (piece ∷ pieces) → RunsApart pieces
apart_tail piece [] apart = tt
apart_tail piece (next ∷ pieces) apart = grind arith

-- ---- the rules of the next part

-- the part itself, and where it stands
pub next_split : (language : Language) (done : List Piece) (x : List ℕ) → first_of (next_rules language done x) ≡ None
    → Quiet (part_rules language (destinations done) (length (text_of done)) x)
    × (may_stand (stage_after Outside done) (role_of (part_at language x).piece) ≡ true)
next_split language done x none =
    let split = quiet_split (part_rules language (destinations done) (length (text_of done)) x)
    (group_rules done (part_at language x).piece) (quiet_is (next_rules language done x) none) in
    (split.0, not_false _ split.1.0)

next_quiet : (language : Language) (done : List Piece) (x : List ℕ)
    → Quiet (part_rules language (destinations done) (length (text_of done)) x)
    → may_stand (stage_after Outside done) (role_of (part_at language x).piece) ≡ true → first_of (next_rules language done x) ≡ None
next_quiet language done x quiet may =
    quiet_from (next_rules language done x)
    (quiet_join (part_rules language (destinations done) (length (text_of done)) x) (group_rules done (part_at language x).piece) quiet
    (rw may refl, tt))

-- ---- from what is read

-- x is these parts, and then the rest, after others
pub record Divides (language : Language) (done : List Piece) (x : List ℕ) (pieces : List Piece) (rest : List ℕ) : Type 0 where
  pub text : x ≡ text_of pieces ++ rest
  pub each : AllByRecursion (IsPiece language) pieces
  pub apart : RunsApart pieces
  pub alike : AreAlike (destinations (done ++ pieces))
  pub grouped : AreGrouped (stage_after Outside done) pieces

divides_none : (language : Language) (done : List Piece) (x : List ℕ) → AreAlike (destinations done) → Divides language done x [] x
divides_none language done x alike = record { text = refl; each = tt; apart = tt; alike = rw append-nil alike; grouped = tt }

divides_more : {language : Language} {done : List Piece} {x : List ℕ} {part : Part} {pieces : List Piece} {rest : List ℕ}
    → BeginsWith language (destinations done) x part → may_stand (stage_after Outside done) (role_of part.piece) ≡ true
    → Divides language (done ++ part.piece ∷ []) part.rest pieces rest
    → Divides language done x (part.piece ∷ pieces) rest
divides_more {language} {done} {x} {part} {pieces} {rest} begins may divides = record {
  text = begins.text ∙ rw (divides.text, append_assoc);
  each = (begins.is, divides.each);
  apart = apart_more language part.piece pieces rest divides.each (rw divides.text at begins.apart) divides.apart;
  alike = rw (append_assoc done (part.piece ∷ []) pieces) at divides.alike;
  grouped = (may, rw (stage_push Outside done part.piece) at divides.grouped);
}

-- the rules refuse what follows the parts
pub record Refuses (language : Language) (done : List Piece) (x : List ℕ) (fault : FormatWhy × ℕ) : Type 0 where
  pub more : List Piece
  pub rest : List ℕ
  pub divides : Divides language done x more rest
  pub first : first_of (next_rules language (done ++ more) rest) ≡ Some fault

-- what a result says of the text
abbrev pub Tells : Language → List Piece → List ℕ → Result (List Piece) (FormatWhy × ℕ) → Type 0
Tells language done x (Ok pieces) = Divides language done x pieces []
Tells language done x (Err fault) = Refuses language done x fault

pub no_bytes : (x : List ℕ) → length x ≤ 0 → x ≡ []
no_bytes [] h = refl
no_bytes (b ∷ x) h = absurd (omega (arith, h))

tells_put : (language : Language) (done : List Piece) (x : List ℕ) (part : Part) (r : Result (List Piece) (FormatWhy × ℕ))
    → BeginsWith language (destinations done) x part → may_stand (stage_after Outside done) (role_of part.piece) ≡ true
    → Tells language (done ++ part.piece ∷ []) part.rest r → Tells language done x (put part.piece r)
tells_put language done x part (Ok pieces) begins may tells = divides_more begins may tells
tells_put language done x part (Err fault) begins may later = record {
  more = part.piece ∷ later.more;
  rest = later.rest;
  divides = divides_more begins may later.divides;
  first = rw (append_assoc done (part.piece ∷ []) later.more) at later.first;
}

tells_unless : (language : Language) (done : List Piece) (x : List ℕ) (r : Result (List Piece) (FormatWhy × ℕ))
    (first : Option (FormatWhy × ℕ)) → AreAlike (destinations done) → first_of (next_rules language done x) ≡ first
    → (first_of (next_rules language done x) ≡ None → Tells language done x r) → Tells language done x (unless first r)
tells_unless language done x r None alike e otherwise = otherwise e
tells_unless language done x r (Some fault) alike e otherwise =
    record { more = []; rest = x; divides = divides_none language done x alike; first = rw (append-nil done) e }

-- what is read is told of the text
pub read_tells : (n : ℕ) (language : Language) (done : List Piece) (x : List ℕ) → length x ≤ n → AreBytes x → AreAlike (destinations done)
    → Tells language done x (read n language done x)
read_tells zero language done x short bytes alike = rw (no_bytes x short) (divides_none language done [] alike)
read_tells (suc n) language done [] short bytes alike = divides_none language done [] alike
read_tells (suc n) language done (b ∷ x) short bytes alike =
    let part = part_at language (b ∷ x) in
    let after = done ++ part.piece ∷ [] in
    tells_unless language done (b ∷ x) (put part.piece (read n language after part.rest)) (first_of (next_rules language done (b ∷ x)))
    alike refl
    (λ e.
    let split = next_split language done (b ∷ x) e in
    let begins = begins_with language (destinations done) (length (text_of done)) b x bytes split.0 in
    let shorter : length part.rest ≤ n
    = omega (
      arith,
      short,
      ap length begins.text,
      length-append (piece_text part.piece) part.rest,
      empty_text language part.piece begins.is,
    ) in
    tells_put language done (b ∷ x) part (read n language after part.rest) begins split.1
    (read_tells n language after part.rest shorter
    (all_back (λ c. c < 256) (piece_text part.piece) part.rest (subst AreBytes begins.text bytes))
    (rw (destinations_push done part.piece) (begins.alike alike))))

-- ---- to what is read

-- what is read after a part that no rule refuses
abbrev pub read_behind : ℕ → Language → List Piece → Part → Result (List Piece) (FormatWhy × ℕ)
read_behind n language done part = read n language (done ++ part.piece ∷ []) part.rest

pub read_part : (n : ℕ) (language : Language) (done : List Piece) (x : List ℕ) → 0 < length x → length x ≤ n
    → first_of (next_rules language done x) ≡ None
    → (m : ℕ) × (n ≡ suc m) × (read n language done x ≡ put (part_at language x).piece
    (read_behind m language done (part_at language x)))
read_part n language done [] some enough quiet = absurd (omega (arith, some))
read_part zero language done (b ∷ x) some enough quiet = absurd (omega (arith, enough))
read_part (suc n) language done (b ∷ x) some enough quiet = (n, refl, rw quiet)

-- nothing is wrong with no bytes
nothing_wrong : (language : Language) (done : List Piece) → first_of (next_rules language done []) ≡ None
nothing_wrong language done = rw (leads_anywhere (stage_after Outside done)) refl
  where
    leads_anywhere : (stage : Stage) → may_stand stage Leads ≡ true
    leads_anywhere Outside = refl
    leads_anywhere First = refl
    leads_anywhere Inside = refl

pub read_fault : (n : ℕ) (language : Language) (done : List Piece) (x : List ℕ) (fault : FormatWhy × ℕ) → length x ≤ n
    → first_of (next_rules language done x) ≡ Some fault → read n language done x ≡ Err fault
read_fault n language done [] fault enough first = absurd (let none = sym (nothing_wrong language done) ∙ first in cc)
read_fault zero language done (b ∷ x) fault enough first = absurd (omega (arith, enough))
read_fault (suc n) language done (b ∷ x) fault enough first = rw first

pub nothing_read : (n : ℕ) (language : Language) (done : List Piece) → read n language done [] ≡ Ok []
nothing_read zero language done = refl
nothing_read (suc n) language done = refl

-- the parts before those of a result
abbrev pub put_all : List Piece → Result (List Piece) (FormatWhy × ℕ) → Result (List Piece) (FormatWhy × ℕ)
put_all done (Ok pieces) = Ok (done ++ pieces)
put_all done (Err fault) = Err fault

pub put_none : (r : Result (List Piece) (FormatWhy × ℕ)) → r ≡ put_all [] r
put_none r = grind arith

put_first : (piece : Piece) (done : List Piece) (r : Result (List Piece) (FormatWhy × ℕ))
    → put piece (put_all done r) ≡ put_all (piece ∷ done) r
put_first piece done r = grind arith

-- what is read behind a part is read with it
read_first : (language : Language) (before : List Piece) (piece : Piece) (done : List Piece) (z y x rest : List ℕ) (n m k : ℕ) → z ≡ y
    → read n language before y ≡ put (part_at language y).piece (read_behind m language before (part_at language y))
    → part_at language y ≡ record { piece = piece; rest = x }
    → read m language (before ++ piece ∷ []) x ≡ put_all done (read k language ((before ++ piece ∷ []) ++ done) rest)
    → read n language before z ≡ put_all (piece ∷ done) (read k language (before ++ (piece ∷ done)) rest)
read_first language before piece done z y x rest n m k whole first part later =
    ap (read n language before) whole ∙ first ∙ ap (λ t. put t.piece (read_behind m language before t)) part ∙ ap (put piece) later
    ∙ put_first piece done (read k language ((before ++ piece ∷ []) ++ done) rest)
    ∙ ap (λ ps. put_all (piece ∷ done) (read k language ps rest)) (append_assoc before (piece ∷ []) done)

-- what is read after whole parts is read with them
read_done : (n : ℕ) (language : Language) (before done : List Piece) (rest : List ℕ)
    → AllByRecursion (IsPiece language) done → RunsApart done → StopsBehind done rest → AreAlike (destinations (before ++ done))
    → AreGrouped (stage_after Outside before) done → length (text_of done ++ rest) ≤ n
    → (m : ℕ) × (length rest ≤ m)
    × (read n language before (text_of done ++ rest) ≡ put_all done (read m language (before ++ done) rest))
read_done n language before [] rest each apart stops alike grouped enough =
    (n, enough, rw append-nil (put_none (read n language before rest)))
read_done n language before (piece ∷ done) rest each apart stops alike grouped enough =
    let text = piece_text piece in
    let x = text_of done ++ rest in
    let whole = append_assoc text (text_of done) rest in
    let shift : before ++ (piece ∷ done) ≡ (before ++ piece ∷ []) ++ done = sym (append_assoc before (piece ∷ []) done) in
    let later_alike = rw shift at alike in
    let here : AreAlike (destinations before ++ destinations (piece ∷ [])) =
    rw (destinations_push before piece) at (alike_front _ (destinations done)
    (rw (destinations_join (before ++ piece ∷ []) done) at later_alike)) in
    let part = part_of language (destinations before) (length (text_of before)) piece x each.0
    (stops_after language piece done rest each apart stops) here in
    let lengths : length (text ++ x) ≡ length text + length x = length-append text x in
    let long : length (text ++ x) ≤ n = rw (← whole) enough in
    let may : may_stand (stage_after Outside before) (role_of (part_at language (text ++ x)).piece) ≡ true
    = rw part.1 grouped.0 in
    let first = read_part n language before (text ++ x) (omega (arith, lengths, empty_text language piece each.0)) long
    (next_quiet language before (text ++ x) part.0 may) in
    let later = read_done first.0 language (before ++ piece ∷ []) done rest each.1 (apart_tail piece done apart)
    (stops_tail piece done rest stops) later_alike
    (rw (stage_push Outside before piece) grouped.1)
    (omega (arith, long, lengths, empty_text language piece each.0, first.1)) in (
      later.0,
      later.1,
      read_first language before piece done _ (text ++ x) x rest n first.0 later.0 whole first.2 part.1 later.2,
    )

pub parts_read : (language : Language) (pieces : List Piece) → AllByRecursion (IsPiece language) pieces → RunsApart pieces
    → AreAlike (destinations pieces) → AreGrouped Outside pieces
    → read (length (text_of pieces)) language [] (text_of pieces) ≡ Ok pieces
parts_read language pieces each apart alike grouped =
    let whole = append-nil (text_of pieces) in
    let enough : length (text_of pieces ++ []) ≤ length (text_of pieces) = rw whole (omega arith) in
    let all = read_done (length (text_of pieces)) language [] pieces [] each apart (stops_behind pieces [] tt) alike grouped enough in
    rw whole at (all.2 ∙ ap (put_all pieces) (nothing_read all.0 language _) ∙ ap Ok (append-nil pieces))

-- of the text of a format its parts are read
pub format_read : (language : Language) (pieces : List Piece) → IsFormat language pieces
    → read (length (text_of pieces)) language [] (text_of pieces) ≡ Ok pieces
format_read language pieces is = parts_read language pieces is.each is.apart (slots_alike pieces is.slots) is.grouped

-- ---- a fault

-- a directive may stand anywhere but in front of a group
marked_only : (stage : Stage) (role : Role) → is_marking role ≡ false → may_stand stage role ≡ false → stage ≡ First
marked_only Outside Start is e = absurd (cc)
marked_only Outside End is e = absurd (cc)
marked_only Outside _ is e = absurd (cc)
marked_only First role is e = refl
marked_only Inside Start is e = absurd (cc)
marked_only Inside _ is e = absurd (cc)

-- what begins with white space is no mark
white_role : (language : Language) (b : ℕ) (x : List ℕ) → is_white b ≡ true → is_marking (role_of (part_at language (b ∷ x)).piece) ≡ false
white_role (Scan profile) b x white = rw white refl
white_role (Print profile) b x white = let other : nat_eq b 37 ≡ false = grind (arith, nat_tests) in rw other refl

-- white space is refused in front of a group alone
white_refused : (language : Language) (done : List Piece) (b : ℕ) (x : List ℕ) (fault : FormatWhy × ℕ) → is_white b ≡ true
    → first_of (next_rules language done (b ∷ x)) ≡ Some fault → stage_after Outside done ≡ First
white_refused language done b x fault white first =
    by_place (may_stand (stage_after Outside done) (role_of (part_at language (b ∷ x)).piece)) refl
  where
    by_place : (v : Bool) → may_stand (stage_after Outside done) (role_of (part_at language (b ∷ x)).piece) ≡ v
        → stage_after Outside done ≡ First
    by_place false e = marked_only (stage_after Outside done) _ (white_role language b x white) e
    by_place true e =
        let none = next_quiet language done (b ∷ x) (white_quiet language (destinations done) _ b x white) e in
        absurd (let f = sym none ∙ first in cc)

-- a group begins with no white space
first_behind : (stage : Stage) (done : List Piece) (rest : List ℕ) → stage_after stage done ≡ First → StopsBehind done rest
first_behind stage [] rest e = tt
first_behind stage (WhiteSpace bs ∷ []) rest e = absurd (never stage e)
  where
    never : (stage : Stage) → next_stage stage Follows ≡ First → ⊥
    never Outside e = absurd (cc)
    never First e = absurd (cc)
    never Inside e = absurd (cc)
first_behind stage (_ ∷ []) rest e = tt
first_behind stage (piece ∷ next ∷ done) rest e = first_behind (next_stage stage (role_of piece)) (next ∷ done) rest e

-- white space at the end of whole parts doesn't go on in what is refused
refused_stops : (language : Language) (done : List Piece) (x : List ℕ) (fault : FormatWhy × ℕ)
    → first_of (next_rules language done x) ≡ Some fault → StopsBehind done x
refused_stops language done [] fault first = stops_behind done [] tt
refused_stops language done (b ∷ x) fault first = by_white (is_white b) refl
  where
    by_white : (v : Bool) → is_white b ≡ v → StopsBehind done (b ∷ x)
    by_white false e = stops_behind done (b ∷ x) e
    by_white true e = first_behind Outside done (b ∷ x) (white_refused language done b x fault e first)

pub fault_read : (language : Language) (text : List ℕ) (fault : FormatWhy × ℕ) → PartFault language text fault
    → read (length text) language [] text ≡ Err fault
fault_read language text fault (done, rest, good, is, first) =
    let all = read_done (length text) language [] done rest good.each good.apart (refused_stops language done rest fault first) good.alike
    good.grouped (rw (← is) (omega arith)) in
    rw (← is) at all.2 ∙ ap (put_all done) (read_fault all.0 language done rest fault all.1 first)
