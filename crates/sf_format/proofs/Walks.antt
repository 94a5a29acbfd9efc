-- A text passed part by part.
use Rattle.std.proofs.Common.{◌≡◌, ℕ, suc, ◌+◌, ◌-◌, ◌<◌, ◌≤◌, Bool, true, false, List, [], ◌∷◌, ◌++◌, length, get_or}
use Rattle.std.proofs.Common.{Option, Some, None, Ok, Err, refl, sym, ap, ◌∙◌, subst, arith, append_assoc, append-nil, length-append}
use Rattle.std.specs.Prelude.{◌==◌, IfSome, MatchOption}
use Rattle.std.proofs.lemmas.Bool.Decides.{nat_tests}
use Rattle.std.proofs.lemmas.Grind.{flat_map-append}
use Rattle.sf_base.specs.Bytes.{AreBytes}
use Rattle.sf_format.specs.Language.{Language}
use Rattle.sf_format.specs.declared.fault.FormatFault.{FormatFault}
use Rattle.sf_format.specs.declared.grammar.Before.{Before}
use Rattle.sf_format.specs.declared.groups.Role.{Role}
use Rattle.sf_format.specs.declared.groups.Role.TheVariants.{Start, End}
use Rattle.sf_format.specs.declared.groups.Stage.{Stage}
use Rattle.sf_format.specs.declared.groups.Stage.TheVariants.{Outside, First, Inside}
use Rattle.sf_format.specs.Groups.{role_of, may_stand, stage_after, AreGrouped}
use Rattle.sf_format.specs.Pieces.{Piece, GroupStart, GroupEnd, is_mark, piece_text, text_of}
use Rattle.sf_format.specs.Cut.{part_at}
use Rattle.sf_format.specs.Grammar.{destinations, MeanAll}
use Rattle.sf_format.specs.Rules.{first_of}
use Rattle.sf_format.specs.Faults.{next_rules}
use Rattle.sf_format.specs.Reading.{put, read}
use Rattle.sf_format.specs.Passing.{Precedes, IsKept, IsOpened, IsTaken, Gathers, counted, ends_group, fault_of, is_marking}
use Rattle.sf_format.proofs.Rules.{all_back}
use Rattle.sf_format.proofs.Destinations.{destinations_push, at_most_one, none_held}
use Rattle.sf_format.proofs.Groupings.{Closing, closing_of, counted_all, counted_low, counted_push, grouped_push, mean_push, mean_start}
use Rattle.sf_format.proofs.Groupings.{role_directive}
use Rattle.sf_format.proofs.Parts.{begins_with, empty_text}
use Rattle.sf_format.proofs.Judgements.{Judgement}
use Rattle.sf_format.proofs.WholeTexts.{put_all, put_none, read_part, read_fault, next_split, nothing_read, no_bytes}

pub bytes_of : (xs : List ℕ) → ((i : ℕ) → get_or xs i 0 < 256) → AreBytes xs
bytes_of [] h = tt
bytes_of (x ∷ xs) h = (h 0, bytes_of xs (λ i. h (suc i)))

-- the text up to the place was passed, and what is read of the rest decides
pub record Passing (language : Language) (text : List ℕ) (at : ℕ) (rest : List ℕ) (before : Before) : Type 0 where
  pub done : List Piece
  pub whole : at + length rest ≡ length text
  pub place : length (text_of done) ≡ at
  pub bytes : AreBytes rest
  pub holds : Precedes before done
  pub grouped : AreGrouped Outside done
  pub few : length (destinations done) ≤ at
  pub fuel : ℕ
  pub enough : length rest ≤ fuel
  pub decides : read (length text) language [] text ≡ put_all done (read fuel language done rest)

-- before the first part
pub nothing_passed : Precedes (record { slots = record { count = 0; numbered = false }; group = record { stage = Outside; start = 0 } }) []
nothing_passed = record { slots = none_held; stage = refl; start = refl }

abbrev pub passing_none : (language : Language) (text : List ℕ) (before : Before) → AreBytes text → Precedes before []
    → Passing language text 0 text before
passing_none language text before bytes holds = record {
  done = [];
  whole = omega arith;
  place = refl;
  bytes = bytes;
  holds = holds;
  grouped = tt;
  few = omega arith;
  fuel = length text;
  enough = omega arith;
  decides = put_none (read (length text) language [] text);
}

pub put_push : (done : List Piece) (piece : Piece) (r : Judgement) → put_all done (put piece r) ≡ put_all (done ++ piece ∷ []) r
put_push done piece (Ok pieces) = rw (append_assoc done (piece ∷ []) pieces)
put_push done piece (Err fault) = refl

pub text_push : (done : List Piece) (piece : Piece) → length (text_of (done ++ piece ∷ []))
    ≡ length (text_of done) + length (piece_text piece)
text_push done piece =
    rw (flat_map-append piece_text done (piece ∷ []), append-nil) (length-append (text_of done) (piece_text piece))

-- a part and what follows it, which are bytes
pub record IsPart (language : Language) (x : List ℕ) : Type 0 where
  pub some : 0 < length (piece_text (part_at language x).piece)
  pub text : x ≡ piece_text (part_at language x).piece ++ (part_at language x).rest
  pub lengths : length (piece_text (part_at language x).piece) + length (part_at language x).rest ≡ length x
  pub bytes : AreBytes (part_at language x).rest

is_part : (language : Language) (done : List Piece) (x : List ℕ) → 0 < length x → AreBytes x
    → first_of (next_rules language done x) ≡ None → IsPart language x
is_part language done [] some bytes quiet = absurd (omega (arith, some))
is_part language done (b ∷ x) some bytes quiet =
    let begins = begins_with language (destinations done) _ b x bytes (next_split language done (b ∷ x) quiet).0 in
    let part = part_at language (b ∷ x) in
    record {
      some = empty_text language part.piece begins.is;
      text = begins.text;
      lengths = sym (length-append (piece_text part.piece) part.rest) ∙ sym (ap length begins.text);
      bytes = all_back (λ c. c < 256) (piece_text part.piece) part.rest (subst AreBytes begins.text bytes);
    }

-- the part in front of the rest was passed, and something is left after it
pub record PassesFirst {language : Language} {text : List ℕ} {at : ℕ} {rest : List ℕ} {before : Before}
    (h : Passing language text at rest before)
    (after : List ℕ) (new : Before) : Type 0 where
  pub some : 0 < length rest
  pub none : first_of (next_rules language h.done rest) ≡ None
  pub behind : after ≡ (part_at language rest).rest
  pub holds : Precedes new (h.done ++ (part_at language rest).piece ∷ [])
  pub part : IsPart language rest

pub passes_on : {language : Language} {text : List ℕ} {at : ℕ} {rest after : List ℕ} {before new : Before} {empty : Bool}
    → (h : Passing language text at rest before) → empty ≡ (length rest == 0) → empty ≡ false
    → first_of (next_rules language h.done rest) ≡ None → after ≡ (part_at language rest).rest
    → Precedes new (h.done ++ (part_at language rest).piece ∷ []) → PassesFirst h after new
passes_on {language} {rest = rest} h is_empty more none behind holds =
    let some : 0 < length rest = let none : (length rest == 0) ≡ false = sym is_empty ∙ more in grind (arith, nat_tests) in
    record {
      some = some;
      none = none;
      behind = behind;
      holds = holds;
      part = is_part language h.done rest some h.bytes none;
    }

-- what follows a part is shorter
pub rest_shorter : {language : Language} {text : List ℕ} {at : ℕ} {rest after : List ℕ} {before new : Before}
    {h : Passing language text at rest before}
    → PassesFirst h after new → (length after < length rest) × (length after ≤ length text)
rest_shorter {h = h} passes =
    let part = passes.part in (
      omega (arith, part.some, part.lengths, ap length passes.behind),
      omega (arith, part.some, part.lengths, ap length passes.behind, h.whole),
    )

-- the part may stand where it does
pub part_stands : {language : Language} {text : List ℕ} {at : ℕ} {rest after : List ℕ} {before new : Before}
    {h : Passing language text at rest before}
    → PassesFirst h after new → may_stand (stage_after Outside h.done) (role_of (part_at language rest).piece) ≡ true
part_stands {language} {rest = rest} {h = h} passes = (next_split language h.done rest passes.none).1

abbrev pub passing_more : {language : Language} {text : List ℕ} {at : ℕ} {rest after : List ℕ} {before new : Before}
    → {h : Passing language text at rest before} → PassesFirst h after new → Passing language text (length text - length after) after new
passing_more {language} {text} {at} {rest} {after} {before} {new} {h} passes =
    let part = passes.part in
    let piece = (part_at language rest).piece in
    let same : length after ≡ length (part_at language rest).rest = ap length passes.behind in
    let place : length text - length after ≡ at + length (piece_text piece) = omega (arith, part.some, part.lengths, same, h.whole) in
    let next = read_part h.fuel language h.done rest passes.some h.enough passes.none in
    record {
      done = h.done ++ piece ∷ [];
      whole = omega (arith, part.some, part.lengths, same, h.whole);
      place = omega (arith, place, h.place, text_push h.done piece);
      bytes = rw passes.behind part.bytes;
      holds = passes.holds;
      grouped = grouped_push Outside h.done piece h.grouped (part_stands passes);
      few =
          omega (
            arith,
            place,
            ap length (destinations_push h.done piece),
            length-append (destinations h.done) (destinations (piece ∷ [])),
            at_most_one piece,
            part.some,
            h.few,
          );
      fuel = next.0;
      enough = omega (arith, next.1, h.enough, part.some, part.lengths, same);
      decides =
          h.decides ∙ ap (put_all h.done) next.2 ∙ put_push h.done piece _
          ∙ ap (put_all (h.done ++ piece ∷ [])) (rw passes.behind refl);
    }

pub passing_fault : {language : Language} {text : List ℕ} {at : ℕ} {rest : List ℕ} {before : Before} (fault : FormatFault)
    (h : Passing language text at rest before) → first_of (next_rules language h.done rest) ≡ Some (fault_of fault)
    → read (length text) language [] text ≡ Err (fault_of fault)
passing_fault {language} {rest = rest} fault h first =
    h.decides ∙ ap (put_all h.done) (read_fault h.fuel language h.done rest (fault_of fault) h.enough first)

pub passing_all : {language : Language} {text : List ℕ} {at : ℕ} {rest : List ℕ} {before : Before} {empty : Bool}
    → (h : Passing language text at rest before) → empty ≡ (length rest == 0) → empty ≡ true
    → read (length text) language [] text ≡ Ok h.done
passing_all {language} {rest = rest} h is_empty none =
    let over = no_bytes rest (let none : (length rest == 0) ≡ true = sym is_empty ∙ none in grind (arith, nat_tests)) in
    h.decides
    ∙ ap (λ x. put_all h.done (read h.fuel language h.done x)) over
    ∙ ap (put_all h.done) (nothing_read h.fuel language h.done) ∙ ap Ok (append-nil h.done)

-- ---- with what the parts so far stand for, where that is kept

pub record Gathering (D : Type 0) (language : Language) (means : Option ℕ → ℕ → Piece → D → Type 0) (text : List ℕ) (at : ℕ)
    (rest : List ℕ) (before : Before) (count : ℕ)
    (list : Option (List D)) : Type 0 where
  pub passing : Passing language text at rest before
  pub counts : count ≡ counted_all 0 passing.done
  pub low : count ≤ at
  pub meaning : IfSome list (MeanAll means false 1 passing.done)

-- what closes a group stands in one
stands_inside : (stage : Stage) → may_stand stage End ≡ true → stage ≡ Inside
stands_inside Outside e = absurd (cc)
stands_inside First e = absurd (cc)
stands_inside Inside e = refl

-- where it closes one, the list has its directives
abbrev closing_at : {D : Type 0} (means : Option ℕ → ℕ → Piece → D → Type 0) (done : List Piece) (ds : List D) → AreGrouped Outside done
    → may_stand (stage_after Outside done) End ≡ true → MeanAll means false 1 done ds → Closing means false 1 done ds (counted_all 0 done)
closing_at means done ds grouped may meaning =
    closing_of means Outside 0 1 done ds meaning grouped (stands_inside (stage_after Outside done) may) tt

closing_room : {D : Type 0} {means : Option ℕ → ℕ → Piece → D → Type 0} {first : Bool} {place : ℕ} {pieces : List Piece} {ds : List D}
    {count : ℕ} → Closing means first place pieces ds count → (1 ≤ count) × (count ≤ length ds)
closing_room c =
    let lengths = ap length c.is ∙ length-append c.front (c.directive ∷ c.back) in
    (omega (arith, c.count_is), omega (arith, c.count_is, lengths))

pub with_room : {D : Type 0} {language : Language} (means : Option ℕ → ℕ → Piece → D → Type 0) {text : List ℕ} {at : ℕ}
    {rest after : List ℕ} {before new : Before} {count : ℕ} (role : Role) (list : Option (List D))
    (h : Gathering D language means text at rest before count list) → PassesFirst h.passing after new
    → role ≡ role_of (part_at language rest).piece
    → IfSome list (λ ds. ends_group role ≡ true → (1 ≤ count) × (count ≤ length ds))
with_room means role None h passes is = tt
with_room {language = language} means {rest = rest} {count = count} role (Some ds) h passes is = by_role role is
  where
    by_role : (r : Role) → r ≡ role_of (part_at language rest).piece → ends_group r ≡ true → (1 ≤ count) × (count ≤ length ds)
    by_role End same e =
        let may = rw (← same) at (part_stands passes) in
        rw h.counts (closing_room (closing_at means h.passing.done ds h.passing.grouped may h.meaning))
    by_role _ same e = absurd (cc)

-- two ways to split a list before so many are one
same_split : {D : Type 0} (front others : List D) (d e : D) (back rest : List D) → front ++ d ∷ back ≡ others ++ e ∷ rest
    → length back ≡ length rest → (front ≡ others) × (d ≡ e) × (back ≡ rest)
same_split [] [] d e back rest same lengths = (refl, cc, cc)
same_split [] (a ∷ others) d e back rest same lengths =
    let tail : back ≡ others ++ e ∷ rest = cc in
    absurd (omega (arith, ap length tail, length-append others (e ∷ rest), lengths))
same_split (a ∷ front) [] d e back rest same lengths =
    let tail : front ++ d ∷ back ≡ rest = cc in
    absurd (omega (arith, ap length tail, length-append front (d ∷ back), lengths))
same_split (a ∷ front) (b ∷ others) d e back rest same lengths =
    let head : a ≡ b = cc in
    let later = same_split front others d e back rest (cc) lengths in
    (rw (head, later.0), later.1, later.2)

-- the group is closed, if the list was kept
opened_means : {D : Type 0} (means : Option ℕ → ℕ → Piece → D → Type 0) (done : List Piece) (count : ℕ) (list taken : Option (List D))
    → AreGrouped Outside done → may_stand (stage_after Outside done) End ≡ true → count ≡ counted_all 0 done
    → IfSome list (MeanAll means false 1 done) → IsOpened means count list taken
    → IfSome taken (MeanAll means false 1 (done ++ GroupEnd ∷ []))
opened_means means done count list None grouped may counts meaning is = tt
opened_means means done count None (Some new) grouped may counts meaning is = absurd is
opened_means means done count (Some ds) (Some new) grouped may counts meaning (front, d, e, back, split, made, counted, opens) =
    let c = closing_at means done ds grouped may meaning in
    let lengths : length c.back ≡ length back = omega (arith, c.count_is, counted, counts) in
    let same = same_split c.front front c.directive d c.back back (sym c.is ∙ split) lengths in
    rw made (rw (same.0, same.2) at (c.all e (rw (same.1, lengths) opens)))

kept_means : {D : Type 0} (means : Option ℕ → ℕ → Piece → D → Type 0) (done : List Piece) (piece : Piece) (N : Type 0)
    (list : Option (List D)) (part : Option D) (kept : Option (List D)) → is_mark piece ≡ false → IfSome list (MeanAll means false 1 done)
    → MatchOption part N (means None (1 + length (destinations done)) piece) → IsKept list part kept
    → IfSome kept (MeanAll means false 1 (done ++ piece ∷ []))
kept_means means done piece N list part None one meaning made is = tt
kept_means means done piece N (Some ds) (Some d) (Some kept) one meaning made is =
    rw is (mean_push means false 1 done ds piece d one meaning made)
kept_means means done piece N (Some ds) None (Some kept) one meaning made is = absurd is
kept_means means done piece N None part (Some kept) one meaning made is = absurd is

taken_kept : {D : Type 0} (means : Option ℕ → ℕ → Piece → D → Type 0) (count : ℕ) (role : Role) (list : Option (List D)) (part : Option D)
    (taken : Option (List D)) → is_marking role ≡ false → IsTaken means count role list part taken → IsKept list part taken
taken_kept means count Start list part taken one is = absurd (cc)
taken_kept means count End list part taken one is = absurd (cc)
taken_kept means count _ list part taken one is = is

-- with one part more, if what it stands for was made and there was room for it
taken_means : {D : Type 0} (means : Option ℕ → ℕ → Piece → D → Type 0) (done : List Piece) (piece : Piece) (N : Type 0) (count : ℕ)
    (list : Option (List D)) (part : Option D) (taken : Option (List D)) → AreGrouped Outside done
    → may_stand (stage_after Outside done) (role_of piece) ≡ true → count ≡ counted_all 0 done
    → IfSome list (MeanAll means false 1 done)
    → MatchOption part N (means None (1 + length (destinations done)) piece) → IsTaken means count (role_of piece) list part taken
    → IfSome taken (MeanAll means false 1 (done ++ piece ∷ []))
taken_means means done GroupStart N count None part taken grouped may counts meaning made is = rw is tt
taken_means means done GroupStart N count (Some ds) part taken grouped may counts meaning made is =
    rw is (mean_start means false 1 done ds meaning)
taken_means means done GroupEnd N count list part taken grouped may counts meaning made is =
    opened_means means done count list taken grouped may counts meaning is
taken_means means done piece N count list part taken grouped may counts meaning made is =
    kept_means means done piece N list part taken refl meaning made
    (taken_kept means count (role_of piece) list part taken (role_directive piece refl) is)

pub gathering_more : {D : Type 0} {language : Language} (means : Option ℕ → ℕ → Piece → D → Type 0) {text : List ℕ} {at : ℕ}
    {rest after : List ℕ} {before new : Before} (N : Type 0) (count : ℕ) (role : Role) (part : Option D) {list taken : Option (List D)}
    (h : Gathering D language means text at rest before count list)
    → PassesFirst h.passing after new → role ≡ role_of (part_at language rest).piece
    → MatchOption part N (means None (1 + length (destinations h.passing.done)) (part_at language rest).piece)
    → IsTaken means count role list part taken
    → Gathering D language means text (length text - length after) after new (counted count role) taken
gathering_more {language = language} means {rest = rest} N count role part {list} {taken} h passes same made is =
    let piece = (part_at language rest).piece in
    let next = passing_more passes in
    let long = text_push h.passing.done piece in
    record {
      passing = next;
      counts = rw (same, counted_push 0 h.passing.done piece, h.counts) refl;
      low = omega (arith, h.low, counted_low count role, passes.part.some, h.passing.place, next.place, long);
      meaning = taken_means means h.passing.done piece N count list part taken h.passing.grouped (part_stands passes) h.counts h.meaning
          made (subst (λ r. IsTaken means count r list part taken) same is);
    }

pub gathering_all : {D : Type 0} {language : Language} {means : Option ℕ → ℕ → Piece → D → Type 0} {text : List ℕ} {at : ℕ}
    {rest : List ℕ} {before : Before} {count : ℕ} (list : Option (List D)) (h : Gathering D language means text at rest before count list)
    → read (length text) language [] text ≡ Ok h.passing.done → IfSome list (Gathers language means text)
gathering_all None h parts = tt
gathering_all (Some ds) h parts = record { pieces = h.passing.done; parts = parts; meaning = h.meaning }
