-- The text of the directive with a number.
use Rattle.std.proofs.Common.{◌≡◌, ℕ, zero, suc, ◌+◌, ◌-◌, ◌<◌, ◌≤◌, Bool, true, false, List, [], ◌∷◌, ◌++◌, length, map, take}
use Rattle.std.proofs.Common.{Some, None, Ok, Err, refl, sym, ap, ◌∙◌, arith, slice_get, length-append, append-nil, append_assoc}
use Rattle.std.specs.Prelude.{◌==◌}
use Rattle.std.proofs.lemmas.List.{take_at}
use Rattle.sf_format.specs.Language.{Language}
use Rattle.sf_format.specs.declared.grammar.Before.{Before}
use Rattle.sf_format.specs.declared.groups.Role.{Role}
use Rattle.sf_format.specs.Groups.{role_of}
use Rattle.sf_format.specs.Passing.{is_marking}
use Rattle.sf_format.specs.Pieces.{Piece, is_mark, piece_text, text_at, unmarked}
use Rattle.sf_format.specs.Cut.{part_at}
use Rattle.sf_format.specs.Reading.{read}
use Rattle.sf_format.proofs.Judgements.{Judgement}
use Rattle.sf_format.proofs.WholeTexts.{put_all}
use Rattle.sf_format.proofs.Groupings.{mark_role}
use Rattle.sf_format.proofs.Walks.{Passing, PassesFirst, passing_more, passing_all}

-- ---- the parts that were passed are the first of the text's

begin_put : (done : List Piece) (r : Judgement) (pieces : List Piece) → put_all done r ≡ Ok pieces
    → (more : List Piece) × (pieces ≡ done ++ more)
begin_put done (Ok more) pieces e = (more, cc)
begin_put done (Err fault) pieces e = absurd (cc)

-- ---- the parts that stand for something

pub unmarked_join : (done more : List Piece) → unmarked (done ++ more) ≡ unmarked done ++ unmarked more
unmarked_join [] more = refl
unmarked_join (piece ∷ done) more = by_mark (is_mark piece) refl (unmarked_join done more)
  where
    by_mark : (v : Bool) → is_mark piece ≡ v → unmarked (done ++ more) ≡ unmarked done ++ unmarked more
        → unmarked (piece ∷ (done ++ more)) ≡ unmarked (piece ∷ done) ++ unmarked more
    by_mark true e later = rw e later
    by_mark false e later = rw e (ap (λ ps. piece ∷ ps) later)

pub unmarked_one : (piece : Piece) → is_mark piece ≡ false → unmarked (piece ∷ []) ≡ piece ∷ []
unmarked_one piece e = rw e refl

pub unmarked_none : (piece : Piece) → is_mark piece ≡ true → unmarked (piece ∷ []) ≡ []
unmarked_none piece e = rw e refl

text_behind : (done : List Piece) (piece : Piece) (more : List Piece)
    → slice_get (map piece_text (done ++ piece ∷ more)) (length done) ≡ Some (piece_text piece)
text_behind [] piece more = refl
text_behind (first ∷ done) piece more = text_behind done piece more

texts_end : (done : List Piece) (n : ℕ) → length done ≤ n → slice_get (map piece_text done) n ≡ None
texts_end [] n h = refl
texts_end (piece ∷ done) zero h = absurd (omega (arith, h))
texts_end (piece ∷ done) (suc n) h = texts_end done n (omega (arith, h))

text_past : (number : ℕ) (done : List Piece) → length (unmarked done) < number → text_at number done ≡ None
text_past zero done h = refl
text_past (suc n) done h = texts_end (unmarked done) n (omega (arith, h))

-- ---- the walk

-- so many directives are left up to the one with the number
pub record Counting (language : Language) (text : List ℕ) (at : ℕ) (rest : List ℕ) (before : Before) (number left : ℕ) : Type 0 where
  pub passing : Passing language text at rest before
  pub some : 1 ≤ left
  pub count : left + length (unmarked passing.done) ≡ number

pub counting_more : {language : Language} {text : List ℕ} {at : ℕ} {rest after : List ℕ} {before new : Before} {number left : ℕ}
    {mark : Bool} {role : Role}
    → (h : Counting language text at rest before number left) → PassesFirst h.passing after new
    → role ≡ role_of (part_at language rest).piece → mark ≡ is_marking role → mark ≡ false → 1 < left
    → Counting language text (length text - length after) after new number (left - 1)
counting_more {language} {rest = rest} h passes same marks one more =
    let piece = (part_at language rest).piece in
    let none : is_mark piece ≡ false = sym (mark_role piece) ∙ ap is_marking (sym same) ∙ sym marks ∙ one in
    let pushed = ap length (unmarked_join h.passing.done (piece ∷ [])
    ∙ ap (λ ps. unmarked h.passing.done ++ ps) (unmarked_one piece none)) in
    record {
      passing = passing_more passes;
      some = omega (arith, more);
      count = omega (arith, more, h.count, pushed, length-append (unmarked h.passing.done) (piece ∷ []));
    }

-- over the mark of a group
pub counting_over : {language : Language} {text : List ℕ} {at : ℕ} {rest after : List ℕ} {before new : Before} {number left : ℕ}
    {mark : Bool} {role : Role}
    → (h : Counting language text at rest before number left) → PassesFirst h.passing after new
    → role ≡ role_of (part_at language rest).piece → mark ≡ is_marking role → mark ≡ true
    → Counting language text (length text - length after) after new number left
counting_over {language} {rest = rest} h passes same marks one =
    let piece = (part_at language rest).piece in
    let mark : is_mark piece ≡ true = sym (mark_role piece) ∙ ap is_marking (sym same) ∙ sym marks ∙ one in
    let pushed = ap length (unmarked_join h.passing.done (piece ∷ []) ∙ ap (λ ps. unmarked h.passing.done ++ ps) (unmarked_none piece mark)
    ∙ append-nil (unmarked h.passing.done)) in
    record { passing = passing_more passes; some = h.some; count = omega (arith, h.count, pushed) }

-- the part in front of the rest is the directive with the number
pub text_found : {language : Language} {text : List ℕ} {at : ℕ} {rest after : List ℕ} {before new : Before} {number left : ℕ}
    {mark : Bool} {role : Role}
    (pieces : List Piece)
    (h : Counting language text at rest before number left) → PassesFirst h.passing after new
    → role ≡ role_of (part_at language rest).piece → mark ≡ is_marking role → mark ≡ false → left ≡ 1
    → read (length text) language [] text ≡ Ok pieces → Some (take (length rest - length after) rest) ≡ text_at number pieces
text_found {language} {rest = rest} {after = after} {number = number} pieces h passes same_role marks unmark one e =
    let done = h.passing.done in
    let part = part_at language rest in
    let next = passing_more passes in
    let none : is_mark part.piece ≡ false = sym (mark_role part.piece) ∙ ap is_marking (sym same_role) ∙ sym marks ∙ unmark in
    let more = begin_put next.done _ pieces (sym next.decides ∙ e) in
    let counted : suc (length (unmarked done)) ≡ number = omega (arith, one, h.count) in
    let same : length rest - length after ≡ length (piece_text part.piece) = omega (arith, passes.part.lengths, ap length passes.behind) in
    let all : unmarked pieces ≡ unmarked done ++ part.piece ∷ unmarked more.0 =
    ap unmarked more.1 ∙ unmarked_join (done ++ part.piece ∷ []) more.0
    ∙ ap (λ ps. ps ++ unmarked more.0) (unmarked_join done (part.piece ∷ [])
    ∙ ap (λ ps. unmarked done ++ ps) (unmarked_one part.piece none))
    ∙ append_assoc (unmarked done) (part.piece ∷ []) (unmarked more.0) in
    ap (λ x. Some (take (length rest - length after) x)) passes.part.text
    ∙ ap Some (take_at (piece_text part.piece) part.rest (length rest - length after) (sym same))
    ∙ rw (← counted, all) (sym (text_behind (unmarked done) part.piece (unmarked more.0)))

-- no directive has the number
pub text_none : {language : Language} {text : List ℕ} {at : ℕ} {rest : List ℕ} {before : Before} {number left : ℕ} {empty : Bool}
    (pieces : List Piece)
    → Counting language text at rest before number left → empty ≡ (length rest == 0) → empty ≡ true
    → read (length text) language [] text ≡ Ok pieces → None ≡ text_at number pieces
text_none {number = number} pieces h is_empty none e =
    let same : h.passing.done ≡ pieces = let both = sym (passing_all h.passing is_empty none) ∙ e in cc in
    sym (text_past number h.passing.done (omega (arith, h.some, h.count))) ∙ ap (text_at number) same
