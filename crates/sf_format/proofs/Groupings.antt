-- Parts in groups, one after the other, and what they stand for.
use Rattle.std.proofs.Common.{◌≡◌, ℕ, suc, ◌+◌, ◌≤◌, Bool, true, false, ◌||◌, nat_eq, List, [], ◌∷◌, ◌++◌, length, Option, Some, None, refl}
use Rattle.std.proofs.Common.{ap, ◌∙◌, arith, length-append}
use Rattle.std.specs.Prelude.{IsSome}
use Rattle.std.specs.Option.{option_map}
use Rattle.sf_format.specs.declared.groups.Role.{Role}
use Rattle.sf_format.specs.declared.groups.Role.TheVariants.{Start, End}
use Rattle.sf_format.specs.declared.groups.Stage.{Stage}
use Rattle.sf_format.specs.declared.groups.Stage.TheVariants.{Outside, First, Inside}
use Rattle.sf_format.specs.Pieces.{Piece, Plain, Bracket, GroupStart, GroupEnd, is_mark}
use Rattle.sf_format.specs.Pieces.{piece_text, text_of}
use Rattle.sf_format.specs.Groups.{role_of, role_by, may_stand, next_stage, stage_after, AreGrouped, left_in, opened_by, last_start}
use Rattle.sf_format.specs.Passing.{is_marking, ends_group, started, counted}
use Rattle.sf_format.specs.Grammar.{MeanAll, destinations}
use Rattle.sf_format.proofs.Destinations.{destinations_cons}

-- ---- one more part

pub stage_push : (stage : Stage) (done : List Piece) (piece : Piece)
    → stage_after stage (done ++ piece ∷ []) ≡ next_stage (stage_after stage done) (role_of piece)
stage_push stage [] piece = refl
stage_push stage (first ∷ done) piece = stage_push (next_stage stage (role_of first)) done piece

pub grouped_push : (stage : Stage) (done : List Piece) (piece : Piece) → AreGrouped stage done
    → may_stand (stage_after stage done) (role_of piece) ≡ true → AreGrouped stage (done ++ piece ∷ [])
grouped_push stage [] piece grouped may = (may, tt)
grouped_push stage (first ∷ done) piece grouped may =
    (grouped.0, grouped_push (next_stage stage (role_of first)) done piece grouped.1 may)

start_one : (found p : ℕ) (v : Bool) → found ≡ started (role_by v) p found
start_one found p true = refl
start_one found p false = refl

-- where the parts after the first one begin
start_cons : (found p : ℕ) (piece : Piece) (pieces : List Piece)
    → last_start found p (piece ∷ pieces) ≡ last_start (started (role_of piece) p found) (p + length (piece_text piece)) pieces
start_cons found p (Plain o letter) pieces = ap (λ n. last_start n _ pieces) (start_one found p _)
start_cons found p (Bracket o list) pieces = ap (λ n. last_start n _ pieces) (start_one found p o.optional)
start_cons found p _ pieces = refl

pub start_push : (found p : ℕ) (done : List Piece) (piece : Piece)
    → last_start found p (done ++ piece ∷ []) ≡ started (role_of piece) (p + length (text_of done)) (last_start found p done)
start_push found p [] piece = let here : p + 0 ≡ p = omega arith in rw here (start_cons found p piece [])
start_push found p (first ∷ done) piece =
    let q = p + length (piece_text first) in
    let next = started (role_of first) p found in
    let there : p + length (piece_text first ++ text_of done) ≡ q + length (text_of done)
    = omega (arith, length-append (piece_text first) (text_of done)) in
    start_cons found p first (done ++ piece ∷ []) ∙ start_push next q done piece
    ∙ rw (start_cons found p first done, there) refl

-- ---- directives

pub role_directive : (piece : Piece) → is_mark piece ≡ false → is_marking (role_of piece) ≡ false
role_directive (Plain o letter) is = one (o.optional || nat_eq letter 110)
  where
    one : (v : Bool) → is_marking (role_by v) ≡ false
    one true = refl
    one false = refl
role_directive (Bracket o list) is = one o.optional
  where
    one : (v : Bool) → is_marking (role_by v) ≡ false
    one true = refl
    one false = refl
role_directive GroupStart is = absurd (cc)
role_directive GroupEnd is = absurd (cc)
role_directive _ is = refl

-- the mark that a part is, or none
pub mark_role : (piece : Piece) → is_marking (role_of piece) ≡ is_mark piece
mark_role GroupStart = refl
mark_role GroupEnd = refl
mark_role (Plain o letter) = role_directive (Plain o letter) refl
mark_role (Bracket o list) = role_directive (Bracket o list) refl
mark_role _ = refl

counted_one : (n : ℕ) (role : Role) → is_marking role ≡ false → counted n role ≡ n + 1
counted_one n Start is = absurd (cc)
counted_one n End is = absurd (cc)
counted_one n _ is = refl

pub next_outside : (role : Role) → is_marking role ≡ false → next_stage Outside role ≡ Outside
next_outside Start is = absurd (cc)
next_outside End is = absurd (cc)
next_outside _ is = refl

pub next_first : (role : Role) → is_marking role ≡ false → next_stage First role ≡ Inside
next_first Start is = absurd (cc)
next_first End is = absurd (cc)
next_first _ is = refl

pub next_inside : (role : Role) → is_marking role ≡ false → next_stage Inside role ≡ Inside
next_inside Start is = absurd (cc)
next_inside End is = absurd (cc)
next_inside _ is = refl

-- how many directives stand after the last mark that opens a group, where so many stood before the parts
abbrev pub counted_all : ℕ → List Piece → ℕ
counted_all n [] = n
counted_all n (piece ∷ pieces) = counted_all (counted n (role_of piece)) pieces

pub counted_push : (n : ℕ) (done : List Piece) (piece : Piece)
    → counted_all n (done ++ piece ∷ []) ≡ counted (counted_all n done) (role_of piece)
counted_push n [] piece = refl
counted_push n (first ∷ done) piece = counted_push (counted n (role_of first)) done piece

pub counted_low : (n : ℕ) (role : Role) → counted n role ≤ n + 1
counted_low n Start = omega arith
counted_low n End = omega arith
counted_low n _ = omega arith

-- ---- what is left in a group

left_push : (pieces : List Piece) (piece : Piece) → ends_group (role_of piece) ≡ false → left_in (pieces ++ piece ∷ []) ≡ left_in pieces
left_push [] GroupEnd is = absurd (cc)
left_push [] _ is = refl
left_push (GroupEnd ∷ pieces) piece is = refl
left_push (_ ∷ pieces) piece is = ap (option_map suc) (left_push pieces piece is)

opened_push : (first : Bool) (pieces : List Piece) (piece : Piece) → ends_group (role_of piece) ≡ false
    → opened_by first (pieces ++ piece ∷ []) ≡ opened_by first pieces
opened_push true pieces piece is = left_push pieces piece is
opened_push false pieces piece is = refl

-- what has an end has it still before more parts
left_kept : (pieces more : List Piece) (k : ℕ) → left_in pieces ≡ Some k → left_in (pieces ++ more) ≡ Some k
left_kept [] more k e = absurd (cc)
left_kept (GroupEnd ∷ pieces) more k e = e
left_kept (_ ∷ pieces) more k e = by_left (left_in pieces) refl e (λ n f. left_kept pieces more n f)
  where
    by_left : (found : Option ℕ) → left_in pieces ≡ found → option_map suc found ≡ Some k
        → ((n : ℕ) → left_in pieces ≡ Some n → left_in (pieces ++ more) ≡ Some n) → option_map suc (left_in (pieces ++ more)) ≡ Some k
    by_left None f e later = absurd (cc)
    by_left (Some n) f e later = rw (later n f) e

-- ---- one more part, and what it stands for

not_end : (role : Role) → is_marking role ≡ false → ends_group role ≡ false
not_end End is = absurd (cc)
not_end _ is = refl

mean_one : {D : Type 0} (means : Option ℕ → ℕ → Piece → D → Type 0) (first : Bool) (place : ℕ) (piece : Piece) (d : D)
    → is_mark piece ≡ false → means None place piece d → MeanAll means first place (piece ∷ []) (d ∷ [])
mean_one means first place GroupStart d is one = absurd (cc)
mean_one means first place GroupEnd d is one = absurd (cc)
mean_one means true place _ d is one = (one, tt)
mean_one means false place _ d is one = (one, tt)

pub mean_push : {D : Type 0} (means : Option ℕ → ℕ → Piece → D → Type 0) (first : Bool) (place : ℕ) (done : List Piece) (ds : List D)
    (piece : Piece) (d : D) → is_mark piece ≡ false
    → MeanAll means first place done ds → means None (place + length (destinations done)) piece d
    → MeanAll means first place (done ++ piece ∷ []) (ds ++ d ∷ [])
mean_push means first place [] [] piece d is all one =
    let same : place + 0 ≡ place = omega arith in mean_one means first place piece d is (rw same at one)
mean_push means first place (GroupStart ∷ done) ds piece d is all one = mean_push means true place done ds piece d is all one
mean_push means first place (GroupEnd ∷ done) ds piece d is all one = mean_push means false place done ds piece d is all one
mean_push means first place (before ∷ done) (e ∷ ds) piece d is all one =
    let here = length (destinations (before ∷ [])) in
    let same : place + length (destinations (before ∷ []) ++ destinations done) ≡ (place + here) + length (destinations done)
    = omega (arith, length-append (destinations (before ∷ [])) (destinations done)) in (
      rw (opened_push first done piece (not_end (role_of piece) (role_directive piece is))) all.0,
      mean_push means false (place + here) done ds piece d is all.1 (rw (destinations_cons before done, same) at one),
    )
mean_push means first place _ _ piece d is all one = absurd all

pub mean_start : {D : Type 0} (means : Option ℕ → ℕ → Piece → D → Type 0) (first : Bool) (place : ℕ) (done : List Piece) (ds : List D)
    → MeanAll means first place done ds → MeanAll means first place (done ++ GroupStart ∷ []) ds
mean_start means first place [] [] all = tt
mean_start means first place (GroupStart ∷ done) ds all = mean_start means true place done ds all
mean_start means first place (GroupEnd ∷ done) ds all = mean_start means false place done ds all
mean_start means first place (before ∷ done) (e ∷ ds) all = (
  rw (opened_push first done GroupStart refl) all.0,
  mean_start means false (place + length (destinations (before ∷ []))) done ds all.1,
)
mean_start means first place _ _ all = absurd all

-- ---- the end of a group

-- the open group has no end yet, so each of its directives is one more
open_all : {D : Type 0} (means : Option ℕ → ℕ → Piece → D → Type 0) (n place : ℕ) (pieces : List Piece) (ds : List D)
    → MeanAll means false place pieces ds → AreGrouped Inside pieces → left_in pieces ≡ None
    → (counted_all n pieces ≡ n + length ds) × (left_in (pieces ++ GroupEnd ∷ []) ≡ Some (length ds))
    × MeanAll means false place (pieces ++ GroupEnd ∷ []) ds
open_all means n place [] [] all grouped left = (omega arith, refl, tt)
open_all means n place (GroupStart ∷ pieces) ds all grouped left = absurd (let h = grouped.0 in cc)
open_all means n place (GroupEnd ∷ pieces) ds all grouped left = absurd (cc)
open_all means n place (piece ∷ pieces) (d ∷ ds) all grouped left =
    let one = role_directive piece refl in
    let none : left_in pieces ≡ None = none_left (left_in pieces) left in
    let later = open_all means (n + 1) (place + length (destinations (piece ∷ []))) pieces ds all.1
    (rw (next_inside (role_of piece) one) at grouped.1) none in (
      rw (counted_one n (role_of piece) one, later.0) (omega arith),
      ap (option_map suc) later.1,
      (all.0, later.2),
    )
  where
    none_left : (found : Option ℕ) → option_map suc found ≡ None → found ≡ None
    none_left found e = grind arith
open_all means n place _ _ all grouped left = absurd all

-- the list has the first directive of the group that is open, with so many from it on; with an end, it opens the group
pub record Closing {D : Type 0} (means : Option ℕ → ℕ → Piece → D → Type 0) (first : Bool) (place : ℕ) (pieces : List Piece) (ds : List D)
    (count : ℕ) : Type 0 where
  pub front : List D
  pub directive : D
  pub back : List D
  pub is : ds ≡ front ++ directive ∷ back
  pub count_is : suc (length back) ≡ count
  pub all : (opener : D)
      → ((at : ℕ) (piece : Piece) → means None at piece directive → means (Some (length back)) at piece opener)
      → MeanAll means first place (pieces ++ GroupEnd ∷ []) (front ++ opener ∷ back)

abbrev pub is_first : Stage → Bool
is_first First = true
is_first stage = false

-- a group that was open before the parts ends among them
abbrev Awaits : Stage → ℕ → List Piece → Type 0
Awaits Outside n pieces = Unit {0}
Awaits First n pieces = n ≡ 0
Awaits Inside n pieces = IsSome (left_in pieces)

-- one directive more in front
in_front : {D : Type 0} {means : Option ℕ → ℕ → Piece → D → Type 0} {first : Bool} {place : ℕ} {piece : Piece} {pieces : List Piece}
    {d : D} {ds : List D} {count : ℕ} → is_mark piece ≡ false → means (opened_by first (pieces ++ GroupEnd ∷ [])) place piece d
    → Closing means false (place + length (destinations (piece ∷ []))) pieces ds count
    → Closing means first place (piece ∷ pieces) (d ∷ ds) count
in_front {piece = GroupStart} is here c = absurd (cc)
in_front {piece = GroupEnd} is here c = absurd (cc)
in_front {piece = _} {d = d} is here c = record {
  front = d ∷ c.front;
  directive = c.directive;
  back = c.back;
  is = ap (λ ds. d ∷ ds) c.is;
  count_is = c.count_is;
  all = λ opener opens. (here, c.all opener opens);
}

pub closing_of : {D : Type 0} (means : Option ℕ → ℕ → Piece → D → Type 0) (stage : Stage) (n place : ℕ) (pieces : List Piece) (ds : List D)
    → MeanAll means (is_first stage) place pieces ds → AreGrouped stage pieces → stage_after stage pieces ≡ Inside → Awaits stage n pieces
    → Closing means (is_first stage) place pieces ds (counted_all n pieces)
closing_of means Outside n place [] ds all grouped after awaits = absurd (cc)
closing_of means First n place [] ds all grouped after awaits = absurd (cc)
closing_of means Inside n place [] ds all grouped after awaits = absurd (cc)
closing_of means Outside n place (GroupStart ∷ pieces) ds all grouped after awaits =
    let c = closing_of means First 0 place pieces ds all grouped.1 after refl in
    record { front = c.front; directive = c.directive; back = c.back; is = c.is; count_is = c.count_is; all = c.all }
closing_of means First n place (GroupStart ∷ pieces) ds all grouped after awaits = absurd (let h = grouped.0 in cc)
closing_of means Inside n place (GroupStart ∷ pieces) ds all grouped after awaits = absurd (let h = grouped.0 in cc)
closing_of means Outside n place (GroupEnd ∷ pieces) ds all grouped after awaits = absurd (let h = grouped.0 in cc)
closing_of means First n place (GroupEnd ∷ pieces) ds all grouped after awaits = absurd (let h = grouped.0 in cc)
closing_of means Inside n place (GroupEnd ∷ pieces) ds all grouped after awaits =
    let c = closing_of means Outside n place pieces ds all grouped.1 after tt in
    record { front = c.front; directive = c.directive; back = c.back; is = c.is; count_is = c.count_is; all = c.all }
closing_of means Outside n place (piece ∷ pieces) (d ∷ ds) all grouped after awaits =
    let one = role_directive piece refl in
    let next = next_outside (role_of piece) one in
    rw (counted_one n (role_of piece) one)
    (in_front refl all.0
    (closing_of means Outside (n + 1) _ pieces ds all.1 (rw next at grouped.1) (rw next at after) tt))
closing_of means Inside n place (piece ∷ pieces) (d ∷ ds) all grouped after awaits =
    let one = role_directive piece refl in
    let next = next_inside (role_of piece) one in
    rw (counted_one n (role_of piece) one)
    (in_front refl all.0
    (closing_of means Inside (n + 1) _ pieces ds all.1 (rw next at grouped.1) (rw next at after) (more_left (left_in pieces) awaits)))
  where
    more_left : (found : Option ℕ) → IsSome (option_map suc found) → IsSome found
    more_left found h = grind arith
closing_of means First n place (piece ∷ pieces) (d ∷ ds) all grouped after awaits =
    let one = role_directive piece refl in
    let next = next_first (role_of piece) one in
    rw (counted_one n (role_of piece) one)
    (by_left (left_in pieces) refl (rw next at grouped.1)
    (λ has. closing_of means Inside (n + 1) _ pieces ds all.1 (rw next at grouped.1) (rw next at after) has))
  where
    by_left : (found : Option ℕ) → left_in pieces ≡ found → AreGrouped Inside pieces
        → (IsSome (left_in pieces)
        → Closing means false (place + length (destinations (piece ∷ []))) pieces ds (counted_all (n + 1) pieces))
        → Closing means true place (piece ∷ pieces) (d ∷ ds) (counted_all (n + 1) pieces)
    by_left (Some k) e inside later =
        in_front refl (rw (left_kept pieces (GroupEnd ∷ []) k e, ← e) all.0) (later (rw e refl))
    by_left None e inside later =
        let opened = open_all means (n + 1) _ pieces ds all.1 inside e in
        record {
          front = [];
          directive = d;
          back = ds;
          is = refl;
          count_is = rw (opened.0, awaits) (omega arith);
          all = λ opener opens. (rw opened.1 (opens place piece (rw e at all.0)), opened.2);
        }
closing_of means _ n place _ _ all grouped after awaits = absurd all
