-- What is noted of the numbers of destinations, one after the other.
use Rattle.std.proofs.Common.{◌≡◌, ◌≢◌, ℕ, ◌+◌, ◌-◌, ◌<◌, Bool, true, false, ◌||◌, nat_eq, nat_lt, List, [], ◌∷◌, ◌++◌, length, map, Option}
use Rattle.std.proofs.Common.{None, Ok, refl, sym, ap, ◌∙◌, subst, arith, append_assoc, append-nil, length-append}
use Rattle.std.proofs.lemmas.List.{map-append}
use Rattle.std.specs.Prelude.{◌==◌}
use Rattle.std.specs.List.{AllByRecursion}
use Rattle.sf_base.specs.Bytes.{magnitude}
use Rattle.sf_base.specs.Sets.{has_byte}
use Rattle.sf_format.specs.Language.{Language}
use Rattle.sf_format.specs.declared.fault.FormatWhy.{FormatWhy}
use Rattle.sf_format.specs.declared.fault.FormatWhy.TheVariants.{NumberTwice, NumberGap}
use Rattle.sf_format.specs.declared.noted.Noted.{Noted}
use Rattle.sf_format.specs.declared.grammar.Before.{Before}
use Rattle.sf_format.specs.Lists.{is_any_of, is_written}
use Rattle.sf_format.specs.Pieces.{Opening, Piece, piece_text, text_of}
use Rattle.sf_format.specs.Cut.{part_at}
use Rattle.sf_format.specs.Grammar.{destinations}
use Rattle.sf_format.specs.Rules.{Rule, first_of}
use Rattle.sf_format.specs.Faults.{numbered, repeated, beyond, number_rules}
use Rattle.sf_format.specs.Reading.{read}
use Rattle.sf_format.specs.Passing.{with_place, slot_at, first_place, told, Notes, Precedes, Walked}
use Rattle.sf_format.proofs.Outcomes.{same_test}
use Rattle.sf_format.proofs.Rules.{all_front, all_back, first_append, or_else}
use Rattle.sf_format.proofs.Destinations.{destinations_push, by_destination}
use Rattle.sf_format.proofs.Numbers.{AreWritten, numbers, all_written, unnumbered_rules}
use Rattle.sf_format.proofs.Walks.{Passing, PassesFirst, passing_more, passing_all}

-- ---- one more number

any_push : (xs : List ℕ) (y m : ℕ) → is_any_of (xs ++ y ∷ []) m ≡ (nat_eq y m || is_any_of xs m)
any_push [] y m = refl
any_push (x ∷ xs) y m = grind (arith, any_push xs y m)

regroup : (a b c : Bool) → ((a || b) || c) ≡ (b || (a || c))
regroup a b c = grind arith

repeated_push : (earlier : List ℕ) (ns : List (ℕ × ℕ)) (n : ℕ × ℕ)
    → repeated earlier (ns ++ n ∷ [])
    ≡ repeated earlier ns ++ record { why = NumberTwice; applies = is_any_of earlier n.0 || is_any_of (numbers ns) n.0; at = n.1 } ∷ []
repeated_push earlier [] n = let same : (is_any_of earlier n.0 || false) ≡ is_any_of earlier n.0 = grind arith in rw same
repeated_push earlier (a ∷ ns) n =
    rw (repeated_push (a.0 ∷ earlier) ns n, regroup (nat_eq a.0 n.0) (is_any_of earlier n.0) (is_any_of (numbers ns) n.0))

beyond_push : (count : ℕ) (ns : List (ℕ × ℕ)) (n : ℕ × ℕ) → beyond count (ns ++ n ∷ []) ≡ beyond count ns ++ beyond count (n ∷ [])
beyond_push count [] n = refl
beyond_push count (a ∷ ns) n = rw (beyond_push count ns n)

-- one more rule of the same reason
told_push : (why : FormatWhy) (before : Option ℕ) (rules : List Rule) (applies : Bool) (at : ℕ) → told why before ≡ first_of rules
    → told why (first_place before applies at) ≡ first_of (rules ++ record { why = why; applies = applies; at = at } ∷ [])
told_push why before rules applies at e =
    rw (first_append rules (record { why = why; applies = applies; at = at } ∷ []), ← e) (one before applies)
  where
    one : (found : Option ℕ) (v : Bool) → told why (first_place found v at)
        ≡ or_else (told why found) (first_of (record { why = why; applies = v; at = at } ∷ []))
    one found v = grind arith

pub notes_more : (count : ℕ) (ns : List (ℕ × ℕ)) (old new : Noted) (n at : ℕ) (used high : Bool) → Notes count ns old → n < 256
    → used ≡ has_byte old.used n → high ≡ nat_lt count n → new.twice ≡ first_place old.twice used at → new.gap ≡ first_place old.gap high at
    → ((k : ℕ) → k < 256 → has_byte new.used k ≡ (k == n || has_byte old.used k)) → Notes count (ns ++ (n, at) ∷ []) new
notes_more count ns old new n at used high notes byte is_used is_high twice gap put = record {
  used = λ m below.
      rw (put m below, same_test m n, notes.used m below, map-append (λ (a : ℕ × ℕ). a.0) ns ((n, at) ∷ []))
      (sym (any_push (numbers ns) n m));
  twice =
      rw (twice, is_used, notes.used n byte, repeated_push [] ns (n, at))
      (told_push NumberTwice old.twice (repeated [] ns) (is_any_of (numbers ns) n) at notes.twice);
  gap = rw (gap, is_high, beyond_push count ns (n, at)) (told_push NumberGap old.gap (beyond count ns) (nat_lt count n) at notes.gap);
}

-- the first place of two is told
pub noted_first : (count : ℕ) (ns : List (ℕ × ℕ)) (noted : Noted) → Notes count ns noted
    → or_else (told NumberTwice noted.twice) (told NumberGap noted.gap) ≡ first_of (repeated [] ns ++ beyond count ns)
noted_first count ns noted notes = rw (first_append (repeated [] ns) (beyond count ns), notes.twice, notes.gap)

-- ---- parts

-- destinations with their numbers, at the place
abbrev at_place : ℕ → List Opening → List (ℕ × ℕ)
at_place p os = map (λ o. (magnitude 10 o.number, p)) os

-- the slot of a part is its number, where it has one
part_placed : (place at : ℕ) (piece : Piece) → AreWritten (destinations (piece ∷ []))
    → with_place (slot_at place (destinations (piece ∷ []))) at ≡ at_place at (destinations (piece ∷ []))
part_placed place at piece =
    by_destination (λ os. AreWritten os → with_place (slot_at place os) at ≡ at_place at os) piece (λ h. refl) (λ o plain h. grind arith)

numbered_push : (p : ℕ) (done : List Piece) (piece : Piece)
    → numbered p (done ++ piece ∷ []) ≡ numbered p done ++ at_place (p + length (text_of done)) (destinations (piece ∷ []))
numbered_push p [] piece = let here : p + 0 ≡ p = omega arith in rw (here, append-nil)
numbered_push p (first ∷ done) piece =
    let q = p + length (piece_text first) in
    let there : p + length (piece_text first ++ text_of done) ≡ q + length (text_of done)
    = omega (arith, length-append (piece_text first) (text_of done)) in
    rw (numbered_push q done piece, there, append_assoc)

-- ---- the walk

pub record Noting (language : Language) (text : List ℕ) (at : ℕ) (rest : List ℕ) (before : Before) (count : ℕ) (noted : Noted)
    : Type 0 where
  pub passing : Passing language text at rest before
  pub ns : List (ℕ × ℕ)
  pub notes : Notes count ns noted
  pub same : AreWritten (destinations passing.done) → ns ≡ numbered 0 passing.done

pub noting_more : {language : Language} {text : List ℕ} {at : ℕ} {rest after : List ℕ} {before later : Before} {count : ℕ}
    {old new : Noted} {slot : Option ℕ} (h : Noting language text at rest before count old) → PassesFirst h.passing after later
    → slot ≡ slot_at (1 + length (destinations h.passing.done)) (destinations ((part_at language rest).piece ∷ []))
    → Notes count (h.ns ++ with_place slot at) new
    → Noting language text (length text - length after) after later count new
noting_more {language} {at = at} {rest = rest} {slot = slot} h passes is notes =
    let done = h.passing.done in
    let piece = (part_at language rest).piece in
    let here = destinations (piece ∷ []) in
    record {
      passing = passing_more passes;
      ns = h.ns ++ with_place slot at;
      notes = notes;
      same = λ written.
          let all = rw (destinations_push done piece) at written in
          let before = h.same (all_front (λ (o : Opening). o.number ≢ []) (destinations done) here all) in
          let placed = part_placed (1 + length (destinations done)) at piece
          (all_back (λ (o : Opening). o.number ≢ []) (destinations done) here all) in
          let place : 0 + length (text_of done) ≡ at = omega (arith, h.passing.place) in
          rw (numbered_push 0 done piece, place, before, is, placed);
    }

-- the rules of the numbers of a whole text
pub noting_all : {language : Language} {text : List ℕ} {at : ℕ} {rest : List ℕ} {before : Before} {empty : Bool} (all : Before)
    {noted : Noted}
    (pieces : List Piece) (h : Noting language text at rest before all.slots.count noted) → empty ≡ (length rest == 0) → empty ≡ true
    → all.slots.numbered ≡ true → Walked language text (Ok all) → read (length text) language [] text ≡ Ok pieces
    → first_of (repeated [] h.ns ++ beyond all.slots.count h.ns) ≡ first_of (number_rules pieces)
noting_all {language} {text} all {noted} pieces h is_empty none numbers walked e =
    let first : walked.0 ≡ pieces = let both = sym walked.1 ∙ e in cc in
    let last : h.passing.done ≡ pieces = let both = sym (passing_all h.passing is_empty none) ∙ e in cc in
    let holds = (subst (λ ps. Precedes all ps) first walked.2).slots in
    let written = all_numbered (destinations pieces) (subst (λ v. AllByRecursion (λ o. is_written o.number ≡ v) (destinations pieces))
    numbers holds.same) in
    let same = h.same (subst (λ ps. AreWritten (destinations ps)) (sym last) written) ∙ ap (numbered 0) last in
    rw (all_written (destinations pieces) written, same, holds.count)
  where
    all_numbered : (os : List Opening) → AllByRecursion (λ o. is_written o.number ≡ true) os → AreWritten os
    all_numbered [] h = tt
    all_numbered (o ∷ os) h = grind (arith, all_numbered os h.1)

-- without numbers there is no fault of numbers
pub unnumbered_none : (language : Language) (text : List ℕ) (all : Before) (pieces : List Piece) → all.slots.numbered ≡ false
    → Walked language text (Ok all) → read (length text) language [] text ≡ Ok pieces → None ≡ first_of (number_rules pieces)
unnumbered_none language text all pieces none walked e =
    let first : walked.0 ≡ pieces = let both = sym walked.1 ∙ e in cc in
    let holds = (subst (λ ps. Precedes all ps) first walked.2).slots in
    sym (unnumbered_rules pieces (subst (λ v. AllByRecursion (λ (o : Opening). is_written o.number ≡ v) (destinations pieces)) none
    holds.same))
