-- A line that is read block by block.
use Rattle.std.proofs.Common.{◌≡◌, ℕ, zero, suc, ◌+◌, ◌-◌, ◌<◌, ◌≤◌, Bool, true, false, cond, List, [], ◌∷◌, ◌++◌, length, take, drop}
use Rattle.std.proofs.Common.{Option, Some, None, Result, Ok, Err, IfOk, IfErr, is_err, ◌==◌, ◌⊎◌, inl, inr, refl, sym, ap, subst, ◌∙◌}
use Rattle.std.proofs.Common.{arith, append_assoc, length-append, true≢false}
use Rattle.std.proofs.lemmas.Bool.{cases_order}
use Rattle.std.proofs.lemmas.Bool.Decides.{nat_tests}
use Rattle.std.proofs.lemmas.List.{take_all, take-append-drop, take-append-le, length-take, length-take-le}
use Rattle.std.proofs.Math.Nat.{min-le_left}
use Rattle.std.proofs.KnownBytes.{Consumes-trans, Consumes-nil}
use Rattle.std.specs.Io.KnownBytes.{Consumes, IsAtEnd, prepend_known}
use Rattle.sf_read.specs.source.Ahead.{Ahead, input_of}
use Rattle.sf_read.specs.declared.line.line.LineRead.TheVariants.{Line, TooLong, End}
use Rattle.sf_read.specs.line.Cut.{IsLine}
use Rattle.sf_read.specs.line.Reading.{Loses, Outgrows, Took, TookPart, Reads, ReadsFront, endless}
use Rattle.sf_read.proofs.LineLemmas.Cutting.{line_append}

-- ---- the first bytes of a line

-- bytes after the first ones of a line
pub front_more : (limit : ℕ) (seen more : List ℕ) → take limit (take limit seen ++ more) ≡ take limit (seen ++ more)
front_more limit seen more = by (cases_order limit (length seen))
  where
    long : limit ≤ length seen → take limit (take limit seen ++ more) ≡ take limit (seen ++ more)
    long le =
        let full : length (take limit seen) ≡ limit = length-take-le limit seen le in
        take-append-le limit (take limit seen) more (omega (arith, full)) ∙ take_all limit (take limit seen) (omega (arith, full))
        ∙ sym (take-append-le limit seen more le)

    by : (limit ≡ length seen) ⊎ ((limit < length seen) ⊎ (length seen < limit))
        → take limit (take limit seen ++ more) ≡ take limit (seen ++ more)
    by (inl e) = long (omega (arith, e))
    by (inr (inl less)) = long (omega (arith, less))
    by (inr (inr more')) = ap (λ (y : List ℕ). take limit (y ++ more)) (take_all limit seen (omega (arith, more')))

-- ---- blocks

-- after n blocks of a line
pub record Gathering {S : Type 0} (to_come : S → Option (List ℕ)) (old now : Ahead S) (limit : ℕ) (line : List ℕ) (long : Bool) (n : ℕ) :
    Type 0 where
  pub seen : List ℕ
  pub is_line : IsLine seen
  pub bytes : Loses to_come old now seen
  pub kept : line ≡ take limit seen
  pub short : long ≡ false → length seen ≤ limit
  pub longer : long ≡ true → limit < length seen
  pub count : n ≤ length seen + 1
  pub some : 0 < n → now.at_end ≡ false → 0 < length now.held
  pub ends : old.at_end ≡ true → (now.at_end ≡ true) × (seen ≡ [])

pub begins : {S : Type 0} (to_come : S → Option (List ℕ)) (old : Ahead S) (limit : ℕ) (line : List ℕ) → line ≡ []
    → Gathering to_come old old limit line false 0
begins to_come old limit line none = record {
  seen = [];
  is_line = tt;
  bytes = Consumes-nil (input_of to_come old);
  kept = none ∙ sym (take_all limit [] (omega arith));
  short = λ _. omega arith;
  longer = λ e. absurd (true≢false (sym e));
  count = omega arith;
  some = λ h. absurd (omega arith);
  ends = λ e. (e, refl);
}

-- the bytes that are held are lost, and those after them are read
pub held_lost : {S : Type 0} (to_come : S → Option (List ℕ)) (now new : Ahead S)
    → Consumes (to_come now.source) (to_come new.source) new.held → Loses to_come now new now.held
held_lost to_come now new read = by (to_come now.source) (to_come new.source) read
  where
    by : (a b : Option (List ℕ)) → Consumes a b new.held → Consumes (prepend_known now.held a) (prepend_known new.held b) now.held
    by None b h = tt
    by (Some xs) None h = absurd h
    by (Some xs) (Some ys) h = ap (λ (y : List ℕ). now.held ++ y) h

-- bytes that are held are lost
pub loses : {S : Type 0} (to_come : S → Option (List ℕ)) (now new : Ahead S) (bytes : List ℕ) → now.held ≡ bytes ++ new.held
    → new.source ≡ now.source → Loses to_come now new bytes
loses to_come now new bytes held source = by (to_come now.source) (to_come new.source) (ap to_come source)
  where
    by : (a b : Option (List ℕ)) → b ≡ a → Consumes (prepend_known now.held a) (prepend_known new.held b) bytes
    by None b e = tt
    by (Some xs) None e = absurd (cc)
    by (Some xs) (Some ys) e = let same : ys ≡ xs = cc in rw (held, same) (append_assoc bytes new.held xs)

-- an input that lost bytes, and then holds more, begins with all of them
begins_with : (a b : Option (List ℕ)) (seen held front rest : List ℕ) → Consumes a (prepend_known held b) seen → held ≡ front ++ rest
    → (t : List ℕ) → a ≡ Some t → take (length (seen ++ front)) t ≡ seen ++ front
begins_with a None seen held front rest h is t e = absurd (subst (λ (o : Option (List ℕ)). Consumes o None seen) e h)
begins_with a (Some xs) seen held front rest h is t e =
    let whole : t ≡ seen ++ (held ++ xs) = subst (λ (o : Option (List ℕ)). Consumes o (Some (held ++ xs)) seen) e h in
    let parts : t ≡ (seen ++ front) ++ (rest ++ xs) = whole ∙ ap (λ (y : List ℕ). seen ++ (y ++ xs)) is
    ∙ ap (λ (y : List ℕ). seen ++ y) (append_assoc front rest xs) ∙ sym (append_assoc seen front (rest ++ xs)) in
    ap (take (length (seen ++ front))) parts ∙ take-append-le (length (seen ++ front)) (seen ++ front) (rest ++ xs) (omega arith)
    ∙ take_all (length (seen ++ front)) (seen ++ front) (omega arith)

-- nothing is held, and nothing is to come
pub known_end : {S : Type 0} (to_come : S → Option (List ℕ)) (now : Ahead S) → now.held ≡ [] → IsAtEnd (to_come now.source)
    → IsAtEnd (input_of to_come now)
known_end to_come now held told = by (to_come now.source) told
  where
    by : (a : Option (List ℕ)) → IsAtEnd a → IsAtEnd (prepend_known now.held a)
    by None h = tt
    by (Some xs) h = rw (held, h) refl

pub empty_list : (xs : List ℕ) → length xs ≡ 0 → xs ≡ []
empty_list [] e = refl
empty_list (x ∷ xs) e = absurd (omega (arith, e))

pub tested_zero : (n : ℕ) (b : Bool) → b ≡ (n == 0) → b ≡ true → n ≡ 0
tested_zero n b is e = let h : (n == 0) ≡ true = sym is ∙ e in grind (arith, nat_tests)

pub tested_some : (n : ℕ) (b : Bool) → b ≡ (n == 0) → b ≡ false → 0 < n
tested_some n b is e = let h : (n == 0) ≡ false = sym is ∙ e in grind (arith, nat_tests)

pub if_ok : {A E P : Type 0} (r : Result A E) → is_err r ≡ false → IfOk r (λ _. P) → P
if_ok (Ok x) e h = h
if_ok (Err x) e h = absurd (true≢false e)

pub if_err : {A E P : Type 0} (r : Result A E) → is_err r ≡ true → IfErr r (λ _. P) → P
if_err (Ok x) e h = absurd (true≢false (sym e))
if_err (Err x) e h = h

pub not_true : (b : Bool) → (b ≡ true → ⊥) → b ≡ false
not_true true h = absurd (h refl)
not_true false h = refl

module _ {S : Type 0} {to_come : S → Option (List ℕ)} {old now : Ahead S} {limit : ℕ} {line : List ℕ} {long : Bool} {n : ℕ}
    (g : Gathering to_come old now limit line long n) where
  -- the line is gathered whole
  whole : long ≡ false → line ≡ g.seen
  whole e = g.kept ∙ take_all limit g.seen (g.short e)

  pub within : length line ≤ limit
  within = omega (arith, ap length g.kept, length-take limit g.seen, min-le_left limit (length g.seen))

  pub not_before : now.at_end ≡ false → old.at_end ≡ false
  not_before e = not_true old.at_end (λ h. true≢false (sym ((g.ends h).0) ∙ e))

  -- the input has ended
  pub at_end : now.at_end ≡ true → now.held ≡ [] → IsAtEnd (to_come now.source) → (empty : Bool) → (empty ≡ true → line ≡ [])
      → (empty ≡ false → 0 < length line)
      → Reads to_come old now limit line (cond long TooLong (cond empty End Line))
  at_end ended held told empty none some = by long refl empty refl
    where
      by : (l : Bool) → long ≡ l → (e : Bool) → empty ≡ e → Reads to_come old now limit line (cond l TooLong (cond e End Line))
      by true long_is e empty_is =
          let lengthy : limit < length g.seen = g.longer long_is in (
            g.seen,
            record {
              is_line = g.is_line;
              before = not_true old.at_end (λ h. absurd (omega (arith, ap length ((g.ends h).1))));
              bytes = inr (g.bytes, omega (arith, lengthy), ended, known_end to_come now held told);
            },
            lengthy,
            g.kept,
          )
      by false long_is true empty_is =
          let nothing : g.seen ≡ [] = sym (whole long_is) ∙ none empty_is in (
            record { is_line = tt; bytes = subst (λ (y : List ℕ). Loses to_come old now y) nothing g.bytes },
            ended,
            known_end to_come now
                held told,
          )
      by false long_is false empty_is =
          let k : (line ≡ g.seen) × (length line ≤ limit) = (whole long_is, within) in
          let lengthy : 0 < length line = some empty_is in (
            record {
              is_line = subst IsLine (sym k.0) g.is_line;
              before = not_true old.at_end (λ h. absurd (omega (arith, ap length ((g.ends h).1), ap length k.0, lengthy)));
              bytes = inr (
                subst (λ (y : List ℕ). Loses to_come old now y) (sym k.0) g.bytes,
                lengthy,
                ended,
                known_end to_come now held
                    told,
              );
            },
            k.1,
          )

  -- the same where the line is not longer than the limit
  pub at_end_short : long ≡ false → now.at_end ≡ true → now.held ≡ [] → IsAtEnd (to_come now.source) → (empty : Bool)
      → (empty ≡ true → line ≡ []) → (empty ≡ false → 0 < length line)
      → ReadsFront to_come old now limit line (cond long TooLong (cond empty End Line))
  at_end_short short ended held told empty none some = by long empty short (at_end ended held told empty none some)
    where
      by : (l e : Bool) → l ≡ false → Reads to_come old now limit line (cond l TooLong (cond e End Line))
          → ReadsFront to_come old now limit line (cond l TooLong (cond e End Line))
      by true e is h = absurd (true≢false is)
      by false true is h = h
      by false false is h = h

  -- there is no room for a piece of the line
  pub outgrows : (len room size : ℕ) → IsLine (take len now.held) → len ≤ length now.held → size ≡ length line → room < size + len
      → room < limit → size < limit → Outgrows to_come old limit room
  outgrows len room size is_piece inside sized longer within few =
      let all : size ≡ length g.seen = omega (arith, sized, few, ap length g.kept, length-take limit g.seen) in record {
        front = g.seen ++ take len now.held;
        is_line = line_append g.seen (take len now.held) g.is_line is_piece;
        begins = begins_with (input_of to_come old) (to_come now.source) g.seen now.held (take len now.held) (drop len now.held) g.bytes
            (sym (take-append-drop len now.held));
        longer = omega (arith, longer, all, length-append g.seen (take len now.held), length-take-le len now.held inside);
        within = within;
      }

  module _ (len : ℕ) (is_piece : IsLine (take len now.held)) (open' : now.at_end ≡ false) where
    -- how long the line is by then
    pub longer_now : (size : ℕ) → size ≡ length line → len ≤ length now.held → (long ≡ true) ⊎ (limit < size + len)
        → limit < length (g.seen ++ take len now.held)
    longer_now size sized within (inl e) = omega (arith, g.longer e, length-append g.seen (take len now.held))
    longer_now size sized within (inr h) = by long refl
      where
        by : (b : Bool) → long ≡ b → limit < length (g.seen ++ take len now.held)
        by true e = omega (arith, g.longer e, length-append g.seen (take len now.held))
        by false e = omega (
          arith,
          h,
          sized,
          ap length (whole e),
          length-append g.seen (take len now.held),
          length-take-le len now.held
              within,
        )

    -- the rest of the line is held, with its newline
    pub ended : (new : Ahead S) → now.held ≡ take len now.held ++ 10 ∷ drop (len + 1) now.held → new.held ≡ drop (len + 1) now.held
        → new.source ≡ now.source
        → Took to_come old new (g.seen ++ take len now.held)
    ended new held rest source =
        let taken : Loses to_come now new (take len now.held ++ 10 ∷ []) =
        loses to_come now new (take len now.held ++ 10 ∷ []) (held
        ∙ sym (append_assoc (take len now.held) (10 ∷ []) (drop (len + 1) now.held))
        ∙ ap (λ (y : List ℕ). take len now.held ++ 10 ∷ [] ++ y) (sym rest)) source in
        record {
          is_line = line_append g.seen (take len now.held) g.is_line is_piece;
          before = not_before open';
          bytes = inl (subst (λ (y : List ℕ). Loses to_come old new y) (sym (append_assoc g.seen (take len now.held) (10 ∷ [])))
              (Consumes-trans _ _ _ g.seen (take len now.held ++ 10 ∷ []) g.bytes taken));
        }

    -- what is gathered by then
    front_now : (gathered : List ℕ) → gathered ≡ take limit (line ++ take len now.held)
        → gathered ≡ take limit (g.seen ++ take len now.held)
    front_now gathered is = is ∙ ap (λ (y : List ℕ). take limit (y ++ take len now.held)) g.kept
        ∙ front_more limit g.seen (take len now.held)

    -- that line is longer than the limit
    pub ended_long : (new : Ahead S) (gathered : List ℕ) (size : ℕ) → now.held ≡ take len now.held ++ 10 ∷ drop (len + 1) now.held
        → new.held ≡ drop (len + 1) now.held → new.source ≡ now.source
        → size ≡ length line → len ≤ length now.held → (long ≡ true) ⊎ (limit < size + len)
        → gathered ≡ take limit (line ++ take len now.held)
        → (x : List ℕ) × Took to_come old new x × (limit < length x) × (gathered ≡ take limit x)
    ended_long new gathered size held rest source sized within why is =
        (g.seen ++ take len now.held, ended new held rest source, longer_now size sized within why, front_now gathered is)

    -- the rest of it is left
    pub left_long : (new : Ahead S) (gathered : List ℕ) (size : ℕ) → new.held ≡ drop len now.held → new.source ≡ now.source
        → size ≡ length line → len ≤ length now.held → (long ≡ true) ⊎ (limit < size + len)
        → gathered ≡ take limit (line ++ take len now.held)
        → (x : List ℕ) × TookPart to_come old new x × (old.at_end ≡ false) × (limit < length x) × (gathered ≡ take limit x)
    left_long new gathered size rest source sized within why is = (
      g.seen ++ take len now.held,
      record {
        is_line = line_append g.seen (take len now.held) g.is_line is_piece;
        bytes = Consumes-trans _ _ _ g.seen (take len now.held) g.bytes (loses to_come now new (take len now.held)
            (sym (take-append-drop len now.held) ∙ ap (λ (y : List ℕ). take len now.held ++ y) (sym rest)) source);
      },
      not_before open',
      longer_now size sized within why,
      front_now gathered is,
    )

    -- it is not
    pub ended_short : (new : Ahead S) (gathered : List ℕ) (size : ℕ) → now.held ≡ take len now.held ++ 10 ∷ drop (len + 1) now.held
        → new.held ≡ drop (len + 1) now.held → new.source ≡ now.source
        → size ≡ length line → len ≤ length now.held → (long ≡ false) × (size + len ≤ limit)
        → gathered ≡ take limit (line ++ take len now.held) → Took to_come old new gathered × (length gathered ≤ limit)
    ended_short new gathered size held rest source sized inside (short, fits) is =
        let few : length (g.seen ++ take len now.held) ≤ limit = omega
        (arith, fits, sized, ap length (whole short), length-append g.seen (take len now.held), length-take-le len now.held inside) in
        let all : gathered ≡ g.seen ++ take len now.held = front_now gathered is ∙ take_all limit (g.seen ++ take len now.held) few in
        (subst (λ (y : List ℕ). Took to_come old new y) (sym all) (ended new held rest source), omega (arith, ap length all, few))

  module _ (len : ℕ) (is_piece : IsLine (take len now.held)) (open' : now.at_end ≡ false) (all : len ≡ length now.held) (mid new : Ahead S)
      (rest : mid.held ≡ drop len now.held) (same : mid.source ≡ now.source)
      (read : Consumes (to_come mid.source) (to_come new.source) new.held) where
    piece_is : take len now.held ≡ now.held
    piece_is = take_all len now.held (omega (arith, all))

    seen_now : Loses to_come old new (g.seen ++ now.held)
    seen_now = Consumes-trans _ _ _ g.seen now.held g.bytes (held_lost to_come now new
        (subst (λ (s : S). Consumes (to_come s) (to_come new.source) new.held) same read))

    line_now : IsLine (g.seen ++ now.held)
    line_now = line_append g.seen now.held g.is_line (subst IsLine piece_is is_piece)

    -- the source failed
    pub failed : (new.at_end ≡ false) × (new.held ≡ []) → (x : List ℕ) × TookPart to_come old new x × (old.at_end ≡ false)
        × (new.at_end ≡ false) × (new.held ≡ [])
    failed (at_end, nothing) = (g.seen ++ now.held, record { is_line = line_now; bytes = seen_now }, not_before open', at_end, nothing)

    -- the line is within the limit by then
    short_now : (size : ℕ) → size ≡ length line → (long ≡ false) × (size + len ≤ limit) → length (g.seen ++ now.held) ≤ limit
    short_now size sized (short, fits) = omega (arith, fits, sized, ap length (whole short), all, length-append g.seen now.held)

    pub failed_short : (size : ℕ) → size ≡ length line → (long ≡ false) × (size + len ≤ limit)
        → (new.at_end ≡ false) × (new.held ≡ []) → (x : List ℕ) × TookPart to_come old new x × (old.at_end ≡ false)
        × (new.at_end ≡ false) × (new.held ≡ []) × (length x ≤ limit)
    failed_short size sized fits (at_end, nothing) = (
      g.seen ++ now.held,
      record { is_line = line_now; bytes = seen_now },
      not_before open',
      at_end,
      nothing,
      short_now size sized fits,
    )

    -- a block was read
    pub more : (gathered : List ℕ) (size : ℕ) (longer : Bool) → size ≡ length line
        → (longer ≡ true → (long ≡ true) ⊎ (limit < size + len))
        → (longer ≡ false → (long ≡ false) × (size + len ≤ limit)) → gathered ≡ take limit (line ++ take len now.held)
        → ((new.at_end ≡ false) × (0 < length new.held)) ⊎ ((new.at_end ≡ true) × (new.held ≡ []))
        → Gathering to_come old new limit gathered longer (n + 1)
    more gathered size longer sized grows fits is held = record {
      seen = g.seen ++ now.held;
      is_line = line_now;
      bytes = seen_now;
      kept = front_now len is_piece open' gathered is ∙ ap (λ (y : List ℕ). take limit (g.seen ++ y)) piece_is;
      short = λ e. short_now size sized (fits e);
      longer = λ e. subst (λ (y : List ℕ). limit < length (g.seen ++ y)) piece_is
          (longer_now len is_piece open' size sized (omega (arith, all)) (grows e));
      count = counted n g.count g.some;
      some = λ positive e. still held e;
      ends = λ e. absurd (true≢false (sym (sym open' ∙ (g.ends e).0)));
    }
      where
        counted : (k : ℕ) → k ≤ length g.seen + 1 → (0 < k → now.at_end ≡ false → 0 < length now.held)
            → k + 1 ≤ length (g.seen ++ now.held) + 1
        counted zero c s = omega (arith, length-append g.seen now.held)
        counted (suc k) c s = omega (arith, length-append g.seen now.held, c, s (omega arith) open')

        still : ((new.at_end ≡ false) × (0 < length new.held)) ⊎ ((new.at_end ≡ true) × (new.held ≡ [])) → new.at_end ≡ false
            → 0 < length new.held
        still (inl h) e = h.1
        still (inr h) e = absurd (true≢false (sym h.0 ∙ e))

  -- there are too many blocks
  pub too_many : endless ≤ n - 1 → (x : List ℕ) × TookPart to_come old now x × (endless ≤ length x)
  too_many many = (g.seen, record { is_line = g.is_line; bytes = g.bytes }, omega (arith, g.count, many))

  pub too_many_short : long ≡ false → endless ≤ n - 1
      → (x : List ℕ) × TookPart to_come old now x × (endless ≤ length x) × (length x ≤ limit)
  too_many_short short many =
      (g.seen, record { is_line = g.is_line; bytes = g.bytes }, omega (arith, g.count, many), g.short short)
