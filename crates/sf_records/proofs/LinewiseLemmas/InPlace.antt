-- Lines whose records are written as they are read.
use Rattle.std.proofs.Common.{◌≡◌, ◌==◌, ℕ, zero, suc, ◌+◌, ◌-◌, ◌<◌, ◌≤◌, Bool, true, false, not, cond, List, [], ◌∷◌, ◌++◌, length, take}
use Rattle.std.proofs.Common.{drop, get_or, Option, Some, None, Ok, refl, sym, ap, subst, ◌∙◌, arith, append-nil, append_assoc, true≢false}
use Rattle.std.proofs.lemmas.Bool.Decides.{nat_tests}
use Rattle.std.proofs.lemmas.Grind.{flat_map-append}
use Rattle.std.proofs.lemmas.List.{drop-drop, length-append, length-take-le, take-take}
use Rattle.std.proofs.lemmas.Slice.{take-put_mid}
use Rattle.std.proofs.Math.Seq.{take-append-add}
use borrow.Rule.Slice.PartMut.{put_mid}
use Rattle.std.specs.Io.KnownBytes.{Appends}
use Rattle.std.specs.List.{AllByRecursion, prefix_len}
use Rattle.std.specs.Prelude.{IfSome, nat_lt}
use Rattle.sf_base.specs.Bytes.{is_other}
use Rattle.sf_base.specs.Data.{Assigned}
use Rattle.sf_format.specs.declared.directive.Directive.{Directive}
use Rattle.sf_format.specs.Proper.{AreInOrder, AreProper}
use Rattle.sf_forms.specs.declared.form.OutputForm.{OutputForm}
use Rattle.sf_forms.specs.makers.Forms.{IsBare}
use Rattle.sf_forms.specs.makers.Works.{Work, outcome_of, with_met}
use Rattle.sf_print.proofs.Appending.{Appends-same, Appends-then}
use Rattle.sf_read.specs.line.Reading.{IsHeld}
use Rattle.sf_read.specs.source.Ahead.{Ahead}
use Rattle.sf_read.proofs.LineLemmas.Held.{takes}
use Rattle.sf_run.specs.Laws.{EachDoneRunStays, EachHasOneReport}
use Rattle.sf_run.specs.Limits.{RunWithin}
use Rattle.sf_run.specs.Quick.{IsDoneWithin, done_by}
use Rattle.sf_run.specs.Runs.{RunReport}
use Rattle.sf_run.specs.Written.{AreParts, AreRecords, Part, records_by, used_by}
use Rattle.sf_run.specs.outcome.Outcome.{Outcome}
use Rattle.sf_run.specs.outcome.Status.TheVariants.{Done}
use Rattle.sf_records.specs.InPlace.{line_in}
use Rattle.sf_records.specs.by_lines.Coming.{Came}
use Rattle.sf_records.specs.by_lines.InPlace.{AreLineParts, AreLineRecords, CanFollowLine, IsLinePart, IsLineRecord, LinePart}
use Rattle.sf_records.specs.by_lines.InPlace.{WritesLines, bytes_of, texts_of}
use Rattle.sf_records.specs.by_lines.Judging.{Tries, is_matched}
use Rattle.sf_records.specs.by_lines.Turns.{AreScanned, LineWork, fault_from, fault_of}
use Rattle.sf_records.specs.declared.by_lines.end.LineFault.TheVariants.{LeftOver}
use Rattle.sf_records.specs.declared.by_lines.in_place.WrittenLine.{WrittenLine}
use Rattle.sf_records.specs.declared.by_lines.judge.Judged.TheVariants.{Written}
use Rattle.sf_records.specs.declared.by_lines.judge.Tried.TheVariants.{Matched}
use Rattle.sf_records.specs.declared.by_lines.options.LinesOptions.{LinesOptions}
use Rattle.sf_records.proofs.Further.{ahead_is}
use Rattle.sf_records.proofs.InPlaceTexts.{record_in}
use Rattle.sf_records.proofs.LinewiseLemmas.Choosing.{all_at, each_of}
use Rattle.sf_records.proofs.LinewiseLemmas.Coming.{came_so, turned}
use Rattle.sf_records.proofs.LinewiseLemmas.Holding.{done_on}
use Rattle.sf_records.proofs.LinewiseLemmas.Looping.{Going, moves_on}

-- ---- a line that is held

is_newline : (b : ℕ) → (b == 10) ≡ true → b ≡ 10
is_newline b e = grind (arith, nat_tests)

-- the bytes before the first newline are a line, which is held
pub held_at : (piece : List ℕ) (n : ℕ) → n ≡ prefix_len (is_other 10) piece → n < length piece → IsHeld piece n
held_at [] n is less = absurd (omega (arith, less))
held_at (b ∷ piece) n is less = by (b == 10) refl (held_at piece (prefix_len (is_other 10) piece) refl)
  where
    behind : ℕ
    behind = prefix_len (is_other 10) piece

    by : (c : Bool) → (b == 10) ≡ c → (behind < length piece → IsHeld piece behind) → IsHeld (b ∷ piece) n
    by true e rest = subst (IsHeld (b ∷ piece)) (sym (is ∙ ap (λ c. cond (not c) (1 + behind) 0) e)) (record {
      within = omega arith;
      is_line = tt;
      ended = ap (λ c. c ∷ piece) (is_newline b e);
    })
    by false e rest =
        let after : n ≡ 1 + behind = is ∙ ap (λ c. cond (not c) (1 + behind) 0) e in
        let on : n ≡ suc behind = omega (arith, after) in
        let h = rest (omega (arith, on, less)) in
        let within = h.within in
        subst (IsHeld (b ∷ piece)) (sym on) (record {
          within = omega (arith, within);
          is_line = (e, h.is_line);
          ended = ap (λ (xs : List ℕ). b ∷ xs) h.ended
              ∙ ap (λ (k : ℕ). (b ∷ take behind piece) ++ 10 ∷ drop k (b ∷ piece)) {x = suc (behind + 1)} {y = suc behind + 1}
              (omega arith);
        })

-- and it is the only one
pub one_len : (piece : List ℕ) (len : ℕ) → IsHeld piece len → prefix_len (is_other 10) piece ≡ len
one_len [] len h = let within = h.within in absurd (omega (arith, within))
one_len (b ∷ piece) zero h = ap (λ c. cond (not (c == 10)) (1 + prefix_len (is_other 10) piece) 0) (first_byte_is h.ended)
  where
    first_byte_is : b ∷ piece ≡ 10 ∷ drop (zero + 1) (b ∷ piece) → b ≡ 10
    first_byte_is e = ap (λ (xs : List ℕ). get_or xs 0 0) e
one_len (b ∷ piece) (suc k) h =
    let within = h.within in
    let rest = one_len piece k (record {
      within = omega (arith, within);
      is_line = h.is_line.1;
      ended = ap (drop 1) h.ended
          ∙ ap (λ (n : ℕ). take k piece ++ 10 ∷ drop n (b ∷ piece)) {x = suc k + 1} {y = suc (k + 1)} (omega arith);
    }) in
    ap (λ c. cond (not c) (1 + prefix_len (is_other 10) piece) 0) h.is_line.0 ∙ omega (arith, rest)

-- a run that is Done there uses as many bytes as the one that was written
pub one_used : (ds : List Directive) (proper : AreProper ds) (limit : ℕ) (text : List Assigned → List ℕ) (piece : List ℕ)
    (count used capacity : ℕ) (bytes : List ℕ) → EachHasOneReport → 0 < count → count ≤ 1
    → AreRecords text ds limit piece count used bytes → (run : IsDoneWithin ds limit piece capacity) → used ≡ run.report.used
one_used ds proper limit text piece count used capacity bytes one some few are run = by are.parts are.are are.count_is are.used_is
  where
    by : (parts : List Part) → AreParts ds limit piece parts → count ≡ length parts → used ≡ used_by parts → used ≡ run.report.used
    by [] h n u = absurd (omega (arith, some, n))
    by (p ∷ []) h n u =
        let all = one ds proper limit piece run.ending in
        let own : RunWithin ds limit piece run.ending (done_by ds p.used p.values) =
        subst (λ (y : List ℕ). RunWithin ds limit y run.ending (done_by ds p.used p.values)) (append-nil piece) (h.0.run [] run.ending) in
        let same = ap (λ (r : RunReport). r.used) (all.only (done_by ds p.used p.values) own ∙ sym (all.only run.report run.is)) in
        omega (arith, u, same)
    by (p ∷ q ∷ ps) h n u = absurd (omega (arith, few, n))

-- the one record that was written is that of the line
pub line_of : (form : OutputForm) (ds : List Directive) (o : LinesOptions) (piece : List ℕ) (count used len : ℕ) (bytes : List ℕ)
    → 0 < count → count ≤ 1 → AreRecords (line_in form) ds o.limit piece count used bytes → IsHeld piece len → used ≤ len
    → len ≤ o.limit → (o.whole ≡ true → len ≤ used) → IsLineRecord form ds o piece (len + 1) bytes
line_of form ds o piece count used len bytes some one are held low short whole =
    by are.parts are.are are.count_is are.used_is are.written
  where
    by : (parts : List Part) → AreParts ds o.limit piece parts → count ≡ length parts → used ≡ used_by parts
        → bytes ≡ records_by (line_in form) parts → IsLineRecord form ds o piece (len + 1) bytes
    by [] h n u wrote = absurd (omega (arith, some, n))
    by (p ∷ []) h n u wrote = record {
      line = record { len = len; part = p };
      is = record {
        held = held;
        short = short;
        is = h.0;
        within = omega (arith, low, u);
        whole = λ e. let all = whole e in omega (arith, all, u);
      };
      size_is = refl;
      written = wrote ∙ append-nil (line_in form p.values);
    }
    by (p ∷ q ∷ ps) h n u wrote = absurd (omega (arith, one, n))

-- ---- lines one after the other

parts_more : (ds : List Directive) (o : LinesOptions) (piece : List ℕ) (lines : List LinePart) (line : LinePart)
    → AreLineParts ds o piece lines → IsLinePart ds o (drop (bytes_of lines) piece) line → AreLineParts ds o piece (lines ++ line ∷ [])
parts_more ds o piece [] line are is = (is, tt)
parts_more ds o piece (l ∷ lines) line are is = (
  are.0,
  parts_more ds o (drop (l.len + 1) piece) lines line are.1
      (subst (λ (xs : List ℕ). IsLinePart ds o xs line) (sym (drop-drop (bytes_of lines) (l.len + 1) piece)) is),
)

bytes_more : (lines : List LinePart) (line : LinePart) → bytes_of (lines ++ line ∷ []) ≡ bytes_of lines + (line.len + 1)
bytes_more [] line = omega arith
bytes_more (l ∷ lines) line = let e = bytes_more lines line in omega (arith, e)

pub no_lines : (form : OutputForm) (ds : List Directive) (o : LinesOptions) (piece : List ℕ) → AreLineRecords form ds o piece 0 0 []
no_lines form ds o piece = record { lines = []; are = tt; count_is = refl; used_is = refl; written = refl }

-- with the next one
pub lines_more : (form : OutputForm) (ds : List Directive) (o : LinesOptions) (piece : List ℕ) (count used size : ℕ)
    (bytes new out : List ℕ) → AreLineRecords form ds o piece count used bytes → IsLineRecord form ds o (drop used piece) size new
    → out ≡ bytes ++ new → AreLineRecords form ds o piece (count + 1) (used + size) out
lines_more form ds o piece count used size bytes new out h is more =
    let here : IsLinePart ds o (drop (bytes_of h.lines) piece) is.line =
    subst (λ (n : ℕ). IsLinePart ds o (drop n piece) is.line) h.used_is is.is in
    record {
      lines = h.lines ++ is.line ∷ [];
      are = parts_more ds o piece h.lines is.line h.are here;
      count_is = ap (λ n. n + 1) h.count_is ∙ sym (length-append h.lines (is.line ∷ []));
      used_is = ap (λ n. n + size) h.used_is ∙ ap (λ n. bytes_of h.lines + n) is.size_is ∙ sym (bytes_more h.lines is.line);
      written = more ∙ ap (λ (xs : List ℕ). xs ++ new) h.written ∙ ap (λ (xs : List ℕ). texts_of form h.lines ++ xs) is.written
          ∙ sym (flat_map-append (λ (l : LinePart). line_in form l.part.values) h.lines (is.line ∷ [])
          ∙ ap (λ (xs : List ℕ). texts_of form h.lines ++ xs) (append-nil (line_in form is.line.part.values)));
    }

no_line : (lines : List LinePart) → length lines ≡ 0 → lines ≡ []
no_line [] none = refl
no_line (line ∷ lines) none = absurd (omega (arith, none))

-- a line that may follow none in the room may follow at its start
pub follows_at_first : (form : OutputForm) (ds : List Directive) (o : LinesOptions) (piece : List ℕ) (count used end : ℕ)
    (room new : List ℕ) → count ≡ 0 → AreLineRecords form ds o piece count used (take end new)
    → end ≤ length new → length new ≡ length room → CanFollowLine form ds o piece (length room)
    → CanFollowLine form ds o (drop used piece) (length new - end)
follows_at_first form ds o piece count used end room new none are within wide follows =
    let lines : are.lines ≡ [] = no_line are.lines (sym are.count_is ∙ none) in
    let nothing : used ≡ 0 = are.used_is ∙ ap bytes_of lines in
    let empty : take end new ≡ [] = are.written ∙ ap (texts_of form) lines in
    let size : length (take end new) ≡ end = length-take-le end new within in
    let start : end ≡ 0 = let zero' = ap length empty in omega (arith, size, zero') in
    subst (λ n. CanFollowLine form ds o (drop n piece) (length new - end)) (sym nothing)
    (subst (λ n. CanFollowLine form ds o piece n) {x = length room} {y = length new - end} (omega (arith, start, wide)) follows)

-- a record that was written into what follows a front of the room
pub after_front : (Is : ℕ → List ℕ → Type 0) (room part : List ℕ) (end : ℕ) (r : Option WrittenLine) → end ≤ length room
    → IfSome r (λ line. line.end ≤ length part) → IfSome r (λ line. Is line.bytes (take line.end part))
    → IfSome r (λ line. (bytes : List ℕ) × Is line.bytes bytes
    × (take (end + line.end) (put_mid end (length room - end) room part) ≡ take end room ++ bytes))
after_front Is room part end None e within is = tt
after_front Is room part end (Some line) e within is =
    let whole = length-take-le end room e in
    let all : List ℕ = put_mid end (length room - end) room part in (
      take line.end part,
      is,
      sym (take-take (end + line.end) (end + length part) all (omega (arith, within)))
          ∙ ap (take (end + line.end)) (take-put_mid end (length room - end) room part (end + length part) refl e)
          ∙ ap (λ (n : ℕ). take n (take end room ++ part)) {x = end + line.end} {y = length (take end room) + line.end}
          (omega (arith, whole))
          ∙ take-append-add (take end room) part line.end,
    )

-- ---- a line is a match

not_less : (used size : ℕ) → size ≤ used → false ≡ nat_lt used size
not_less used size le = grind (arith, nat_tests)

-- a line that has to be used whole, and is, is a match
none_left : (whole : Bool) (size : ℕ) (o : Outcome) → (whole ≡ true → size ≤ o.used) → fault_from whole size Done o ≡ None
none_left true size o all = ap (λ b. cond b (Some (LeftOver o.used)) None) (sym (not_less o.used size (all refl)))
none_left false size o all = refl

pub line_matches : (o : LinesOptions) (ds : List Directive) (proper : AreProper ds) (piece : List ℕ) (form : OutputForm) (made : Work)
    (line : LinePart) (old new : Option (List ℕ)) → EachDoneRunStays → AreInOrder ds
    → ((report : RunReport) → IsBare form made ds report) → IsLinePart ds o piece line
    → Appends old new (line_in form line.part.values) → Tries o ds made (take line.len piece) old new (Matched (Ok tt))
line_matches o ds proper piece form made line old new stays order bare is wrote =
    let text : List ℕ = take line.len piece in
    let in_piece = is.held.within in
    let size : length text ≡ line.len = length-take-le line.len piece (omega (arith, in_piece)) in
    let low = is.within in
    let r : RunReport = done_by ds line.part.used line.part.values in
    let on = done_on o ds proper text piece r is.is.run stays (10 ∷ drop (line.len + 1) piece, is.held.ended) refl
    (omega (arith, size, low)) in
    let own : RunReport = with_met r on.0 in
    let none : fault_of o text r ≡ None = none_left o.whole (length text) (outcome_of r)
    (λ e. let all = is.whole e in omega (arith, size, all)) in
    let made_of = bare own in (
      own,
      on.1,
      on.2 ∙ none,
      (
        made_of.fits,
        subst (Appends old new) (sym (made_of.text ∙ record_in form ds own line.part.values order refl is.is.slots)) wrote,
      ),
    )

-- ---- the loop goes on after lines

-- what the sink held between two texts
appends_split : (is after : Option (List ℕ)) (a b : List ℕ) → Appends is after (a ++ b)
    → (at : Option (List ℕ)) × Appends is at a × Appends at after b
appends_split None after a b h = (None, tt, tt)
appends_split (Some x) None a b h = absurd h
appends_split (Some x) (Some y) a b h = (Some (x ++ a), refl, h ∙ sym (append_assoc x a b))

none_ignored : (P : List Directive → Type 0) (ignored : List (List Directive)) → length ignored ≡ 0 → AllByRecursion P ignored
none_ignored P [] e = tt
none_ignored P (ds ∷ ignored) e = absurd (omega (arith, e))

-- this format is the first, none is passed over, and of each report the record in this form is made
pub record IsFirst (form : OutputForm) (w : LineWork) (ds : List Directive) : Type 0 where
  pub ignored : length w.ignored ≡ 0
  pub some : 0 < length w.formats
  pub first : ds ≡ get_or w.formats 0 ds
  pub order : AreInOrder ds
  pub bare : (number : ℕ) (report : RunReport) → IsBare form (w.makes number ds) ds report

-- what comes of such a line
came : (w : LineWork) (scanned : AreScanned w) (form : OutputForm) (ds : List Directive) (silent : Bool) (told : Option (List ℕ)) (n : ℕ)
    (is after : Option (List ℕ)) (piece : List ℕ) (line : LinePart) → EachDoneRunStays → IsFirst form w ds → w.options.skip ≤ n
    → IsLinePart ds w.options piece line → Appends is after (line_in form line.part.values)
    → Came w (n + 1) (take line.len piece) is after silent silent told told Written
came w scanned form ds silent told n is after piece line stays first skip part wrote =
    let proper : AreProper ds = all_at AreProper w.formats scanned.proper ds (0, first.some, sym first.first) in
    let short = part.short in
    let in_piece = part.held.within in
    came_so w (n + 1) (take line.len piece) is after (omega (arith, skip))
    (omega (arith, short, length-take-le line.len piece (omega (arith, in_piece)))) (none_ignored _ w.ignored first.ignored)
    silent told (Matched (Ok tt))
    (each_of w.options w.formats w.makes (take line.len piece) is after ds 0 first.some first.first tt (Matched (Ok tt))
    (λ fault e. absurd (true≢false (ap is_matched e)))
    (line_matches w.options ds proper piece form (w.makes (0 + 1) ds) line is after stays first.order (first.bare (0 + 1)) part wrote))
    (λ e. absurd (true≢false e)) Written refl

module _ {S : Type 0} {w : LineWork} {to_come : S → Option (List ℕ)} {t : List ℕ} {was : Option (List ℕ)} {dumb silent : Bool}
    {told told' : Option (List ℕ)} {failed : ℕ} (one : EachHasOneReport) (stays : EachDoneRunStays) (scanned : AreScanned w)
    (form : OutputForm) (ds : List Directive) where
  none_more : {written n j k : ℕ} {now new : Ahead S} {is after : Option (List ℕ)}
      → (g : Going w to_come t now was is dumb silent told told' written failed n) → new ≡ now → Appends is after [] → j ≡ written → k ≡ n
      → Going w to_come t new was after dumb silent told told' j failed k
  none_more {after = after} g e nothing f h = rw (e, f, h) (record {
    front = g.front;
    done = g.done;
    lined = g.lined;
    passed = g.passed;
    count = g.count;
    did = record {
      appends = Appends-same was after _ _ (append-nil _) (Appends-then was _ after _ [] g.did.appends nothing);
      tells = g.did.tells;
      written_are = g.did.written_are;
      failed_are = g.did.failed_are;
    };
  })

  counted_so : {written n j k : ℕ} {new : Ahead S} {after : Option (List ℕ)}
      → Going w to_come t new was after dumb silent told told' written failed n → j ≡ written → k ≡ n
      → Going w to_come t new was after dumb silent told told' j failed k
  counted_so g f h = rw (f, h) g

  -- the loop has written these lines, too
  pub further : (lines : List LinePart) (written n : ℕ) (now new : Ahead S) (is after : Option (List ℕ))
      → (0 < length lines → IsFirst form w ds) → (0 < length lines → now.at_end ≡ false) → (0 < length lines → w.options.skip ≤ n)
      → Going w to_come t now was is dumb silent told told' written failed n → AreLineParts ds w.options now.held lines
      → new.held ≡ drop (bytes_of lines) now.held → new.source ≡ now.source → new.at_end ≡ now.at_end
      → Appends is after (texts_of form lines)
      → Going w to_come t new was after dumb silent told told' (written + length lines) failed (n + length lines)
  further [] written n now new is after first open' skip g are held source at_end appends =
      none_more g (ahead_is now new held source at_end) appends (omega arith) (omega arith)
  further (line ∷ lines) written n now new is after first open' skip g are held source at_end appends =
      let mid : Ahead S = record now { held = drop (line.len + 1) now.held } in
      let at = appends_split is after (line_in form line.part.values) (texts_of form lines) appends in
      let alone = first (omega arith) in
      let unended = open' (omega arith) in
      let low : w.options.skip ≤ n = skip (omega arith) in
      let part = are.0 in
      let short = part.short in
      let in_piece = part.held.within in
      let turns = turned to_come now mid w (n + 1) is at.0 silent silent told' told' (take line.len now.held)
      (takes to_come now mid line.len part.held unended refl refl)
      (omega (arith, short, length-take-le line.len now.held (omega (arith, in_piece)))) Written
      (came w scanned form ds silent told' n is at.0 now.held line stays alone low part at.1) in
      counted_so (further lines (written + 1) (n + 1) mid new at.0 after (λ _. alone) (λ _. unended) (λ _. omega (arith, low))
      (moves_on one scanned g Written turns tt refl) are.1
      (held ∙ sym (drop-drop (bytes_of lines) (line.len + 1) now.held)) source at_end at.2) (omega arith) (omega arith)

  pub goes_further : {now new : Ahead S} {is after : Option (List ℕ)} {written n count : ℕ}
      → WritesLines form ds w.options now new is after count
      → (0 < count → IsFirst form w ds) → (0 < count → now.at_end ≡ false) → (0 < count → w.options.skip ≤ n)
      → Going w to_come t now was is dumb silent told told' written failed n
      → Going w to_come t new was after dumb silent told told' (written + count) failed (n + count)
  goes_further {now} {new} {is} {after} {written} {n} {count} h first open' skip g =
      let many = h.count_is in
      let some : 0 < length h.lines → 0 < count = λ e. omega (arith, e, many) in
      counted_so (further h.lines written n now new is after (λ e. first (some e)) (λ e. open' (some e)) (λ e. skip (some e)) g h.are h.held
      h.source h.at_end h.appends) (omega (arith, many)) (omega (arith, many))
