-- Records that were written as they were read, after those before them.
use Rattle.std.proofs.Common.{◌≡◌, ℕ, ◌+◌, ◌<◌, true, List, [], ◌∷◌, ◌++◌, length, drop, None, Option}
use Rattle.std.proofs.Common.{refl, sym, ap, subst, ◌∙◌, arith, append_assoc, append-nil}
use Rattle.std.proofs.lemmas.List.{drop-drop}
use Rattle.std.proofs.lemmas.Grind.{flat_map-append}
use Rattle.std.specs.Io.KnownBytes.{IsAtEnd}
use Rattle.sf_base.specs.Data.{Assigned}
use Rattle.sf_format.specs.declared.directive.Directive.{Directive}
use Rattle.sf_format.specs.Proper.{AreInOrder, AreProper, slots_of}
use Rattle.sf_forms.specs.declared.form.OutputForm.{OutputForm}
use Rattle.sf_forms.specs.makers.Forms.{IsBare}
use Rattle.sf_run.specs.Laws.{EachHasOneReport}
use Rattle.sf_run.specs.Quick.{done_by}
use Rattle.sf_run.specs.Runs.{RunReport}
use Rattle.sf_run.specs.Texts.{slots_in}
use Rattle.sf_run.specs.Written.{AreParts, Part, records_by, used_by}
use Rattle.sf_read.specs.source.Ahead.{Ahead}
use Rattle.sf_read.proofs.Holding.{held_scan}
use Rattle.sf_print.proofs.Appending.{Appends-same, Appends-then}
use Rattle.sf_records.specs.InPlace.{WritesRecords, line_in}
use Rattle.sf_records.specs.Works.{Work, texts}
use Rattle.sf_records.proofs.InPlaceTexts.{record_in}
use Rattle.sf_records.proofs.Looping.{Going, next, next_front, plain_goes}

-- a lookahead with these parts
pub ahead_is : {S : Type 0} (now new : Ahead S) → new.held ≡ now.held → new.source ≡ now.source → new.at_end ≡ now.at_end → new ≡ now
ahead_is now new held source at_end = λ i. record { held = held i; source = source i; at_end = at_end i }

-- what is made of a run whose values are written is its record in this form
pub record IsLine (form : OutputForm) (w : Work) (ds : List Directive) (used : ℕ) (values : List Assigned) : Type 0 where
  pub fits : w.fits (done_by ds used values) ≡ true
  pub text : w.text (done_by ds used values) ≡ line_in form values

abbrev pub AreLines : OutputForm → Work → List Directive → Type 0
AreLines form w ds = (used : ℕ) (values : List Assigned) → slots_in values ≡ slots_of ds → IsLine form w ds used values

-- that is so where it makes the record of each report in the form, and the values come in the order of their slots
pub bare_lines : (form : OutputForm) (w : Work) (ds : List Directive) → AreInOrder ds
    → ((report : RunReport) → IsBare form w ds report) → AreLines form w ds
bare_lines form w ds order bare used values slots =
    let r : RunReport = done_by ds used values in
    record { fits = (bare r).fits; text = (bare r).text ∙ record_in form ds r values order refl slots }

-- the records before, and these
record Further {S : Type 0} (w : Work) (to_come : S → Option (List ℕ)) (ds : List Directive) (m : ℕ) (t : List ℕ) (new : Ahead S)
    (failures count n : ℕ) (before text : List ℕ) : Type 0 where
  pub going : Going w to_come ds m t new None None failures count n
  pub text_is : texts w going.front ≡ before ++ text

none_more : {S : Type 0} {w : Work} {to_come : S → Option (List ℕ)} {ds : List Directive} {m : ℕ} {t : List ℕ} {failures count n k : ℕ}
    {now new : Ahead S} (g : Going w to_come ds m t now None None failures count n) → new ≡ now → k ≡ n
    → Further w to_come ds m t new failures count k (texts w g.front) []
none_more {w} g e f = rw (e, f) (record { going = g; text_is = sym (append-nil (texts w g.front)) })

one_more : {S : Type 0} {w : Work} {to_come : S → Option (List ℕ)} {ds : List Directive} {m : ℕ} {t : List ℕ}
    {failures count n k : ℕ} {new : Ahead S} (before first middle text : List ℕ) → Further w to_come ds m t new failures count n middle text
    → middle ≡ before ++ first → k ≡ n → Further w to_come ds m t new failures count k before (first ++ text)
one_more before first middle text h e f = rw f (record {
  going = h.going;
  text_is = h.text_is ∙ ap (λ (l : List ℕ). l ++ text) e ∙ append_assoc before first text;
})

text_more : (w : Work) (rs : List RunReport) (r : RunReport) (line : List ℕ) → w.text r ≡ line
    → texts w (rs ++ r ∷ []) ≡ texts w rs ++ line
text_more w rs r line is =
    flat_map-append w.text rs (r ∷ []) ∙ ap (λ (t : List ℕ). texts w rs ++ t) (append-nil (w.text r) ∙ is)

further : {S : Type 0} {w : Work} {to_come : S → Option (List ℕ)} {ds : List Directive} {m : ℕ} {t : List ℕ} {failures count : ℕ}
    (form : OutputForm) (one : EachHasOneReport) (proper : AreProper ds) (parts : List Part)
    (lines : 0 < length parts → AreLines form w ds) (n : ℕ) (now new : Ahead S)
    → (g : Going w to_come ds m t now None None failures count n) → AreParts ds m now.held parts
    → new.held ≡ drop (used_by parts) now.held → new.source ≡ now.source → new.at_end ≡ now.at_end
    → (0 < length parts → now.at_end ≡ true → IsAtEnd (to_come now.source))
    → Further w to_come ds m t new failures count (n + length parts) (texts w g.front) (records_by (line_in form) parts)
further form one proper [] lines n now new g are held source at_end told = none_more g (ahead_is now new held source at_end) (omega arith)
further {S} {w} {to_come} {ds} {m} {t} form one proper (p ∷ ps) lines n now new g are held source at_end told =
    let is = are.0 in
    let r : RunReport = done_by ds p.used p.values in
    let all = lines (omega arith) in
    let line = all p.used p.values is.slots in
    let mid : Ahead S = record now { held = drop p.used now.held } in
    let end = told (omega arith) in
    let scan = held_scan to_come ds m now mid r is.run refl is.within refl refl refl end g.left g.input in
    let goes = plain_goes w ds r line.fits refl refl is.some in
    let g1 = next one proper g r scan (λ e. e) refl (λ _. refl) None goes tt in
    let front = next_front one proper g r scan (λ e. e) refl (λ _. refl) None goes tt in
    let rest = further form one proper ps (λ _. all) (n + 1) mid new g1 are.1 (held ∙ sym (drop-drop (used_by ps) p.used now.held))
    source at_end (λ _. end) in
    one_more (texts w g.front) (line_in form p.values) (texts w g1.front) (records_by (line_in form) ps) rest
    (ap (texts w) front ∙ text_more w g.front r (line_in form p.values) line.text) (omega arith)

-- The loop after these: the sink took their lines.
pub goes_further : {S : Type 0} {w : Work} {to_come : S → Option (List ℕ)} {ds : List Directive} {m : ℕ} {t : List ℕ}
    {failures n count : ℕ} {now new : Ahead S} {was is wrote : Option (List ℕ)} {form : OutputForm} (failures_of : S → ℕ)
    (one : EachHasOneReport) (proper : AreProper ds) → (0 < count → AreLines form w ds)
    → (0 < count → new.at_end ≡ true → IsAtEnd (to_come new.source))
    → WritesRecords form ds m now new is wrote count → Going w to_come ds m t now was is failures (failures_of now.source) n
    → Going w to_come ds m t new was wrote failures (failures_of new.source) (n + count)
goes_further {S} {w} {to_come} {ds} {m} {t} {failures} {n} {count} {now} {new} {was} {is} {wrote} {form} failures_of one proper lines
    told h g =
    let some : 0 < length h.parts → 0 < count = λ e. omega (arith, e, h.count_is) in
    let bare : Going w to_come ds m t now None None failures (failures_of now.source) n = record {
      front = g.front;
      count = g.count;
      used_up = g.used_up;
      left = g.left;
      input = g.input;
      parts = g.parts;
      used = g.used;
      whole = g.whole;
      passed = g.passed;
      appends = tt;
      no_failure = g.no_failure;
    } in
    let f = further form one proper h.parts (λ e. lines (some e)) n now new bare h.are h.held h.source h.at_end
    (λ e at. subst (λ s. IsAtEnd (to_come s)) h.source (told (some e) (h.at_end ∙ at))) in
    record {
      front = f.going.front;
      count = f.going.count ∙ ap (λ k. n + k) (sym h.count_is);
      used_up = f.going.used_up;
      left = f.going.left;
      input = f.going.input;
      parts = f.going.parts;
      used = f.going.used;
      whole = f.going.whole;
      passed = f.going.passed;
      appends = Appends-same was wrote _ _ (sym f.text_is) (Appends-then was is wrote _ _ g.appends h.appends);
      no_failure = ap failures_of h.source ∙ g.no_failure;
    }
