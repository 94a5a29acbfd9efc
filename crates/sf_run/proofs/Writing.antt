-- Runs whose values are written as they are read.
use Rattle.std.proofs.Common.{◌≡◌, ℕ, true, List, [], ◌∷◌, ◌++◌, ◌∙◌, ◌+◌, ◌-◌, ◌≤◌, false, arith, refl, sym, ap, subst, None, take}
use Rattle.std.proofs.Common.{drop, length, Option, Some}
use Rattle.std.proofs.lemmas.List.{append-nil, drop-drop, length-append, length-take-le, take-take}
use Rattle.std.proofs.lemmas.Slice.{take-put_mid}
use Rattle.std.proofs.Math.Seq.{take-append-add}
use borrow.Rule.Slice.PartMut.{put_mid}
use Rattle.std.specs.Prelude.{IfSome}
use Rattle.std.proofs.lemmas.Grind.{flat_map-append}
use Rattle.sf_base.specs.Data.{Assigned, Datum}
use Rattle.sf_base.specs.stores.Kept.{Kept, texts_in}
use Rattle.sf_format.specs.declared.directive.Directive.{Directive}
use Rattle.sf_report.specs.Machine.{Skipping}
use Rattle.sf_report.specs.Residual.{Part as Part', one_from}
use Rattle.sf_report.specs.Runs.{passed, has_stored}
use Rattle.sf_report.specs.Steps.{StepEnd, Passes, Stores, Misses, Fails}
use Rattle.sf_run.specs.declared.directive.Ended.{Ended}
use Rattle.sf_run.specs.declared.directive.Finished.{Finished}
use Rattle.sf_run.specs.Phases.{end_of, is_failing, is_missing, slot_given}
use Rattle.sf_run.specs.declared.directive.EndedColumn.{EndedColumn}
use Rattle.sf_run.specs.Pieces.{EndsAtOnce, EndsIn, EndsWithAll}
use Rattle.sf_run.specs.Quick.{IsSure, slot_stored, text_stored}
use Rattle.sf_run.specs.Quick as quick
use Rattle.sf_run.specs.Tallies.{values_with}
use Rattle.sf_run.specs.Texts.{IsSound, slot_of}
use Rattle.sf_run.specs.Written.{AreParts, AreRecords, IsPart, IsRecord, IsWrittenSurely, Part, PassesWriting, records_by, text_given}
use Rattle.sf_run.specs.Written.{texts_by, used_by}
use Rattle.sf_run.specs.declared.written.WrittenRun.{WrittenRun}

-- with what a directive gives that ends so
abbrev pub kept_with : StepEnd → Kept → Kept
kept_with end k = record {
  values = values_with end k.values;
  closed = texts_in (values_with end k.values);
  opened = None;
  room = k.room;
}

-- what a directive gave that passes so may be kept after any values
pub keeps : (text : Datum → List ℕ) (d : Directive) (n : ℕ) (piece : List ℕ) (taken : ℕ) (old new : List ℕ) (k : Kept)
    → (w : PassesWriting text d n piece taken old new) → quick.Passes d n piece taken k (kept_with w.end k)
keeps text d n piece taken old new k w = (
  has_stored w.end,
  record {
    end = w.end;
    takes = w.takes;
    gives = record {
      passes = record { passes = w.passes; stored = refl };
      values = refl;
      opened = refl;
      joined = λ _. refl;
    };
    own = w.own;
  },
)

-- the texts of the values with that
pub text_after : (text : Datum → List ℕ) (end : StepEnd) (values : List Assigned)
    → texts_by text (values_with end values) ≡ texts_by text values ++ text_given text end
text_after text Passes values = sym (append-nil (texts_by text values))
text_after text (Stores slot v) values =
    flat_map-append (λ a. text a.datum) values (record { slot = slot; datum = v } ∷ [])
    ∙ ap (λ (t : List ℕ). texts_by text values ++ t) (append-nil (text v))
text_after text Misses values = sym (append-nil (texts_by text values))
text_after text (Fails status) values = sym (append-nil (texts_by text values))

-- the slot of what a directive gives that passes is its own
own_slot : (d : Directive) (f : Finished) (item : List ℕ) → (is_failing f ≡ false → is_missing f ≡ false → slot_given f ≡ slot_of d)
    → passed (end_of item f) ≡ true → slot_stored (end_of item f) ≡ slot_of d
own_slot d f item given ok = grind arith

-- a directive that ends so within the piece has passed, where what it gives was written
pub passes_writing : (text : Datum → List ℕ) (d : Directive) (n : ℕ) (piece : List ℕ) (e : Ended) (old new : List ℕ) → IsSound d
    → EndsAtOnce d n piece e
    → passed (end_of (take e.item (drop e.before piece)) e.finished) ≡ true
    → new ≡ old ++ text_given text (end_of (take e.item (drop e.before piece)) e.finished)
    → PassesWriting text d n piece (e.before + e.item) old new
passes_writing text d n piece e old new sound is ok written = record {
  end = end_of (take e.item (drop e.before piece)) e.finished;
  takes = is.ends sound;
  passes = ok;
  own = own_slot d e.finished (take e.item (drop e.before piece)) is.fits.given ok;
  written = written;
}

surely_ended : (text : Datum → List ℕ) (d : Directive) (n : ℕ) (piece : List ℕ) (room : ℕ) (end : StepEnd) (taken : ℕ)
    → EndsIn d Skipping n piece taken end → IsWrittenSurely text d n piece room
    → (passed end ≡ true) × (length (text_given text end) ≤ room)
surely_ended text d n piece room end taken ends sure =
    let same : (one_from d Skipping n (piece ++ sure.after)).end ≡ end = ap (λ (p : Part'). p.end) (ends.takes sure.after) in
    (ap passed (sym same) ∙ sure.passes, subst (λ (t : StepEnd). length (text_given text t) ≤ room) same sure.fits)

-- one that passes surely, and ends so, has passed, and what is written of it fits
pub surely_given : (text : Datum → List ℕ) (d : Directive) (n : ℕ) (piece : List ℕ) (room : ℕ) (e : Ended) → IsSound d
    → EndsAtOnce d n piece e → IsWrittenSurely text d n piece room
    → (passed (end_of (take e.item (drop e.before piece)) e.finished) ≡ true)
    × (length (text_given text (end_of (take e.item (drop e.before piece)) e.finished)) ≤ room)
surely_given text d n piece room e sound is sure =
    surely_ended text d n piece room (end_of (take e.item (drop e.before piece)) e.finished) (e.before + e.item) (is.ends sound) sure

-- the same of one that takes bytes that are no part of its item too
pub passes_writing_all : (text : Datum → List ℕ) (d : Directive) (n : ℕ) (piece : List ℕ) (e : EndedColumn) (old new : List ℕ) → IsSound d
    → EndsWithAll d n piece e
    → passed (end_of (take e.ended.item (drop e.ended.before piece)) e.ended.finished) ≡ true
    → new ≡ old ++ text_given text (end_of (take e.ended.item (drop e.ended.before piece)) e.ended.finished)
    → PassesWriting text d n piece (e.ended.before + e.ended.item + e.after) old new
passes_writing_all text d n piece e old new sound is ok written = record {
  end = end_of (take e.ended.item (drop e.ended.before piece)) e.ended.finished;
  takes = is.ends sound;
  passes = ok;
  own = own_slot d e.ended.finished (take e.ended.item (drop e.ended.before piece)) is.fits.given ok;
  written = written;
}

pub surely_given_all : (text : Datum → List ℕ) (d : Directive) (n : ℕ) (piece : List ℕ) (room : ℕ) (e : EndedColumn) → IsSound d
    → EndsWithAll d n piece e → IsWrittenSurely text d n piece room
    → (passed (end_of (take e.ended.item (drop e.ended.before piece)) e.ended.finished) ≡ true)
    × (length (text_given text (end_of (take e.ended.item (drop e.ended.before piece)) e.ended.finished)) ≤ room)
surely_given_all text d n piece room e sound is sure =
    surely_ended text d n piece room (end_of (take e.ended.item (drop e.ended.before piece)) e.ended.finished)
    (e.ended.before + e.ended.item + e.after) (is.ends sound) sure

-- a store with enough room may keep what is written of one that passes surely
pub stored_surely : (text : Datum → List ℕ) (d : Directive) (n : ℕ) (piece : List ℕ) (room : ℕ) → IsWrittenSurely text d n piece room
    → (capacity : ℕ) × IsSure d n piece capacity
stored_surely text d n piece room sure = (
  length (text_stored (one_from d Skipping n (piece ++ sure.after)).end),
  record { after = sure.after; early = sure.early; fits = omega arith },
)

-- ---- run after run

parts_more : (ds : List Directive) (m : ℕ) (piece : List ℕ) (ps : List Part) (p : Part) → AreParts ds m piece ps
    → IsPart ds m (drop (used_by ps) piece) p → AreParts ds m piece (ps ++ p ∷ [])
parts_more ds m piece [] p are is = (is, tt)
parts_more ds m piece (q ∷ qs) p are is = (
  are.0,
  parts_more ds m (drop q.used piece) qs p are.1
      (subst (λ y. IsPart ds m y p) (sym (drop-drop (used_by qs) q.used piece)) is),
)

used_more : (ps : List Part) (p : Part) → used_by (ps ++ p ∷ []) ≡ used_by ps + p.used
used_more [] p = omega arith
used_more (q ∷ qs) p = let e = used_more qs p in omega (arith, e)

pub no_records : (text : List Assigned → List ℕ) (ds : List Directive) (m : ℕ) (piece : List ℕ) → AreRecords text ds m piece 0 0 []
no_records text ds m piece = record {
  parts = [];
  are = tt;
  count_is = refl;
  used_is = refl;
  written = refl;
}

-- with the next one
pub records_more : (text : List Assigned → List ℕ) (ds : List Directive) (m : ℕ) (piece : List ℕ) (count used one : ℕ)
    (bytes new out : List ℕ) → AreRecords text ds m piece count used bytes → IsRecord text ds m (drop used piece) one new
    → out ≡ bytes ++ new → AreRecords text ds m piece (count + 1) (used + one) out
records_more text ds m piece count used one bytes new out h is more =
    let p : Part = record { used = one; values = is.values } in
    let here : IsPart ds m (drop (used_by h.parts) piece) p = subst (λ n. IsPart ds m (drop n piece) p) h.used_is is.part in
    record {
      parts = h.parts ++ p ∷ [];
      are = parts_more ds m piece h.parts p h.are here;
      count_is = ap (λ n. n + 1) h.count_is ∙ sym (length-append h.parts (p ∷ []));
      used_is = ap (λ n. n + one) h.used_is ∙ sym (used_more h.parts p);
      written = more ∙ ap (λ (t : List ℕ). t ++ new) h.written ∙ ap (λ (t : List ℕ). records_by text h.parts ++ t) is.written
          ∙ sym (flat_map-append (λ (q : Part). text q.values) h.parts (p ∷ [])
          ∙ ap (λ (t : List ℕ). records_by text h.parts ++ t) (append-nil (text is.values)));
    }

-- a record that was written into what follows a front of the room
pub after_front : (Is : ℕ → List ℕ → Type 0) (room part : List ℕ) (end : ℕ) (r : Option WrittenRun) → end ≤ length room
    → IfSome r (λ run. run.end ≤ length part) → IfSome r (λ run. Is run.used (take run.end part))
    → IfSome r (λ run. (bytes : List ℕ) × Is run.used bytes
    × (take (end + run.end) (put_mid end (length room - end) room part) ≡ take end room ++ bytes))
after_front Is room part end None e within is = tt
after_front Is room part end (Some run) e within is =
    let whole = length-take-le end room e in
    let all : List ℕ = put_mid end (length room - end) room part in (
      take run.end part,
      is,
      sym (take-take (end + run.end) (end + length part) all (omega (arith, within)))
          ∙ ap (take (end + run.end)) (take-put_mid end (length room - end) room part (end + length part) refl e)
          ∙ ap (λ (n : ℕ). take n (take end room ++ part)) {x = end + run.end} {y = length (take end room) + run.end} (omega (arith, whole))
          ∙ take-append-add (take end room) part run.end,
    )
