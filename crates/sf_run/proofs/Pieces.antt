-- What a directive makes of a piece.
use Rattle.std.proofs.lemmas.Grind.{common_steps}
use Rattle.std.proofs.lemmas.Bool.{and_parts, false_from_ne_true}
use Rattle.std.proofs.lemmas.List.{take_more}
use Rattle.std.proofs.Common.{zero-add, add-zero, length-append, ◌≡◌, ◌≢◌, ℕ, zero, suc, ◌+◌, ◌-◌, ◌<◌, ◌≤◌, Bool, true, false, cond, ◌&&◌}
use Rattle.std.proofs.Common.{List}
use Rattle.std.proofs.Common.{[], ◌∷◌, ◌++◌, length, take, drop, get_or, append_assoc, append-nil, take-append-drop, length-drop, Option}
use Rattle.std.proofs.Common.{Some, None, is_some, refl, sym, ap, subst, ◌∙◌, arith, inl, inr, eq-zero-or-pos, true≢false}
use Rattle.std.specs.Prelude.{IfSome, IsSome, MatchOption, slice_get}
use Rattle.std.proofs.lemmas.Option.{get_or_from_slice_get, slice_get_within}
use Rattle.std.proofs.lemmas.List.{length-take, length-take-le, drop_more, drop-drop, drop-append-le, get_or-drop, get_or-take, take_all}
use Rattle.sf_base.specs.Blanks.{trimmed_end}
use Rattle.sf_base.specs.Bytes.{is_white}
use Rattle.sf_base.specs.Data.{value_of}
use Rattle.sf_float_read.specs.declared.item.decimal.Decimal.{Decimal}
use Rattle.sf_float_read.specs.declared.item.reached.Forms.TheVariants.{All}
use Rattle.sf_float_read.specs.declared.item.reached.Reached.{Reached}
use Rattle.sf_float_read.specs.declared.item.reached.Reached.TheVariants as places
use Rattle.sf_float_read.specs.item.Decimals.{DecimalWithin}
use Rattle.sf_float_read.specs.item.Tests.{read, is_float, is_whole_at, begins_float}
use Rattle.sf_float_read.proofs.ItemLemmas.Deciding.{float_decided}
use Rattle.sf_format.specs.declared.directive.Lead.TheVariants.{Any}
use Rattle.sf_format.specs.declared.directive.Numeral.{Numeral}
use Rattle.sf_format.specs.declared.directive.Conversion.{Conversion}
use Rattle.sf_format.specs.declared.directive.Directive.{Directive}
use Rattle.sf_format.specs.declared.directive.Shape.{Shape}
use Rattle.sf_format.specs.declared.directive.Shape.TheVariants.{Int, Text, Set, Chars, Float, Count}
use Rattle.sf_format.specs.declared.directive.Directive.TheVariants.{Space, Byte, Percent, Conv, Opens}
use Rattle.sf_format.specs.Proper.{IsProper, IsProperShape}
use Rattle.sf_item.specs.declared.item.ItemScan.{ItemScan}
use Rattle.sf_item.specs.declared.whole.WholeInteger.{WholeInteger}
use Rattle.sf_item.specs.Matching.{IsInteger, IsItem, IsWithin, ShapeMatches, forms_of}
use Rattle.sf_item.specs.Taking.{CanTake, HasTaken, conversion_of}
use Rattle.sf_item.specs.Tests.{can_take, is_within, shape_begins}
use Rattle.sf_item.proofs.Deciding.{tests_can_take}
use Rattle.sf_item.proofs.ItemLaws.{item_ends, item_stays}
use Rattle.sf_item.specs.Wholes.{ItemWithin, NoItemWithin}
use Rattle.sf_run.specs.declared.directive.Ended.{Ended}
use Rattle.sf_run.specs.declared.directive.EndedColumn.{EndedColumn}
use Rattle.sf_run.specs.declared.directive.Finished.{Finished}
use Rattle.sf_run.specs.declared.directive.Finished.TheVariants as finish
use Rattle.sf_run.specs.declared.directive.Phase.{Phase}
use Rattle.sf_run.specs.declared.directive.Phase.TheVariants as phase
use Rattle.sf_run.specs.declared.directive.Run.{Run}
use Rattle.sf_report.specs.Steps.{StepEnd}
use Rattle.sf_report.specs.Machine.{Stage, Skipping, Item, shape_skips, count_end, empty_end, item_end, stepped, is_full}
use Rattle.sf_run.specs.Holding.{IsGivenUp, LeftAfterAll}
use Rattle.sf_run.specs.Phases.{CanAll, GrowsBy, Shows, ShowsItem, end_of, is_in_column, passed_number, slot_in}
use Rattle.sf_run.specs.Pieces.{Answers, AnswersBy, EndsAt, EndsAtOnce, EndsIn, EndsWithAll, IsEnd, IsEndIn, IsEndOf, IsTextShape}
use Rattle.sf_run.specs.Pieces.{IsWhole, StaysAt, Suits, run_of}
use Rattle.sf_run.specs.Quick.{IsSure}
use Rattle.sf_report.specs.Residual.{Part, one_from, stepped_all}
use Rattle.sf_run.specs.Texts.{IsInText, IsInTextBy, IsSound, StoresByte, closing_text, counts_bytes, is_column, is_count, is_cut}
use Rattle.sf_run.specs.Texts.{IsNextSlot, item_of, taken_at}
use Rattle.sf_run.specs.Texts.{text_slot}
use Rattle.sf_report.proofs.Joined.{all-append, one_from-all}
use Rattle.sf_run.proofs.Columns.{closing_front, closing_length, closing_plain, finished_plain, item_plain, stepped_plain}
use Rattle.sf_run.proofs.FloatTexts.{float_ink}
use Rattle.sf_run.proofs.Brought.{item_skips, can_all, first_all, item_all, skips_all, take-take}
use Rattle.sf_report.proofs.Items.{can_take_prefix}
use Rattle.sf_report.proofs.Machines.{full_refuses, grows}
use Rattle.sf_run.proofs.Stages.{count_finished, count_full, count_plain, float_end, integer_ends, other_finished, skipping_open}
use Rattle.sf_run.proofs.Stages.{suppressed_end, taken_full}
use Rattle.sf_run.proofs.Stages.{text_end}

-- ---- bytes of a piece

-- the byte after a front of a piece, and those after it
pub next_is : (xs : List ℕ) (i : ℕ) (z : List ℕ) → i < length xs → drop i xs ++ z ≡ get_or xs i 0 ∷ (drop (i + 1) xs ++ z)
next_is xs i z h = ap (λ (y : List ℕ). y ++ z) (drop_more xs i 0 h)

-- a front of a piece, and what is after it
pub parted : (xs : List ℕ) (i : ℕ) (z : List ℕ) → take i xs ++ (drop i xs ++ z) ≡ xs ++ z
parted xs i z = sym (append_assoc (take i xs) (drop i xs) z) ∙ ap (λ (y : List ℕ). y ++ z) (take-append-drop i xs)

pub same_part : {n m : ℕ} {x y : List ℕ} {e f : StepEnd} → n ≡ m → x ≡ y → e ≡ f
    → ◌≡◌ {A = Part} (record { used = n; left = x; end = e }) (record { used = m; left = y; end = f })
same_part p q r = (λ i. record { used = p i; left = q i; end = r i })

pub none_first : (xs : List ℕ) → None ≡ slice_get xs 0 → 0 ≡ length xs
none_first [] e = refl
none_first (x ∷ xs) e = absurd cc

pub some_first : (xs : List ℕ) (b : ℕ) → Some b ≡ slice_get xs 0 → (0 < length xs) × (get_or xs 0 0 ≡ b)
some_first xs b e = (slice_get_within xs 0 b (sym e), get_or_from_slice_get xs 0 b 0 (sym e))

-- ---- where a directive ends

-- it takes nothing of the rest where it doesn't take the next byte
pub stays_next : (d : Directive) (q : Stage) (k : ℕ) (piece : List ℕ) → k < length piece → stepped d q (get_or piece k 0) ≡ None
    → StaysAt d q (drop k piece)
stays_next d q k piece below none = grind (arith, next_is)

-- and where it is full
pub stays_full : (d : Directive) (q : Stage) (rest : List ℕ) → IsProper d → is_full d q ≡ true → StaysAt d q rest
stays_full d q rest proper full n z = full_refuses d proper q n (rest ++ z) full

-- after a front of the piece that it takes it ends
ends_behind : (d : Directive) (q r : Stage) (n w k : ℕ) (piece : List ℕ) (end : StepEnd) → w ≤ length piece
    → stepped_all d q (take w piece) ≡ Some r
    → EndsIn d r (n + w) (drop w piece) k end → EndsIn d q n piece (w + k) end
ends_behind d q r n w k piece end within goes e = record {
  within = omega (arith, length-drop w piece, e.within, within);
  takes = λ z.
      ap (one_from d q n) (sym (parted piece w z)) ∙ one_from-all d q r n (take w piece) (drop w piece ++ z) goes
      ∙ ap (λ m. one_from d r (n + m) (drop w piece ++ z)) (length-take-le w piece within)
      ∙ e.takes z ∙ same_part (omega arith) (ap (λ y. y ++ z) (drop-drop k w piece)) refl;
}

-- a front of the piece brings it to a stage at which it ends
pub ends_in : (d : Directive) (q r : Stage) (n k : ℕ) (piece : List ℕ) (end : StepEnd) → k ≤ length piece
    → stepped_all d q (take k piece) ≡ Some r
    → ((m : ℕ) (z : List ℕ) → one_from d r m (drop k piece ++ z) ≡ record { used = m; left = drop k piece ++ z; end = end })
    → EndsIn d q n piece k end
ends_in d q r n k piece end within goes stays =
    rw add-zero at (ends_behind d q r n k 0 piece end within goes
    (record { within = omega arith; takes = λ z. stays (n + k) z ∙ same_part (omega arith) refl refl }))

-- a front of the piece on which it ends
ends_longer : (d : Directive) (q : Stage) (n k : ℕ) (x y : List ℕ) (end : StepEnd) → EndsIn d q n x k end → EndsIn d q n (x ++ y) k end
ends_longer d q n k x y end e = record {
  within = omega (arith, e.within, length-append x y);
  takes = λ z. rw (append_assoc x y z, drop-append-le k x y e.within, append_assoc (drop k x) y z) (e.takes (y ++ z));
}

pub front_ends : (d : Directive) (q : Stage) (n m k : ℕ) (piece front : List ℕ) (end : StepEnd) → front ≡ take m piece
    → EndsIn d q n front k end
    → (z : List ℕ) → one_from d q n (piece ++ z) ≡ record { used = n + k; left = drop k piece ++ z; end = end }
front_ends d q n m k piece front end is e = (rw (is, take-append-drop) at (ends_longer d q n k front (drop m piece) end e)).takes

-- ---- what the answer says is taken

pub answers_use : (d : Directive) (q : Stage) (n : ℕ) (piece : List ℕ) (run : Run) → run.before + run.item ≤ length piece
    → Answers d q n piece run
    → (z : List ℕ) → n + (run.before + run.item) ≤ (one_from d q n (piece ++ z)).used
answers_use d q n piece run within a z = by_ends run.ends a.goes
  where
    by_ends : (o : Option Finished) → AnswersBy o d q n piece run → n + (run.before + run.item) ≤ (one_from d q n (piece ++ z)).used
    by_ends None h =
        let more = grows d h.stage (n + length piece) z in
        let same = ap (λ (p : Part). p.used) (one_from-all d q h.stage n piece z h.stepped) in
        omega (arith, within, more, same)
    by_ends (Some end) h = let same = ap (λ (p : Part). p.used) (h.takes z) in omega (arith, same)

-- of a piece of which the directive was handed a front
module _ (d : Directive) (q : Stage) (n m : ℕ) (piece front : List ℕ) (run : Run) (is : front ≡ take m piece)
    (within : run.before + run.item ≤ length front) (a : Answers d q n front run) where
  pub uses_front : (z : List ℕ) → n + (run.before + run.item) ≤ (one_from d q n (piece ++ z)).used
  uses_front z = grind (arith, parted, answers_use)

  pub stores_front : (slot : Option ℕ) → slot_in run.phase ≡ slot → IsSome slot → (j : ℕ) → j < run.item
      → StoresByte d (taken_at q ++ take (run.before + j) piece) (get_or piece (run.before + j) 0)
  stores_front None own some j below = absurd (true≢false (sym some))
  stores_front (Some s) own some j below =
      let long : length front ≡ length (take m piece) = ap length is in
      let low : run.before + j < m = grind (arith, length-take) in
      let place : get_or front (run.before + j) 0 ≡ get_or piece (run.before + j) 0 =
      ap (λ (f : List ℕ). get_or f (run.before + j) 0) is ∙ get_or-take m piece (run.before + j) 0 low in
      let bytes : take (run.before + j) front ≡ take (run.before + j) piece =
      ap (take (run.before + j)) is ∙ take-take (run.before + j) m piece (omega (arith, low)) in
      subst (StoresByte d (taken_at q ++ take (run.before + j) piece)) place
      (subst (λ y. StoresByte d (taken_at q ++ y) (get_or front (run.before + j) 0)) bytes (a.stores s j own below))

-- ---- after bytes that are skipped

-- what is stored outside a column is told by the byte alone
pub stores_anywhere : (d : Directive) (u v : List ℕ) (b : ℕ) → is_column d ≡ false → StoresByte d u b → StoresByte d v b
stores_anywhere (Conv c) u v b plain h =
    (h.0, h.1, subst (λ k. IsInTextBy k c.shape v b) (sym plain) (subst (λ k. IsInTextBy k c.shape u b) plain h.2))
stores_anywhere Space u v b plain h = h
stores_anywhere (Byte a) u v b plain h = h
stores_anywhere Percent u v b plain h = h
stores_anywhere (Opens o) u v b plain h = h

pub answers_behind : (d : Directive) → is_column d ≡ false → (n w : ℕ) (piece : List ℕ) (run : Run) → w ≤ length piece
    → run.before + run.item ≤ length (drop w piece) → stepped_all d Skipping (take w piece) ≡ Some Skipping
    → Answers d Skipping (n + w) (drop w piece) run → Answers d Skipping n piece (record run { before = w + run.before })
answers_behind d plain n w piece run within fits skips a = record {
  goes = by_ends run.ends a.goes;
  stores = λ slot j own below.
      let place : get_or (drop w piece) (run.before + j) 0 ≡ get_or piece (w + (run.before + j)) 0 =
      get_or-drop w piece (run.before + j) 0 in
      let same : w + (run.before + j) ≡ w + run.before + j = omega arith in
      stores_anywhere d (take (run.before + j) (drop w piece)) (take (w + run.before + j) piece)
      (get_or piece (w + run.before + j) 0) plain
      (subst (StoresByte d (take (run.before + j) (drop w piece))) (place ∙ ap (λ i. get_or piece i 0) same) (a.stores slot j own below));
}
  where
    item_is : take run.item (drop run.before (drop w piece)) ≡ take run.item (drop (w + run.before) piece)
    item_is = ap (take run.item) (drop-drop run.before w piece)

    by_ends : (o : Option Finished) → AnswersBy o d Skipping (n + w) (drop w piece) run
        → AnswersBy o d Skipping n piece (record run { before = w + run.before })
    by_ends None h = record {
      stage = h.stage;
      stepped = ap (stepped_all d Skipping) (sym (take-append-drop w piece))
          ∙ all-append d Skipping Skipping (take w piece) (drop w piece) skips ∙ h.stepped;
      shown = h.shown;
      grown = subst (λ g. GrowsBy d Skipping g h.stage) item_is h.grown;
    }
    by_ends (Some end) h =
        let place : w + (run.before + run.item) ≡ w + run.before + run.item = omega arith in
        rw (place, item_is) at (ends_behind d Skipping Skipping n w (run.before + run.item) piece _ within skips h)

-- the byte after them
pub next_behind : (test : ℕ → Bool) (w : ℕ) (piece : List ℕ) → (w < length piece → test (get_or piece w 0) ≡ false)
    → 0 < length (drop w piece) → test (get_or (drop w piece) 0 0) ≡ false
next_behind test w piece next some = grind (arith, length-drop, get_or-drop)

-- ---- directives without an item

pub plain_waits : (d : Directive) (n w : ℕ) (piece : List ℕ) → length piece ≤ w → stepped_all d Skipping (take w piece) ≡ Some Skipping
    → Answers d Skipping n piece (record { before = w; item = 0; phase = phase.Skipping; ends = None })
plain_waits d n w piece all skips = grind (arith, take_all)

-- of no text nothing is cut
closing_nothing : (d : Directive) → closing_text d [] ≡ []
closing_nothing d = by (is_cut d)
  where
    by : (v : Bool) → cond v (trimmed_end []) [] ≡ []
    by true = refl
    by false = refl

pub plain_ends : (d : Directive) (n w : ℕ) (r : Stage) (piece : List ℕ) (end : Finished) → w ≤ length piece
    → stepped_all d Skipping (take w piece) ≡ Some r
    → ((m : ℕ) (z : List ℕ) → one_from d r m (drop w piece ++ z) ≡ record { used = m; left = drop w piece ++ z; end = end_of [] end })
    → Answers d Skipping n piece (record { before = w; item = 0; phase = phase.Skipping; ends = Some end })
plain_ends d n w r piece end within goes stays = record {
  goes = rw (add-zero, closing_nothing) (ends_in d Skipping r n w piece (end_of [] end) within goes stays);
  stores = λ slot j own below. absurd (omega (arith, below));
}

module _ (piece : List ℕ) (n w : ℕ) (within : w ≤ length piece) (white : (k : ℕ) → k < w → is_white (get_or piece k 0) ≡ true) where
  space_skips : stepped_all Space Skipping (take w piece) ≡ Some Skipping
  space_skips = skips_all Space piece w within (λ k below. ap (λ v. cond v (Some Skipping) None) (white k below))

  pub space_waits : length piece ≤ w → Answers Space Skipping n piece (record { before = w; item = 0; phase = phase.Skipping; ends = None })
  space_waits all = plain_waits Space n w piece all space_skips

  pub space_ends : w < length piece → is_white (get_or piece w 0) ≡ false
      → Answers Space Skipping n piece (record { before = w; item = 0; phase = phase.Skipping; ends = Some finish.Passes })
  space_ends below ink = plain_ends Space n w Skipping piece finish.Passes within space_skips
      (stays_next Space Skipping w piece below (ap (λ v. cond v (Some Skipping) None) ink))

  pub percent_skips : stepped_all Percent Skipping (take w piece) ≡ Some Skipping
  percent_skips = skips_all Percent piece w within (λ k below. ap
      (λ v. cond v (Some Skipping) (stepped (Byte 37) Skipping (get_or piece k 0))) (white k below))

-- ---- the byte that is due

pub byte_passes : (a n : ℕ) (piece : List ℕ) → a < 256 → 0 < length piece → get_or piece 0 0 ≡ a
    → Answers (Byte a) Skipping n piece (record { before = 1; item = 0; phase = phase.Skipping; ends = Some finish.Passes })
byte_passes a n piece proper some is = grind (arith, stays_full, taken_full)

pub percent_passes : (n : ℕ) (piece : List ℕ) → 0 < length piece → is_white (get_or piece 0 0) ≡ false → get_or piece 0 0 ≡ 37
    → Answers Percent Skipping n piece (record { before = 1; item = 0; phase = phase.Skipping; ends = Some finish.Passes })
percent_passes n piece some ink is = grind (arith, stays_full, taken_full)

-- n
count_shape : (shape : Shape) → is_count shape ≡ true → shape ≡ Count
count_shape shape is = grind arith

pub count_answers : (c : Conversion) (n : ℕ) (piece : List ℕ) (end : Finished) → IsSound (Conv c) → is_count c.shape ≡ true
    → end_of [] end ≡ count_end c c.slot n
    → Answers (Conv c) Skipping n piece (record { before = 0; item = 0; phase = phase.Skipping; ends = Some end })
count_answers c n piece end sound is e =
    let same : n ≡ n + (0 + 0) = omega arith in
    let plain : c.column ≡ false = count_plain c sound.1 (count_shape c.shape is) in
    record {
      goes = record {
        within = omega arith;
        takes = λ z. full_refuses (Conv c) sound.0 Skipping n (piece ++ z) (count_full c plain (count_shape c.shape is))
            ∙ same_part same refl (finished_plain c plain Skipping n true ∙ count_finished c c.shape Skipping n true is ∙ sym e
            ∙ ap (λ t. end_of t end) (sym (closing_plain (Conv c) plain [])));
      };
      stores = λ slot j own below. absurd (omega (arith, below));
    }

-- ---- items

-- the bytes of an item that is a text belong to it
in_text : (shape : Shape) (width : Option ℕ) (f : List ℕ) (b : ℕ) → shape_begins shape width (f ++ b ∷ []) ≡ true → IsInText shape b
in_text (Float lead) width f b begins = float_ink (forms_of lead) f b begins
in_text (Text lead) width f b begins = grind (arith, common_steps)
in_text (Int numeral) width f b begins = tt
in_text (Set members) width f b begins = tt
in_text Chars width f b begins = tt
in_text Count width f b begins = tt

pub item_stores : (c : Conversion) → c.column ≡ false → (f y u : List ℕ) (slot j : ℕ) → CanAll c f y → text_slot (Conv c) ≡ Some slot
    → j < length y → StoresByte (Conv c) u (get_or y j 0)
item_stores c plain f y u slot j can own below =
    let next : f ++ take (j + 1) y ≡ (f ++ take j y) ++ get_or y j 0 ∷ [] = rw (take_more y j 0 below, append_assoc) refl in
    let all : can_take c ((f ++ take j y) ++ get_or y j 0 ∷ []) ≡ true = ap (can_take c) (sym next) ∙ can j below in (
      slot,
      own,
      subst (λ v. IsInTextBy v c.shape u (get_or y j 0)) (sym plain) (in_text c.shape c.width (f ++ take j y) (get_or y j 0)
          (and_parts (is_within c.width (length ((f ++ take j y) ++ get_or y j 0 ∷ []))) _ all).1),
    )

pub stores_behind : (c : Conversion) → c.column ≡ false → (f piece u : List ℕ) (n slot j : ℕ) → n ≤ length piece
    → CanAll c f (take n piece) → text_slot (Conv c) ≡ Some slot → j < n → StoresByte (Conv c) u (get_or piece j 0)
stores_behind c plain f piece u n slot j within can own below =
    let long = length-take-le n piece within in
    subst (StoresByte (Conv c) u) (get_or-take n piece j 0 below)
    (item_stores c plain f (take n piece) u slot j can own (omega (arith, below, long)))

-- a scan is of a conversion with an item
pub scan_has_item : (scan : ItemScan) (f : List ℕ) → HasTaken scan f → is_count (conversion_of scan).shape ≡ false
scan_has_item scan f h = grind arith

-- the item f with bytes of the piece ends where the next byte can't be taken
pub over_next : (c : Conversion) → c.column ≡ false → (f piece : List ℕ) (n : ℕ) → IsProperShape c.shape → n < length piece
    → (CanTake c (f ++ take (n + 1) piece) → ⊥) → StaysAt (Conv c) (Item (f ++ take n piece)) (drop n piece)
over_next c plain f piece n proper below never =
    let next : f ++ take (n + 1) piece ≡ (f ++ take n piece) ++ get_or piece n 0 ∷ [] = rw (take_more piece n 0 below, append_assoc) refl in
    let no : can_take c ((f ++ take n piece) ++ get_or piece n 0 ∷ []) ≡ false =
    false_from_ne_true _ (λ e. never ((tests_can_take c proper (f ++ take (n + 1) piece)).from (ap (can_take c) next ∙ e))) in
    stays_next (Conv c) (Item (f ++ take n piece)) n piece below (stepped_plain c plain (Item (f ++ take n piece)) (get_or piece n 0)
    ∙ ap (λ v. cond v (Some (Item ((f ++ take n piece) ++ get_or piece n 0 ∷ []))) None) no)

-- the first bytes of an item
begins : (c : Conversion) → c.column ≡ false → (piece : List ℕ) (n : ℕ) → 0 < n → n ≤ length piece
    → (shape_skips c.shape && is_white (get_or piece 0 0)) ≡ false → CanAll c [] (take n piece)
    → stepped_all (Conv c) Skipping (take n piece) ≡ Some (Item (take n piece))
begins c plain piece zero some within ink can = absurd (omega (arith, some))
begins c plain [] (suc n) some within ink can = absurd (omega (arith, within))
begins c plain (b ∷ piece) (suc n) some within ink can = first_all c plain b (take n piece) ink can

some_taken : (piece : List ℕ) (n : ℕ) → 0 < n → n ≤ length piece → take n piece ≢ []
some_taken piece n some within e = let long = length-take-le n piece within in let none = ap length e in omega (arith, long, none, some)

-- an item that ends or waits after so many bytes of the piece, which bring the directive to it
item_answers : (d : Directive) → is_column d ≡ false → (q : Stage) (h : List ℕ) (n item : ℕ) (piece : List ℕ) (current : Phase)
    (ends : Option Finished) → item ≤ length piece
    → stepped_all d q (take item piece) ≡ Some (Item h) → taken_at q ++ take item piece ≡ h
    → ((slot j : ℕ) → slot_in current ≡ Some slot → j < item → StoresByte d (taken_at q ++ take j piece) (get_or piece j 0))
    → (ends ≡ None → (item ≡ length piece) × Shows d current (Item h))
    → IfSome ends (EndsAt d h (drop item piece)) → Answers d q n piece (record { before = 0; item = item; phase = current; ends = ends })
item_answers d plain q h n item piece current ends within goes text stores all over =
    record { goes = by_ends ends all over; stores = λ slot j own below. rw zero-add (stores slot j own below) }
  where
    grown : item_of d (Item h) ≡ item_of d q ++ take item piece
    grown = item_plain d plain (Item h) ∙ sym text ∙ ap (λ t. t ++ take item piece) (sym (item_plain d plain q))

    closed : closing_text d (item_of d q ++ take item piece) ≡ h
    closed = closing_plain d plain (item_of d q ++ take item piece) ∙ ap (λ t. t ++ take item piece) (item_plain d plain q) ∙ text

    by_ends : (o : Option Finished) → (o ≡ None → (item ≡ length piece) × Shows d current (Item h))
        → IfSome o (EndsAt d h (drop item piece))
        → AnswersBy o d q n piece (record { before = 0; item = item; phase = current; ends = ends })
    by_ends None all over = grind (arith, take_all, (all refl), grown)
    by_ends (Some end) all over = rw (zero-add, closed) (ends_in d q (Item h) n item piece (end_of h end) within goes over)

-- an item that begins with the piece
module _ (c : Conversion) (plain : c.column ≡ false) (n : ℕ) (piece : List ℕ) (item : ℕ) (proper : IsProper (Conv c)) (some : 0 < item)
    (within : item ≤ length piece) (ink : (shape_skips c.shape && is_white (get_or piece 0 0)) ≡ false) (can : CanAll c [] (take item
    piece)) where
  pub item_begins : (current : Phase) (ends : Option Finished) → slot_in current ≡ text_slot (Conv c) → (ends ≡ None → item ≡ length piece)
      → (take item piece ≢ [] → Shows (Conv c) current (Item (take item piece)))
      → (take item piece ≢ [] → IfSome ends (EndsAt (Conv c) (take item piece) (drop item piece)))
      → Answers (Conv c) Skipping n piece (record { before = 0; item = item; phase = current; ends = ends })
  item_begins current ends own all shows over =
      let begun = some_taken piece item some within in
      item_answers (Conv c) plain Skipping (take item piece) n item piece current ends within (begins c plain piece item some within ink
      can)
      refl (λ slot j is below. stores_behind c plain [] piece (take j piece) item slot j within can (sym own ∙ is) below)
      (λ e. (all e, shows begun)) (over begun)

-- an item that goes on with the piece
pub item_goes_on : (d : Directive) (q : Stage) (slot : Option ℕ) (scan : ItemScan) (n item : ℕ) (piece : List ℕ) (current : Phase)
    (ends : Option Finished)
    → (shows : ShowsItem d slot scan q) → item ≤ length piece → CanAll (conversion_of scan) shows.item (take item piece)
    → slot_in current ≡ slot → (ends ≡ None → item ≡ length piece)
    → Shows d current (Item (shows.item ++ take item piece)) → IfSome ends (EndsAt d (shows.item ++ take item piece) (drop item piece))
    → Answers d q n piece (record { before = 0; item = item; phase = current; ends = ends })
item_goes_on d q slot scan n item piece current ends shows within can own all now over =
    let plain : (conversion_of scan).column ≡ false = ap is_column (sym shows.own) ∙ shows.plain in
    rw shows.stage (item_answers d shows.plain (Item shows.item) (shows.item ++ take item piece) n item piece current ends within
    (rw shows.own (item_all (conversion_of scan) plain shows.item (take item piece) can)) refl
    (λ s j is below. rw shows.own (stores_behind (conversion_of scan) plain shows.item piece (shows.item ++ take j piece) item s j within
    can
    (ap text_slot (sym shows.own) ∙ shows.text ∙ sym own ∙ is) below))
    (λ e. (all e, now)) over)

first_refused : (c : Conversion) → c.column ≡ false → (piece : List ℕ) → IsProperShape c.shape → 0 < length piece
    → (shape_skips c.shape && is_white (get_or piece 0 0)) ≡ false → (CanTake c (take 1 piece) → ⊥)
    → stepped (Conv c) Skipping (get_or piece 0 0) ≡ None
first_refused c plain [] proper some ink never = absurd (omega arith)
first_refused c plain (b ∷ piece) proper some ink never = let no = false_from_ne_true (can_take c (b ∷ []))
    (λ e. never ((tests_can_take c proper (b ∷ [])).from e)) in rw (plain, ink, no) refl

-- nothing of an item is taken where the first byte can't be
pub nothing_taken : (c : Conversion) → c.column ≡ false → (n : ℕ) (piece : List ℕ) (end : Finished) → IsProperShape c.shape
    → is_count c.shape ≡ false
    → 0 < length piece → (shape_skips c.shape && is_white (get_or piece 0 0)) ≡ false
    → (CanTake c (take 1 piece) → ⊥) → end_of [] end ≡ empty_end c true → Answers (Conv c) Skipping n piece
    (record { before = 0; item = 0; phase = phase.Skipping; ends = Some end })
nothing_taken c plain n piece end proper other some ink never is =
    plain_ends (Conv c) n 0 Skipping piece end (omega arith) refl
    (λ m z. stays_next (Conv c) Skipping 0 piece some (first_refused c plain piece proper some ink never) m z
    ∙ same_part refl refl (finished_plain c plain Skipping m true ∙ other_finished c c.shape Skipping m true other ∙ sym is))

-- the same, where that is computed
pub none_taken : (c : Conversion) → c.column ≡ false → (n : ℕ) (piece : List ℕ) (end : Finished) → IsProperShape c.shape
    → is_count c.shape ≡ false
    → 0 < length piece → (shape_skips c.shape && is_white (get_or piece 0 0)) ≡ false
    → can_take c (get_or piece 0 0 ∷ []) ≡ false → end_of [] end ≡ empty_end c true → Answers (Conv c) Skipping n piece
    (record { before = 0; item = 0; phase = phase.Skipping; ends = Some end })
none_taken c plain n [] end proper other some ink none is = absurd (omega (arith, some))
none_taken c plain n (b ∷ piece) end proper other some ink none is =
    nothing_taken c plain n (b ∷ piece) end proper other some ink
    (λ can. true≢false (sym ((tests_can_take c proper (b ∷ [])).to can) ∙ none)) is

-- an item that is over ends as the code tells
pub over_ends : (c k : Conversion) (h rest : List ℕ) (end : Finished) → k ≡ c → c.column ≡ false → is_count c.shape ≡ false
    → StaysAt (Conv k) (Item h) rest → end_of h end ≡ item_end c h → EndsAt (Conv c) h rest end
over_ends c k h rest end same plain other stays is n z =
    subst (λ e. StaysAt (Conv e) (Item h) rest) same stays n z
    ∙ same_part refl refl (finished_plain c plain (Item h) n true ∙ other_finished c c.shape (Item h) n true other ∙ sym is)

-- ---- integers that were read in one go

-- the fronts of the bytes of an item can be taken, and they with the next byte can't
fronts_of : (c : Conversion) (x : List ℕ) (n : ℕ) → IsProperShape c.shape → n < length x → ((z : List ℕ) → IsItem c (x ++ z) n)
    → ((k : ℕ) → k < n → CanTake c (take (k + 1) x)) × (CanTake c (take (n + 1) x) → ⊥)
fronts_of c x n proper below is = (can, cannot)
  where
    item : IsItem c x n
    item = subst (λ y. IsItem c y n) (append-nil x) (is [])

    whole : can_take c (take n x) ≡ true
    whole = (tests_can_take c proper (take n x)).to (
      subst (IsWithin c) (sym (length-take-le n x (omega (arith, below)))) item.holds.1,
      item.holds.2,
    )

    can : (k : ℕ) → k < n → CanTake c (take (k + 1) x)
    can k h =
        let parts : take (k + 1) x ++ drop (k + 1) (take n x) ≡ take n x =
        ap (λ f. f ++ drop (k + 1) (take n x)) (sym (take-take (k + 1) n x (omega (arith, h)))) ∙ take-append-drop (k + 1) (take n x) in
        (tests_can_take c proper (take (k + 1) x)).from (can_take_prefix c (take (k + 1) x) (drop (k + 1) (take n x))
        (ap (can_take c) parts ∙ whole))

    cannot : CanTake c (take (n + 1) x) → ⊥
    cannot h = grind (arith, item, length-take-le)

some_bytes : (numeral : Numeral) (piece : List ℕ) (n : ℕ) (negative : Bool) (m : ℕ) → IsInteger numeral (take n piece) negative m → 0 < n
some_bytes numeral piece n negative m is = grind arith

-- an item that ends before a byte of the piece, looked at as a whole
item_read : (c : Conversion) → c.column ≡ false → (n item : ℕ) (piece : List ℕ) (end : Finished) → IsProperShape c.shape
    → is_count c.shape ≡ false → 0 < item → item < length piece
    → ((z : List ℕ) → IsItem c (piece ++ z) item) → (shape_skips c.shape && is_white (get_or piece 0 0)) ≡ false
    → end_of (take item piece) end ≡ item_end c (take item piece)
    → Answers (Conv c) Skipping n piece (record { before = 0; item = item; phase = phase.Skipping; ends = Some end })
item_read c plain n item piece end proper other some below is ink ends =
    let within : item ≤ length piece = omega arith in
    let fronts = fronts_of c piece item proper below is in
    item_answers (Conv c) plain Skipping (take item piece) n item piece phase.Skipping (Some end) within
    (begins c plain piece item some within ink (can_all c [] piece item proper within fronts.0)) refl
    (λ slot j own less. absurd cc) (λ e. absurd cc)
    (over_ends c c (take item piece) (drop item piece) end refl plain other (over_next c plain [] piece item proper below fronts.1) ends)

pub integer_read : (c : Conversion) → c.column ≡ false → (n : ℕ) (piece : List ℕ) (w : WholeInteger) (end : Finished)
    → IsWhole c.shape c.width piece w
    → (shape_skips c.shape && is_white (get_or piece 0 0)) ≡ false
    → ((text : List ℕ) → end_of text end ≡ passed_number c c.slot (value_of c.kind w.negative w.magnitude))
    → Answers (Conv c) Skipping n piece (record { before = 0; item = w.bytes; phase = phase.Skipping; ends = Some end })
integer_read c plain n piece w end is ink ends =
    item_read c plain n w.bytes piece end (rw is.is tt) (ap is_count is.is)
    (some_bytes is.numeral piece w.bytes w.negative w.magnitude is.ends.integer) is.ends.behind (is.ends.item c is.is refl) ink
    (ends (take w.bytes piece) ∙ integer_ends c (take w.bytes piece) w.negative w.magnitude false
    (is.numeral, w.magnitude, is.is, is.ends.integer, refl))

-- an item that is stored as it stands is that of a conversion
text_shape : (s : Shape) → IsTextShape s → is_count s ≡ false
text_shape s is = grind arith

pub bytes_read : (c : Conversion) → c.column ≡ false → (n item : ℕ) (piece : List ℕ) (end : Finished) → IsProper (Conv c)
    → IsTextShape c.shape → ItemWithin c.shape c.width piece item → (shape_skips c.shape && is_white (get_or piece 0 0)) ≡ false
    → (c.slot ≡ None → end ≡ finish.Passes)
    → ((slot : ℕ) → c.slot ≡ Some slot → end ≡ finish.Closes slot)
    → Answers (Conv c) Skipping n piece (record { before = 0; item = item; phase = phase.Skipping; ends = Some end })
bytes_read c plain n item piece end proper text is ink none some =
    item_read c plain n item piece end proper.0 (text_shape c.shape text) is.some is.behind (is.item c refl refl proper.0) ink
    (by_slot c.slot refl)
  where
    by_slot : (slot : Option ℕ) → c.slot ≡ slot → end_of (take item piece) end ≡ item_end c (take item piece)
    by_slot None e = ap (end_of (take item piece)) (none e) ∙ suppressed_end c (take item piece) e (is.matches c refl refl)
    by_slot (Some slot) e = ap (end_of (take item piece)) (some slot e)
        ∙ text_end c (take item piece) slot text e (is.matches c refl refl)

-- ---- floats that were read in one go

pub whole_read : (o : Option Reached) → is_whole_at o ≡ true → is_some o ≡ true
whole_read None e = e
whole_read (Some r) e = refl

float_begins : (c : Conversion) (text : List ℕ) → c.shape ≡ Float Any → c.width ≡ None → is_float text ≡ true → can_take c text ≡ true
float_begins c text shape width is = rw (shape, width) (whole_read (read (Some places.Start) text) is)

float_stops : (c : Conversion) (text : List ℕ) → c.shape ≡ Float Any → c.width ≡ None → begins_float text ≡ false → can_take c text ≡ false
float_stops c text shape width none = rw (shape, width) none

module _ (c : Conversion) (piece : List ℕ) (d : Decimal) (shape : c.shape ≡ Float Any) (width : c.width ≡ None)
    (is : DecimalWithin piece d) where
  float : is_float (take d.bytes piece) ≡ true
  float = (float_decided All (take d.bytes piece)).1 is.matches

  float_item : IsProperShape c.shape → (z : List ℕ) → IsItem c (piece ++ z) d.bytes
  float_item proper z = item_stays c proper piece z d.bytes
      (item_ends c proper piece d.bytes is.behind (float_begins c (take d.bytes piece) shape width float)
      (float_stops c (take (d.bytes + 1) piece) shape width is.ends))
      is.behind

  float_some : 0 < d.bytes
  float_some = elim (eq-zero-or-pos d.bytes) [
    | inr some ↦ some
    | inl none ↦ absurd (true≢false (sym (subst (λ n. is_float (take n piece) ≡ true) none float)))
  ]

  pub float_read : c.column ≡ false → (n slot : ℕ) → IsProper (Conv c) → c.slot ≡ Some slot
      → (shape_skips c.shape && is_white (get_or piece 0 0)) ≡ false
      → Answers (Conv c) Skipping n piece
      (record { before = 0; item = d.bytes; phase = phase.Skipping; ends = Some (finish.Reads slot c.kind) })
  float_read plain n slot proper own ink =
      item_read c plain n d.bytes piece (finish.Reads slot c.kind) proper.0 (ap is_count shape) float_some is.behind (float_item proper.0)
      ink
      (float_end c (take d.bytes piece) slot Any shape own
      (subst (λ s. ShapeMatches s c.width (take d.bytes piece)) (sym shape) is.matches))

-- an item of the shape, where one was found
pub item_if : (s t : Shape) (width : Option ℕ) (piece : List ℕ) (o : Option ℕ) → s ≡ t
    → MatchOption o (NoItemWithin t width piece) (ItemWithin t width piece) → IfSome o (ItemWithin s width piece)
item_if s t width piece None same is = tt
item_if s t width piece (Some n) same is = subst (λ v. ItemWithin v width piece n) (sym same) is

-- ---- what the answer does to the text under way

pub suits_waits : (d : Directive) (w : ℕ) (piece : List ℕ) → counts_bytes d ≡ false → w ≡ length piece
    → Suits d phase.Skipping piece (record { before = w; item = 0; phase = phase.Skipping; ends = None })
suits_waits d w piece none all = grind (arith, skipping_open)

pub end_is : (d : Directive) (current : Phase) (o : Option Finished) (end : Finished) → o ≡ Some end → IfSome o (IsEnd d current)
    → IsEnd d current end
end_is d current o end e own = subst (λ (o : Option Finished). IfSome o (IsEnd d current)) e own

-- ---- directives that end within the piece

-- the text that a directive gives of the item is a front of it
pub closes_within : (d : Directive) (piece : List ℕ) (run : Run) (text : List ℕ) → run.before + run.item ≤ length piece
    → text ≡ closing_text d (take run.item (drop run.before piece)) → length text ≤ run.item
closes_within d piece run text within is =
    let short = closing_length d (take run.item (drop run.before piece)) in
    let size = length-take-le run.item (drop run.before piece) (omega (arith, within, length-drop run.before piece)) in
    let same = ap length is in
    omega (arith, short, size, same)

pub ended_so : (d : Directive) (piece : List ℕ) (run : Run) (text : List ℕ) (end : Finished) → run.before + run.item ≤ length piece
    → run.ends ≡ Some end → text ≡ closing_text d (take run.item (drop run.before piece))
    → IsEndOf d piece (record {
      ended = record { before = run.before; item = length text; finished = end };
      after = run.item - length text;
    }) run
ended_so d piece run text end within ends is =
    let short = closes_within d piece run text within is in
    let item : List ℕ = take run.item (drop run.before piece) in
    record {
      before = refl;
      all = omega (arith, short);
      text = sym (take-take (length text) run.item (drop run.before piece) short)
          ∙ ap (λ k. take k item) (ap length is) ∙ sym (closing_front d item);
      finished = ends;
    }

pub end_fits : (d : Directive) (piece : List ℕ) (run : Run) (e : EndedColumn) → IsEndOf d piece e run
    → Suits d phase.Skipping piece run → IsEndIn d piece e.ended
end_fits d piece run e is suits =
    let own : IsEnd d run.phase e.ended.finished = end_is d run.phase run.ends e.ended.finished is.finished suits.end in
    let before = is.before in
    let all = is.all in
    let within = suits.within in
    record { within = omega (arith, before, all, within); given = own.given; number = own.number; memory = own.memory }

-- the end of an answer that fits the directive
pub ended_by : (d : Directive) (n : ℕ) (piece : List ℕ) (run : Run) (o : Option EndedColumn) → IfSome o (λ e. IsEndOf d piece e run)
    → (IsSound d → Answers d Skipping n piece run)
    → Suits d phase.Skipping piece run → IfSome o (EndsWithAll d n piece)
ended_by d n piece run None is answers suits = tt
ended_by d n piece run (Some e) is answers suits =
    let before = is.before in
    let all = is.all in
    let within = suits.within in
    let taken : run.before + run.item ≡ e.ended.before + e.ended.item + e.after = omega (arith, before, all) in
    record {
      ends = λ sound.
          let goes : AnswersBy (Some e.ended.finished) d Skipping n piece run =
          subst (λ (o : Option Finished). AnswersBy o d Skipping n piece run) is.finished (answers sound).goes in
          subst (λ k. EndsIn d Skipping n piece k (end_of (take e.ended.item (drop e.ended.before piece)) e.ended.finished)) taken
          (subst (λ t. EndsIn d Skipping n piece (run.before + run.item) (end_of t e.ended.finished)) (sym is.text) goes);
      within = omega (arith, taken, within);
      fits = end_fits d piece run e is suits;
    }

-- one that takes no column
pub ended_plain : (d : Directive) → is_column d ≡ false → (n : ℕ) (piece : List ℕ) (e : Ended) → Answers d Skipping n piece (run_of e)
    → EndsIn d Skipping n piece (e.before + e.item) (end_of (take e.item (drop e.before piece)) e.finished)
ended_plain d plain n piece e a = subst (λ t. EndsIn d Skipping n piece (e.before + e.item) (end_of t e.finished))
    (closing_plain d plain (take e.item (drop e.before piece))) a.goes

-- nothing follows its item
pub ended_whole : (d : Directive) (n : ℕ) (piece : List ℕ) (e : Ended) → EndsAtOnce d n piece e
    → EndsWithAll d n piece (record { ended = e; after = 0 })
ended_whole d n piece e is = record { ends = λ sound. rw add-zero (is.ends sound); within = rw add-zero is.fits.within; fits = is.fits }

-- a conversion after white space that is skipped
pub ended_behind : (c : Conversion) → (IsSound (Conv c) → c.column ≡ false) → (n w : ℕ) (piece rest : List ℕ) (e : Ended)
    → rest ≡ drop w piece
    → w ≤ length piece → ((k : ℕ) → k < w → (shape_skips c.shape && is_white (get_or piece k 0)) ≡ true)
    → (w < length piece → (shape_skips c.shape && is_white (get_or piece w 0)) ≡ false) → e.before ≡ 0
    → (IsSound (Conv c) → (0 < length rest → (shape_skips c.shape && is_white (get_or rest 0 0)) ≡ false) → (n : ℕ)
    → Answers (Conv c) Skipping n rest (run_of e)) → IsEndIn (Conv c) rest e
    → EndsAtOnce (Conv c) n piece (record e { before = w })
ended_behind c plain n w piece rest e back within white next front answers is =
    let all = length-drop w piece in
    let long = ap length back in
    let fits = is.within in
    let ink : 0 < length rest → (shape_skips c.shape && is_white (get_or rest 0 0)) ≡ false =
    rw back (next_behind (λ b. shape_skips c.shape && is_white b) w piece next) in
    record {
      ends = λ sound. ended_plain (Conv c) (plain sound) n piece (record e { before = w })
          (rw (front, add-zero) at (answers_behind (Conv c) (plain sound) n w piece (run_of e) within (omega (arith, long, fits))
          (item_skips c (plain sound) piece w within white) (rw back at (answers sound ink (n + w)))));
      fits = record { within = omega (arith, all, fits, front, long, within); given = is.given; number = is.number; memory = is.memory };
    }

-- a conversion that skips no white space
pub ends_unskipped : (c : Conversion) → c.column ≡ false → (n : ℕ) (piece : List ℕ) (o : Option Ended) → shape_skips c.shape ≡ false
    → (IsProper (Conv c) → (0 < length piece → (shape_skips c.shape && is_white (get_or piece 0 0)) ≡ false) → (n : ℕ)
    → IfSome o (λ e. Answers (Conv c) Skipping n piece (run_of e))) → IfSome o (IsEndIn (Conv c) piece)
    → IfSome o (EndsAtOnce (Conv c) n piece)
ends_unskipped c plain n piece None skips answers is = tt
ends_unskipped c plain n piece (Some e) skips answers is = record {
  ends = λ sound. ended_plain (Conv c) plain n piece e
      (answers sound.0 (λ some. ap (λ v. v && is_white (get_or piece 0 0)) skips) n);
  fits = is;
}

-- an item's answer fits the directive that waits with one
pub suits_item : (c : Conversion) (scan : ItemScan) (piece : List ℕ) (run : Run) → run.before ≡ 0 → run.item ≤ length piece
    → (run.ends ≡ None → run.item ≡ length piece)
    → (run.ends ≡ None → (d : Directive) (q : Stage) → IsProper d → Shows d run.phase q → is_full d q ≡ false)
    → slot_in run.phase ≡ None → is_in_column run.phase ≡ false → IfSome run.ends (IsEnd (Conv c) run.phase)
    → Suits (Conv c) (phase.Item scan) piece run
suits_item c scan piece run before within all more slot item end = record {
  within = omega (arith, before, within);
  all = λ none. (let a = all none in omega (arith, before, a));
  more = λ none q. more none (Conv c) q;
  slot = rw slot tt;
  left = left run.phase slot item;
  end = end;
}
  where
    left : (p : Phase) → slot_in p ≡ None → is_in_column p ≡ false → LeftAfterAll (Conv c) (phase.Item scan) p run.item
    left phase.Skipping slot item = tt
    left (phase.Item s) slot item = tt
    left (phase.Text n s) slot item = absurd cc
    left (phase.Column o s) slot item = absurd cc

-- an answer that takes nothing of a text fits whichever phase the directive is in
pub suits_any : (d : Directive) (current : Phase) (piece : List ℕ) (run : Run) → text_slot d ≡ None
    → IfSome (slot_in current) (λ slot. text_slot d ≡ Some slot) → run.phase ≡ phase.Skipping → Suits d phase.Skipping piece run
    → Suits d current piece run
suits_any d current piece run none own phase_is suits = record {
  within = suits.within;
  all = suits.all;
  more = suits.more;
  slot = rw (phase_is, none) (by (slot_in current) (rw none at own));
  left = rw phase_is (given_up current);
  end = suits.end;
}
  where
    given_up : (p : Phase) → IsGivenUp d p
    given_up phase.Skipping = tt
    given_up (phase.Item s) = tt
    given_up (phase.Text n s) = tt
    given_up (phase.Column o s) = none

    by : (o : Option ℕ) → IfSome o (λ slot. None ≡ Some slot) → IsNextSlot None o None
    by None own = tt
    by (Some slot) own = absurd cc

-- a directive that waits at the end of the piece doesn't pass before
pub waits_late : (d : Directive) (n : ℕ) (piece : List ℕ) (room : ℕ) (run : Run) → run.ends ≡ None → Answers d Skipping n piece run
    → Suits d phase.Skipping piece run → IsSure d n piece room → ⊥
waits_late d n piece room run none answers suits sure = grind (arith, answers_use)
