-- A literal that opens a group answers as the literal does elsewhere, and is missing where that fails.
use Rattle.std.proofs.Common.{◌≡◌, ℕ, ◌+◌, ◌<◌, Bool, true, false, cond, List, [], ◌∷◌, ◌++◌, drop, take, length, get_or, Option, Some}
use Rattle.std.proofs.Common.{None, refl, sym, ap, subst, arith, is_some}
use Rattle.std.proofs.Common.{◌∙◌}
use Rattle.std.specs.Prelude.{IfSome}
use Rattle.std.specs.Option.{option_map}
use Rattle.sf_format.specs.declared.directive.Directive.{Directive}
use Rattle.sf_format.specs.declared.directive.Directive.TheVariants.{Space, Byte, Percent, Conv, Opens}
use Rattle.sf_format.specs.declared.directive.Base.{Base}
use Rattle.sf_format.specs.declared.directive.Lead.{Lead}
use Rattle.sf_format.specs.declared.directive.Shape.{Shape}
use Rattle.sf_format.specs.declared.directive.Shape.TheVariants.{Int, Text, Set, Chars, Float, Count}
use Rattle.sf_format.specs.declared.layout.Row.{Row}
use Rattle.sf_format.specs.declared.layout.Way.{Way}
use Rattle.sf_format.specs.declared.layout.Way.TheVariants as ways
use Rattle.sf_format.specs.Leads.{is_strict_lead}
use Rattle.sf_format.specs.Layout.{plain_row, row_of, row_of_literal, way_led_by, way_of, way_of_set, way_placed}
use Rattle.sf_base.specs.Kinds.{bounds_of}
use Rattle.sf_base.specs.Sets.{lone_lack}
use Rattle.sf_format.specs.declared.directive.Literal.{Literal}
use Rattle.sf_format.specs.declared.directive.Literal.TheVariants as literal
use Rattle.sf_format.specs.declared.directive.Opener.{Opener}
use Rattle.sf_report.specs.Machine.{Stage, Skipping, stepped, is_full}
use Rattle.sf_report.specs.Residual.{choose, stepped_all}
use Rattle.sf_report.specs.Steps.{missed}
use Rattle.sf_run.specs.declared.directive.Finished.{Finished}
use Rattle.sf_run.specs.declared.directive.Finished.TheVariants as finish
use Rattle.sf_run.specs.declared.directive.Phase.TheVariants as phase
use Rattle.sf_run.specs.declared.directive.Run.{Run}
use Rattle.sf_run.specs.Phases.{Brings, IsNumberGiven, Shows, end_of, is_failing, is_memory_failure, is_missing, or_missing, slot_closed}
use Rattle.sf_run.specs.Phases.{slot_given, slot_in}
use Rattle.sf_run.specs.Pieces.{Answers, AnswersBy, EndsAtOnce, EndsIn, IsEnd, Suits, run_of}
use Rattle.sf_run.specs.declared.directive.Ended.{Ended}
use Rattle.sf_run.specs.Holding.{LeftAfterAll}
use Rattle.sf_run.specs.Texts.{IsNextSlot, closing_text, item_of}
use Rattle.sf_report.proofs.Ones.{opens_plain, plain, plain_stepped, with_missed}
use Rattle.sf_run.proofs.Pieces.{byte_passes}
use Rattle.sf_run.proofs.Stages.{skipping_open}

opens_stepped : (o : Opener) (q : Stage) (y : List ℕ) → stepped_all (Opens o) q y ≡ stepped_all (plain o.literal) q y
opens_stepped o q [] = refl
opens_stepped o q (b ∷ y) = by (stepped (plain o.literal) q b) (plain_stepped o q b) (λ r. opens_stepped o r y)
  where
    by : (s : Option Stage) → stepped (Opens o) q b ≡ s
        → ((r : Stage) → stepped_all (Opens o) r y ≡ stepped_all (plain o.literal) r y)
        → stepped_all (Opens o) q (b ∷ y) ≡ choose s None (λ r. stepped_all (plain o.literal) r y)
    by None e rest = rw e refl
    by (Some r) e rest = rw e (rest r)

-- no text is closed there
missed_end : (t : List ℕ) (end : Finished) → slot_closed end ≡ None → end_of t (or_missing end) ≡ missed (end_of t end)
missed_end t finish.Passes none = refl
missed_end t (finish.Stores slot kind negative magnitude) none = refl
missed_end t (finish.Closes slot) none = absurd cc
missed_end t (finish.Reads slot kind) none = absurd cc
missed_end t finish.Misses none = refl
missed_end t (finish.Fails status) none = refl

plain_text : (l : Literal) (t : List ℕ) → closing_text (plain l) (item_of (plain l) Skipping ++ t) ≡ t
plain_text (literal.Byte a) t = refl
plain_text literal.Percent t = refl

module _ (o : Opener) (n : ℕ) (piece : List ℕ) (run : Run) (skips : run.phase ≡ phase.Skipping) where
  -- the answer, with what is missing
  abbrev with : Run
  with = record run { ends = option_map or_missing run.ends }

  brings : Brings (plain o.literal) Skipping piece (take run.item (drop run.before piece)) run.phase
      → Brings (Opens o) Skipping piece (take run.item (drop run.before piece)) run.phase
  brings b = by o.literal refl b.grown
    where
      by : (l : Literal) → o.literal ≡ l → item_of (plain l) b.stage ≡ item_of (plain l) Skipping ++ take run.item (drop run.before piece)
          → Brings (Opens o) Skipping piece (take run.item (drop run.before piece)) run.phase
      by (literal.Byte a) e grown = record {
        stage = b.stage;
        stepped = opens_stepped o Skipping piece ∙ b.stepped;
        shown = subst (λ p. Shows (Opens o) p b.stage) (sym skips) (subst (λ p. Shows (plain o.literal) p b.stage) skips b.shown);
        grown = grown;
      }
      by literal.Percent e grown = record {
        stage = b.stage;
        stepped = opens_stepped o Skipping piece ∙ b.stepped;
        shown = subst (λ p. Shows (Opens o) p b.stage) (sym skips) (subst (λ p. Shows (plain o.literal) p b.stage) skips b.shown);
        grown = grown;
      }

  ends : (end : Finished) → slot_closed end ≡ None
      → EndsIn (plain o.literal) Skipping n piece (run.before + run.item)
      (end_of (closing_text (plain o.literal) (item_of (plain o.literal) Skipping ++ take run.item (drop run.before piece))) end)
      → EndsIn (Opens o) Skipping n piece (run.before + run.item) (end_of (take run.item (drop run.before piece)) (or_missing end))
  ends end none h =
      let t = take run.item (drop run.before piece) in
      record {
        within = h.within;
        takes = λ z. opens_plain o Skipping n (piece ++ z) ∙ ap with_missed (h.takes z)
            ∙ ap (λ e. record { used = n + (run.before + run.item); left = drop (run.before + run.item) piece ++ z; end = e })
            (ap (λ s. missed (end_of s end)) (plain_text o.literal t) ∙ sym (missed_end t end none));
      }

  goes : (e : Option Finished) → IfSome e (λ end. slot_closed end ≡ None) → AnswersBy e (plain o.literal) Skipping n piece run
      → AnswersBy (option_map or_missing e) (Opens o) Skipping n piece with
  goes None none h = brings h
  goes (Some end) none h = ends end none h

  pub opener_answers : IfSome run.ends (λ end. slot_closed end ≡ None) → Answers (plain o.literal) Skipping n piece run
      → Answers (Opens o) Skipping n piece with
  opener_answers none a = record {
    goes = goes run.ends none a.goes;
    stores = λ slot j own below. absurd (let no = ap slot_in skips in cc);
  }

  -- a literal closes no text
  closes_nothing : (e : Option Finished) → IfSome e (IsEnd (plain o.literal) run.phase) → IfSome e (λ end. slot_closed end ≡ None)
  closes_nothing None h = tt
  closes_nothing (Some finish.Passes) h = refl
  closes_nothing (Some (finish.Stores slot kind negative magnitude)) h = refl
  closes_nothing (Some (finish.Closes slot)) h = sym (h.text refl) ∙ ap slot_in skips
  closes_nothing (Some (finish.Reads slot kind)) h = sym (h.text refl) ∙ ap slot_in skips
  closes_nothing (Some finish.Misses) h = refl
  closes_nothing (Some (finish.Fails status)) h = refl

  pub opener_closes : Suits (plain o.literal) phase.Skipping piece run → IfSome run.ends (λ end. slot_closed end ≡ None)
  opener_closes s = closes_nothing run.ends s.end

  is_end : (l : Literal) (end : Finished) → IsEnd (plain l) run.phase end → IsEnd (Opens o) run.phase (or_missing end)
  is_end (literal.Byte a) (finish.Fails status) h =
      record { text = λ e. ap slot_in skips; given = λ e f. absurd cc; number = tt; memory = refl }
  is_end literal.Percent (finish.Fails status) h =
      record { text = λ e. ap slot_in skips; given = λ e f. absurd cc; number = tt; memory = refl }
  is_end (literal.Byte a) end h = record { text = h.text; given = h.given; number = h.number; memory = h.memory }
  is_end literal.Percent end h = record { text = h.text; given = h.given; number = h.number; memory = h.memory }

  some_end : (e : Option Finished) → IfSome e (IsEnd (plain o.literal) run.phase)
      → IfSome (option_map or_missing e) (IsEnd (Opens o) run.phase)
  some_end None h = tt
  some_end (Some end) h = is_end o.literal end h

  no_end : (e : Option Finished) → option_map or_missing e ≡ None → e ≡ None
  no_end None h = refl
  no_end (Some end) h = absurd cc

  pub opener_suits : Suits (plain o.literal) phase.Skipping piece run → Suits (Opens o) phase.Skipping piece with
  opener_suits s = record {
    within = s.within;
    all = λ e. s.all (no_end run.ends e);
    more = λ e q proper shows. (let is : q ≡ Skipping = subst (λ p. Shows (Opens o) p q) skips shows in
        subst (λ r. is_full (Opens o) r ≡ false) (sym is) (skipping_open (Opens o) proper refl));
    slot = subst (λ p. IsNextSlot None None (slot_in p)) (sym skips) tt;
    left = subst (λ p. LeftAfterAll (Opens o) phase.Skipping p run.item) (sym skips) tt;
    end = some_end run.ends s.end;
  }

-- ---- a byte that is seen at once

-- it gives no slot anything
gives_none : (end : Finished) → (is_failing end ≡ false → is_missing end ≡ false → slot_given end ≡ None) → slot_closed end ≡ None
gives_none finish.Passes given = refl
gives_none (finish.Stores slot kind negative magnitude) given = refl
gives_none (finish.Closes slot) given = absurd (let e = given refl refl in cc)
gives_none (finish.Reads slot kind) given = absurd (let e = given refl refl in cc)
gives_none finish.Misses given = refl
gives_none (finish.Fails status) given = refl

opener_given : (end : Finished) → (is_failing end ≡ false → is_missing end ≡ false → slot_given end ≡ None)
    → is_failing (or_missing end) ≡ false → is_missing (or_missing end) ≡ false → slot_given (or_missing end) ≡ None
opener_given finish.Passes given = given
opener_given (finish.Stores slot kind negative magnitude) given = given
opener_given (finish.Closes slot) given = given
opener_given (finish.Reads slot kind) given = given
opener_given finish.Misses given = given
opener_given (finish.Fails status) given = λ ok there. absurd cc

opener_number : (end : Finished) → IsNumberGiven end → IsNumberGiven (or_missing end)
opener_number finish.Passes h = h
opener_number (finish.Stores slot kind negative magnitude) h = h
opener_number (finish.Closes slot) h = h
opener_number (finish.Reads slot kind) h = h
opener_number finish.Misses h = h
opener_number (finish.Fails status) h = tt

opener_memory : (end : Finished) → is_memory_failure end ≡ false → is_memory_failure (or_missing end) ≡ false
opener_memory finish.Passes h = h
opener_memory (finish.Stores slot kind negative magnitude) h = h
opener_memory (finish.Closes slot) h = h
opener_memory (finish.Reads slot kind) h = h
opener_memory finish.Misses h = h
opener_memory (finish.Fails status) h = refl

pub opener_ends : (more due n : ℕ) (piece : List ℕ) (e : Ended) → EndsAtOnce (Byte due) n piece e
    → EndsAtOnce (Opens (record { literal = literal.Byte due; more = more })) n piece
    (record { before = e.before; item = e.item; finished = or_missing e.finished })
opener_ends more due n piece e h = record {
  ends = λ sound. ends (record { literal = literal.Byte due; more = more }) n piece (run_of e) refl e.finished
      (gives_none e.finished h.fits.given) (h.ends (sound.0, tt));
  fits = record {
    within = h.fits.within;
    given = opener_given e.finished h.fits.given;
    number = opener_number e.finished h.fits.number;
    memory = opener_memory e.finished h.fits.memory;
  };
}

-- ---- a byte that a row says is due, where it stands

pub byte_ends : (due n : ℕ) (piece : List ℕ) → due < 256 → 0 < length piece → get_or piece 0 0 ≡ due
    → EndsAtOnce (Byte due) n piece (record { before = 1; item = 0; finished = finish.Passes })
byte_ends due n piece fits some is = record {
  ends = λ sound. (byte_passes due n piece fits some is).goes;
  fits = record { within = omega (arith, some); given = λ ok there. refl; number = tt; memory = refl };
}

byte_of : (due : ℕ) (row : Row) → row ≡ plain_row ways.Byte due → due ≡ row.due
byte_of due row is = ap (λ (r : Row). r.due) (sym is)

no_byte : (way : Way) (due : ℕ) (row : Row) → row ≡ plain_row way due → row.way ≡ ways.Byte → way ≡ ways.Byte
no_byte way due row is byte = ap (λ (r : Row). r.way) (sym is) ∙ byte

-- no conversion is passed so
no_number : (lead : Lead) (base : Base) → way_led_by lead base ≡ ways.Byte → ⊥
no_number lead base e = grind arith

no_text : (v : Bool) → cond v ways.StrictText ways.Text ≡ ways.Byte → ⊥
no_text true e = cc
no_text false e = cc

no_set : (lone : Option ℕ) → way_of_set lone ≡ ways.Byte → ⊥
no_set None e = cc
no_set (Some stop) e = cc

no_shape : (shape : Shape) (numeric : Bool) → way_of shape numeric ≡ ways.Byte → ⊥
no_shape (Int numeral) true e = no_number numeral.lead numeral.base e
no_shape (Int numeral) false e = cc
no_shape (Text lead) numeric e = no_text (is_strict_lead lead) e
no_shape (Set members) numeric e = no_set (lone_lack members) e
no_shape Chars numeric e = cc
no_shape (Float lead) numeric e = cc
no_shape Count numeric e = cc

no_conversion : (column : Bool) (shape : Shape) (numeric : Bool) → way_placed column shape numeric ≡ ways.Byte → ⊥
no_conversion true shape numeric e = cc
no_conversion false shape numeric e = no_shape shape numeric e

opener_row_ends : (more : ℕ) (l : Literal) (row : Row) (n : ℕ) (piece : List ℕ) → row ≡ row_of_literal l → row.way ≡ ways.Byte
    → row.due < 256 → 0 < length piece → get_or piece 0 0 ≡ row.due
    → EndsAtOnce (Opens (record { literal = l; more = more })) n piece (record { before = 1; item = 0; finished = finish.Passes })
opener_row_ends more (literal.Byte b) row n piece is way fits some there =
    let same = byte_of b row is in
    opener_ends more b n piece _ (byte_ends b n piece (rw same fits) some (there ∙ sym same))
opener_row_ends more literal.Percent row n piece is way fits some there = absurd (let e = no_byte ways.Another 0 row is way in cc)

pub row_ends : (d : Directive) (row : Row) (n : ℕ) (piece : List ℕ) → row ≡ row_of d → row.way ≡ ways.Byte → row.due < 256
    → 0 < length piece → get_or piece 0 0 ≡ row.due
    → EndsAtOnce d n piece (record { before = 1; item = 0; finished = finish.Passes })
row_ends Space row n piece is way fits some there = absurd (let e = no_byte ways.Space 0 row is way in cc)
row_ends (Byte b) row n piece is way fits some there =
    let same = byte_of b row is in
    byte_ends b n piece (rw same fits) some (there ∙ sym same)
row_ends Percent row n piece is way fits some there = absurd (let e = no_byte ways.Another 0 row is way in cc)
row_ends (Opens o) row n piece is way fits some there = opener_row_ends o.more o.literal row n piece is way fits some there
row_ends (Conv c) row n piece is way fits some there =
    absurd (no_conversion c.column c.shape (is_some (bounds_of c.kind)) (ap (λ (r : Row). r.way) (sym is) ∙ way))
