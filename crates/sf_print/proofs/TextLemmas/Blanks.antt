-- Blanks before a text.
use Rattle.std.proofs.Common.{◌≡◌, ℕ, zero, suc, ◌+◌, ◌≤◌, ◌<◌, Bool, true, false, cond, eqb, List, [], ◌∷◌, ◌++◌, length, replicate, pos}
use Rattle.std.proofs.Common.{take, drop, get_or, refl, sym, ap, ◌∙◌, arith, length-append}
use Rattle.std.specs.List.{flat_map}
use Rattle.std.proofs.lemmas.Grind.{flat_map-append}
use Rattle.std.proofs.lemmas.List.{take-append-drop}
use Rattle.sf_print.specs.declared.texts.piece.Piece.{Piece}
use Rattle.sf_print.specs.declared.texts.piece.Piece.TheVariants as pieces
use Rattle.sf_print.specs.texts.Runs.{piece_bytes}
use Rattle.sf_print.specs.texts.Visible.{without_blanks}
use Rattle.sf_base.specs.Data.{datum_of, is_number}
use Rattle.sf_base.specs.declared.values.Value.{Value}
use Rattle.sf_base.specs.declared.values.Value.TheVariants as value
use Rattle.sf_format.specs.declared.unit.PrintConv.{PrintConv}
use Rattle.sf_print.specs.texts.Text.{value_text, least_digits}
use Rattle.sf_print.proofs.TextLemmas.Short.{integer_short}
use Rattle.sf_print.proofs.TextLemmas.Joined.{flat_map_more}

pub without_all : (n : ℕ) → without_blanks (replicate n 32) ≡ []
without_all zero = refl
without_all (suc n) = without_all n

pub without-le : (xs : List ℕ) → length (without_blanks xs) ≤ length xs
without-le [] = omega arith
without-le (b ∷ bs) = by (eqb b 32) (without-le bs)
  where
    by : (t : Bool) → length (without_blanks bs) ≤ length bs → length (cond t (without_blanks bs) (b ∷ bs)) ≤ length (b ∷ bs)
    by true h = omega arith
    by false h = omega arith

-- a text that is all blanks
pub behind_blanks : (xs ys : List ℕ) → length (without_blanks xs) ≡ 0 → without_blanks (xs ++ ys) ≡ without_blanks ys
behind_blanks [] ys e = refl
behind_blanks (b ∷ bs) ys e = by (eqb b 32) e (behind_blanks bs ys)
  where
    by : (t : Bool) → length (cond t (without_blanks bs) (b ∷ bs)) ≡ 0
        → (length (without_blanks bs) ≡ 0 → without_blanks (bs ++ ys) ≡ without_blanks ys)
        → cond t (without_blanks (bs ++ ys)) (b ∷ (bs ++ ys)) ≡ without_blanks ys
    by true e more = more e
    by false e more = absurd (omega (arith, e))

-- or that isn't
pub before_text : (xs ys : List ℕ) → 0 < length (without_blanks xs) → without_blanks (xs ++ ys) ≡ without_blanks xs ++ ys
before_text [] ys some = absurd (omega arith)
before_text (b ∷ bs) ys some = by (eqb b 32) some (before_text bs ys)
  where
    by : (t : Bool) → 0 < length (cond t (without_blanks bs) (b ∷ bs))
        → (0 < length (without_blanks bs) → without_blanks (bs ++ ys) ≡ without_blanks bs ++ ys)
        → cond t (without_blanks (bs ++ ys)) (b ∷ (bs ++ ys)) ≡ cond t (without_blanks bs) (b ∷ bs) ++ ys
    by true some more = more some
    by false some more = refl

-- one piece more
pub next_hidden : (ps : List Piece) (i len : ℕ) → i < length ps → len ≡ length (without_blanks (flat_map piece_bytes (take i ps))) → len ≡ 0
    → length (without_blanks (piece_bytes (get_or ps i (pieces.Run 0 0))))
    ≡ length (without_blanks (flat_map piece_bytes (take (i + 1) ps)))
next_hidden ps i len below is none =
    sym (ap (λ (t : List ℕ). length (without_blanks t)) (sym (flat_map_more piece_bytes ps i (pieces.Run 0 0) below))
    ∙ ap length (behind_blanks (flat_map piece_bytes (take i ps)) (piece_bytes (get_or ps i (pieces.Run 0 0))) (sym is ∙ none)))

pub next_visible : (ps : List Piece) (i len : ℕ) → i < length ps → len ≡ length (without_blanks (flat_map piece_bytes (take i ps)))
    → 0 < len
    → len + length (piece_bytes (get_or ps i (pieces.Run 0 0))) ≡ length (without_blanks (flat_map piece_bytes (take (i + 1) ps)))
next_visible ps i len below is some =
    let e = ap (λ (t : List ℕ). length (without_blanks t)) (sym (flat_map_more piece_bytes ps i (pieces.Run 0 0) below))
    ∙ ap length (before_text (flat_map piece_bytes (take i ps)) (piece_bytes (get_or ps i (pieces.Run 0 0))) (omega (arith, is))) in
    omega (arith, e, is, length-append (without_blanks (flat_map piece_bytes (take i ps))) (piece_bytes (get_or ps i (pieces.Run 0 0))))

-- ---- lengths that fit

pub number_short : (c : PrintConv) (v : Value) → is_number v ≡ true → c.width ≤ 65535 → least_digits c ≤ 255
    → length (value_text c (datum_of v)) ≤ 200000
number_short c (value.I8 n) e w p = integer_short c n w p
number_short c (value.I16 n) e w p = integer_short c n w p
number_short c (value.I32 n) e w p = integer_short c n w p
number_short c (value.I64 n) e w p = integer_short c n w p
number_short c (value.U8 n) e w p = integer_short c (pos n) w p
number_short c (value.U16 n) e w p = integer_short c (pos n) w p
number_short c (value.U32 n) e w p = integer_short c (pos n) w p
number_short c (value.U64 n) e w p = integer_short c (pos n) w p
number_short c (value.Text t) e w p = absurd cc
number_short c (value.F32 bits) e w p = absurd cc
number_short c (value.F64 bits) e w p = absurd cc

-- a run of blanks
pub blank_run : (b n : ℕ) → b ≡ 32 → [] ≡ without_blanks (replicate n b)
blank_run b n e = sym (ap (λ (k : ℕ). without_blanks (replicate n k)) e ∙ without_all n)

-- ---- what was written without the blanks before it

-- one piece more, the first that has a byte
pub first_written : (ps : List Piece) (i : ℕ) (here before : List ℕ) → i < length ps
    → before ≡ without_blanks (flat_map piece_bytes (take i ps)) → length before ≡ 0
    → here ≡ without_blanks (piece_bytes (get_or ps i (pieces.Run 0 0)))
    → here ≡ without_blanks (flat_map piece_bytes (take (i + 1) ps))
first_written ps i here before below is none e =
    e ∙ sym (ap without_blanks (sym (flat_map_more piece_bytes ps i (pieces.Run 0 0) below))
    ∙ behind_blanks (flat_map piece_bytes (take i ps)) (piece_bytes (get_or ps i (pieces.Run 0 0))) (sym (ap length is) ∙ none))

-- and after it
pub more_visible : (ps : List Piece) (i : ℕ) (here before : List ℕ) → i < length ps
    → before ≡ without_blanks (flat_map piece_bytes (take i ps)) → 0 < length before
    → here ≡ before ++ piece_bytes (get_or ps i (pieces.Run 0 0))
    → here ≡ without_blanks (flat_map piece_bytes (take (i + 1) ps))
more_visible ps i here before below is some e =
    e ∙ ap (λ (t : List ℕ). t ++ piece_bytes (get_or ps i (pieces.Run 0 0))) is
    ∙ sym (before_text (flat_map piece_bytes (take i ps)) (piece_bytes (get_or ps i (pieces.Run 0 0))) (omega (arith, ap length is)))
    ∙ ap without_blanks (flat_map_more piece_bytes ps i (pieces.Run 0 0) below)

-- what stands before is no longer than the whole
pub visible_grows : (ps : List Piece) (i : ℕ) → i < length ps
    → length (without_blanks (flat_map piece_bytes (take (i + 1) ps))) ≤ length (without_blanks (flat_map piece_bytes ps))
visible_grows ps i below =
    let rest = flat_map piece_bytes (drop (i + 1) ps) in
    let whole : flat_map piece_bytes ps ≡ flat_map piece_bytes (take (i + 1) ps) ++ rest =
    ap (flat_map piece_bytes) (sym (take-append-drop (i + 1) ps)) ∙ flat_map-append piece_bytes (take (i + 1) ps) (drop (i + 1) ps) in
    omega (arith, ap (λ (t : List ℕ). length (without_blanks t)) whole, longer (flat_map piece_bytes (take (i + 1) ps)) rest)
  where
    longer : (xs ys : List ℕ) → length (without_blanks xs) ≤ length (without_blanks (xs ++ ys))
    longer [] ys = omega arith
    longer (b ∷ bs) ys = by (eqb b 32) (longer bs ys)
      where
        by : (t : Bool) → length (without_blanks bs) ≤ length (without_blanks (bs ++ ys))
            → length (cond t (without_blanks bs) (b ∷ bs)) ≤ length (cond t (without_blanks (bs ++ ys)) (b ∷ (bs ++ ys)))
        by true h = h
        by false h = omega (arith, length-append bs ys)
