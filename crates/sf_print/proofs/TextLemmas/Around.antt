-- The parts of an integer's text, joined as the pieces are put.
use Rattle.std.proofs.Common.{◌≡◌, ℕ, zero, suc, ◌+◌, ◌-◌, Bool, true, false, List, [], ◌++◌, length, replicate, take, drop, ℤ}
use Rattle.std.proofs.Common.{unsigned_abs, refl, sym, ap, ◌∙◌, arith, append_assoc, append-nil, length-append}
use Rattle.std.proofs.lemmas.List.{replicate-append-replicate, length-replicate}
use Rattle.std.proofs.lemmas.List.{drop_all, take_all}
use Rattle.std.specs.List.{slice_range}
use Rattle.sf_format.specs.declared.unit.PrintConv.{PrintConv}
use Rattle.sf_format.specs.declared.unit.PrintLetter.{PrintLetter}
use Rattle.sf_format.specs.declared.unit.PrintLetter.TheVariants as letter
use Rattle.sf_print.specs.texts.Text.{base_of, is_upper, integer_text, with_sign, sign, mark, prefix, numeral, all_digits, filled}
use Rattle.sf_print.specs.texts.Text.{with_octal_zero, blanks, zeros, left_blanks, inner_zeros, right_blanks, text_around}

pub abs_of : (negative : Bool) (m : ℕ) → unsigned_abs (with_sign negative m) ≡ m
abs_of true zero = refl
abs_of true (suc n) = refl
abs_of false m = refl

regroup : (b s m z l d r : List ℕ) → b ++ (s ++ (m ++ ((z ++ l) ++ (d ++ (r ++ []))))) ≡ b ++ (s ++ m) ++ z ++ (l ++ d) ++ r
regroup b s m z l d r = simp (append_assoc, append-nil)

pub laid : (c : PrintConv) (z : ℤ) (m : ℕ) (ds sgn mrk : List ℕ) (left inner lead right len : ℕ) → unsigned_abs z ≡ m → ds ≡ numeral c m
    → sgn ≡ sign c z → mrk ≡ mark c m
    → replicate lead 48 ++ ds ≡ with_octal_zero c (filled c ds) → len ≡ length sgn + length mrk + lead + length ds
    → left ≡ left_blanks c len → inner ≡ inner_zeros c len → right ≡ right_blanks c len
    → replicate left 32 ++ (sgn ++ (mrk ++ (replicate (inner + lead) 48 ++ (ds ++ (replicate right 32 ++ []))))) ≡ integer_text c z
laid c z m ds sgn mrk left inner lead right len abs is_numeral is_sign is_mark leads is_len is_left is_inner is_right =
    let p : sgn ++ mrk ≡ prefix c z = (λ t. is_sign t ++ (is_mark ∙ ap (mark c) (sym abs)) t) in
    let d : replicate lead 48 ++ ds ≡ all_digits c (unsigned_abs z) =
    leads ∙ ap (λ (xs : List ℕ). with_octal_zero c (filled c xs)) (is_numeral ∙ ap (numeral c) (sym abs)) in
    let l : len ≡ length (sgn ++ mrk) + length (replicate lead 48 ++ ds) =
    omega (arith, is_len, length-append sgn mrk, length-append (replicate lead 48) ds, length-replicate {A = ℕ} lead 48) in
    ap (λ (xs : List ℕ). replicate left 32 ++ (sgn ++ (mrk ++ (xs ++ (ds ++ (replicate right 32 ++ []))))))
    (sym (replicate-append-replicate inner lead 48))
    ∙ regroup (replicate left 32) sgn mrk (replicate inner 48) (replicate lead 48) ds (replicate right 32)
    ∙ (λ t. blanks ((is_left ∙ ap (left_blanks c) l) t) ++ (sgn ++ mrk) ++ zeros
    ((is_inner ∙ ap (inner_zeros c) l) t) ++ (replicate lead 48 ++ ds) ++ blanks ((is_right ∙ ap (right_blanks c) l) t))
    ∙ (λ t. text_around c (p t) (d t))

-- other letters have decimal digits
pub ten : (l : PrintLetter) → (l ≡ letter.Octal → ⊥) → (l ≡ letter.HexLower → ⊥) → (l ≡ letter.HexUpper → ⊥) → (l ≡ letter.Binary → ⊥)
    → (10 ≡ base_of l) × (false ≡ is_upper l)
ten letter.Octal o x u b = absurd (o refl)
ten letter.HexLower o x u b = absurd (x refl)
ten letter.HexUpper o x u b = absurd (u refl)
ten letter.Binary o x u b = absurd (b refl)
ten _ o x u b = (refl, refl)

pub at_end : (ds buf : List ℕ) → length buf ≡ 64 → ds ++ drop 64 buf ≡ ds
at_end ds buf e = ap (λ (t : List ℕ). ds ++ t) (drop_all 64 buf (omega arith)) ∙ append-nil ds

-- what was written up to the end of the buffer, and from its start
pub to_end : (start : ℕ) (ds new old : List ℕ) → start + length ds ≡ 64 → length old ≡ 64 → drop start new ≡ ds ++ drop 64 old
    → slice_range new start 64 ≡ ds
to_end start ds new old e long is = ap (take (64 - start)) (is ∙ at_end ds old long) ∙ take_all (64 - start) ds (omega (arith, e))

pub from_start : (end : ℕ) (ds new old : List ℕ) → take end new ≡ take 0 old ++ ds → slice_range new 0 end ≡ ds
from_start end ds new old is = ap (λ (k : ℕ). take k new) {x = end - 0} {y = end} (omega arith) ∙ is
