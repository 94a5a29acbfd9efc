-- The text of 0 is the shortest of an integer conversion, without the blanks before it.
use Rattle.std.proofs.Common.{◌≡◌, ℕ, ◌+◌, ◌-◌, ◌≤◌, ◌<◌, Bool, true, false, cond, ◌&&◌, List, [], ◌∷◌, ◌++◌, length, ℤ, pos, negsuc}
use Rattle.std.proofs.Common.{unsigned_abs, refl, ap, ◌∙◌, arith, length-append}
use Rattle.sf_format.specs.declared.unit.PrintConv.{PrintConv}
use Rattle.sf_print.specs.texts.Text.{mark, inner_zeros, pads_with_zeros, base_mark}
use Rattle.sf_print.specs.texts.Visible.{visible, least}
use Rattle.sf_pair.proofs.ConversionLemmas.Parts.{bare_sign, hidden, digits_of, counted_length}
use Rattle.sf_pair.proofs.ConversionLemmas.Bodies.{Body}

abbrev plus_sign : List ℕ
plus_sign = 43 ∷ []

-- the length of what is seen: h blanks that stand for a sign, a sign of v bytes, a mark of k, n digits
abbrev pub size_by : Bool → ℕ → ℕ → ℕ → ℕ → ℕ → ℕ
size_by pads width h v k n = v + k + cond pads (width - (h + v + k + n)) 0 + n

pub size_more : (pads : Bool) (w h v k n h' v' k' n' : ℕ) → h' + v' ≤ 1 → h + v ≤ 1 → v ≤ v' → h' ≤ h → k ≤ k' → n ≤ n'
    → size_by pads w h v k n ≤ size_by pads w h' v' k' n'
size_more true w h v k n h' v' k' n' one' one a b d e = omega arith
size_more false w h v k n h' v' k' n' one' one a b d e = omega arith

pub visible_size : (c : PrintConv) (z : ℤ) (b : Body c z) → length (visible c z)
    ≡ size_by (pads_with_zeros c) c.width (hidden c z) (length (bare_sign c z)) (length (mark c (unsigned_abs z)))
    (b.lead + length (digits_of c z))
visible_size c z b =
    let m : ℕ = unsigned_abs z in
    let n : ℕ = b.lead + length (digits_of c z) in
    let seen : length (visible c z) ≡ length (bare_sign c z) + (length (mark c m) + length b.body) =
    ap length b.visible_is ∙ omega (arith, length-append (bare_sign c z) (mark c m ++ b.body), length-append (mark c m) b.body) in
    let inner : inner_zeros c (counted_length c z) ≡ cond (pads_with_zeros c)
    (c.width - (hidden c z + length (bare_sign c z) + length (mark c m) + n)) 0 = ap (inner_zeros c) b.counted in
    omega (arith, seen, b.size, inner)

pub signs : (p b : Bool) → cond p 0 (cond b 1 0) + length (cond p plus_sign []) ≤ 1
signs true b = omega arith
signs false true = omega arith
signs false false = omega arith

one_at_most : (p : Bool) → length (cond p plus_sign []) ≤ 1
one_at_most true = omega arith
one_at_most false = omega arith

mark_of_zero : (c : PrintConv) → length (mark c 0) ≡ 0
mark_of_zero c = by c.alt
  where
    by : (a : Bool) → length (cond (a && false) (base_mark c.letter) []) ≡ 0
    by true = refl
    by false = refl

pub record SignSizes (c : PrintConv) (z : ℤ) : Type 0 where
  pub here : hidden c z + length (bare_sign c z) ≤ 1
  pub zero_here : hidden c (pos 0) + length (bare_sign c (pos 0)) ≤ 1
  pub no_longer : length (bare_sign c (pos 0)) ≤ length (bare_sign c z)
  pub no_blanker : hidden c z ≤ hidden c (pos 0)

sign_sizes : (c : PrintConv) (z : ℤ) → SignSizes c z
sign_sizes c (pos n) = record {
  here = signs c.plus c.blank;
  zero_here = signs c.plus c.blank;
  no_longer = omega arith;
  no_blanker =
      omega arith;
}
sign_sizes c (negsuc n) = record {
  here = omega arith;
  zero_here = signs c.plus c.blank;
  no_longer = one_at_most c.plus;
  no_blanker =
      omega arith;
}

pub least_is_shortest : (c : PrintConv) (z : ℤ) (b : Body c z) (o : Body c (pos 0)) → length (least c) ≤ length (visible c z)
least_is_shortest c z b o =
    let m = sign_sizes c z in
    let none : length (mark c (unsigned_abs (pos 0))) ≡ 0 = mark_of_zero c in
    let fewer : o.lead + length (digits_of c (pos 0)) ≤ b.lead + length (digits_of c z) = omega (arith, o.of_zero refl, b.enough) in
    let e = visible_size c (pos 0) o in
    let f = visible_size c z b in
    let g = size_more (pads_with_zeros c) c.width (hidden c (pos 0)) (length (bare_sign c (pos 0)))
    (length (mark c (unsigned_abs (pos 0)))) (o.lead + length (digits_of c (pos 0)))
    (hidden c z) (length (bare_sign c z)) (length (mark c (unsigned_abs z)))
    (b.lead + length (digits_of c z)) m.here m.zero_here m.no_longer m.no_blanker (omega (arith, none)) fewer in
    omega (arith, e, f, g)

pub visible_some : (c : PrintConv) (z : ℤ) (b : Body c z) → 0 < length (visible c z)
visible_some c z b = omega (
  arith,
  ap length b.visible_is,
  b.some,
  length-append (bare_sign c z) (mark c (unsigned_abs z) ++ b.body),
  length-append (mark c (unsigned_abs z)) b.body,
)
