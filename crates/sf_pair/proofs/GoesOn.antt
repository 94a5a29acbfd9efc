-- Which bytes an integer's text goes on with, base by base.
use Rattle.std.proofs.Common.{◌≡◌, ℕ, ◌+◌, ◌*◌, ◌⊎◌, inl, inr, Bool, true, false, cond, eqb, ◌&&◌, ◌||◌, length, Option, Some, None}
use Rattle.std.proofs.Common.{is_some, refl, sym, ap, ◌∙◌}
use Rattle.std.proofs.lemmas.Bool.{eqb-true}
use Rattle.std.specs.Char.{digit_value, is_digit}
use Rattle.sf_format.specs.declared.directive.Base.{Base}
use Rattle.sf_format.specs.declared.directive.Numeral.{Numeral}
use Rattle.sf_format.specs.declared.directive.Base.TheVariants.{Dec, Oct, Hex, Bin, Auto, AutoBin}
use Rattle.sf_format.specs.declared.directive.Shape.TheVariants as shape
use Rattle.sf_format.specs.declared.unit.PrintConv.{PrintConv}
use Rattle.sf_item.specs.Radices.{radices, first_radix, zero_radix, prefix_radix}
use Rattle.sf_item.specs.Progress.{Progress, Zero, Digits, with_digit, after_zero, advance}
use Rattle.sf_print.specs.texts.Visible.{least}
use Rattle.sf_pair.specs.conversions.Neighbours.{prefix_letters, is_auto_base, stop_set}
use Rattle.sf_pair.specs.Groups.{is_auto}
use Rattle.sf_pair.proofs.Numbers.{EndsIn}

-- ---- a byte of the stop set

-- it is a digit; or the letter of a prefix, which may stand after a lone 0 alone, or a 0 after which the base isn't
-- known yet
abbrev pub Stops : Numeral → PrintConv → ℕ → Type 0
Stops numeral c b = (is_digit b (first_radix numeral) ≡ true) ⊎ ((prefix_letters numeral b ≡ true)
    × ((is_auto (shape.Int numeral) ≡ true) ⊎ (length (least c) ≡ 1)))

pub either_so : (x y : Bool) → (x || y) ≡ true → (x ≡ true) ⊎ (y ≡ true)
either_so true y e = inl refl
either_so false y e = inr e

pub stops_so : (numeral : Numeral) (c : PrintConv) (b : ℕ) → stop_set (shape.Int numeral) c b ≡ true → Stops numeral c b
stops_so numeral c b e = elim (either_so ((eqb (length (least c)) 1 || is_auto_base numeral.base) && prefix_letters numeral b)
    (is_digit b (first_radix numeral)) e) [
      | inl h ↦ (
          let k = both_so (eqb (length (least c)) 1 || is_auto_base numeral.base) (prefix_letters numeral b) h in
          inr (
            k.1,
            elim (either_so (eqb (length (least c)) 1) (is_auto_base numeral.base) k.0)
                [ inl one ↦ inr (eqb-true (length (least c)) 1 one) | inr auto ↦ inl auto ],
          ))
      | inr h ↦ inl h
    ]
  where
    both_so : (x y : Bool) → (x && y) ≡ true → (x ≡ true) × (y ≡ true)
    both_so true y e = (refl, e)
    both_so false y e = absurd cc

-- a 0 goes on after each integer
pub zero_stops : (numeral : Numeral) (c : PrintConv) → stop_set (shape.Int numeral) c 48 ≡ true
zero_stops numeral c = or_so ((eqb (length (least c)) 1 || is_auto_base numeral.base) && prefix_letters numeral 48)
    (is_digit 48 (first_radix numeral))
    (zero_digit numeral.base)
  where
    or_so : (x y : Bool) → y ≡ true → (x || y) ≡ true
    or_so true y e = refl
    or_so false y e = e

    zero_digit : (base : Base) → is_digit 48 (radices base).first ≡ true
    zero_digit Dec = refl
    zero_digit Oct = refl
    zero_digit Hex = refl
    zero_digit Bin = refl
    zero_digit Auto = refl
    zero_digit AutoBin = refl

-- but for `i`, digits after a 0 are of the same radix
pub same_radix : (numeral : Numeral) → is_auto (shape.Int numeral) ≡ false → zero_radix numeral ≡ first_radix numeral
same_radix numeral e = by numeral.base e
  where
    by : (base : Base) → is_auto_base base ≡ false → (radices base).zero ≡ (radices base).first
    by Dec e = refl
    by Oct e = refl
    by Hex e = refl
    by Bin e = refl
    by Auto e = absurd cc
    by AutoBin e = absurd cc

-- ---- it is taken

digit_goes : (s : Bool) (r v b : ℕ) → is_digit b r ≡ true → is_some (with_digit s r v b) ≡ true
digit_goes s r v b e = ap (λ (t : Bool). is_some (cond t (Some (Digits s r (v * r + digit_value b))) None)) e

-- after one 0: a letter of a prefix, or a digit of the radix that the base then has
pub zero_goes : (numeral : Numeral) (s : Bool) (b : ℕ) → (prefix_letters numeral b ≡ true) ⊎ (is_digit b (zero_radix numeral) ≡ true)
    → is_some (advance numeral (Zero s) b) ≡ true
zero_goes numeral s b h = by (prefix_radix numeral b) refl
  where
    by : (o : Option ℕ) → prefix_radix numeral b ≡ o → is_some (after_zero s (zero_radix numeral) b o) ≡ true
    by (Some r) e = refl
    by None e = elim h [
      | inl letter ↦ (let wrong : true ≡ false = sym letter ∙ ap is_some e in absurd cc)
      | inr digit ↦ digit_goes s
          (zero_radix numeral) 0 b digit
    ]

pub digits_go : (numeral : Numeral) (s : Bool) (v : ℕ) (p : Progress) → p ≡ Digits s (first_radix numeral) v → (b : ℕ)
    → is_digit b (first_radix numeral) ≡ true → is_some (advance numeral p b) ≡ true
digits_go numeral s v p e b digit = ap (λ (q : Progress). is_some (advance numeral q b)) e ∙ digit_goes s (first_radix numeral) v b digit

-- a digit is taken after each end, where a 0 doesn't change the radix
pub end_goes : (numeral : Numeral) (s : Bool) (p : Progress) → EndsIn numeral s p → zero_radix numeral ≡ first_radix numeral → (b : ℕ)
    → is_digit b (first_radix numeral) ≡ true → is_some (advance numeral p b) ≡ true
end_goes numeral s p (inl e) same b digit = ap (λ (q : Progress). is_some (advance numeral q b)) e
    ∙ zero_goes numeral s b (inr (ap (is_digit b) same ∙ digit))
end_goes numeral s p (inr (v, e)) same b digit = digits_go numeral s v p e b digit
