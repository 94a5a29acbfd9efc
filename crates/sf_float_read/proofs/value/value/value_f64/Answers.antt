use Rattle.std.proofs.Common.{◌≡◌, ◌-◌, ◌++◌, ℕ, List, length, take, drop, Some, true, inl, inr, sym, ap, ◌∙◌, subst}
use Rattle.std.specs.Float.Ieee.{binary64}
use Rattle.std.specs.Float.Parse.{is_float_text}
use Rattle.sf_float_read.specs.declared.item.reached.Radix.TheVariants.{Ten}
use Rattle.sf_float_read.proofs.ItemLemmas.Joined.{numeral_of}
use Rattle.sf_float_read.proofs.ItemLemmas.Parses.{number_parses}
use Rattle.sf_float_read.specs.value.Values.{IsHexValue}
use Rattle.sf_float_read.proofs.ValueLemmas.HexParts.{whole_drop}
use Rattle.sf_float_read.proofs.ValueLemmas.PatternLemmas.{nan_bits}
use Rattle.sf_float_read.proofs.value.value.value_f64.Goals as goal

pub decimal_f64-requires : goal.decimal_f64-requires
decimal_f64-requires c =
    let t = c.args.item.now in
    let start = c.split-negative.result.1 in
    let p = c.split-negative.ensures.parts in
    let joined : t ≡ p.0 ++ take (length t - start) (drop start t) = p.2 ∙ ap (λ s. p.0 ++ s) (sym (whole_drop t start)) in
    subst (λ s. is_float_text s ≡ true) (sym joined) (number_parses p.0 (take (length t - start) (drop start t)) p.1 c.in-Decimal.ensures)

pub returns-in-Decimal : goal.returns-in-Decimal
returns-in-Decimal c =
    let t = c.args.item.now in
    let start = c.split-negative.result.1 in
    let p = c.split-negative.ensures.parts in
    let size = take (length t - start) (drop start t) in (
      p.0,
      size,
      p.1,
      p.2 ∙ ap (λ s. p.0 ++ s) (sym (whole_drop t start)),
      inl (numeral_of Ten size c.in-Decimal.ensures, c.decimal_f64.ensures),
    )

pub returns-in-Hexadecimal : goal.returns-in-Hexadecimal
returns-in-Hexadecimal c =
    let t = c.args.item.now in
    let start = c.split-negative.result.1 in
    let p = c.split-negative.ensures.parts in
    let size = take (length t - start) (drop start t) in
    let h = c.in-Hexadecimal.ensures in
    let x = c.hexadecimal_f64.ensures in
    let numeral : take (length size - 2) (drop 2 size) ≡ h.1 = whole_drop size 2 ∙ ap (λ s. drop 2 s) h.3 in
    let value = subst (λ s. IsHexValue binary64 s h.1 x.0) (sym p.3)
    (subst (λ (s : List ℕ). IsHexValue binary64 c.split-negative.result.0 s x.0) numeral x.1) in
    (p.0, size, p.1, p.2 ∙ ap (λ s. p.0 ++ s) (sym (whole_drop t start)), inr (inl (h.0, h.1, h.2, h.3, (x.0, value, x.2))))

pub returns-in-Nan : goal.returns-in-Nan
returns-in-Nan c =
    let t = c.args.item.now in
    let start = c.split-negative.result.1 in
    let p = c.split-negative.ensures.parts in
    let size = take (length t - start) (drop start t) in (
      p.0,
      size,
      p.1,
      p.2 ∙ ap (λ s. p.0 ++ s) (sym (whole_drop t start)),
      inr (inr (inr (c.in-Nan.ensures, ap Some (sym (nan_bits binary64))))),
    )
