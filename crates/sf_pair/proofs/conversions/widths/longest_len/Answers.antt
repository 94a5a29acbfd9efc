use Rattle.std.proofs.Common.{ℕ, max, sym, subst, ap₂, ◌∙◌, arith}
use Rattle.sf_pair.specs.conversions.Widths.{IsLongest}
use Rattle.sf_pair.proofs.ConversionLemmas.Longest.{longest_is}
use Rattle.sf_pair.proofs.ConversionLemmas.LongestReals.{none_is_longer}
use Rattle.sf_pair.proofs.conversions.widths.longest_len.Goals as goal

pub returns-then-eq-clause-enough : goal.returns-then-eq-clause-enough
returns-then-eq-clause-enough c = λ double right bits finite.
    let most = none_is_longer c.args.conv.now right c.longest_float_len.ensures.few bits finite in
    omega (arith, most, c.longest_float_len.ensures.len)

pub returns-clause-integer : goal.returns-clause-integer
returns-clause-integer c = λ bounded. record {
  least = _;
  greatest = _;
  ends = c.in_ok-least.ensures;
  longer = c.max.ensures ∙ ap₂ max c.core_len.ensures c.core_len-2.ensures;
}

pub returns-clause-longest : goal.returns-clause-longest
returns-clause-longest c = λ bounded right some. subst (λ (n : ℕ). IsLongest c.args.conv.now n)
    (sym (c.max.ensures ∙ ap₂ max c.core_len.ensures c.core_len-2.ensures))
    (longest_is c.laws_below.ensures c.args.conv.now right some _ _ c.in_ok-least.ensures)
