use Rattle.std.proofs.Common.{◌≡◌, ◌/◌, ◌^◌, ◌++◌, ℕ, take, subst, ap, ◌∙◌}
use Rattle.sf_float.specs.Texts.{fixed_digits, point_text, IsCount}
use Rattle.sf_float.proofs.ShortNumbers.{count_before}
use Rattle.sf_float.proofs.short.put_short.Goals as goal

pub returns-clause-text : goal.returns-clause-text
returns-clause-text c =
    let n = c.args.n in
    let d = c.args.decimals in
    let count = c.count_of.result in
    let whole : n / c.ten_to.result ≡ n / 10 ^ d = ap (λ t. n / t) c.ten_to.ensures.value in
    let is : IsCount 0 (n / 10 ^ d) count = subst (λ (t : ℕ). IsCount 0 t count) whole c.count_of.ensures.count in
    let digits : take c.put_last-end.result c.put_last-end.new.out ≡ fixed_digits count (n / 10 ^ d) =
    c.put_last-end.ensures.written ∙ ap (fixed_digits count) whole in
    (count, count_before n d count is, c.put_fraction.ensures.written ∙ ap (λ t. t ++ point_text c.args.alt d n) digits)
