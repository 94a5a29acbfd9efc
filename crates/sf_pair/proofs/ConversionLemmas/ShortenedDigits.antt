-- The computed style of g is the one that the definitions ask for.
use Rattle.std.proofs.Common.{◌≡◌, ◌⊎◌, inl, inr, ℕ, ◌+◌, ◌-◌, ◌*◌, ◌/◌, ◌%◌, ◌^◌, ◌<◌, ◌≤◌, Bool, true, false, cond, nat_lt, nat_eq, refl}
use Rattle.std.proofs.Common.{sym, ap, ◌∙◌, arith, div-add-mod', true≢false}
use Rattle.std.proofs.Math.Nat.{mod-one, pow-zero}
use native.Mathlib.Nat.{mul-mod_left}
use Rattle.std.proofs.lemmas.Bool.{eqb-true, eq-eqb}
use Rattle.std.proofs.lemmas.Bool.Decides.{nat_tests}
use Rattle.sf_float.specs.Texts.{IsCount}
use Rattle.sf_float.specs.General.{IsShortened, IsGeneralOf}
use Rattle.sf_float.specs.Computed.{count_of, needed_of, kept_of, cut_to, is_plain_power, fixed_of, exponent_of, general_of}
use lib.Dec.{lit<}
use Rattle.sf_float.proofs.Shortening.{cut_more}
use Rattle.sf_pair.proofs.ConversionLemmas.RealTexts.{count_some}
use Rattle.sf_pair.proofs.ConversionLemmas.RealSizes.{passing, count_fits}
use Rattle.sf_pair.proofs.ConversionLemmas.LongestReals.{needed_most}
use Rattle.sf_pair.proofs.ConversionLemmas.SignificantDigits.{all_failing, not_below}

pub count_right : (d n : ℕ) → IsCount d n (count_of d n)
unfolding count_of
count_right d n = record {
  some = count_some d n;
  fits = count_fits d n;
  least = λ more. not_below n (10 ^ (count_of d n - 1 + d))
      (all_failing (λ c. nat_lt n (10 ^ (c + d))) n 1 (nat_lt n (10 ^ (1 + d))) refl (count_of d n - 1) (omega (arith, more))
      (omega (arith, more)));
}

at_one : (base n : ℕ) → n % base ^ 0 ≡ 0
at_one base n = rw pow-zero (mod-one n)

-- what is left divides
whole_left : (base d n : ℕ) → 0 < base → n % base ^ (d - needed_of base d n) ≡ 0
unfolding needed_of
whole_left base d n B = elim (passing test d 0 (test 0) refl) [
  | inl passes ↦ eqb-true _ 0 passes
  | inr last ↦ ap (λ (k : ℕ). n % base ^ k) {x = d - needed_of base d n} {y = 0} (omega (arith, last)) ∙ at_one base n
]
  where
    test : ℕ → Bool
    test k = nat_eq (n % base ^ (d - k)) 0

-- one digit less would lose something
shorter : (base d n kept : ℕ) → kept ≡ needed_of base d n → 0 < kept → kept ≤ d
    → n ≡ n / base ^ (d - kept + 1) * base ^ (d - kept + 1) → ⊥
unfolding needed_of
shorter base d n kept is some few e =
    let w : ℕ = base ^ (d - kept + 1) in
    let here : d - (kept - 1) ≡ d - kept + 1 = omega (arith, some, few) in
    let none : n % base ^ (d - (kept - 1)) ≡ 0 = ap (λ (k : ℕ). n % base ^ k) here ∙ ap (λ (m : ℕ). m % w) e ∙ mul-mod_left (n / w) w in
    true≢false (sym (eq-eqb _ 0 none) ∙ all_failing test d 0 (test 0) refl (kept - 1) (omega arith) (omega (arith, is, some)))
  where
    test : ℕ → Bool
    test k = nat_eq (n % base ^ (d - k)) 0

pub shortened_right : (base : ℕ) (all : Bool) (d n : ℕ) → 0 < base
    → IsShortened base all d n (kept_of base all d n) (cut_to base d n (kept_of base all d n))
shortened_right base true d n B =
    let none : d - d ≡ 0 = omega arith in
    record {
      fewer = omega arith;
      same = sym (div-add-mod' n (base ^ (d - d))) ∙ ap (λ (r : ℕ). n / base ^ (d - d) * base ^ (d - d) + r)
          (ap (λ (k : ℕ). n % base ^ k) none ∙ at_one base n) ∙ omega arith;
      each = λ e. refl;
      needed = λ e. absurd cc;
    }
shortened_right base false d n B =
    let kept : ℕ = needed_of base d n in
    let w : ℕ = base ^ (d - kept) in
    let few : kept ≤ d = needed_most base d n in
    let same : n ≡ n / w * w = sym (div-add-mod' n w) ∙ ap (λ (r : ℕ). n / w * w + r) (whole_left base d n B) ∙ omega arith in
    record {
      fewer = few;
      same = same;
      each = λ e. absurd cc;
      needed = λ e some zero_last. shorter base d n kept refl some few (cut_more base n (d - kept) B same zero_last);
    }

-- ---- the style of g

plain_range : (k power : ℕ) → is_plain_power k power ≡ true → (396 ≤ power) × (power < 400 + k)
plain_range k power e = grind (arith, nat_tests)

past_range : (k power : ℕ) → is_plain_power k power ≡ false → (power < 396) ⊎ (400 + k ≤ power)
past_range k power e = grind (arith, nat_tests)

pub general_right : (alt : Bool) (k n power : ℕ) → IsGeneralOf alt k n power (general_of alt k n power)
general_right alt k n power = by (is_plain_power k power) refl
  where
    d : ℕ
    d = k + 399 - power

    plain : ℕ
    plain = kept_of 10 alt (k + 399 - power) n

    cut : ℕ
    cut = cut_to 10 (k + 399 - power) n (kept_of 10 alt (k + 399 - power) n)

    raised : ℕ
    raised = kept_of 10 alt (k - 1) n

    by : (t : Bool) → is_plain_power k power ≡ t
        → IsGeneralOf alt k n power (cond t (fixed_of alt plain cut) (exponent_of alt raised (cut_to 10 (k - 1) n raised) power))
    by true e = inl (
      plain_range k power e,
      (plain, cut, count_of plain cut, shortened_right 10 alt d n (lit< tt), count_right plain cut, refl),
    )
    by false e = inr (past_range k power e, (raised, cut_to 10 (k - 1) n raised, shortened_right 10 alt (k - 1) n (lit< tt), refl))
