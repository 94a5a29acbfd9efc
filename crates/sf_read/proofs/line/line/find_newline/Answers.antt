use Rattle.std.proofs.Common.{◌≡◌, ◌==◌, ℕ, ◌<◌, Bool, true, false, not, length, get_or, map, refl, sym, ap, subst, ◌∙◌, arith, true≢false}
use Rattle.std.proofs.lemmas.List.Sums.{prefix_len_passes, prefix_len_stops}
use Rattle.std.proofs.lemmas.Simd.{length-chunk, trailing_mask_l}
use Rattle.std.specs.List.{prefix_len}
use lib.Count.{count_trailing_zeros}
use lib.Lanes.{chunk, mask_l}
use Rattle.sf_base.proofs.Lanes.{ends_at, front_lt}
use Rattle.sf_read.proofs.line.line.find_newline.Goals as goal

is_true : (b : Bool) → not b ≡ false → b ≡ true
is_true true e = refl
is_true false e = absurd (true≢false e)

not_true : (b : Bool) → not b ≡ true → b ≡ true → ⊥
not_true true e is = true≢false (sym e)
not_true false e is = true≢false (sym is)

pub returns-then-newlines-ne0 : goal.returns-then-newlines-ne0
returns-then-newlines-ne0 c =
    let bytes = c.args.bytes.now in
    let newline : ℕ → Bool = λ b. b == 10 in
    let other : ℕ → Bool = λ b. not (b == 10) in
    let v = chunk 0 16 bytes in
    let mask = c.newline_mask-newlines.ensures in
    let long = length-chunk 0 16 bytes c.if-bytes-ge-LANES.true in
    let some : mask_l (map newline v) ≡ 0 → ⊥ = λ z. c.if-newlines-ne0.true (mask ∙ z) in
    let first : count_trailing_zeros 64 c.newline_mask-newlines.result ≡ prefix_len other v = ap (count_trailing_zeros 64) mask
    ∙ trailing_mask_l newline 64 v (omega (arith, long)) (omega (arith, some)) in
    let short : prefix_len other v < length v = front_lt newline v some in
    let at : prefix_len other bytes ≡ count_trailing_zeros 64 c.newline_mask-newlines.result =
    ends_at newline other (λ xs. refl) bytes 0 _ c.if-bytes-ge-LANES.true mask c.if-newlines-ne0.true in
    let high : count_trailing_zeros 64 c.newline_mask-newlines.result < length bytes =
    omega (arith, first, short, long, c.if-bytes-ge-LANES.true) in (
      record {
        low = omega arith;
        high = high;
        before = λ k low below. not_true (get_or bytes k 0 == 10) (prefix_len_passes other bytes k 0 (omega (arith, at, below)));
      },
      subst (λ (k : ℕ). (get_or bytes k 0 == 10) ≡ true) at
          (is_true (get_or bytes (prefix_len other bytes) 0 == 10) (prefix_len_stops other bytes 0 (omega (arith, at, high)))),
    )
