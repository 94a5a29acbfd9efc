-- Digits that are written from the last to the first.
use Rattle.std.proofs.Common.{◌≡◌, ℕ, suc, ◌+◌, ◌-◌, ◌/◌, ◌%◌, ◌^◌, ◌<◌, ◌≤◌, List, ◌∷◌, length, take, drop, sym, ap, ◌∙◌, arith, pow-suc}
use Rattle.std.proofs.lemmas.List.{drop-set}
use Rattle.std.proofs.Math.Nat.{div-div-eq-div-mul}
use Rattle.std.proofs.Math.ListN.{set}
use Rattle.sf_float.specs.Texts.{fixed_digits}
use Rattle.sf_float.proofs.TextLaws.{fixed_split}

-- the number without one digit more
pub next_left : (n b : ℕ) → n / 10 ^ b / 10 ≡ n / 10 ^ (b + 1)
next_left n b =
    let e : b + 1 ≡ suc b = omega arith in
    div-div-eq-div-mul n (10 ^ b) 10 ∙ ap (λ t. n / t) (sym (pow-suc 10 b) ∙ ap (λ t. 10 ^ t) (sym e))

-- one digit more, before the others
pub next_digit : (out : List ℕ) (n k b : ℕ) → 0 < k → k ≤ length out → take b (drop k out) ≡ fixed_digits b n
    → take (b + 1) (drop (k - 1) (set out (k - 1) (48 + n / 10 ^ b % 10))) ≡ fixed_digits (b + 1) n
next_digit out n k b K L h =
    let y = 48 + n / 10 ^ b % 10 in
    let e : b + 1 ≡ suc b = omega arith in
    let f : k - 1 + 1 ≡ k = omega arith in
    let g : 1 + b ≡ b + 1 = omega arith in
    let s : drop (k - 1) (set out (k - 1) y) ≡ y ∷ drop k out =
    drop-set out (k - 1) y (omega arith) ∙ ap (λ t. y ∷ drop t out) f in
    ap (λ t. take t (drop (k - 1) (set out (k - 1) y))) e ∙ ap (λ t. take (suc b) t) s ∙ ap (λ t. y ∷ t) h
    ∙ fixed_split 1 b n ∙ ap (λ t. fixed_digits t n) g
