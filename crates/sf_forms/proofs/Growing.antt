-- Lists to which something was appended.
use Rattle.std.proofs.Common.{◌≡◌, ℕ, Result, Ok, Err, OnErr, List, ◌++◌, length, take, sym, ap, ◌∙◌, arith, length-append}
use Rattle.std.proofs.Math.Seq.{take-append_seam, take-length}
use Rattle.std.proofs.lemmas.List.{take-take}
use Rattle.sf_forms.specs.Growing.{IsGrown}

pub grown_by : {old : List ℕ} (part : List ℕ) {new : List ℕ} → new ≡ old ++ part → IsGrown old new
grown_by {old} part {new} is = record {
  longer = omega (arith, ap length is, length-append old part);
  front =
      ap (take (length old)) is ∙ take-append_seam old part;
}

pub grown_same : {old new : List ℕ} → new ≡ old → IsGrown old new
grown_same {old} {new} is = record { longer = omega (arith, ap length is); front = take_whole old new is }
  where
    take_whole : (old new : List ℕ) → new ≡ old → take (length old) new ≡ old
    take_whole old new is = ap (take (length old)) is ∙ take-length old

pub grown_then : {a b c : List ℕ} → IsGrown a b → IsGrown b c → IsGrown a c
grown_then {a} {b} {c} p q = record {
  longer = omega (arith, p.longer, q.longer);
  front = sym (take-take (length a) (length b) c p.longer) ∙ ap (take (length a)) q.front ∙ p.front;
}

-- so much of it as there was before
pub cut_back : {old new : List ℕ} {n : ℕ} {left : List ℕ} → IsGrown old new → n ≡ length old → left ≡ take n new → left ≡ old
cut_back {old} {new} grown is cut = cut ∙ ap (λ k. take k new) is ∙ grown.front

-- ---- after a refusal

pub in_err : {A E P : Type 0} (r : Result A E) → P → OnErr r P
in_err (Ok x) p = tt
in_err (Err e) p = p

pub err_then : {A E P Q : Type 0} (r : Result A E) → OnErr r P → (P → Q) → OnErr r Q
err_then (Ok x) h f = tt
err_then (Err e) h f = f h
