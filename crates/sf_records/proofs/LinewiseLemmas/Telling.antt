-- Texts that a teller is to say one after the other.
use Rattle.std.proofs.Common.{◌≡◌, ◌∙◌, ℕ, Bool, true, false, List, [], ◌∷◌, ◌++◌, Option, Result, Ok, Err, OnOk, OnErr, is_err, inl, inr}
use Rattle.std.proofs.Common.{refl, sym, ap, append_assoc, append-nil, true≢false}
use Rattle.std.specs.Io.KnownBytes.{Appends}
use Rattle.sf_print.proofs.Appending.{Appends-none, Appends-then, Appends-same}
use Rattle.sf_records.specs.declared.by_lines.end.LineFault.{LineFault}
use Rattle.sf_records.specs.by_lines.Telling.{Stays, Tells, faults_by}

-- what holds where it answers Ok, and where it answers Err
pub on_ok : {A E P : Type 0} (r : Result A E) → is_err r ≡ false → OnOk r P → P
on_ok (Ok x) e h = h
on_ok (Err x) e h = absurd (true≢false e)

pub on_err : {A E P : Type 0} (r : Result A E) → is_err r ≡ true → OnErr r P → P
on_err (Ok x) e h = absurd (true≢false (sym e))
on_err (Err x) e h = h

pub tells_nothing : (failed : Bool) (told : Option (List ℕ)) → Tells failed failed told told []
tells_nothing false told = inl (refl, refl, Appends-none told)
tells_nothing true told = inr (inr (refl, refl, Appends-none told))

-- all was said, unless it has failed
pub all_said : (a b : Bool) (told told' : Option (List ℕ)) (text : List ℕ) → Tells a b told told' text → b ≡ false
    → Appends told told' text
all_said a b told told' text (inl (p, q, all)) e = all
all_said a b told told' text (inr (inl (p, q, part))) e = absurd (true≢false (sym q ∙ e))
all_said a b told told' text (inr (inr (p, q, none))) e = absurd (true≢false (sym q ∙ e))

-- a text, and then another
pub tells_then : (a b c : Bool) (told mid told' : Option (List ℕ)) (x y : List ℕ) → Tells a b told mid x → Tells b c mid told' y
    → Tells a c told told' (x ++ y)
tells_then a b c told mid told' x y (inl (p, q, all)) (inl (r, s, more)) = inl (p, s, Appends-then told mid told' x y all more)
tells_then a b c told mid told' x y (inl (p, q, all)) (inr (inl (r, s, (part, missing, rest, is, took)))) =
    inr (inl (
      p,
      s,
      (
        x ++ part,
        missing,
        rest,
        ap (λ (z : List ℕ). x ++ z) is
            ∙ sym (append_assoc x part (missing ∷ rest)),
        Appends-then told mid told' x part all took,
      ),
    ))
tells_then a b c told mid told' x y (inl (p, q, all)) (inr (inr (r, s, none))) = absurd (true≢false (sym r ∙ q))
tells_then a b c told mid told' x y (inr (inl (p, q, took))) (inl (r, s, more)) = absurd (true≢false (sym q ∙ r))
tells_then a b c told mid told' x y (inr (inl (p, q, took))) (inr (inl (r, s, more))) = absurd (true≢false (sym q ∙ r))
tells_then a b c told mid told' x y (inr (inl (p, q, (part, missing, rest, is, took)))) (inr (inr (r, s, none))) =
    inr (inl (
      p,
      s,
      (
        part,
        missing,
        rest ++ y,
        ap (λ (z : List ℕ). z ++ y) is
            ∙ append_assoc part (missing ∷ rest) y,
        Appends-same told told' (part ++ []) part (append-nil part)
            (Appends-then told mid told' part [] took none),
      ),
    ))
tells_then a b c told mid told' x y (inr (inr (p, q, none))) (inl (r, s, more)) = absurd (true≢false (sym q ∙ r))
tells_then a b c told mid told' x y (inr (inr (p, q, none))) (inr (inl (r, s, more))) = absurd (true≢false (sym q ∙ r))
tells_then a b c told mid told' x y (inr (inr (p, q, none))) (inr (inr (r, s, nothing))) =
    inr (inr (p, s, Appends-then told mid told' [] [] none nothing))

pub no_faults : (failed : Bool) (faults : ℕ) → faults ≡ faults_by failed failed faults
no_faults false faults = refl
no_faults true faults = refl

-- the faults of two texts
pub faults_then : (a b c : Bool) → (a ≡ true → b ≡ true) → (b ≡ true → c ≡ true) → (n k l : ℕ) → k ≡ faults_by a b n → l ≡ faults_by b c k
    → l ≡ faults_by a c n
faults_then false false c stays on n k l p q = q ∙ ap (faults_by false c) p
faults_then false true false stays on n k l p q = absurd (true≢false (sym (on refl)))
faults_then false true true stays on n k l p q = q ∙ p
faults_then true false c stays on n k l p q = absurd (true≢false (sym (stays refl)))
faults_then true true c stays on n k l p q = q ∙ p

-- ---- what stays of a teller

module _ {E Kept : Type 0} {says : E → (ℕ → List ℕ → LineFault → List ℕ) → Type 0} {kept : E → Kept} {failed : E → Bool} {faults : E → ℕ}
  where
    pub as_it_was : (teller : E) → Stays says kept failed faults teller teller
    as_it_was teller = record {
      same = λ telling said. said;
      keeps = refl;
      silent = λ e. e;
      counts =
          no_faults (failed teller) (faults teller);
    }

    pub stays_then : (a b c : E) → Stays says kept failed faults a b → Stays says kept failed faults b c → Stays says kept failed faults a c
    stays_then a b c p q = record {
      same = λ telling said. q.same telling (p.same telling said);
      keeps = q.keeps ∙ p.keeps;
      silent = λ e. q.silent (p.silent e);
      counts = faults_then (failed a) (failed b) (failed c) p.silent q.silent (faults a) (faults b) (faults c) p.counts q.counts;
    }
