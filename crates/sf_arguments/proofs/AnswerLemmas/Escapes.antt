-- A word with escapes stands for the bytes that it was made of.
use Rattle.std.proofs.Common.{◌≡◌, ℕ, suc, ◌+◌, ◌*◌, ◌/◌, ◌%◌, ◌<◌, ◌≤◌, Bool, true, false, cond, eqb, List, [], ◌∷◌, ◌++◌, length, get_or}
use Rattle.std.proofs.Common.{Some, None, refl, sym, ap₂, subst, ◌∙◌, arith, length-append}
use Rattle.std.specs.Prelude.{◌&&◌, nat_le, nat_lt}
use Rattle.std.specs.Char.{digit_value, digit_char}
use Rattle.std.proofs.lemmas.Str.{digit_value-digit_char}
use Rattle.std.proofs.lemmas.List.{drop_at}
use Rattle.std.proofs.lemmas.Bool.{eqb-true, lt-ltb}
use Rattle.std.proofs.lemmas.Bool.Decides.{nat_tests}
use Rattle.sf_base.specs.Bytes.{AreBytes}
use Rattle.sf_arguments.specs.Escapes.{escape_behind, piece_of, Stands, Unescapes}
use Rattle.sf_arguments.specs.answer.Escaped.{escape_by, escape_of, escaped, AreShown}

-- ---- one byte

-- the word begins with a piece of so many bytes, which stands for the byte
abbrev BeginsWith : List ℕ → ℕ → ℕ → Type 0
BeginsWith word b size = piece_of word ≡ Some (record { byte = b; size = size })

both_below : {A : Type 0} (f : ℕ → ℕ → A) (a b x y : ℕ) → a ≡ x → b ≡ y → x < 16 → y < 16
    → cond (nat_lt a 16 && nat_lt b 16) (Some (f a b)) None ≡ Some (f x y)
both_below f a b x y e g small other =
    ap₂ (λ (a b : ℕ). cond (nat_lt a 16 && nat_lt b 16) (Some (f a b)) None) e g
    ∙ ap₂ (λ (s t : Bool). cond (s && t) (Some (f x y)) None) (lt-ltb x 16 small) (lt-ltb y 16 other)

two_digits : (high low : ℕ) (rest : List ℕ) → high < 16 → low < 16
    → BeginsWith (92 ∷ 120 ∷ digit_char high ∷ digit_char low ∷ rest) (high * 16 + low) 4
two_digits high low rest h l = both_below (λ (a b : ℕ). record { byte = a * 16 + b; size = 4 }) (digit_value (digit_char high))
    (digit_value (digit_char low)) high low (digit_value-digit_char high (omega arith)) (digit_value-digit_char low (omega arith)) h l

itself : (b : ℕ) (rest : List ℕ) → eqb b 92 ≡ false → BeginsWith (b ∷ rest) b 1
itself b rest e = subst (λ (t : Bool). cond t (escape_behind rest) (Some (record { byte = b; size = 1 }))
    ≡ Some (record { byte = b; size = 1 }))
    (sym e) refl

digit_shown : (d : ℕ) → d < 16 → (32 ≤ digit_char d) × (digit_char d ≤ 126)
digit_shown d small = by (nat_lt d 10) refl
  where
    by : (t : Bool) → nat_lt d 10 ≡ t → (32 ≤ cond t (48 + d) (87 + d)) × (cond t (48 + d) (87 + d) ≤ 126)
    by true e = (omega arith, let low : d < 10 = grind (arith, nat_tests) in omega arith)
    by false e = (omega arith, omega arith)

-- what is written of a byte begins the word as a piece that stands for it, and is seen
record IsWritten (part : List ℕ) (b : ℕ) (rest : List ℕ) : Type 0 where
  pub begins : BeginsWith (part ++ rest) b (length part)
  pub shown : AreShown part

of_letter : (b k letter : ℕ) (rest : List ℕ) → b ≡ k → BeginsWith (92 ∷ letter ∷ rest) k 2 → 32 ≤ letter → letter ≤ 126
    → IsWritten (92 ∷ letter ∷ []) b rest
of_letter b k letter rest e is low high = record {
  begins = subst (λ (n : ℕ). BeginsWith (92 ∷ letter ∷ rest) n 2) (sym e) is;
  shown = ((omega arith, omega arith), ((low, high), tt));
}

of_other : (b : ℕ) (rest : List ℕ) → b < 256 → eqb b 92 ≡ false → IsWritten (escape_by None b) b rest
of_other b rest small other = by (nat_le 32 b) (nat_le b 126) refl refl
  where
    high : b / 16 < 16
    high = omega arith

    low : b % 16 < 16
    low = omega arith

    digits : IsWritten (92 ∷ 120 ∷ digit_char (b / 16) ∷ digit_char (b % 16) ∷ []) b rest
    digits = record {
      begins = subst (λ (n : ℕ). BeginsWith (92 ∷ 120 ∷ digit_char (b / 16) ∷ digit_char (b % 16) ∷ rest) n 4)
          (let whole : b / 16 * 16 + b % 16 ≡ b = omega arith in whole) (two_digits (b / 16) (b % 16) rest high low);
      shown = ((omega arith, omega arith), ((omega arith, omega arith), (digit_shown (b / 16) high, (digit_shown (b % 16) low, tt))));
    }

    by : (x y : Bool) → nat_le 32 b ≡ x → nat_le b 126 ≡ y
        → IsWritten (cond (x && y) (b ∷ []) (92 ∷ 120 ∷ digit_char (b / 16) ∷ digit_char (b % 16) ∷ [])) b rest
    by true true e f = record {
      begins = itself b rest other;
      shown = ((grind (arith, nat_tests), grind (arith, nat_tests)), tt);
    }
    by true false e f = digits
    by false y e f = digits

written : (b : ℕ) (rest : List ℕ) → b < 256 → IsWritten (escape_of b) b rest
written b rest small = by (eqb b 92) (eqb b 10) (eqb b 9) (eqb b 11) (eqb b 12) (eqb b 13) refl refl refl refl refl refl
  where
    by : (x10 x n t v f : Bool) → eqb b 92 ≡ x10 → eqb b 10 ≡ x → eqb b 9 ≡ n → eqb b 11 ≡ t → eqb b 12 ≡ v → eqb b 13 ≡ f
        → IsWritten (escape_by (cond x10 (Some 92) (cond x (Some 110) (cond n (Some 116) (cond t (Some 118) (cond v (Some 102)
        (cond f (Some 114) None)))))) b) b rest
    by true x n t v f e e2 e3 e4 e5 e6 = of_letter b 92 92 rest (eqb-true b 92 e) refl (omega arith) (omega arith)
    by false true n t v f e e2 e3 e4 e5 e6 = of_letter b 10 110 rest (eqb-true b 10 e2) refl (omega arith) (omega arith)
    by false false true t v f e e2 e3 e4 e5 e6 = of_letter b 9 116 rest (eqb-true b 9 e3) refl (omega arith) (omega arith)
    by false false false true v f e e2 e3 e4 e5 e6 = of_letter b 11 118 rest (eqb-true b 11 e4) refl (omega arith) (omega arith)
    by false false false false true f e e2 e3 e4 e5 e6 = of_letter b 12 102 rest (eqb-true b 12 e5) refl (omega arith) (omega arith)
    by false false false false false true e e2 e3 e4 e5 e6 = of_letter b 13 114 rest (eqb-true b 13 e6) refl (omega arith) (omega arith)
    by false false false false false false e e2 e3 e4 e5 e6 = of_other b rest small e

-- ---- all bytes

-- the bytes of a slice
pub all_bytes : (bs : List ℕ) → ((i : ℕ) → get_or bs i 0 < 256) → AreBytes bs
all_bytes [] h = tt
all_bytes (b ∷ bs) h = (h 0, all_bytes bs (λ i. h (suc i)))

all_append : (xs ys : List ℕ) → AreShown xs → AreShown ys → AreShown (xs ++ ys)
all_append [] ys h k = k
all_append (x ∷ xs) ys h k = (h.0, all_append xs ys h.1 k)

pub unescapes : (bytes : List ℕ) → AreBytes bytes → Unescapes (escaped bytes) bytes
unescapes [] h = refl
unescapes (b ∷ bytes) h = (
  length (escape_of b),
  length (escaped bytes),
  (written b (escaped bytes) h.0).begins,
  length-append (escape_of b) (escaped bytes),
  subst (λ (word : List ℕ). Stands word (length (escaped bytes)) bytes)
      (sym (drop_at (escape_of b) (escaped bytes) (length (escape_of b)) refl)) (unescapes bytes h.1),
)

pub are_shown : (bytes : List ℕ) → AreBytes bytes → AreShown (escaped bytes)
are_shown [] h = tt
are_shown (b ∷ bytes) h = all_append (escape_of b) (escaped bytes) (written b [] h.0).shown (are_shown bytes h.1)
