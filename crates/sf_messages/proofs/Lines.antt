-- Texts one after the other, and the line of two or four numbers.
use Rattle.std.proofs.Common.{◌≡◌, ◌∙◌, ℕ, zero, suc, ◌+◌, ◌<◌, ◌≤◌, List, [], ◌∷◌, ◌++◌, length, take, get_or, length-append, append_assoc}
use Rattle.std.proofs.Common.{append-nil, arith, refl}
use Rattle.std.specs.Borrow.{Bor}
use Rattle.sf_messages.specs.Joined.{joined}

-- a text and those before it are no longer than all
pub room_for : (texts : List (Bor (List ℕ))) (i : ℕ) (other : Bor (List ℕ)) → i < length texts
    → length (joined (take i texts)) + length (get_or texts i other).now ≤ length (joined texts)
room_for [] i other below = absurd (omega arith)
room_for (t ∷ texts) zero other below = omega (arith, length-append t.now (joined texts))
room_for (t ∷ texts) (suc i) other below =
    let rest = room_for texts i other (omega arith) in
    omega (arith, rest, length-append t.now (joined texts), length-append t.now (joined (take i texts)))

-- a number between two texts, and a newline
pub number_between : (bytes a b c m x : List ℕ) → bytes ≡ a ++ (x ++ (b ++ (c ++ []))) → x ≡ m → bytes ≡ (a ++ (m ++ b)) ++ c
number_between bytes a b c m x is first =
    let same : bytes ≡ a ++ (m ++ (b ++ (c ++ []))) = cc in same ∙ simp (append_assoc, append-nil) refl

pub two_numbers : (bytes a b c m n x y : List ℕ) → bytes ≡ a ++ (x ++ (b ++ (y ++ (c ++ [])))) → x ≡ m → y ≡ n
    → bytes ≡ (a ++ (m ++ (b ++ n))) ++ c
two_numbers bytes a b c m n x y is first second =
    let same : bytes ≡ a ++ (m ++ (b ++ (n ++ (c ++ [])))) = cc in same ∙ simp (append_assoc, append-nil) refl

-- three texts in a line
pub three_texts : (bytes a b c d m n o x y z : List ℕ) → bytes ≡ a ++ (x ++ (b ++ (y ++ (c ++ (z ++ (d ++ [])))))) → x ≡ m → y ≡ n → z ≡ o
    → bytes ≡ (a ++ (m ++ (b ++ (n ++ (c ++ o))))) ++ d
three_texts bytes a b c d m n o x y z is first second third =
    let same : bytes ≡ a ++ (m ++ (b ++ (n ++ (c ++ (o ++ (d ++ [])))))) = cc in same ∙ simp (append_assoc, append-nil) refl

pub four_numbers : (bytes a of b status c d e f k l m n v w x y z : List ℕ)
    → bytes ≡ a ++ (of ++ (w ++ (b ++ (v ++ (c ++ (x ++ (d ++ (y ++ (e ++ (z ++ (f ++ [])))))))))))
    → v ≡ status → w ≡ k → x ≡ l → y ≡ m → z ≡ n → bytes ≡ (a ++ (of ++ (k ++ (b ++ (status ++ (c ++ (l ++ (d ++ (m ++ (e ++ n)))))))))) ++
    f
four_numbers bytes a of b status c d e f k l m n v w x y z is told first second third fourth =
    let same : bytes ≡ a ++ (of ++ (k ++ (b ++ (status ++ (c ++ (l ++ (d ++ (m ++ (e ++ (n ++ (f ++ []))))))))))) = cc in
    same ∙ simp (append_assoc, append-nil) refl
