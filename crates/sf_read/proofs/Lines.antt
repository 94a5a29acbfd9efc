-- The newlines that a run consumes.
use Rattle.std.proofs.Common.{◌≡◌, ℕ, ◌+◌, ◌-◌, ◌^◌, ◌≤◌, List, [], ◌++◌, length, take, Option, Some, sym, ap, ◌∙◌, arith, append_assoc}
use Rattle.std.proofs.lemmas.List.{take-append-le}
use Rattle.std.proofs.lemmas.Grind.{common_steps}
use Rattle.std.proofs.Math.Seq.{take-append-add, take-append_seam}
use Rattle.sf_format.specs.declared.directive.Directive.{Directive}
use Rattle.sf_run.specs.Standing.{Standing, used_by}
use Rattle.sf_read.specs.source.Ahead.{Ahead, input_of}
use Rattle.sf_read.specs.source.Counts.{lines_after, newlines}
use Rattle.sf_read.specs.Reading.{Reading}

newlines_more : (x y : List ℕ) → newlines (x ++ y) ≡ newlines x + newlines y
newlines_more x y = grind (arith, common_steps)

-- those of two parts are counted one after the other
lines_more : (n : ℕ) (x y : List ℕ) → lines_after (lines_after n x) y ≡ lines_after n (x ++ y)
lines_more n x y = grind (arith, newlines_more)

-- the bytes that were used, and then some that are held, are so many of the input
front_more : (t fed h z : List ℕ) (k : ℕ) → t ≡ fed ++ h ++ z → k ≤ length h → take (length fed + k) t ≡ take (length fed) t ++ take k h
front_more t fed h z k is le =
    let e : t ≡ fed ++ (h ++ z) = is ∙ append_assoc fed h z in
    let all : take (length fed + k) t ≡ fed ++ take k h = ap (take (length fed + k)) e ∙ take-append-add fed (h ++ z) k
    ∙ ap (λ y. fed ++ y) (take-append-le k h z le) in
    let own : take (length fed) t ≡ fed = ap (take (length fed)) e ∙ take-append_seam fed (h ++ z) in
    all ∙ ap (λ y. y ++ take k h) (sym own)

-- one more piece was taken of what is held
pub lines_on : {S : Type 0} {to_come : S → Option (List ℕ)} {reads failures : S → ℕ} {N : ℕ} {ds : List Directive} {m : ℕ}
    {old now : Ahead S} {s : Standing} (r : Reading to_come reads failures N ds m old now s)
    (t : List ℕ) → input_of to_come old ≡ Some t → (before lines : ℕ) → lines ≡ lines_after before (take (used_by s) t) → (k : ℕ)
    → k ≤ length now.held
    → (front : List ℕ) → front ≡ take k now.held → (more used : ℕ) → more ≡ lines_after lines front → used ≡ used_by s + k
    → more ≡ lines_after before (take used t)
lines_on {now = now} {s = s} r t e before lines were k le front is more used counted uses =
    let (z, coming, input) = r.input t e in
    let parts : take (length r.fed + k) t ≡ take (length r.fed) t ++ take k now.held = front_more t r.fed now.held z k input le in
    let own : take used t ≡ take (used_by s) t ++ front = ap (λ n. take n t) (uses ∙ ap (λ n. n + k) r.used) ∙ parts
    ∙ ap (λ n. take n t ++ take k now.held) (sym r.used) ∙ ap (λ y. take (used_by s) t ++ y) (sym is) in
    counted ∙ ap (λ n. lines_after n front) were ∙ lines_more before (take (used_by s) t) front ∙ ap (lines_after before) (sym own)

-- nothing was used yet
pub no_lines : (lines : ℕ) → lines ≤ 2 ^ 64 - 1 → lines ≡ lines_after lines []
no_lines lines le = grind arith
