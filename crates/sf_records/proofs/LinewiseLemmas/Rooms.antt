-- The room for the texts of lines.
use Rattle.std.proofs.Common.{◌≡◌, ℕ, ◌+◌, ◌<◌, max, List, [], ◌∷◌, ◌++◌, length, take, get_or, Option, Some, None, refl, sym, ap, ◌∙◌}
use Rattle.std.proofs.Common.{arith}
use Rattle.std.specs.Prelude.{unwrap_or}
use Rattle.std.proofs.lemmas.List.{take_more}
use Rattle.sf_format.specs.declared.directive.Directive.{Directive}
use Rattle.sf_format.specs.declared.directive.Directive.TheVariants.{Space, Byte, Percent, Conv, Opens}
use Rattle.sf_format.specs.Proper.{destinations_of}
use Rattle.sf_format.specs.Widths.{add_widths, width_sum}
use Rattle.sf_records.specs.by_lines.Rooms.{most_width, width_of}

no_sum : (ds : List Directive) → length (destinations_of ds) ≡ 0 → width_sum ds ≡ Some 0
no_sum [] none = refl
no_sum (Space ∷ ds) none = ap (add_widths (Some 0)) (no_sum ds none)
no_sum (Byte b ∷ ds) none = ap (add_widths (Some 0)) (no_sum ds none)
no_sum (Percent ∷ ds) none = ap (add_widths (Some 0)) (no_sum ds none)
no_sum (Opens o ∷ ds) none = ap (add_widths (Some 0)) (no_sum ds none)
no_sum (Conv c ∷ ds) none = by c.slot refl (λ rest. no_sum ds rest)
  where
    by : (slot : Option ℕ) → c.slot ≡ slot → (length (destinations_of ds) ≡ 0 → width_sum ds ≡ Some 0) → width_sum (Conv c ∷ ds) ≡ Some 0
    by None e later = rw e (ap (add_widths (Some 0)) (later (rw e at none)))
    by (Some slot) e later = absurd (omega (arith, rw e at none))

-- a format that stores nothing stores no text
pub no_width : (ds : List Directive) → length (destinations_of ds) ≡ 0 → width_of ds ≡ 0
no_width ds none = ap (λ sum. unwrap_or sum 64) (no_sum ds none)

most_append : (xs : List (List Directive)) (ds : List Directive) → most_width (xs ++ ds ∷ []) ≡ max (most_width xs) (width_of ds)
most_append [] ds = omega arith
most_append (x ∷ xs) ds = ap (max (width_of x)) (most_append xs ds) ∙ omega arith

-- the room for one more
pub most_more : (xs : List (List Directive)) (i : ℕ) (ds : List Directive) (room width : ℕ) → i < length xs → ds ≡ get_or xs i ds
    → room ≡ most_width (take i xs) → width ≡ width_of ds
    → max room width ≡ most_width (take (i + 1) xs)
most_more xs i ds room width lt is so_far one =
    ap (λ r. max r width) so_far ∙ ap (max (most_width (take i xs))) (one ∙ ap width_of is)
    ∙ sym (most_append (take i xs) (get_or xs i ds)) ∙ ap most_width (sym (take_more xs i ds lt))
