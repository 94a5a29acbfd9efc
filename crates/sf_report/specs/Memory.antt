-- What the store of a run holds.
use Rattle.std.specs.Prelude.{◌≡◌, ◌≤◌, ◌+◌, ℕ, List, ◌++◌, length, None, IfSome}
use Rattle.sf_base.specs.stores.Kept.{Kept, buffer_of, text_of, texts_in}
use Rattle.sf_format.specs.declared.directive.Directive.{Directive}
use Rattle.sf_format.specs.Widths.{width_sum}

-- The bytes in the store are the texts of the values, in their order, then the text under way, and nothing else; they
-- are no more than the format's widths allow, where it has a width sum.
pub record HoldsTexts (ds : List Directive) (kept : Kept) : Type 0 where
  pub joined : buffer_of kept ≡ texts_in kept.values ++ text_of kept.opened
  pub few : IfSome (width_sum ds) (λ n. length (buffer_of kept) ≤ n)

-- No text is opened, and the bytes in the store are the texts of the values, in their order, and nothing else.
pub record HoldsValues (kept : Kept) : Type 0 where
  pub opened : kept.opened ≡ None
  pub joined : buffer_of kept ≡ texts_in kept.values

-- how many bytes the store can hold for sure, with those that it holds
abbrev pub capacity_of : Kept → ℕ
capacity_of kept = kept.room + length (buffer_of kept)
