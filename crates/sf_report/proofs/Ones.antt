-- Each directive's machine makes its step.
use Rattle.std.proofs.lemmas.Bool.Decides.{nat_tests}
use Rattle.std.proofs.lemmas.Grind.{common_steps}
use Rattle.std.proofs.Common.{◌≡◌, ℕ, suc, ◌+◌, Bool, true, false, cond, ◌&&◌, List, [], ◌∷◌, ◌++◌, take, drop, Some, None, refl, sym, ap}
use Rattle.std.proofs.Common.{Option, ap₂, ◌∙◌, arith, append_assoc, append-nil, length, length-append, min, nat_lt, ◌-◌, ◌<◌, ◌≤◌}
use Rattle.sf_base.specs.Bytes.{is_white}
use Rattle.sf_format.specs.declared.directive.Shape.{Shape}
use Rattle.sf_format.specs.declared.directive.Shape.TheVariants.{Count}
use Rattle.sf_format.specs.declared.directive.Conversion.{Conversion}
use Rattle.sf_format.specs.declared.directive.Directive.{Directive}
use Rattle.sf_format.specs.declared.directive.Directive.TheVariants.{Space, Byte, Percent, Conv, Opens}
use Rattle.sf_format.specs.declared.directive.Literal.{Literal}
use Rattle.sf_format.specs.declared.directive.Literal.TheVariants as literal
use Rattle.sf_format.specs.declared.directive.Opener.{Opener}
use Rattle.sf_item.specs.Columns.{column_width}
use Rattle.sf_item.specs.Tests.{can_take}
use Rattle.sf_report.specs.Steps.{StepEnd, Passes, missed}
use Rattle.sf_report.specs.Machine.{Stage, Skipping, Taken, Item, shape_skips, stepped, finished, item_finished, count_end, item_end}
use Rattle.sf_report.specs.Machine.{nothing_end, column_end, conversion_stepped, column_stepped, stepped_by, column_finished, finished_by}
use Rattle.sf_report.specs.Residual.{Part, choose, one_from}
use Rattle.sf_report.specs.Computed.{skip, len, byte_choice, byte_step, item_ended, item_part, conversion_step, column_len}
use Rattle.sf_report.specs.Computed.{column_ended, column_step, literal_step, opener_step, step_by, percent_step, step_of, part_of}

-- ---- white space

space_is : (x : List ℕ) (n p : ℕ) → p ≡ n + skip x → one_from Space Skipping n x ≡ record { used = p; left = drop (skip x) x; end = Passes }
space_is [] n p e = grind arith
space_is (b ∷ x) n p e = grind (arith, space_is x)

-- a directive that skips white space, and has taken none but that
abbrev Skips : Directive → Type 0
Skips d = (b : ℕ) → is_white b ≡ true → stepped d Skipping b ≡ Some Skipping

-- it passes over the white space
skips : (d : Directive) → Skips d → (x : List ℕ) (n p : ℕ) → p ≡ n + skip x
    → one_from d Skipping n x ≡ one_from d Skipping p (drop (skip x) x)
skips d white [] n p e = grind arith
skips d white (b ∷ x) n p e = grind (arith, skips d white x)

-- the first byte is no white space
abbrev Starts : List ℕ → Type 0
Starts [] = Unit {0}
Starts (b ∷ x) = is_white b ≡ false

starts : (x : List ℕ) → Starts (drop (skip x) x)
starts [] = tt
starts (b ∷ x) = grind (arith, starts x)

-- ---- a byte

-- a directive that has taken its byte takes no more
abbrev IsTaken : Directive → Type 0
IsTaken d = (n : ℕ) (x : List ℕ) → one_from d Taken n x ≡ record { used = n; left = x; end = Passes }

byte_taken : (a : ℕ) → IsTaken (Byte a)
byte_taken a n [] = refl
byte_taken a n (b ∷ x) = refl

percent_taken : IsTaken Percent
percent_taken n [] = refl
percent_taken n (b ∷ x) = refl

-- by whether the byte is the one that has to stand there
byte_part : (d : Directive) → IsTaken d → (v : Bool) (b : ℕ) (x : List ℕ) (n : ℕ)
    → choose (cond v (Some Taken) None) (record { used = n; left = b ∷ x; end = nothing_end true }) (λ r. one_from d r (n + 1) x)
    ≡ part_of n (b ∷ x) (byte_choice v)
byte_part d taken v b x n = grind arith

byte_is : (a : ℕ) (x : List ℕ) (n : ℕ) → one_from (Byte a) Skipping n x ≡ part_of n x (byte_step a x)
byte_is a x n = grind (arith, (byte_taken a))

percent_here : (x : List ℕ) (n : ℕ) → Starts x → one_from Percent Skipping n x ≡ part_of n x (byte_step 37 x)
percent_here x n s = grind (arith, percent_taken)

percent_is : (x : List ℕ) (n : ℕ) → one_from Percent Skipping n x ≡ part_of n x (percent_step x (skip x))
percent_is x n = grind (arith, skips, percent_here, starts, common_steps)

-- ---- literals that open a group

-- the directive that the literal is elsewhere
abbrev pub plain : Literal → Directive
plain (literal.Byte a) = Byte a
plain literal.Percent = Percent

abbrev pub with_missed : Part → Part
with_missed p = record p { end = missed p.end }

pub plain_stepped : (o : Opener) (q : Stage) (b : ℕ) → stepped (Opens o) q b ≡ stepped (plain o.literal) q b
plain_stepped o q b = grind arith

plain_finished : (o : Opener) (q : Stage) (n : ℕ) (more : Bool) → finished (Opens o) q n more ≡ missed (finished (plain o.literal) q n more)
plain_finished o q n more = grind arith

-- such a literal takes what it takes elsewhere, and is missing where it fails there
pub opens_plain : (o : Opener) (q : Stage) (n : ℕ) (x : List ℕ) → one_from (Opens o) q n x ≡ with_missed (one_from (plain o.literal) q n x)
opens_plain o q n [] = ap (λ end. record { used = n; left = []; end = end }) (plain_finished o q n false)
opens_plain o q n (b ∷ x) = by (stepped (plain o.literal) q b) (plain_stepped o q b) (λ r. opens_plain o r (n + 1) x)
  where
    by : (s : Option Stage) → stepped (Opens o) q b ≡ s
        → ((r : Stage) → one_from (Opens o) r (n + 1) x ≡ with_missed (one_from (plain o.literal) r (n + 1) x))
        → one_from (Opens o) q n (b ∷ x)
        ≡ with_missed (choose s (record { used = n; left = b ∷ x; end = finished (plain o.literal) q n true })
        (λ r. one_from (plain o.literal) r (n + 1) x))
    by None e rest = rw e (ap (λ end. record { used = n; left = b ∷ x; end = end }) (plain_finished o q n true))
    by (Some r) e rest = rw e (rest r)

literal_is : (l : Literal) (x : List ℕ) (n : ℕ) → one_from (plain l) Skipping n x ≡ part_of n x (literal_step l x)
literal_is (literal.Byte a) x n = byte_is a x n
literal_is literal.Percent x n = percent_is x n

opener_is : (o : Opener) (x : List ℕ) (n : ℕ) → one_from (Opens o) Skipping n x ≡ part_of n x (opener_step o.literal x)
opener_is o x n = opens_plain o Skipping n x ∙ ap with_missed (literal_is o.literal x n)

-- ---- items

module _ (c : Conversion) (no_column : c.column ≡ false) where
  -- each end of an item is told by its bytes, or by whether a byte follows
  abbrev EndsItem : Type 0
  EndsItem = (q : Stage) (n : ℕ) (more : Bool) → finished (Conv c) q n more ≡ item_finished c q more

  steps_item : (q : Stage) (b : ℕ) → stepped (Conv c) q b ≡ conversion_stepped c q b
  steps_item q b = ap (λ v. stepped_by v c q b) no_column

  after_item : EndsItem → (f : List ℕ) (b : ℕ) (y : List ℕ) (n p : ℕ) (v : Bool)
      → p ≡ n + cond v (suc (len c (f ++ b ∷ []) y)) 0
      → (p ≡ n + 1 + len c (f ++ b ∷ []) y → one_from (Conv c) (Item (f ++ b ∷ [])) (n + 1) y
      ≡ record { used = p; left = drop (len c (f ++ b ∷ []) y) y; end = item_end c ((f ++ b ∷ []) ++ take (len c (f ++ b ∷ []) y) y) })
      → choose (cond v (Some (Item (f ++ b ∷ []))) None) (record { used = n; left = b ∷ y; end = finished (Conv c) (Item f) n true })
      (λ r. one_from (Conv c) r (n + 1) y)
      ≡ record {
        used = p;
        left = drop (cond v (suc (len c (f ++ b ∷ []) y)) 0) (b ∷ y);
        end =
            item_end c (f ++ take (cond v (suc (len c (f ++ b ∷ []) y)) 0) (b ∷ y));
      }
  after_item ends f b y n p v e more = grind (arith, append_assoc, append-nil)

  -- after the front f of an item, the rest of the item is taken
  item_from : EndsItem → (f y : List ℕ) (n p : ℕ) → p ≡ n + len c f y
      → one_from (Conv c) (Item f) n y ≡ record { used = p; left = drop (len c f y) y; end = item_end c (f ++ take (len c f y) y) }
  item_from ends f [] n p e =
      ap₂ (λ (u : ℕ) (end : StepEnd). record { used = u; left = []; end = end }) (let h : n ≡ p = omega arith in h)
      (ends (Item f) n false ∙ ap (item_end c) (sym (append-nil f)))
  item_from ends f (b ∷ y) n p e =
      ap (λ o. choose o (record { used = n; left = b ∷ y; end = finished (Conv c) (Item f) n true }) (λ r. one_from (Conv c) r (n + 1) y))
      (steps_item (Item f) b)
      ∙ after_item ends f b y n p (can_take c (f ++ b ∷ [])) e (λ h. item_from ends (f ++ b ∷ []) y (n + 1) p h)

  -- an item that begins here
  abbrev IsHere : List ℕ → Type 0
  IsHere [] = Unit {0}
  IsHere (b ∷ y) = (shape_skips c.shape && is_white b) ≡ false

  item_here : EndsItem → (y : List ℕ) (n : ℕ) → IsHere y → one_from (Conv c) Skipping n y
      ≡ part_of n y (len c [] y, item_ended c y (len c [] y))
  item_here ends y n here = grind (arith, item_from, steps_item)

  starts_here : (y : List ℕ) → Starts y → IsHere y
  starts_here y s = grind arith

  -- white space is skipped, and then the item is taken
  skipped_item : EndsItem → shape_skips c.shape ≡ true → (x : List ℕ) (n : ℕ)
      → one_from (Conv c) Skipping n x ≡ part_of n x (item_part c x (skip x))
  skipped_item ends does x n = grind (arith, skips, steps_item, item_here, starts_here, starts, common_steps)

  unskipped_item : EndsItem → shape_skips c.shape ≡ false → (x : List ℕ) (n : ℕ)
      → one_from (Conv c) Skipping n x ≡ part_of n x (item_part c x 0)
  unskipped_item ends does x n = grind (arith, steps_item, item_here)

  -- ---- %n

  count_is : c.shape ≡ Count → (x : List ℕ) (n : ℕ) → one_from (Conv c) Skipping n x ≡ part_of n x (0, count_end c c.slot n)
  count_is e [] n = grind arith
  count_is e (b ∷ x) n = grind arith

  -- ---- each conversion

  conversion_is : (shape : Shape) → c.shape ≡ shape → (x : List ℕ) (n : ℕ)
      → one_from (Conv c) Skipping n x ≡ part_of n x (conversion_step c shape x n)
  conversion_is shape e x n = grind (arith, skipped_item, unskipped_item)

-- ---- columns

module _ (c : Conversion) (column : c.column ≡ true) where
  takes_column : (q : Stage) (b : ℕ) → stepped (Conv c) q b ≡ column_stepped c q b
  takes_column q b = ap (λ v. stepped_by v c q b) column

  ends_column : (q : Stage) (n : ℕ) (more : Bool) → finished (Conv c) q n more ≡ column_finished c q more
  ends_column q n more = ap (λ v. finished_by v c q n more) column

  column_more : (f : List ℕ) (b : ℕ) (y : List ℕ) (n j k : ℕ) → k ≡ suc j → nat_lt (length f) (column_width c) ≡ true
      → one_from (Conv c) (Item (f ++ b ∷ [])) (n + 1) y
      ≡ record { used = n + 1 + j; left = drop j y; end = column_end c ((f ++ b ∷ []) ++ take j y) }
      → one_from (Conv c) (Item f) n (b ∷ y) ≡ record { used = n + k; left = drop k (b ∷ y); end = column_end c (f ++ take k (b ∷ y)) }
  column_more f b y n j k e lower more = grind (arith, takes_column, append_assoc)

  column_over : (f : List ℕ) (b : ℕ) (y : List ℕ) (n k : ℕ) → k ≡ 0 → nat_lt (length f) (column_width c) ≡ false
      → one_from (Conv c) (Item f) n (b ∷ y) ≡ record { used = n + k; left = drop k (b ∷ y); end = column_end c (f ++ take k (b ∷ y)) }
  column_over f b y n k e full = grind (arith, takes_column, ends_column, append-nil)

  -- after the front f of a column, the rest of the column is taken
  column_from : (f y : List ℕ) (n k : ℕ) → k ≡ min (length y) (column_width c - length f)
      → one_from (Conv c) (Item f) n y ≡ record { used = n + k; left = drop k y; end = column_end c (f ++ take k y) }
  column_from f [] n k e = let none : k ≡ 0 = omega (arith, e) in grind (arith, ends_column, append-nil)
  column_from f (b ∷ y) n k e = by_case (nat_lt (length f) (column_width c)) refl
      (column_from (f ++ b ∷ []) y (n + 1) (min (length y) (column_width c - length (f ++ b ∷ []))) refl)
    where
      rest : ℕ
      rest = min (length y) (column_width c - length (f ++ b ∷ []))

      by_case : (v : Bool) → nat_lt (length f) (column_width c) ≡ v
          → one_from (Conv c) (Item (f ++ b ∷ [])) (n + 1) y
          ≡ record { used = n + 1 + rest; left = drop rest y; end = column_end c ((f ++ b ∷ []) ++ take rest y) }
          → one_from (Conv c) (Item f) n (b ∷ y) ≡ record { used = n + k; left = drop k (b ∷ y); end = column_end c (f ++ take k (b ∷ y)) }
      by_case true lower later =
          let less : length f < column_width c = grind (arith, nat_tests) in
          column_more f b y n rest k (omega (arith, e, less, length-append f (b ∷ []))) lower later
      by_case false full later =
          let most : column_width c ≤ length f = grind (arith, nat_tests) in
          column_over f b y n k (omega (arith, e, most)) full

  column_first : (b : ℕ) (x : List ℕ) (n j k : ℕ) → k ≡ suc j → nat_lt 0 (column_width c) ≡ true
      → one_from (Conv c) (Item (b ∷ [])) (n + 1) x
      ≡ record { used = n + 1 + j; left = drop j x; end = column_end c ((b ∷ []) ++ take j x) }
      → one_from (Conv c) Skipping n (b ∷ x) ≡ part_of n (b ∷ x) (k, column_ended c (b ∷ x) (take k (b ∷ x)))
  column_first b x n j k e lower more = grind (arith, takes_column)

  column_none : (b : ℕ) (x : List ℕ) (n k : ℕ) → k ≡ 0 → nat_lt 0 (column_width c) ≡ false
      → one_from (Conv c) Skipping n (b ∷ x) ≡ part_of n (b ∷ x) (k, column_ended c (b ∷ x) (take k (b ∷ x)))
  column_none b x n k e full = grind (arith, takes_column, ends_column)

  column_is : (x : List ℕ) (n : ℕ) → one_from (Conv c) Skipping n x ≡ part_of n x (column_step c x)
  column_is [] n = grind (arith, ends_column)
  column_is (b ∷ x) n = by_case (nat_lt 0 (column_width c)) refl
    where
      by_case : (v : Bool) → nat_lt 0 (column_width c) ≡ v
          → one_from (Conv c) Skipping n (b ∷ x) ≡ part_of n (b ∷ x) (column_step c (b ∷ x))
      by_case true lower =
          let less : 0 < column_width c = grind (arith, nat_tests) in
          let rest : ℕ = min (length x) (column_width c - 1) in
          column_first b x n rest (column_len c (b ∷ x)) (omega (arith, less)) lower (column_from (b ∷ []) x (n + 1) rest refl)
      by_case false full =
          let most : column_width c ≤ 0 = grind (arith, nat_tests) in
          column_none b x n (column_len c (b ∷ x)) (omega (arith, most)) full

by_is : (c : Conversion) (column : Bool) → c.column ≡ column → (x : List ℕ) (n : ℕ)
    → one_from (Conv c) Skipping n x ≡ part_of n x (step_by column c x n)
by_is c true e x n = column_is c e x n
by_is c false e x n = conversion_is c e c.shape refl x n

-- the machine makes the step: it leaves the rest of the input, and ends as the step does
pub one_made : (d : Directive) (x : List ℕ) (n : ℕ) → one_from d Skipping n x ≡ part_of n x (step_of d x n)
one_made d x n = grind (arith, space_is, byte_is, percent_is, by_is, opener_is)
