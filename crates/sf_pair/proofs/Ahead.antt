-- What stands in front of a scan that has read a part of a printed text.
use Rattle.std.proofs.Common.{◌≡◌, ◌≢◌, ℕ, zero, suc, ◌<◌, ◌⊎◌, inl, inr, Bool, true, false, cond, ◌&&◌, ◌||◌, List, [], ◌∷◌, ◌++◌, drop}
use Rattle.std.proofs.Common.{Option}
use Rattle.std.proofs.Common.{Some, None, is_some, refl, sym, ap, subst, ◌∙◌, append_assoc, eq-eqb, true≢false}
use Rattle.std.specs.Prelude.{not}
use Rattle.sf_base.specs.Bytes.{is_white}
use Rattle.sf_base.specs.Data.{Datum}
use Rattle.sf_format.specs.declared.directive.Shape.{Shape}
use Rattle.sf_format.specs.declared.directive.Shape.TheVariants as shape
use Rattle.sf_format.specs.declared.directive.Conversion.{Conversion}
use Rattle.sf_format.specs.declared.directive.Directive.{Directive}
use Rattle.sf_format.specs.declared.directive.Directive.TheVariants as directive
use Rattle.sf_format.specs.declared.unit.PrintConv.{PrintConv}
use Rattle.sf_format.specs.declared.unit.Unit.{Unit as PrintUnit}
use Rattle.sf_format.specs.declared.unit.Unit.TheVariants as unit
use Rattle.sf_format.specs.Leads.{is_strict_lead}
use Rattle.sf_format.specs.Units.{IsProperUnit, AreProperUnits}
use Rattle.sf_print.specs.texts.Text.{value_text, blanks}
use Rattle.sf_print.specs.Printed.{text_or_none, printed}
use Rattle.sf_report.specs.Machine.{shape_skips}
use Rattle.sf_report.specs.Laws.{EachByteIsTried}
use Rattle.sf_report.specs.Computed.{skip}
use Rattle.sf_pair.specs.declared.fault.PairWhy.TheVariants as why
use Rattle.sf_pair.specs.conversions.Neighbours.{Bytes as ByteTest, meet, no_conversion, first_of, first_read, reads, stop_set}
use Rattle.sf_pair.specs.Groups.{AreSpace, is_count, starts_with_space, shape_keeps_space, keeps_space, space_fault, always_full, is_closed}
use Rattle.sf_pair.specs.Groups.{follow_fault, closing_fault, next_of}
use Rattle.sf_pair.proofs.ConversionLemmas.Bodies.{StartsInk, FirstByte}
use Rattle.sf_pair.proofs.ConversionLemmas.Firsts.{FirstIn, first_append}
use Rattle.sf_pair.proofs.Taken.{FirstOut}
use Rattle.sf_pair.proofs.Back.{back_first}
use Rattle.sf_pair.proofs.FitCut.{PairedReads, FitCut}

-- ---- sets that don't meet

pub meet_apart : EachByteIsTried → (s t : ByteTest) (b : ℕ) → meet s t ≡ false → b < 256 → s b ≡ true → t b ≡ false
unfolding meet
meet_apart tried s t b none small here = by (t b) refl
  where
    by : (v : Bool) → t b ≡ v → t b ≡ false
    by true e = absurd (true≢false (sym ((tried 256 (λ k. s k && t k)).1 (b, small, λ i. here i && e i)) ∙ none))
    by false e = e

pub first_out : EachByteIsTried → (s t : ByteTest) (xs : List ℕ) → meet s t ≡ false → FirstByte xs → FirstIn s xs → FirstOut t xs
first_out tried s t [] none small f = tt
first_out tried s t (b ∷ bs) none small f = meet_apart tried s t b none small f

-- ---- white space, skipped

pub skip_drop : (x : List ℕ) → skip (drop (skip x) x) ≡ 0
skip_drop [] = refl
skip_drop (b ∷ bs) = by (is_white b) refl (skip_drop bs)
  where
    by : (t : Bool) → is_white b ≡ t → skip (drop (skip bs) bs) ≡ 0 → skip (drop (cond t (suc (skip bs)) 0) (b ∷ bs)) ≡ 0
    by true e h = h
    by false e h = ap (λ (t : Bool). cond t (suc (skip bs)) 0) e

pub skip_ink : (xs ys : List ℕ) → StartsInk xs → skip (xs ++ ys) ≡ 0
skip_ink [] ys h = absurd h
skip_ink (b ∷ bs) ys h = ap (λ (t : Bool). cond t (suc (skip (bs ++ ys))) 0) h

-- blanks before a text that begins with none
pub skip_blanks : (n : ℕ) (xs ys : List ℕ) → StartsInk xs → skip (blanks n ++ (xs ++ ys)) ≡ n
skip_blanks zero xs ys h = skip_ink xs ys h
skip_blanks (suc n) xs ys h = ap suc (skip_blanks n xs ys h)

pub first_unskipped : (xs : List ℕ) → FirstOut is_white xs → skip xs ≡ 0
first_unskipped [] h = refl
first_unskipped (b ∷ bs) h = ap (λ (t : Bool). cond t (suc (skip bs)) 0) h

abbrev pub skips : Directive → Bool
skips directive.Space = true
skips (directive.Byte b) = false
skips directive.Percent = true
skips (directive.Conv s) = not s.column && shape_skips s.shape
skips (directive.Opens o) = false

-- the input that is left is what is still to come, or that without its white space, where the next directive skips it
abbrev pub At : Option Directive → List ℕ → List ℕ → Type 0
At None x y = x ≡ y
At (Some d) x y = (x ≡ y) ⊎ ((skips d ≡ true) × (x ≡ drop (skip y) y))

pub at_same : (next : Option Directive) (x y : List ℕ) → x ≡ y → At next x y
at_same None x y e = e
at_same (Some d) x y e = inl e

-- either way what stands after the white space is the same
pub at_skipped : (d : Directive) (x y : List ℕ) → At (Some d) x y → drop (skip x) x ≡ drop (skip y) y
at_skipped d x y (inl e) = ap (λ (t : List ℕ). drop (skip t) t) e
at_skipped d x y (inr h) = ap (λ (t : List ℕ). drop (skip t) t) h.1 ∙ ap (λ (k : ℕ). drop k (drop (skip y) y)) (skip_drop y)

-- where nothing is skipped it is just what is to come
pub at_unskipped : (d : Directive) (x y : List ℕ) → skips d ≡ false → At (Some d) x y → x ≡ y
at_unskipped d x y none (inl e) = e
at_unskipped d x y none (inr h) = absurd (true≢false (sym h.0 ∙ none))

-- a run of white-space literals
pub space_run : (values : List Datum) (group rest : List PrintUnit) (z : List ℕ) → AreSpace group
    → drop (skip (printed (group ++ rest) values ++ z)) (printed (group ++ rest) values ++ z)
    ≡ drop (skip (printed rest values ++ z)) (printed rest values ++ z)
space_run values [] rest z h = refl
space_run values (unit.Conv c ∷ group) rest z h = absurd h
space_run values (unit.Byte b ∷ group) rest z h =
    let y : List ℕ = printed (group ++ rest) values ++ z in
    ap (λ (t : Bool). drop (cond t (suc (skip y)) 0) (b ∷ y)) h.0 ∙ space_run values group rest z h.1

-- ---- the first byte of what is to come

-- the text of a group's conversion
pub paired_text : (values : List Datum) (s : Conversion) (group rest : List PrintUnit) (next : Option Directive)
    (p : PairedReads values s group rest next)
    → printed (group ++ rest) values ≡ value_text p.conversion p.value ++ printed rest values
paired_text values s group rest next p =
    ap (λ (g : List PrintUnit). printed (g ++ rest) values) p.group_is
    ∙ ap (λ (o : Option Datum). text_or_none p.conversion o ++ printed rest values) p.at

pub record Begins (u : PrintUnit) (next : Option Directive) (xs : List ℕ) : Type 0 where
  pub first : FirstIn (first_of u next) xs
  pub byte : FirstByte xs

byte_append : (xs ys : List ℕ) (s : ByteTest) → FirstIn s xs → FirstByte xs → FirstByte (xs ++ ys)
byte_append [] ys s f h = absurd f
byte_append (b ∷ bs) ys s f h = h

reads_assigned : (s : Conversion) (slot : ℕ) → s.slot ≡ Some slot → reads (Some (directive.Conv s)) ≡ s
reads_assigned s slot e = ap (λ (o : Option ℕ). cond (is_some o) s no_conversion) e

module _ (tried : EachByteIsTried) (values : List Datum) (z : List ℕ) where
  conv_space : (c : PrintConv) (us group later : List PrintUnit) → unit.Conv c ∷ us ≡ group ++ later → (group ≢ []) → AreSpace group → ⊥
  conv_space c us [] later e some h = some refl
  conv_space c us (unit.Byte b ∷ g) later e some h = cc
  conv_space c us (unit.Conv a ∷ g) later e some h = h

  paired_begins : (s : Conversion) (c : PrintConv) (us group later : List PrintUnit) (next : Option Directive)
      → unit.Conv c ∷ us ≡ group ++ later → PairedReads values s group later next
      → Begins (unit.Conv c) (Some (directive.Conv s)) (printed (unit.Conv c ∷ us) values ++ z)
  paired_begins s c us group later next parts p =
      let e : unit.Conv c ∷ us ≡ unit.Conv p.conversion ∷ later = parts ∙ ap (λ (g : List PrintUnit). g ++ later) p.group_is in
      let same : p.conversion ≡ c = cc in
      let text : List ℕ = value_text p.conversion p.value in
      let whole : printed (unit.Conv c ∷ us) values ++ z ≡ text ++ (printed later values ++ z) =
      ap (λ (us : List PrintUnit). printed us values ++ z) parts ∙ ap (λ (t : List ℕ). t ++ z) (paired_text values s group later next p)
      ∙ append_assoc text (printed later values) z in
      let set : first_of (unit.Conv c) (Some (directive.Conv s)) ≡ first_read p.conversion s =
      ap (first_read c) (reads_assigned s p.conversion.slot p.slot) ∙ ap (λ (a : PrintConv). first_read a s) (sym same) in
      let begins = back_first p.conversion s p.value p.back in
      let F : ByteTest → Type 0 = λ t. FirstIn t (text ++ (printed later values ++ z)) in
      let G : List ℕ → Type 0 = λ xs. FirstIn (first_of (unit.Conv c) (Some (directive.Conv s))) xs in
      record {
        first = subst G (sym whole) (subst F (sym set) (first_append _ text (printed later values ++ z) begins.0));
        byte = subst FirstByte (sym whole) (byte_append text (printed later values ++ z) _ begins.0 begins.1);
      }

  literal_not_conv : (c : PrintConv) (us group later : List PrintUnit) (b : ℕ) → unit.Conv c ∷ us ≡ group ++ later
      → group ≡ unit.Byte b ∷ [] → ⊥
  literal_not_conv c us group later b parts is = let e : unit.Conv c ∷ us ≡ unit.Byte b ∷ later =
      parts ∙ ap (λ (g : List PrintUnit). g ++ later) is in cc

  pub rest_begins : (ds : List Directive) (u : PrintUnit) (us : List PrintUnit) → IsProperUnit u → FitCut values ds (u ∷ us)
      → Begins u (next_of ds) (printed (u ∷ us) values ++ z)
  rest_begins ds (unit.Byte b) us proper cut = record { first = eq-eqb b b refl; byte = proper }
  rest_begins [] (unit.Conv c) us proper cut = absurd cc
  rest_begins (directive.Space ∷ ds) (unit.Conv c) us proper (group, later, parts, is, more) =
      absurd (conv_space c us group later parts is.0 is.1)
  rest_begins (directive.Byte b ∷ ds) (unit.Conv c) us proper (group, later, parts, is, more) =
      absurd (literal_not_conv c us group later is.0 parts is.1)
  rest_begins (directive.Percent ∷ ds) (unit.Conv c) us proper (group, later, parts, is, more) =
      absurd (literal_not_conv c us group later is.0 parts is.1)
  rest_begins (directive.Opens o ∷ ds) (unit.Conv c) us proper (group, later, parts, is, more) = absurd is
  rest_begins (directive.Conv s ∷ ds) (unit.Conv c) us proper (group, later, parts, is, more) =
      elim is [
        | inl p ↦ paired_begins s c us group later (next_of ds) parts p
        | inr l ↦ absurd (literal_not_conv c us group later l.byte parts l.group_is)
      ]

  -- ---- what ends an item

  pub closed_by : (c : PrintConv) (s : Conversion) (ds : List Directive) (rest : List PrintUnit) → s.column ≡ false
      → AreProperUnits rest → FitCut values ds rest → closing_fault c s rest (reads (next_of ds)) ≡ None
      → (always_full c s ≡ true) ⊎ FirstOut (stop_set s.shape c) (printed rest values ++ z)
  closed_by c s ds rest item proper cut e = by (is_closed c s) refl rest proper cut e
    where
      apart : (t : Bool) → cond t (Some why.RunsOn) None ≡ None → t ≡ false
      apart true e = cc
      apart false e = refl

      by : (t : Bool) → is_closed c s ≡ t → (rest : List PrintUnit) → AreProperUnits rest → FitCut values ds rest
          → cond t None (follow_fault (stop_set s.shape c) rest (reads (next_of ds))) ≡ None
          → (always_full c s ≡ true) ⊎ FirstOut (stop_set s.shape c) (printed rest values ++ z)
      by true is rest proper cut e = inl (sym (ap (λ (t : Bool). t || always_full c s) item) ∙ is)
      by false is [] proper cut e = absurd cc
      by false is (u ∷ us) proper cut e =
          let b = rest_begins ds u us proper.0 cut in
          inr (first_out tried (first_of u (next_of ds)) (stop_set s.shape c) (printed (u ∷ us) values ++ z)
          (apart (meet (first_of u (next_of ds)) (stop_set s.shape c)) e) b.byte b.first)

  -- ---- after white space

  literal_unskipped : (group later us : List PrintUnit) (b : ℕ) → us ≡ group ++ later → group ≡ unit.Byte b ∷ []
      → starts_with_space us ≡ false → skip (printed us values ++ z) ≡ 0
  literal_unskipped group later us b parts is start =
      let first : us ≡ unit.Byte b ∷ later = parts ∙ ap (λ (g : List PrintUnit). g ++ later) is in
      let ink : is_white b ≡ false = sym (ap starts_with_space first) ∙ start in
      ap (λ (us : List PrintUnit). skip (printed us values ++ z)) first
      ∙ ap (λ (t : Bool). cond t (suc (skip (printed later values ++ z))) 0) ink

  unskipped : (d : Directive) (xs : List ℕ) → skip xs ≡ 0 → At (Some d) (drop (skip xs) xs) xs
  unskipped d xs none = inl (ap (λ (k : ℕ). drop k xs) none)

  strict_so : (strict : Bool) → not strict ≡ false → strict ≡ true
  strict_so true e = refl
  strict_so false e = absurd cc

  keeps : (h : Shape) → shape_skips h ≡ false → is_count h ≡ false → shape_keeps_space h ≡ true
  keeps (shape.Int numeral) e n = strict_so (is_strict_lead numeral.lead) e
  keeps (shape.Text lead) e n = strict_so (is_strict_lead lead) e
  keeps (shape.Float lead) e n = strict_so (is_strict_lead lead) e
  keeps (shape.Set members) e n = refl
  keeps shape.Chars e n = refl
  keeps shape.Count e n = absurd cc

  keeps_it : (s : Conversion) → skips (directive.Conv s) ≡ false → is_count s.shape ≡ false → keeps_space s ≡ true
  keeps_it s e n = by s.column e
    where
      by : (t : Bool) → (not t && shape_skips s.shape) ≡ false → (t || shape_keeps_space s.shape) ≡ true
      by true e = refl
      by false e = keeps s.shape e n

  not_met : (k m : Bool) → k ≡ true → cond (k && m) (Some why.RunsOn) None ≡ None → m ≡ false
  not_met true true e h = absurd cc
  not_met true false e h = refl
  not_met false m e h = absurd cc

  -- no white space stands first, or the next directive skips it
  pub next_ready : (ds : List Directive) (rest : List PrintUnit) → AreProperUnits rest → FitCut values ds rest
      → starts_with_space rest ≡ false → space_fault rest (reads (next_of ds)) ≡ None
      → At (next_of ds) (drop (skip (printed rest values ++ z)) (printed rest values ++ z)) (printed rest values ++ z)
  next_ready ds [] proper cut start fault = absurd cc
  next_ready [] (u ∷ us) proper cut start fault = absurd cc
  next_ready (directive.Space ∷ ds) (u ∷ us) proper cut start fault = inr (refl, refl)
  next_ready (directive.Percent ∷ ds) (u ∷ us) proper cut start fault = inr (refl, refl)
  next_ready (directive.Byte b ∷ ds) (u ∷ us) proper (group, later, parts, is, more) start fault =
      unskipped (directive.Byte b) _ (literal_unskipped group later (u ∷ us) is.0 parts is.1 start)
  next_ready (directive.Opens o ∷ ds) (u ∷ us) proper (group, later, parts, is, more) start fault = absurd is
  next_ready (directive.Conv s ∷ ds) (u ∷ us) proper (group, later, parts, is, more) start fault =
      elim is [
        | inl p ↦ paired p (skips (directive.Conv s)) refl
        | inr l ↦ unskipped (directive.Conv s) _ (literal_unskipped group later (u ∷ us) l.byte parts l.group_is start)
      ]
    where
      paired : PairedReads values s group later (next_of ds) → (t : Bool) → skips (directive.Conv s) ≡ t
          → At (Some (directive.Conv s)) (drop (skip (printed (u ∷ us) values ++ z)) (printed (u ∷ us) values ++ z))
          (printed (u ∷ us) values ++ z)
      paired p true e = inr (e, refl)
      paired p false e =
          let b = rest_begins (directive.Conv s ∷ ds) u us proper.0 (group, later, parts, is, more) in
          let kept : keeps_space (reads (Some (directive.Conv s))) ≡ true =
          ap keeps_space (reads_assigned s p.conversion.slot p.slot) ∙ keeps_it s e p.no_count in
          let none : meet (first_of u (Some (directive.Conv s))) is_white ≡ false = not_met _ _ kept fault in
          unskipped (directive.Conv s) _ (first_unskipped (printed (u ∷ us) values ++ z)
          (first_out tried (first_of u (Some (directive.Conv s))) is_white (printed (u ∷ us) values ++ z) none b.byte b.first))
