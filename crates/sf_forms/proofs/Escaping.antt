-- Texts of which each byte is written by itself, and plain texts, which stand as they are.
use Rattle.std.proofs.Common.{◌≡◌, ℕ, suc, ◌+◌, ◌<◌, ◌≤◌, Bool, true, false, ◌&&◌, not, nat_eq, nat_le, cond, List, [], ◌∷◌, ◌++◌, length}
use Rattle.std.proofs.Common.{refl, ap, ◌∙◌, arith}
use Rattle.std.proofs.lemmas.Bool.{and_parts, not-true, leb-true, ne_eqb, le-ltb}
use Rattle.std.specs.List.{AllByRecursion, flat_map, prefix_len}
use Rattle.sf_forms.specs.declared.form.OutputForm.{OutputForm}
use Rattle.sf_forms.specs.declared.form.OutputForm.TheVariants.{Plain, Tsv, Json, Csv}
use Rattle.sf_forms.specs.Csv.{csv_escaped, is_bare}
use Rattle.sf_forms.specs.Escapes.{escaped_in, stays, stays_in_string, stays_in_table}
use Rattle.sf_forms.specs.JsonStrings.{json_escaped}
use Rattle.sf_forms.specs.Quotes.{is_plain}
use Rattle.sf_forms.specs.Tables.{tsv_escaped}
use Rattle.sf_forms.proofs.Quoting.{plain_escaped}

-- what a plain byte is
pub record Plainness (b : ℕ) : Type 0 where
  pub no_backslash : nat_eq b 92 ≡ false
  pub no_quote : nat_eq b 34 ≡ false
  pub above : 32 ≤ b
  pub below : b ≤ 126

pub plainness : (b : ℕ) → is_plain b ≡ true → Plainness b
plainness b e =
    let p = and_parts (not (nat_eq b 92)) (not (nat_eq b 34) && (nat_le 32 b && nat_le b 126)) e in
    let q = and_parts (not (nat_eq b 34)) (nat_le 32 b && nat_le b 126) p.1 in
    let r = and_parts (nat_le 32 b) (nat_le b 126) q.1 in
    record {
      no_backslash = not-true (nat_eq b 92) p.0;
      no_quote = not-true (nat_eq b 34) q.0;
      above = leb-true 32 b r.0;
      below = leb-true b 126 r.1;
    }

-- a writer that leaves plain bytes as they are leaves a plain text as it is
pub plain_text : (escape : ℕ → List ℕ) → ((b : ℕ) → is_plain b ≡ true → escape b ≡ b ∷ []) → (xs : List ℕ)
    → prefix_len is_plain xs ≡ length xs → flat_map escape xs ≡ xs
plain_text escape keeps [] e = refl
plain_text escape keeps (x ∷ xs) e = go (is_plain x) refl e (λ rest. plain_text escape keeps xs rest)
  where
    go : (t : Bool) → is_plain x ≡ t → cond t (1 + prefix_len is_plain xs) 0 ≡ suc (length xs)
        → (prefix_len is_plain xs ≡ length xs → flat_map escape xs ≡ xs) → flat_map escape (x ∷ xs) ≡ x ∷ xs
    go true is all h = ap (λ (t : List ℕ). t ++ flat_map escape xs) (keeps x is) ∙ ap (λ (t : List ℕ). x ∷ t) (h (omega (arith, all)))
    go false is all h = absurd (omega (arith, all))

-- each byte of a plain text is plain
pub all_plain : (xs : List ℕ) → prefix_len is_plain xs ≡ length xs → AllByRecursion (λ b. b < 128) xs
all_plain [] e = tt
all_plain (x ∷ xs) e = go (is_plain x) refl e (λ rest. all_plain xs rest)
  where
    go : (t : Bool) → is_plain x ≡ t → cond t (1 + prefix_len is_plain xs) 0 ≡ suc (length xs)
        → (prefix_len is_plain xs ≡ length xs → AllByRecursion (λ b. b < 128) xs) → AllByRecursion (λ b. b < 128) (x ∷ xs)
    go true is all h = (omega (arith, (plainness x is).below), h (omega (arith, all)))
    go false is all h = absurd (omega (arith, all))

pub tsv_keeps : (b : ℕ) → is_plain b ≡ true → tsv_escaped b ≡ b ∷ []
tsv_keeps b e =
    let p = plainness b e in
    rw (
      p.no_backslash,
      ne_eqb b 9 (λ is. omega (arith, is, p.above)),
      ne_eqb b 10 (λ is. omega (arith, is, p.above)),
      ne_eqb b 13
          (λ is. omega (arith, is, p.above)),
    ) refl

pub json_keeps : (b : ℕ) → is_plain b ≡ true → json_escaped b ≡ b ∷ []
json_keeps b e =
    let p = plainness b e in
    rw (
      p.no_quote,
      p.no_backslash,
      ne_eqb b 10 (λ is. omega (arith, is, p.above)),
      ne_eqb b 13 (λ is. omega (arith, is, p.above)),
      ne_eqb b 9 (λ is. omega (arith, is, p.above)),
      le-ltb b 32 p.above,
    ) refl

-- ---- bytes that stand as they are, in each form

table_keeps : (b : ℕ) → stays_in_table b ≡ true → tsv_escaped b ≡ b ∷ []
table_keeps b e =
    let p = and_parts (not (nat_eq b 92)) (not (nat_eq b 9) && (not (nat_eq b 10) && not (nat_eq b 13))) e in
    let q = and_parts (not (nat_eq b 9)) (not (nat_eq b 10) && not (nat_eq b 13)) p.1 in
    let r = and_parts (not (nat_eq b 10)) (not (nat_eq b 13)) q.1 in
    rw (not-true (nat_eq b 92) p.0, not-true (nat_eq b 9) q.0, not-true (nat_eq b 10) r.0, not-true (nat_eq b 13) r.1) refl

string_keeps : (b : ℕ) → stays_in_string b ≡ true → json_escaped b ≡ b ∷ []
string_keeps b e =
    let p = and_parts (not (nat_eq b 34)) (not (nat_eq b 92) && nat_le 32 b) e in
    let q = and_parts (not (nat_eq b 92)) (nat_le 32 b) p.1 in
    let above : 32 ≤ b = leb-true 32 b q.1 in
    rw (
      not-true (nat_eq b 34) p.0,
      not-true (nat_eq b 92) q.0,
      ne_eqb b 10 (λ is. omega (arith, is, above)),
      ne_eqb b 13 (λ is. omega (arith, is, above)),
      ne_eqb b 9 (λ is. omega (arith, is, above)),
      le-ltb b 32 above,
    ) refl

row_keeps : (b : ℕ) → is_bare b ≡ true → csv_escaped b ≡ b ∷ []
row_keeps b e =
    let p = and_parts (not (nat_eq b 44)) (not (nat_eq b 34) && (not (nat_eq b 10) && not (nat_eq b 13))) e in
    let q = and_parts (not (nat_eq b 34)) (not (nat_eq b 10) && not (nat_eq b 13)) p.1 in
    rw (not-true (nat_eq b 34) q.0) refl

pub stays_keeps : (form : OutputForm) (b : ℕ) → stays form b ≡ true → escaped_in form b ≡ b ∷ []
stays_keeps Plain b e = plain_escaped b e
stays_keeps Tsv b e = table_keeps b e
stays_keeps Json b e = string_keeps b e
stays_keeps Csv b e = row_keeps b e
