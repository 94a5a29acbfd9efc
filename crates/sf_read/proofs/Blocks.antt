-- What the reads of a call gave, one read after the other.
use Rattle.std.proofs.Common.{◌≡◌, ◌≤◌, ◌<◌, ◌⊎◌, inl, inr, Bool, true, false, ℕ, suc, List, [], ◌∷◌, ◌++◌, length, Option, Some, None}
use Rattle.std.proofs.Common.{refl, sym, ap, ap₂, subst, ◌∙◌, arith, append_assoc, append-nil, length-append}
use Rattle.std.specs.List.{concat}
use Rattle.std.specs.Io.KnownBytes.{Consumes, prepend_known}
use Rattle.std.proofs.KnownBytes.{Consumes-nil, Consumes-trans}
use Rattle.std.proofs.lemmas.List.Folds.{concat-append}
use Rattle.sf_read.specs.source.Ahead.{Ahead}
use Rattle.sf_read.specs.source.Counts.{counted_on}
use Rattle.sf_read.specs.Reads.{EndsInNothing, ReadsWhile, counted_by}

abbrev pub Blocks : Type 0
Blocks = List (List ℕ)

-- a list with one more is cut at that one, or before it
pub cut_of_more : (blocks : Blocks) (more : List ℕ) (front : Blocks) (block : List ℕ) (back : Blocks)
    → blocks ++ more ∷ [] ≡ front ++ block ∷ back → ((front ≡ blocks) × (block ≡ more) × (back ≡ []))
    ⊎ ((rest : Blocks) × (blocks ≡ front ++ block ∷ rest))
cut_of_more [] more [] block back e = inl (refl, (let same = e in cc), (let same = e in cc))
cut_of_more [] more (f ∷ front) block back e = absurd (omega (arith, ap length e, length-append front (block ∷ back)))
cut_of_more (x ∷ blocks) more [] block back e = inr (blocks, ap (λ y. y ∷ blocks) (let same = e in cc))
cut_of_more (x ∷ blocks) more (f ∷ front) block back e =
    let first : f ≡ x = (let same = e in cc) in
    let rest : blocks ++ more ∷ [] ≡ front ++ block ∷ back = (let same = e in cc) in
    elim (cut_of_more blocks more front block back rest) [
      | inl w ↦ inl (ap₂ (λ (a : List ℕ) (bs : Blocks). a ∷ bs) first w.0, w.1, w.2)
      | inr w ↦ inr (w.0, ap₂ (λ (a : List ℕ) (bs : Blocks). a ∷ bs) (sym first) w.1)
    ]

module _ {S : Type 0} {to_come : S → Option (List ℕ)} {reads : S → ℕ} {N : ℕ} {Waits : List ℕ → Type 0} {old : Ahead S} where
  -- nothing was read
  abbrev pub no_reads : (bytes : List ℕ) (new : Ahead S) → bytes ++ new.held ≡ old.held → new.source ≡ old.source
      → ReadsWhile to_come reads N Waits old bytes new
  no_reads bytes new is source = record {
    blocks = [];
    gave = is ∙ sym (append-nil old.held);
    taken = subst (λ (s : S). Consumes (to_come old.source) (to_come s) []) (sym source) (Consumes-nil (to_come old.source));
    count = ap reads source;
    unread = λ _. source;
    at_end = λ _. refl;
    each = λ front block back e. absurd (omega (arith, ap length e, length-append front (block ∷ back)));
  }

  -- more of what is held was used
  abbrev pub used_more : {now : Ahead S} {x : List ℕ} (y : List ℕ) (new : Ahead S) → ReadsWhile to_come reads N Waits old x now
      → new.source ≡ now.source → y ++ new.held ≡ x ++ now.held → length x ≤ length y → ReadsWhile to_come reads N Waits old y new
  used_more y new r source is long = record {
    blocks = r.blocks;
    gave = is ∙ r.gave;
    taken = subst (λ (s : S). Consumes (to_come old.source) (to_come s) (concat r.blocks)) (sym source) r.taken;
    count = ap reads source ∙ r.count;
    unread = λ e. source ∙ r.unread e;
    at_end = r.at_end;
    each = λ front block back e. let one = r.each front block back e in record {
      few = one.few;
      waited = one.waited;
      all_used = omega (arith, one.all_used, long);
      last = one.last;
    };
  }

  -- one more read, where all that was held has been used
  abbrev pub read_more : {now : Ahead S} {x : List ℕ} (new : Ahead S) (r : ReadsWhile to_come reads N Waits old x now)
      → ((front : Blocks) (block : List ℕ) (back : Blocks) → r.blocks ≡ front ++ block ∷ back → 0 < length block)
      → now.held ≡ [] → Waits x → length new.held ≤ N → reads new.source ≡ counted_on (reads now.source)
      → Consumes (to_come now.source) (to_come new.source) new.held
      → (old.at_end ≡ true → ⊥) → ReadsWhile to_come reads N Waits old x new
  read_more {now = now} {x = x} new r some none waits few count bytes open' =
      let all : x ≡ old.held ++ concat r.blocks = sym (append-nil x) ∙ ap (λ (h : List ℕ). x ++ h) (sym none) ∙ r.gave in
      let one : concat (new.held ∷ []) ≡ new.held = append-nil new.held in
      let joined : concat (r.blocks ++ new.held ∷ []) ≡ concat r.blocks ++ new.held =
      concat-append r.blocks (new.held ∷ []) ∙ ap (λ (h : List ℕ). concat r.blocks ++ h) one in
      record {
        blocks = r.blocks ++ new.held ∷ [];
        gave = ap (λ (y : List ℕ). y ++ new.held) all ∙ append_assoc old.held (concat r.blocks) new.held
            ∙ ap (λ (y : List ℕ). old.held ++ y) (sym joined);
        taken = subst (Consumes (to_come old.source) (to_come new.source)) (sym joined)
            (Consumes-trans (to_come old.source) (to_come now.source) (to_come new.source) (concat r.blocks) new.held r.taken bytes);
        count = count ∙ ap counted_on r.count ∙ ap (λ (k : ℕ). counted_by k (reads old.source)) {x = suc (length r.blocks)}
            {y = length (r.blocks ++ new.held ∷ [])}
            (omega (arith, length-append r.blocks (new.held ∷ [])));
        unread = λ e. absurd (omega (arith, ap length e, length-append r.blocks (new.held ∷ [])));
        at_end = λ e. absurd (open' e);
        each = λ front block back e. elim (cut_of_more r.blocks new.held front block back e) [
          | inl (is_front, is_block, is_back) ↦ let so_far : old.held ++ concat front ≡ x =
              ap (λ (f : Blocks). old.held ++ concat f) is_front ∙ sym all in record {
                few = subst (λ (b : List ℕ). length b ≤ N) (sym is_block) few;
                waited = subst Waits (sym so_far) waits;
                all_used = omega (arith, ap length so_far);
                last = λ _. is_back;
              }
          | inr (rest, is) ↦ let before = r.each front block rest is in record {
            few = before.few;
            waited = before.waited;
            all_used = before.all_used;
            last = λ nothing. absurd (omega (arith, some front block rest is, ap length nothing));
          }
        ];
      }

  -- where the last read gave something, all did
  pub all_some : {now : Ahead S} {x : List ℕ} (new : Ahead S) (r : ReadsWhile to_come reads N Waits old x now) → 0 < length new.held
      → ((front : Blocks) (block : List ℕ) (back : Blocks) → r.blocks ≡ front ++ block ∷ back → 0 < length block)
      → (front : Blocks) (block : List ℕ) (back : Blocks) → r.blocks ++ new.held ∷ [] ≡ front ++ block ∷ back → 0 < length block
  all_some new r here some front block back e = elim (cut_of_more r.blocks new.held front block back e) [
    | inl w ↦ omega (arith, here, ap length w.1)
    | inr w ↦ some front block w.0 w.1
  ]

-- where each block has some byte until the end is told, one that has none tells it
pub tells_end : (blocks : Blocks) (at_end : Bool)
    → (at_end ≡ false → (front : Blocks) (block : List ℕ) (back : Blocks) → blocks ≡ front ++ block ∷ back → 0 < length block)
    → EndsInNothing blocks → at_end ≡ true
tells_end blocks true some (front, is) = refl
tells_end blocks false some (front, is) = let none = some refl front [] [] is in absurd (omega (arith, none))

-- no block is none that gave nothing
pub not_nothing : EndsInNothing [] → ⊥
not_nothing (front, is) = absurd (omega (arith, ap length is, length-append front ([] ∷ [])))

-- the input is what was used, and then what is held and to come
pub input_is : (o p : Option (List ℕ)) (held left bytes given t rest : List ℕ) → prepend_known held o ≡ Some t
    → prepend_known left p ≡ Some rest
    → bytes ++ left ≡ held ++ given → Consumes o p given → t ≡ bytes ++ rest
input_is None p held left bytes given t rest e f gave taken = absurd cc
input_is (Some x) None held left bytes given t rest e f gave taken = absurd taken
input_is (Some x) (Some y) held left bytes given t rest e f gave taken =
    let whole : held ++ x ≡ t = (let same = e in cc) in
    let after : left ++ y ≡ rest = (let same = f in cc) in
    sym whole ∙ ap (λ (l : List ℕ). held ++ l) taken ∙ sym (append_assoc held given y) ∙ ap (λ (l : List ℕ). l ++ y) (sym gave)
    ∙ append_assoc bytes left y ∙ ap (λ (l : List ℕ). bytes ++ l) after
