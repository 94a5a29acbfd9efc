-- Texts on their way to a sink, piece after piece.
use Rattle.std.proofs.Common.{◌≡◌, ℕ, ◌+◌, ◌<◌, List, [], ◌++◌, length, take, drop, subst, refl, sym, ap, ◌∙◌, arith, append_assoc}
use Rattle.std.proofs.Common.{append-nil, length-append, Option, Result, Ok, Err, replicate, get_or}
use Rattle.std.proofs.lemmas.List.{replicate-append-replicate, take-append-drop, drop_more}
use Rattle.std.proofs.lemmas.List.Concat.{flat_map-append}
use Rattle.std.proofs.Math.Seq.{take-append_seam}
use Rattle.std.specs.List.{flat_map}
use Rattle.std.specs.Result.{IsErrAnd}
use Rattle.std.specs.Io.KnownBytes.{Appends}
use Rattle.sf_print.specs.declared.stage.Stage.{Stage}
use Rattle.sf_print.specs.Staged.{held, Holds, Broke, Puts}
use Rattle.sf_print.proofs.TextLemmas.Joined.{flat_map_more}
use Rattle.sf_print.proofs.Appending.{Appends-then, Appends-none, Appends-same}

-- all of the piece was put: from this many taken and these held to that many taken and those held
abbrev pub PutsAll : Option (List ℕ) → ℕ → List ℕ → Option (List ℕ) → ℕ → List ℕ → List ℕ → Type 0
PutsAll was w h now v k piece = (old : Option (List ℕ)) (text : List ℕ) → Holds old was w h text → Holds old now v k (text ++ piece)

-- the sink failed within the piece
abbrev pub Stops : Option (List ℕ) → ℕ → List ℕ → Option (List ℕ) → ℕ → List ℕ → Type 0
Stops was w h now v piece = (old : Option (List ℕ)) (text : List ℕ) → Holds old was w h text → Broke old now v (text ++ piece)

regroup : (f h p g r : List ℕ) (text : List ℕ) → text ≡ f ++ h → h ++ p ≡ g ++ r → text ++ p ≡ (f ++ g) ++ r
regroup f h p g r text e k = ap (λ (t : List ℕ). t ++ p) e ∙ append_assoc f h p ∙ ap (λ (t : List ℕ). f ++ t) k ∙ sym (append_assoc f g r)

-- the sink took a front of what was held and the piece, and the rest is held
pub moved : (was now : Option (List ℕ)) (w v : ℕ) (h k piece front : List ℕ) → h ++ piece ≡ front ++ k → Appends was now front
    → v ≡ w + length front → PutsAll was w h now v k piece
moved was now w v h k piece front e took count = λ old text (before, known, counted, is). (
  before ++ front,
  Appends-then old was now before front known took,
  omega (arith, counted, count, length-append before front),
  regroup before h piece front k text is e,
)

-- the sink took a front of what was held and the piece, and failed
pub failed : (was now : Option (List ℕ)) (w v : ℕ) (h piece front rest : List ℕ) → h ++ piece ≡ front ++ rest → Appends was now front
    → v ≡ w + length front → 0 < length rest → Stops was w h now v piece
failed was now w v h piece front rest e took count more = λ old text (before, known, counted, is). (
  before ++ front,
  rest,
  Appends-then old was now before front known took,
  omega (arith, counted, count, length-append before front),
  regroup before h piece front rest text is e,
  more,
)

-- the piece is held
pub stays : (now : Option (List ℕ)) (w v : ℕ) (h k piece : List ℕ) → k ≡ h ++ piece → v ≡ w → PutsAll now w h now v k piece
stays now w v h k piece e count = moved now now w v h k piece [] (sym e) (Appends-none now) (omega arith)

pub none_put : (now : Option (List ℕ)) (w : ℕ) (h : List ℕ) → PutsAll now w h now w h []
none_put now w h = stays now w w h h [] (sym (append-nil h)) refl

pub PutsAll-same : (a b : Option (List ℕ)) (w v : ℕ) (h k p q : List ℕ) → p ≡ q → PutsAll a w h b v k p → PutsAll a w h b v k q
PutsAll-same a b w v h k p q e all = let F : List ℕ → Type 0 = λ x. PutsAll a w h b v k x in subst F e all

-- two pieces were put
pub PutsAll-then : (a b d : Option (List ℕ)) (w v u : ℕ) (h k l p q : List ℕ) → PutsAll a w h b v k p → PutsAll b v k d u l q
    → PutsAll a w h d u l (p ++ q)
PutsAll-then a b d w v u h k l p q first second = λ old text e.
    let F : List ℕ → Type 0 = λ x. Holds old d u l x in
    subst F (append_assoc text p q) (second old (text ++ p) (first old text e))

-- the sink failed in the second of two pieces
pub Stops-then : (a b d : Option (List ℕ)) (w v u : ℕ) (h k p q : List ℕ) → PutsAll a w h b v k p → Stops b v k d u q
    → Stops a w h d u (p ++ q)
Stops-then a b d w v u h k p q first second = λ old text e.
    let F : List ℕ → Type 0 = λ x. Broke old d u x in
    subst F (append_assoc text p q) (second old (text ++ p) (first old text e))

-- the sink failed in the first of two pieces
pub Stops-front : (a b : Option (List ℕ)) (w v : ℕ) (h p q : List ℕ) → Stops a w h b v p → Stops a w h b v (p ++ q)
Stops-front a b w v h p q stop = λ old text e.
    let (front, rest, known, count, is, more) = stop old text e in
    let cut = sym (append_assoc text p q) ∙ ap (λ (x : List ℕ). x ++ q) is ∙ append_assoc front rest q in
    (front, rest ++ q, known, count, cut, omega (arith, more, length-append rest q))

-- the sink failed at one of the middle pieces
pub Stops-middle : (a b d : Option (List ℕ)) (w v u : ℕ) (h k p q rest all : List ℕ) → PutsAll a w h b v k p → Stops b v k d u q
    → all ≡ p ++ (q ++ rest) → Stops a w h d u all
Stops-middle a b d w v u h k p q rest all first second e =
    let F : List ℕ → Type 0 = λ x. Stops a w h d u x in
    subst F (sym e) (Stops-then a b d w v u h k p (q ++ rest) first (Stops-front b d v u k q rest second))

-- a joined list, cut at one of its parts
pub flat_map_cut : {X : Type 0} (f : X → List ℕ) (xs : List X) (i : ℕ) (d : X) → i < length xs
    → flat_map f xs ≡ flat_map f (take i xs) ++ (f (get_or xs i d) ++ flat_map f (drop (i + 1) xs))
flat_map_cut {X} f xs i d h =
    ap (flat_map f) (sym (take-append-drop i xs)) ∙ flat_map-append f (take i xs) (drop i xs)
    ∙ ap (λ (t : List X). flat_map f (take i xs) ++ flat_map f t) (drop_more xs i d h)

-- nothing is held
pub empty_held : (s : Stage) → s.len ≡ 0 → held s ≡ []
empty_held s e = ap (λ (n : ℕ). take n s.buf) e

pub all_taken : (piece before after : List ℕ) → before ≡ [] → after ≡ [] → before ++ piece ≡ piece ++ after
all_taken piece before after e f = ap (λ (t : List ℕ). t ++ piece) e ∙ sym (append-nil piece) ∙ ap (λ (t : List ℕ). piece ++ t) (sym f)

-- an error of a call is handed on
pub handed_on : {A E : Type 0} (was now : Option (List ℕ)) (s t : Stage) (piece : List ℕ) (r : Result A E) (P : E → Type 0) → IsErrAnd r P
    → Stops was s.written (held s) now t.written piece → Puts was s now t piece r
handed_on was now s t piece (Ok x) P h k = absurd h
handed_on was now s t piece (Err e) P h k = k

-- a piece, and then what a call puts
pub Puts-then : {A E : Type 0} (a b d : Option (List ℕ)) (s t u : Stage) (p q : List ℕ) (r : Result A E)
    → PutsAll a s.written (held s) b t.written (held t) p → Puts b t d u q r → Puts a s d u (p ++ q) r
Puts-then a b d s t u p q (Ok x) h k = PutsAll-then a b d s.written t.written u.written (held s) (held t) (held u) p q h k
Puts-then a b d s t u p q (Err e) h k = Stops-then a b d s.written t.written u.written (held s) (held t) p q h k

-- two runs of one byte
pub runs : (a b n x : ℕ) → a + b ≡ n → replicate a x ++ replicate b x ≡ replicate n x
runs a b n x e = replicate-append-replicate a b x ∙ ap (λ (k : ℕ). replicate k x) e

pub Puts-same : {A E : Type 0} (a b : Option (List ℕ)) (s t : Stage) (p q : List ℕ) (r : Result A E) → p ≡ q → Puts a s b t p r
    → Puts a s b t q r
Puts-same a b s t p q r e puts = let F : List ℕ → Type 0 = λ x. Puts a s b t x r in subst F e puts

pub length_more : {X : Type 0} (f : X → List ℕ) (xs : List X) (i : ℕ) (d : X) → i < length xs
    → length (flat_map f (take i xs)) + length (f (get_or xs i d)) ≡ length (flat_map f (take (i + 1) xs))
length_more {X} f xs i d h = sym (length-append (flat_map f (take i xs)) (f (get_or xs i d))) ∙ ap length (flat_map_more f xs i d h)

-- nothing was put yet
pub begins : (now : Option (List ℕ)) (s : Stage) → s.len ≡ 0 → s.written ≡ 0 → Holds now now s.written (held s) []
begins now s e w = ([], Appends-none now, w, sym (empty_held s e))

-- nothing is held any more
pub all_written : (a b : Option (List ℕ)) (s t : Stage) (p : List ℕ) → s.len ≡ 0 → s.written ≡ 0 → t.len ≡ 0
    → PutsAll a s.written (held s) b t.written (held t) (p ++ []) → Appends a b p
all_written a b s t p e w none all =
    let (front, known, count, is) = all a [] (begins a s e w) in
    Appends-same a b front p (sym (sym (append-nil p) ∙ is ∙ ap (λ (x : List ℕ). front ++ x) (empty_held t none) ∙ append-nil front)) known

-- the sink failed after a front
pub front_written : (a b : Option (List ℕ)) (s : Stage) (v : ℕ) (p : List ℕ) → s.len ≡ 0 → s.written ≡ 0 → Stops a s.written (held s) b v p
    → Appends a b (take v p) × (v < length p)
front_written a b s v p e w stop =
    let (front, rest, known, count, is, more) = stop a [] (begins a s e w) in
    let same : take v p ≡ front = (λ i. take (count i) (is i)) ∙ take-append_seam front rest in
    (Appends-same a b front (take v p) (sym same) known, omega (arith, count, more, ap length is, length-append front rest))
