-- How a run that reads ahead moves on, and how it ends.
use Rattle.std.proofs.Common.{◌≡◌, ℕ, ◌+◌, ◌-◌, ◌<◌, ◌≤◌, ◌⊎◌, inl, inr, true, false, Bool, cond, List, [], ◌∷◌, ◌++◌, length, take, drop}
use Rattle.std.proofs.Common.{Option, Some, None, refl, sym, ap, ◌∙◌, arith, append_assoc, length-append, true≢false}
use Rattle.std.specs.Prelude.{IsSome}
use Rattle.std.proofs.lemmas.List.{append-nil, take-append-drop, length-take-le}
use Rattle.std.specs.Io.KnownBytes.{Consumes, IsAtEnd, prepend_known}
use Rattle.sf_format.specs.declared.directive.Directive.{Directive}
use Rattle.sf_format.specs.Widths.{width_sum}
use Rattle.sf_run.specs.outcome.Ending.{Ending}
use Rattle.sf_run.specs.outcome.Ending.TheVariants.{End, Fault}
use Rattle.sf_run.specs.Runs.{IsOpen}
use Rattle.sf_run.specs.Standing.{Standing, After, Gives, used_by, ran_out}
use Rattle.sf_read.specs.source.Counts.{counted_on}
use Rattle.sf_read.specs.source.Ahead.{Ahead}
use Rattle.sf_read.specs.Reading.{Reading, Driven}
use Rattle.sf_read.proofs.Blocks.{no_reads, used_more, read_more, all_some, tells_end}

-- ---- known bytes

pub consumes_some : (o p : Option (List ℕ)) (z bs : List ℕ) → o ≡ Some z → Consumes o p bs → (y : List ℕ) × (p ≡ Some y) × (z ≡ bs ++ y)
consumes_some None p z bs e h = absurd cc
consumes_some (Some x) None z bs e h = absurd h
consumes_some (Some x) (Some y) z bs e h = (y, refl, (let same : x ≡ z = cc in sym same ∙ h))

pub at_end_some : (o : Option (List ℕ)) (z : List ℕ) → IsAtEnd o → o ≡ Some z → z ≡ []
at_end_some None z h e = absurd cc
at_end_some (Some x) z h e = let same : x ≡ z = cc in sym same ∙ h

-- an input is what is held, and then what is to come
pub known_parts : (held : List ℕ) (o : Option (List ℕ)) (t : List ℕ) → prepend_known held o ≡ Some t
    → (z : List ℕ) × (o ≡ Some z) × (t ≡ held ++ z)
known_parts held None t e = cc
known_parts held (Some z) t e = (z, refl, cc)

-- ---- lists

-- what is taken of a piece and what is left of it are the piece
pub pieces : (x h z : List ℕ) (k : ℕ) → x ++ take k h ++ drop k h ++ z ≡ x ++ h ++ z
pieces x h z k = ap (λ (y : List ℕ). y ++ z) (append_assoc x (take k h) (drop k h) ∙ ap (λ (y : List ℕ). x ++ y) (take-append-drop k h))

glue : (t fed h z bs y : List ℕ) → t ≡ fed ++ h ++ z → h ≡ [] → z ≡ bs ++ y → t ≡ fed ++ bs ++ y
glue t fed h z bs y is none e = is ∙ rw (none, append-nil, e) (sym (append_assoc fed bs y))

-- what a read leaves of the input, where nothing was held
pub read_on : (o p : Option (List ℕ)) (t fed h z bs : List ℕ) → o ≡ Some z → t ≡ fed ++ h ++ z → h ≡ [] → Consumes o p bs
    → (y : List ℕ) × (p ≡ Some y) × (t ≡ fed ++ bs ++ y)
read_on o p t fed h z bs e is none b = let v = consumes_some o p z bs e b in (v.0, v.1, glue t fed h z bs v.0 is none v.2)

-- one more for what is held
one_more : (h : List ℕ) (a b : ℕ) → a ≤ b + 1 → (h ≡ [] → a ≤ b) → a ≤ b + length h
one_more [] a b p q = omega (arith, q refl)
one_more (x ∷ h) a b p q = omega arith

-- ---- moves

-- the run was handed nothing yet
pub started : {S : Type 0} {to_come : S → Option (List ℕ)} {reads failures : S → ℕ} {N : ℕ} {ds : List Directive} {m : ℕ} (old : Ahead S)
    {s : Standing}
    → After ds m s [] → Reading to_come reads failures N ds m old old s
started {to_come = to_come} old after = record {
  fed = [];
  after = after;
  used = omega (arith, after.within);
  within = omega arith;
  input = λ t e. known_parts old.held (to_come old.source) t e;
  waited = no_reads [] old refl refl;
  some = λ _ front block back e. absurd (omega (arith, ap length e, length-append front (block ∷ back)));
  told_end = λ open' e. absurd (true≢false (sym e ∙ open'));
  count = omega arith;
  no_block = λ _ _. omega arith;
  no_failure = refl;
  quiet = λ at_end. (refl, at_end);
}

-- the run took all that was held, and waits
pub fed_more : {S : Type 0} {to_come : S → Option (List ℕ)} {reads failures : S → ℕ} {N : ℕ} {ds : List Directive} {m : ℕ}
    {old now mid : Ahead S} {s t : Standing} (piece : List ℕ)
    → Reading to_come reads failures N ds m old now s → piece ≡ now.held
    → ((x : List ℕ) → After ds m s x → After ds m t (x ++ piece)) → ((x : List ℕ) → After ds m s x → used_by t ≡ length (x ++ piece))
    → ((x : List ℕ) → After ds m s x → IsOpen ds (x ++ piece) × (length (x ++ piece) ≤ m))
    → mid.held ≡ [] → mid.source ≡ now.source → mid.at_end ≡ now.at_end
    → (r : Reading to_come reads failures N ds m old mid t) × IsOpen ds r.fed
fed_more {reads = reads} {ds = ds} {m = m} {old = old} {now = now} {mid = mid} piece r is after used waits none source at_end = (
  record {
    fed = r.fed ++ piece;
    after = after r.fed r.after;
    used = used r.fed r.after;
    within = (waits r.fed r.after).1;
    input = λ t e. let w = r.input t e in (w.0, rw source w.1, rw (none, append-nil, is) w.2);
    waited = used_more (r.fed ++ piece) mid r.waited source (rw (none, append-nil, is) refl) (omega (arith, length-append r.fed piece));
    some = λ open'. r.some (sym at_end ∙ open');
    told_end = λ open' e. r.told_end open' (sym at_end ∙ e);
    count = rw source (omega (arith, r.count, length-append r.fed piece));
    no_block = λ _ open'. let block : reads now.source ≤ reads old.source + length r.fed + length now.held =
        one_more now.held (reads now.source) (reads old.source + length r.fed) r.count (λ e. r.no_block e (sym at_end ∙ open')) in
        rw source (omega (arith, block, length-append r.fed piece, ap length is));
    no_failure = rw source r.no_failure;
    quiet = λ e. (source ∙ (r.quiet e).0, at_end ∙ (r.quiet e).1);
  },
  (waits r.fed r.after).0,
)

-- a block was read, or the end was told
pub refilled : {S : Type 0} {to_come : S → Option (List ℕ)} {reads failures : S → ℕ} {N : ℕ} {ds : List Directive} {m : ℕ}
    {old mid new : Ahead S} {s : Standing}
    → (r : Reading to_come reads failures N ds m old mid s) × IsOpen ds r.fed → mid.held ≡ [] → mid.at_end ≡ false
    → reads new.source ≡ counted_on (reads mid.source) → failures new.source ≡ failures mid.source
    → Consumes (to_come mid.source) (to_come new.source) new.held
    → length new.held ≤ N → ((new.at_end ≡ false) × (0 < length new.held)) ⊎ ((new.at_end ≡ true) × (new.held ≡ []))
    → Reading to_come reads failures N ds m old new s
refilled {to_come = to_come} {old = old} {mid = mid} {new = new} (r, open_run) none open' count no_failure bytes few ends = record {
  fed = r.fed;
  after = r.after;
  used = r.used;
  within = r.within;
  input = λ t e. let w = r.input t e in read_on (to_come mid.source) (to_come new.source) t r.fed mid.held w.0 new.held w.1 w.2 none bytes;
  waited = read_more new r.waited (r.some open') none (open_run, r.within) few count bytes (λ e. let g = (r.quiet e).1 in cc);
  some = λ f. elim ends [ inl w ↦ all_some new r.waited w.1 (r.some open') | inr w ↦ absurd (let g = w.0 in cc) ];
  told_end = λ _ e. elim ends [
    | inl w ↦ absurd (true≢false (sym e ∙ w.0))
    | inr w ↦ (r.waited.blocks, ap (λ (b : List ℕ). r.waited.blocks ++ b ∷ []) w.1)
  ];
  count = omega (arith, r.no_block none open', count);
  no_block = λ e f. elim ends [ inl w ↦ absurd (omega (arith, w.1, ap length e)) | inr w ↦ absurd (let g = w.0 in cc) ];
  no_failure = no_failure ∙ r.no_failure;
  quiet = λ e. absurd (let g = (r.quiet e).1 in cc);
}

-- ---- ends

-- the run ended by itself
pub ended : {S : Type 0} {to_come : S → Option (List ℕ)} {reads failures : S → ℕ} {N : ℕ} {ds : List Directive} {m : ℕ}
    {old now new : Ahead S} {s t : Standing} (piece : List ℕ) (k : ℕ)
    → Reading to_come reads failures N ds m old now s → piece ≡ now.held → k ≤ length piece → used_by t ≡ used_by s + k
    → ((x z : List ℕ) (ending : Ending) → After ds m s x → Gives ds m t (x ++ piece ++ z) ending)
    → ((x : List ℕ) → IsSome (width_sum ds) → After ds m s x → ran_out t ≡ false)
    → new.held ≡ drop k now.held → new.source ≡ now.source → new.at_end ≡ now.at_end → (new.at_end ≡ true → IsAtEnd (to_come new.source))
    → Driven to_come reads failures N ds m old new t
ended {to_come = to_come} {ds = ds} {m = m} {old = old} {now = now} {new = new}
    {t = t} piece k r is le used gives bounded held source at_end told = record {
      bytes = r.fed ++ take k now.held;
      used = let le' : k ≤ length now.held = omega (arith, ap length is) in
          omega (arith, used, r.used, length-append r.fed (take k now.held), length-take-le k now.held le');
      input = λ t e. let w = r.input t e in (w.0, rw source w.1, rw (held, pieces r.fed now.held w.0 k) w.2);
      waited = used_more (r.fed ++ take k now.held) new r.waited source (rw (held, append_assoc, take-append-drop) refl)
          (omega (arith, length-append r.fed (take k now.held)));
      told = λ e z f. at_end_some (to_come new.source) z (told e) f;
      told_end = λ open' e. r.told_end open' (sym at_end ∙ e);
      count = rw source (omega (arith, r.count, length-append r.fed (take k now.held)));
      quiet = λ e. (source ∙ (r.quiet e).0, at_end ∙ (r.quiet e).1);
      bounded = λ sum. bounded r.fed sum r.after;
      ends = inl (record {
        no_failure = rw source r.no_failure;
        gave_nothing = λ h. tells_end r.waited.blocks new.at_end (λ open'. r.some (sym at_end ∙ open')) h;
        gives = λ z ending _. rw (held, pieces r.fed now.held z k, ← is) (gives r.fed z ending r.after);
      });
    }

-- the source has told its end
pub ended_at_end : {S : Type 0} {to_come : S → Option (List ℕ)} {reads failures : S → ℕ} {N : ℕ} {ds : List Directive} {m : ℕ}
    {old mid : Ahead S} {s t : Standing}
    → Reading to_come reads failures N ds m old mid s → mid.held ≡ [] → mid.at_end ≡ true → IsAtEnd (to_come mid.source)
    → used_by t ≡ used_by s → ran_out t ≡ false → ((x : List ℕ) → After ds m s x → Gives ds m t x End)
    → Driven to_come reads failures N ds m old mid t
ended_at_end {to_come = to_come} {ds = ds} {m = m} {mid = mid} {t = t} r none at_end told used stored gives = record {
  bytes = r.fed;
  used = used ∙ r.used;
  input = r.input;
  waited = r.waited;
  told = λ _ z f. at_end_some (to_come mid.source) z told f;
  told_end = r.told_end;
  count = r.count;
  quiet = r.quiet;
  bounded = λ sum. stored;
  ends = inl (record {
    no_failure = r.no_failure;
    gave_nothing = λ _. at_end;
    gives = λ z ending follows. let w = follows at_end in rw (none, append-nil, w.0, append-nil, w.1) (gives r.fed r.after);
  });
}

-- the source failed
pub failed : {S : Type 0} {to_come : S → Option (List ℕ)} {reads failures : S → ℕ} {N : ℕ} {ds : List Directive} {m : ℕ}
    {old mid new : Ahead S} {s t : Standing}
    → (r : Reading to_come reads failures N ds m old mid s) × IsOpen ds r.fed → mid.held ≡ [] → mid.at_end ≡ false
    → reads new.source ≡ counted_on (reads mid.source) → failures new.source ≡ counted_on (failures mid.source)
    → Consumes (to_come mid.source) (to_come new.source) new.held
    → (new.at_end ≡ false) × (new.held ≡ []) → used_by t ≡ used_by s → ran_out t ≡ false
    → ((x : List ℕ) → After ds m s x → Gives ds m t x Fault) → Driven to_come reads failures N ds m old new t
failed {to_come = to_come} {old = old} {mid = mid} {new = new} (r, open_run) none open' count failure bytes ends used stored gives =
    record {
      bytes = r.fed;
      used = used ∙ r.used;
      input = λ t e. let w = r.input t e in
          read_on (to_come mid.source) (to_come new.source) t r.fed mid.held w.0 new.held w.1 w.2 none bytes;
      waited = read_more new r.waited (r.some open') none (open_run, r.within) (omega (arith, ap length ends.1)) count bytes
          (λ e. let g = (r.quiet e).1 in cc);
      told = λ e. absurd (let g = ends.0 in cc);
      told_end = λ _ e. absurd (let g = ends.0 in cc);
      count = omega (arith, r.no_block none open', count);
      quiet = λ e. absurd (let g = (r.quiet e).1 in cc);
      bounded = λ sum. stored;
      ends = inr (record {
        one_failure = failure ∙ ap counted_on r.no_failure;
        nothing = ends.1;
        not_at_end = ends.0;
        gave_nothing = (r.waited.blocks, ap (λ (b : List ℕ). r.waited.blocks ++ b ∷ []) ends.1);
        gives = gives r.fed r.after;
        stored = stored;
        waits = (open_run, r.within);
      });
    }

-- ---- the measure of the loop

pub falls : (limit u v n : ℕ) (a b : Bool) (held : List ℕ) → a ≡ false → v ≡ u + n → v ≤ limit
    → ((b ≡ false) × (0 < length held)) ⊎ ((b ≡ true) × (held ≡ []))
    → limit + 1 - (v + length held) + cond b 0 1 < limit + 1 - (u + n) + cond a 0 1
falls limit u v n a b held open' used le (inl w) = rw (open', w.0) (omega (arith, w.1))
falls limit u v n a b held open' used le (inr w) = rw (open', w.0, w.1) (omega arith)
