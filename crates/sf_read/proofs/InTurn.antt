-- Scans in a row are the runs of one input.
use Rattle.std.proofs.Common.{◌≡◌, ◌+◌, ℕ, zero, suc, List, [], ◌∷◌, ◌++◌, length, take, drop, true, Option, refl, sym, ap, ap₂, subst, ◌∙◌}
use Rattle.std.proofs.Common.{arith, append_assoc, append-nil, length-append}
use Rattle.std.specs.List.{concat}
use Rattle.std.specs.Io.KnownBytes.{Consumes}
use Rattle.std.proofs.KnownBytes.{Consumes-nil, Consumes-trans}
use Rattle.std.proofs.lemmas.List.Folds.{concat-append}
use Rattle.sf_run.specs.outcome.Ending.TheVariants.{End, Fault}
use Rattle.sf_run.specs.Limits.{RunTold, RunWithin}
use Rattle.sf_read.specs.source.Ahead.{Ahead, input_of}
use Rattle.sf_read.specs.source.Counts.{counted_on}
use Rattle.sf_read.specs.Laws.{IsRunOf, MadeInTurn, ReadsAreOneInput, RunsInTurn, ScanMade, ScansAreRuns}
use Rattle.sf_read.specs.Laws.{blocks_in_turn, bytes_in_turn}
use Rattle.sf_read.specs.Made.{Made}
use Rattle.sf_read.specs.Reads.{counted_by}
use Rattle.sf_read.specs.Scan.{MayFollow}
use Rattle.sf_read.proofs.Endings.{back, front}

pub scans_are_runs : {S : Type 0} (to_come : S → Option (List ℕ)) → ScansAreRuns to_come
scans_are_runs to_come old new [] is t e = (t, refl, ap (input_of to_come) (sym is) ∙ e)
scans_are_runs to_come old new (s ∷ scans) (mid, scan, more) t e =
    let first = scan t e in
    let (left, runs, rest) = scans_are_runs to_come mid new scans more _ first.rest in
    (left, (record { whole = first.whole; cut = first.cut }, runs), rest)

-- ---- whatever the source says of itself

-- the count of some reads, and then of more
pub counted_more : (a b c n : ℕ) → c ≡ b + a → counted_by b (counted_by a n) ≡ counted_by c n
counted_more a zero c n e = let is : a ≡ c = omega arith in ap (λ (k : ℕ). counted_by k n) is
counted_more a (suc b) c n e =
    let is : c ≡ suc (b + a) = omega arith in
    ap counted_on (counted_more a b (b + a) n refl) ∙ ap (λ (k : ℕ). counted_by k n) (sym is)

-- what a call used and left, and what came later, are what was held and what both gave
pub joined : (bytes used mid_held held left here later : List ℕ) → bytes ++ mid_held ≡ held ++ here → used ++ left ≡ mid_held ++ later
    → bytes ++ used ++ left ≡ held ++ (here ++ later)
joined bytes used mid_held held left here later first rest =
    append_assoc bytes used left ∙ ap (λ (x : List ℕ). bytes ++ x) rest ∙ sym (append_assoc bytes mid_held later)
    ∙ ap (λ (x : List ℕ). x ++ later) first ∙ append_assoc held here later

-- the input of a call: what was held, what its reads gave, and what comes later
pub input_here : (held here later z : List ℕ) → held ++ (here ++ later) ++ z ≡ held ++ here ++ (later ++ z)
input_here held here later z =
    ap (λ (x : List ℕ). x ++ z) (sym (append_assoc held here later)) ∙ append_assoc (held ++ here) later z

module _ {S : Type 0} (to_come : S → Option (List ℕ)) (reads : S → ℕ) (N : ℕ) where
  -- after an end that was told nothing is read
  quiet : (old : Ahead S) (scans : List ScanMade) (new : Ahead S) (made : MadeInTurn to_come reads N old scans new) → old.at_end ≡ true
      → (blocks_in_turn to_come reads N old scans new made ≡ []) × (new.at_end ≡ true)
  quiet old [] new is e = (refl, ap (λ (a : Ahead S). a.at_end) (sym is) ∙ e)
  quiet old (s ∷ scans) new (mid, made, more) e =
      let later = quiet mid scans new more (made.stays e) in
      (ap₂ (λ (a b : List (List ℕ)). a ++ b) (made.reads_are.at_end e) later.0, later.1)

  -- the first of them is a run of the whole input
  pub first_run : (old mid : Ahead S) (s : ScanMade) (made : Made to_come reads N s.directives s.limit old mid s.report) (later z : List ℕ)
      → MayFollow mid (later ++ z) End → IsRunOf (old.held ++ (concat made.reads_are.blocks ++ later) ++ z) s
      × (drop s.report.used (old.held ++ (concat made.reads_are.blocks ++ later) ++ z) ≡ mid.held ++ later ++ z)
  first_run old mid s made later z follows =
      let here : List ℕ = concat made.reads_are.blocks in
      let t : List ℕ = old.held ++ (here ++ later) ++ z in
      let input : t ≡ old.held ++ here ++ (later ++ z) = input_here old.held here later z in
      let parts : t ≡ made.bytes ++ mid.held ++ (later ++ z) = input ∙ ap (λ (x : List ℕ). x ++ (later ++ z)) (sym made.reads_are.gave) in
      let took : take s.report.used t ≡ made.bytes = front t made.bytes mid.held (later ++ z) s.report.used parts made.used in
      let left : drop s.report.used t ≡ mid.held ++ (later ++ z) =
      back t made.bytes mid.held (later ++ z) s.report.used parts made.used in (
        record {
          whole = λ f. subst (λ (x : List ℕ). RunTold s.directives s.limit x End s.report) (sym input)
              (made.whole f (later ++ z) End follows);
          cut = λ f. let all : made.bytes ≡ old.held ++ here = sym (append-nil made.bytes)
              ∙ ap (λ (h : List ℕ). made.bytes ++ h) (sym (made.nothing_held f).0) ∙ made.reads_are.gave in
              subst (λ (x : List ℕ). RunWithin s.directives s.limit x Fault s.report) (sym (took ∙ all)) (made.cut f);
        },
        left ∙ sym (append_assoc mid.held later z),
      )

  pub reads_are_one_input : ReadsAreOneInput to_come reads N
  reads_are_one_input old new [] is = record {
    front = ap (λ (a : Ahead S). a.held) (sym is) ∙ sym (append-nil old.held);
    count = ap (λ (a : Ahead S). reads a.source) (sym is);
    taken = subst (λ (a : Ahead S). Consumes (to_come old.source) (to_come a.source) []) is (Consumes-nil (to_come old.source));
    runs = λ z follows. ap (λ (x : List ℕ). x ++ z) (append-nil old.held ∙ ap (λ (a : Ahead S). a.held) is);
  }
  reads_are_one_input old new (s ∷ scans) (mid, made, more) =
      let rest = reads_are_one_input mid new scans more in
      let here : List (List ℕ) = made.reads_are.blocks in
      let later : List (List ℕ) = blocks_in_turn to_come reads N mid scans new more in
      let both : concat (here ++ later) ≡ concat here ++ concat later = concat-append here later in
      record {
        front = joined made.bytes (bytes_in_turn to_come reads N mid scans new more) mid.held old.held new.held (concat here) (concat later)
            made.reads_are.gave rest.front ∙ ap (λ (x : List ℕ). old.held ++ x) (sym both);
        count = rest.count ∙ ap (counted_by (length later)) made.reads_are.count
            ∙ counted_more (length here) (length later) (length (here ++ later)) (reads old.source)
            (omega (arith, length-append here later));
        taken = subst (Consumes (to_come old.source) (to_come new.source)) (sym both)
            (Consumes-trans (to_come old.source) (to_come mid.source) (to_come new.source) (concat here) (concat later)
            made.reads_are.taken rest.taken);
        runs = λ z follows.
            let ends : MayFollow mid (concat later ++ z) End = λ e.
            let after = quiet mid scans new more e in
            (ap₂ (λ (a b : List ℕ). a ++ b) (ap concat after.0) (follows after.1).0, refl) in
            let one = first_run old mid s made (concat later) z ends in
            subst (λ (x : List ℕ). RunsInTurn (old.held ++ x ++ z) (s ∷ scans) (new.held ++ z)) (sym both)
            (one.0, subst (λ (x : List ℕ). RunsInTurn x scans (new.held ++ z)) (sym one.1) (rest.runs z follows));
      }
