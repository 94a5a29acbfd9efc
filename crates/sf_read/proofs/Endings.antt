-- What a run that has ended says of the input.
use Rattle.std.proofs.Common.{◌≡◌, ℕ, ◌≤◌, inl, inr, true, false, Bool, cond, List, [], ◌++◌, length, take, drop, Option, Some, None, refl}
use Rattle.std.proofs.Common.{sym, ap, subst, ◌∙◌, arith, append_assoc, append-nil, length-append}
use Rattle.std.specs.Prelude.{SomeIff}
use Rattle.std.specs.List.{concat}
use Rattle.std.proofs.Math.Seq.{take-append_seam, drop-append_seam}
use Rattle.sf_format.specs.declared.directive.Directive.{Directive}
use Rattle.sf_run.specs.outcome.Ending.{Ending}
use Rattle.sf_run.specs.outcome.Ending.TheVariants.{End, Fault}
use Rattle.sf_run.specs.Runs.{RunReport, IsOpen}
use Rattle.sf_run.specs.Limits.{RunWithin, RunTold}
use Rattle.sf_run.specs.Standing.{Standing, After, Gives, used_by, ran_out}
use Rattle.sf_run.specs.Stopping.{is_memory_status}
use Rattle.sf_read.specs.source.Counts.{counted_on}
use Rattle.sf_read.specs.source.Ahead.{Ahead, input_of}
use Rattle.sf_read.specs.Made.{Made}
use Rattle.sf_read.specs.Reading.{Driven, Whole, Cut}
use Rattle.sf_read.specs.Scan.{Scan, MayFollow, is_fault}
use Rattle.sf_read.proofs.Consuming.{cut_below}
use Rattle.sf_read.proofs.Ended.{told_within}

-- ---- what the run met

met_end : (P : Type 0) (met : Option Ending) → SomeIff met P End → is_fault met ≡ false
met_end P None h = refl
met_end P (Some e) h = rw h.1 refl

met_fault : (P : Type 0) (met : Option Ending) → P → SomeIff met P Fault → met ≡ Some Fault
met_fault P None p h = absurd (h p)
met_fault P (Some e) p h = rw h.1 refl

met_not_end : (P : Type 0) (met : Option Ending) → SomeIff met P Fault → met ≡ Some End → ⊥
met_not_end P None h e = absurd cc
met_not_end P (Some e) h f = let is = h.1 in cc

not_fault : (ds : List Directive) (m : ℕ) (x : List ℕ) (r : RunReport) → RunTold ds m x End r → is_fault r.met ≡ false
not_fault ds m x r (inl (inl (few, (ran, steps, met, is_met, is)))) = rw is (met_end _ met is_met)
not_fault ds m x r (inl (inr (before, cut, is))) = rw is refl
not_fault ds m x r (inr (k, low, (before, cut, stores, is))) = rw is refl

is_the_fault : (ds : List Directive) (m : ℕ) (x : List ℕ) (r : RunReport) → IsOpen ds x × (length x ≤ m) → RunWithin ds m x Fault r
    → r.met ≡ Some Fault
is_the_fault ds m x r h (inl (few, (ran, steps, met, is_met, is))) = rw is (met_fault _ met h.0 is_met)
is_the_fault ds m x r h (inr (before, cut, is)) = absurd (omega (arith, h.1, cut_below ds x m before cut))

not_the_end : (ds : List Directive) (m : ℕ) (x : List ℕ) (r : RunReport) → RunTold ds m x Fault r → r.met ≡ Some End → ⊥
not_the_end ds m x r (inl (inl (few, (ran, steps, met, is_met, is)))) e =
    met_not_end _ met is_met (ap (λ (o : RunReport). o.met) (sym is) ∙ e)
not_the_end ds m x r (inl (inr (before, cut, is))) e = let f : r.met ≡ None = ap (λ (o : RunReport). o.met) is in cc
not_the_end ds m x r (inr (k, low, (before, cut, stores, is))) e = let f : r.met ≡ None = ap (λ (o : RunReport). o.met) is in cc

-- where nothing is known to follow, anything may
anything : {S : Type 0} (new : Ahead S) (z : List ℕ) (ending : Ending) → new.at_end ≡ false → MayFollow new z ending
anything new z ending open' e = absurd cc

the_end : {S : Type 0} (new : Ahead S) → MayFollow new [] End
the_end new e = (refl, refl)

-- ---- the parts of the input

pub front : (t bytes held z : List ℕ) (n : ℕ) → t ≡ bytes ++ held ++ z → n ≡ length bytes → take n t ≡ bytes
front t bytes held z n is e = rw (is, e, append_assoc) (take-append_seam bytes (held ++ z))

pub back : (t bytes held z : List ℕ) (n : ℕ) → t ≡ bytes ++ held ++ z → n ≡ length bytes → drop n t ≡ held ++ z
back t bytes held z n is e = rw (is, e, append_assoc) (drop-append_seam bytes (held ++ z))

-- ---- the clauses of a scan

-- a scanner is driven by its own format, under its own limit
pub driven_by : {S : Type 0} {to_come : S → Option (List ℕ)} {reads failures : S → ℕ} {N : ℕ} {ds : List Directive} {m : ℕ}
    {old new : Ahead S} {from s : Standing}
    → After ds m from [] → Driven to_come reads failures N from.directives from.limit old new s
    → Driven to_come reads failures N ds m old new s
driven_by {to_come = to_come} {reads = reads} {failures = failures} {N = N} {m = m} {old = old} {new = new} {from = from}
    {s = s} after driven =
    subst (λ e. Driven to_come reads failures N e m old new s) after.format
    (subst (λ n. Driven to_come reads failures N from.directives n old new s) after.limit driven)

-- a run that was driven has ended
pub has_report : {S : Type 0} {to_come : S → Option (List ℕ)} {reads failures : S → ℕ} {N : ℕ} {ds : List Directive} {m : ℕ}
    {old new : Ahead S} {s : Standing}
    → Driven to_come reads failures N ds m old new s → (x : List ℕ) × (ending : Ending) × Gives ds m s x ending
has_report {new = new} d = elim d.ends [
  | inl w ↦ (d.bytes ++ new.held ++ [], End, w.gives [] End (the_end new))
  | inr w ↦
      (d.bytes, Fault, w.gives)
]

module _ {S : Type 0} {to_come : S → Option (List ℕ)} {reads failures : S → ℕ} {N : ℕ} {ds : List Directive} {m : ℕ} {old new : Ahead S}
    {s : Standing} (r : RunReport)
    (d : Driven to_come reads failures N ds m old new s) (gives : (x : List ℕ) (ending : Ending) → Gives ds m s x ending
    → RunTold ds m x ending r) (used : r.used ≡ used_by s) (memory : is_memory_status r.status ≡ ran_out s) where
  whole_met : Whole failures ds m old new d.waited.blocks d.bytes s → is_fault r.met ≡ false
  whole_met w = not_fault ds m (d.bytes ++ new.held ++ []) r (gives (d.bytes ++ new.held ++ []) End (w.gives [] End (the_end new)))

  -- no storing was refused where the source failed
  cut_within : Cut failures ds m old new d.waited.blocks d.bytes s → RunWithin ds m d.bytes Fault r
  cut_within w = told_within ds m d.bytes Fault r (gives d.bytes Fault w.gives) (memory ∙ w.stored)

  cut_met : Cut failures ds m old new d.waited.blocks d.bytes s → r.met ≡ Some Fault
  cut_met w = is_the_fault ds m d.bytes r w.waits (cut_within w)

  pub count_failures : failures new.source ≡ cond (is_fault r.met) (counted_on (failures old.source)) (failures old.source)
  count_failures = elim d.ends [ inl w ↦ rw (whole_met w) w.no_failure | inr w ↦ rw (cut_met w) w.one_failure ]

  pub ends_at_end : r.met ≡ Some End → new.at_end ≡ true
  ends_at_end e = elim d.ends [ inl w ↦ by_flag w new.at_end refl | inr w ↦ absurd (let f = cut_met w in cc) ]
    where
      by_flag : Whole failures ds m old new d.waited.blocks d.bytes s → (b : Bool) → new.at_end ≡ b → new.at_end ≡ true
      by_flag w true f = f
      by_flag w false f = absurd (not_the_end ds m (d.bytes ++ new.held ++ []) r
          (gives (d.bytes ++ new.held ++ []) Fault (w.gives [] Fault (anything new [] Fault f))) e)

  -- where it failed, all that was held and read was used
  all_used : Cut failures ds m old new d.waited.blocks d.bytes s → d.bytes ≡ old.held ++ concat d.waited.blocks
  all_used w = sym (append-nil d.bytes) ∙ ap (λ (h : List ℕ). d.bytes ++ h) (sym w.nothing) ∙ d.waited.gave

  pub made : Made to_come reads N ds m old new r
  made = record {
    bytes = d.bytes;
    used = used ∙ d.used;
    reads_are = d.waited;
    whole = λ f z ending follows. elim d.ends [
      | inl v ↦ subst (λ (x : List ℕ). RunTold ds m (x ++ z) ending r) d.waited.gave
          (gives (d.bytes ++ new.held ++ z) ending (v.gives z ending follows))
      | inr v ↦ absurd (let g = cut_met v in cc)
    ];
    cut = λ f. elim d.ends [
      | inl v ↦ absurd (let g = whole_met v in cc)
      | inr v ↦ subst (λ (x : List ℕ). RunWithin ds m x Fault r) (all_used v) (cut_within v)
    ];
    nothing_held = λ f. elim d.ends [ inl v ↦ absurd (let g = whole_met v in cc) | inr v ↦ (v.nothing, v.not_at_end) ];
    failed = λ f. elim d.ends [ inl v ↦ absurd (let g = whole_met v in cc) | inr v ↦ v.gave_nothing ];
    told_end = d.told_end;
    gave_nothing = λ h. elim d.ends [ inl v ↦ inr (v.gave_nothing h) | inr v ↦ inl (ap is_fault (cut_met v)) ];
    stays = λ e. (d.quiet e).1;
  }

  pub scans : (t : List ℕ) → input_of to_come old ≡ Some t → Scan to_come ds m t old new r
  scans t e =
      let w = d.input t e in
      let n : r.used ≡ length d.bytes = used ∙ d.used in
      let took : take r.used t ≡ d.bytes = front t d.bytes new.held w.0 r.used w.2 n in
      let left : drop r.used t ≡ new.held ++ w.0 = back t d.bytes new.held w.0 r.used w.2 n in
      record {
        whole = λ f. elim d.ends [
          | inl v ↦ rw w.2 (gives (d.bytes ++ new.held ++ w.0) End
              (v.gives w.0 End (λ g. (d.told g w.0 w.1, refl))))
          | inr v ↦ absurd (let g = cut_met v in cc)
        ];
        cut = λ f. elim d.ends [ inl v ↦ absurd (let g = whole_met v in cc) | inr v ↦ rw took (cut_within v) ];
        within = omega (arith, n, ap length w.2, length-append (d.bytes ++ new.held) w.0, length-append d.bytes new.held);
        rest = rw (left, w.1) refl;
        seen = λ f z ending follows. elim d.ends [
          | inl v ↦ rw took (gives (d.bytes ++ new.held ++ z) ending (v.gives z ending follows))
          | inr v ↦ absurd (let g = cut_met v in cc)
        ];
        nothing_held = λ f. elim d.ends [ inl v ↦ absurd (let g = whole_met v in cc) | inr v ↦ (v.nothing, v.not_at_end) ];
        read = rw took (concat d.waited.blocks, d.waited.gave, λ e. ap concat (d.waited.at_end e));
        told = d.told;
      }
