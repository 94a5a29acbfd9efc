-- What a job does, and what is done where there is none, as told of the words.
use Rattle.std.proofs.Common.{◌≡◌, ◌∙◌, ◌≤◌, ◌<◌, ap, arith, get_or, length, ℕ, List, [], ◌∷◌, Bool, false, Option, None, Some, Err, drop}
use Rattle.std.proofs.Common.{inl, inr, map, refl, sym, subst, option_map, string_bytes}
use Rattle.std.specs.Prelude.{IfErr}
use Rattle.sf_format.specs.declared.directive.Directive.{Directive}
use Rattle.sf_format.specs.declared.directive.Profile.{Profile}
use Rattle.sf_format.specs.declared.unit.Unit.{Unit as PrintUnit}
use Rattle.sf_format.specs.Grammar.{Spells, SpellsPrint}
use Rattle.sf_messages.specs.declared.fault.CommandFault.{CommandFault}
use Rattle.sf_messages.specs.declared.fault.CommandFault.TheVariants.{BadEscape, Format, PrintFormat, Values, Record, Lines, Write, Memory}
use Rattle.sf_messages.specs.declared.fault.CommandFault.TheVariants.{Pair, Unprintable, NameCount, NameEmpty, NameTwice}
use Rattle.sf_pair.specs.declared.fault.PairFault.{PairFault}
use Rattle.sf_read.specs.source.Ahead.{Ahead, input_of}
use Rattle.sf_records.specs.Forms.{writing}
use Rattle.sf_records.specs.form.OutputForm.{OutputForm}
use Rattle.sf_words.specs.Orders.{HasTexts}
use Rattle.sf_words.specs.declared.order.Order.{Order}
use Rattle.sf_words.specs.declared.order.Verb.{Verb}
use Rattle.sf_words.specs.declared.order.Verb.TheVariants as verb
use Rattle.sf_arguments.specs.declared.word_reading.WordReading.{WordReading}
use Rattle.sf_command.specs.jobs.Answers.{Answer}
use Rattle.sf_command.specs.jobs.Checks.{IsNoPrintWord, IsNoScanWord, IsReadWord, IsScanWord, SpellsRead, TellsLine}
use Rattle.sf_command.specs.jobs.Checks.{verdict_status, verdict_text}
use Rattle.sf_command.specs.jobs.Commands.{CarriesOutBy, Copies, Counts, IsUnwrittenBy, PrintsBy, PrintsWord, ScansAs, ScansBy}
use Rattle.sf_command.specs.jobs.Commands.{ScansByNames}
use Rattle.sf_command.specs.jobs.Commands.{ScansForm, ScansPrint, ScansWord, ShowsBy, ShowsWord, Unread}
use Rattle.sf_command.specs.jobs.Heads.{is_headed, names_text}
use Rattle.sf_command.specs.jobs.Jobs.{AreNoTwo, IsJobBy, IsNoJobBy, IsNoPrint, IsNoScan, IsScan}
use Rattle.sf_command.specs.jobs.Writings.{IsWriting}
use Rattle.sf_command.specs.declared.jobs.formats.ScanText.{ScanText}
use Rattle.sf_command.specs.declared.jobs.job.Job.TheVariants as job
use Rattle.sf_command.specs.declared.jobs.writing.Writing.TheVariants as written
use Rattle.sf_command.proofs.JobLemmas.Answering.{counts_is, print_counts_is, refused_prints, refused_scans, refused_shows, unprinted_is}
use Rattle.sf_command.proofs.JobLemmas.Answering.{unread_is}
use Rattle.sf_command.proofs.JobLemmas.Answering.{unwritten_is}
use Rattle.sf_command.proofs.JobLemmas.Checking.{no_print_counts, no_print_format, no_print_text, no_print_unwritten, no_scan_counts}
use Rattle.sf_command.proofs.JobLemmas.Checking.{no_scan_format}
use Rattle.sf_command.proofs.JobLemmas.Checking.{no_scan_text, no_scan_unwritten}

-- ---- words that are formats, and words that are none

-- what is read as it stands is spelled so
pub spelled : (profile : Profile) (text : List ℕ) (ds : List Directive) → SpellsRead false profile text ds → Spells profile text ds
spelled profile text ds (own, spells, same) = subst (λ (d : List Directive). Spells profile text d) (sym same) spells

pub scan_word : (profile : Profile) (word : List ℕ) (scan : ScanText) → IsScan false profile word scan
    → IsScanWord profile word scan.format
scan_word profile word scan is = (scan.text.items, is.stands, spelled profile scan.text.items scan.format is.spells)

pub read_word : (strict : Bool) (profile : Profile) (word : List ℕ) (scan : ScanText) → IsScan strict profile word scan
    → IsReadWord strict profile word scan.format
read_word strict profile word scan is = (scan.text.items, is.stands, is.spells)

pub no_scan : (profile : Profile) (word : List ℕ) (fault : CommandFault) → IsNoScan profile word fault → IsNoScanWord profile word fault
no_scan profile word fault (inl bad) = no_scan_text profile word fault bad
no_scan profile word fault (inr r) =
    subst (IsNoScanWord profile word) (sym r.is) (no_scan_format profile word r.text r.of r.stands r.refused)

pub no_print : (profile : Profile) (word : List ℕ) (fault : CommandFault) → IsNoPrint profile word fault
    → IsNoPrintWord profile word fault
no_print profile word fault (inl bad) = no_print_text profile word fault bad
no_print profile word fault (inr r) =
    subst (IsNoPrintWord profile word) (sym r.is) (no_print_format profile word r.text r.of r.stands r.refused)

-- the words after the first
pub rest_shown : {A : Type 0} (v : A → List ℕ) (xs ys : List A) → xs ≡ ys → map v (drop 1 xs) ≡ drop 1 (map v ys)
rest_shown v [] ys same = subst (λ (zs : List _). [] ≡ drop 1 (map v zs)) same refl
rest_shown v (x ∷ xs) ys same = subst (λ (zs : List _). map v xs ≡ drop 1 (map v zs)) same refl

-- a list with a first element, as it is shown
pub first_shown : {A : Type 0} (v : A → List ℕ) (xs : List A) (x : A) (shown : List ℕ) → 1 ≤ length xs → x ≡ get_or xs 0 x
    → shown ≡ v x → map v xs ≡ shown ∷ map v (drop 1 xs)
first_shown v [] x shown least is same = absurd (omega (arith, least))
first_shown v (y ∷ ys) x shown least is same = ap (λ (t : List ℕ). t ∷ map v ys) (sym (same ∙ ap v is))

-- an empty list, as it is shown
pub none_shown : {A : Type 0} (v : A → List ℕ) (xs : List A) → length xs < 1 → map v xs ≡ []
none_shown v [] none = refl
none_shown v (x ∷ xs) none = absurd (omega (arith, none))

-- how many words stand after the first
pub rest_of_check : {A : Type 0} (v : A → List ℕ) (of : Verb) (xs : List A) → of ≡ verb.Check → HasTexts of (map v xs)
    → length (drop 1 xs) ≤ 1
rest_of_check v of [] is has = omega arith
rest_of_check v of (x ∷ []) is has = omega arith
rest_of_check v of (x ∷ y ∷ []) is has = omega arith
rest_of_check v of (x ∷ y ∷ z ∷ more) is has =
    absurd (subst (λ (of : Verb). HasTexts of (v x ∷ v y ∷ v z ∷ map v more)) is has)

pub rest_of_copy : {A : Type 0} (v : A → List ℕ) (of : Verb) (xs : List A) → of ≡ verb.Copy → HasTexts of (map v xs)
    → length (drop 1 xs) ≡ 1
rest_of_copy v of [] is has = absurd (subst (λ (of : Verb). HasTexts of []) is has)
rest_of_copy v of (x ∷ []) is has = absurd (subst (λ (of : Verb). HasTexts of (v x ∷ [])) is has)
rest_of_copy v of (x ∷ y ∷ []) is has = refl
rest_of_copy v of (x ∷ y ∷ z ∷ more) is has =
    absurd (subst (λ (of : Verb). HasTexts of (v x ∷ v y ∷ v z ∷ map v more)) is has)

-- the words of a verb that takes one, or two
pub show_none : (strict : Bool) (profile : Profile) (of : Verb) (texts more : List (List ℕ)) (word : List ℕ) (print : Option (List ℕ))
    (refused : List ℕ) (fault : CommandFault) → of ≡ verb.Show → texts ≡ word ∷ more → HasTexts of texts
    → IsNoJobBy strict profile verb.Show (word ∷ []) print refused fault → IsNoJobBy strict profile of texts print refused fault
show_none strict profile verb.Show [] more word print refused fault is shown has none = absurd has
show_none strict profile verb.Show (w ∷ []) more word print refused fault is shown has none =
    let same : word ∷ [] ≡ w ∷ [] = cc in
    subst (λ (ts : List (List ℕ)). IsNoJobBy strict profile verb.Show ts print refused fault) same none
show_none strict profile verb.Show (w ∷ next ∷ rest) more word print refused fault is shown has none = absurd has
show_none strict profile verb.Scan texts more word print refused fault is shown has none = absurd (cc)
show_none strict profile verb.Print texts more word print refused fault is shown has none = absurd (cc)
show_none strict profile verb.Check texts more word print refused fault is shown has none = absurd (cc)
show_none strict profile verb.Copy texts more word print refused fault is shown has none = absurd (cc)

-- where nothing was written, nothing was read
unread : {S K : Type 0} (fault : CommandFault) (from : Ahead S) (out : K) → IsUnwrittenBy fault out out → Unread fault from from out out
unread (BadEscape name at) from out h = (refl, h)
unread (Format fault) from out h = (refl, h)
unread (PrintFormat fault) from out h = (refl, h)
unread (Values fault) from out h = (refl, h)
unread (Record fault) from out h = tt
unread (Lines fault) from out h = (refl, h)
unread Write from out h = (refl, h)
unread Memory from out h = (refl, h)
unread (Pair fault) from out h = (refl, h)
unread (Unprintable why) from out h = (refl, h)
unread (NameCount expected got) from out h = (refl, h)
unread (NameEmpty number) from out h = (refl, h)
unread (NameTwice number) from out h = (refl, h)

module _ {S K : Type 0} (to_come : S → Option (List ℕ)) (read_faults : S → ℕ) (contents : K → Option (List ℕ)) (write_faults : K → ℕ)
    (profile : Profile) where
  -- ---- scans

  scans_none : (strict : Bool) (form : OutputForm) (limit : ℕ) (word : List ℕ) (fault : CommandFault) → IsNoScan profile word fault
      → (from : Ahead S)
      (out : K) → ScansWord to_come read_faults contents write_faults strict profile (writing form) limit word from from out out (Err fault)
  scans_none strict form limit word fault (inl bad) from out =
      inl (record { unread = refl; unwritten = refl; fault = fault; answers = refl; bad = bad })
  scans_none strict form limit word fault (inr r) from out = inr (
    r.text,
    r.stands,
    record {
      scans = λ t is. subst (λ f. ScansBy to_come strict profile (writing form) limit r.text t from (read_faults from.source)
          (read_faults from.source) (contents out) (contents out) (Err f)) (sym r.is)
          (refused_scans strict profile to_come (writing form) limit r.text t from (read_faults from.source) (contents out) r.of r.refused);
      refused = r.only;
      unread = subst (λ f. Unread f from from out out) (sym r.is) (unread_is r.of from out);
      failures = subst (λ f. Counts (write_faults out) (write_faults out) (Err f)) (sym r.is) (counts_is r.of (write_faults out));
    },
  )

  form_none : (strict : Bool) (form : OutputForm) (due : Bool) (names : Option (List ℕ)) (limit : ℕ) (word : List ℕ) (fault : CommandFault)
      → IsNoScan profile word fault → (from : Ahead S) (out : K)
      → ScansForm to_come read_faults contents write_faults strict profile form due names limit word from from out out (Err fault)
  form_none strict form due None limit word fault none from out = scans_none strict form limit word fault none from out
  form_none strict form due (Some names) limit word fault none from out = inl ((fault, refl, no_scan profile word fault none), refl, refl)

  pub scan_none : (strict : Bool) (form : OutputForm) (due : Bool) (names print : Option (List ℕ)) (limit : ℕ) (word refused : List ℕ)
      (fault : CommandFault) → IsNoJobBy strict profile verb.Scan (word ∷ []) print refused fault → (from : Ahead S) (out : K)
      → ScansAs to_come read_faults contents write_faults strict profile form due names print limit word from from out out (Err fault)
  scan_none strict form due names None limit word refused fault (is, none) from out = form_none strict form due names limit word fault none
      from out
  scan_none strict form due names (Some print) limit word refused fault (inl (is, none)) from out = record {
    scans = inl (fault, refl, none);
    unread = unread fault from out (no_print_unwritten profile print fault out none);
    failures = no_print_counts profile print fault (write_faults out) none;
  }
  scan_none strict form due names (Some print) limit word refused fault (inr (units, prints, inl (is, none))) from out =
      let weak = no_scan profile word fault none in
      record {
        scans = inr (units, prints, inl (fault, refl, weak));
        unread = unread fault from out (no_scan_unwritten profile word fault out weak);
        failures = no_scan_counts profile word fault (write_faults out) weak;
      }
  scan_none strict form due names (Some print) limit word refused fault (inr (units, prints, inr (ds, reads, (why, ill, is)))) from out =
      subst (λ f. ScansAs to_come read_faults contents write_faults strict profile form due names (Some print) limit word from from out out
      (Err f)) (sym is) (record {
        scans = inr (units, prints, inr (ds, reads, inl (Unprintable why, refl, (why, ill, refl))));
        unread = (refl, refl);
        failures = refl;
      })

  -- the records are written in the form
  pub written_plain : (strict : Bool) (form given : OutputForm) (due : Bool) (print : Option (List ℕ)) (limit : ℕ) (word : List ℕ)
      (scan : ScanText)
      → IsWriting profile form print (written.Form given) → IsScan strict profile word scan → (from from' : Ahead S) (out out' : K)
      (answer : Answer)
      → ((s : Bool) (p : Profile) (text t : List ℕ) → SpellsRead s p text scan.format → input_of to_come from ≡ Some t
      → ScansBy to_come s p (writing given) limit text t from' (read_faults from.source) (read_faults from'.source) (contents out)
      (contents out') answer)
      → IfErr answer (λ fault. Unread fault from from' out out') → Counts (write_faults out) (write_faults out') answer
      → ScansAs to_come read_faults contents write_faults strict profile form due None print limit word from from' out out' answer
  written_plain strict form given due (Some print) limit word scan is scans from from' out out' answer does unread counts = absurd is
  written_plain strict form given due None limit word scan is scans from from' out out' answer does unread counts =
      subst (λ f. ScansWord to_come read_faults contents write_faults strict profile (writing f) limit word from from' out out' answer) is
      (inr (
        scan.text.items,
        scans.stands,
        record {
          scans = λ t told. does strict profile scan.text.items t scans.spells told;
          refused = λ at why faulty. absurd (scans.faultless at why faulty);
          unread = unread;
          failures = counts;
        },
      ))

  -- under names
  pub written_named : (strict : Bool) (form given : OutputForm) (due : Bool) (names : List ℕ) (print : Option (List ℕ)) (limit : ℕ)
      (word : List ℕ)
      (scan : ScanText) → IsWriting profile form print (written.Form given) → IsScan strict profile word scan → (from from' : Ahead S)
      (out out' : K) (answer : Answer)
      → ScansByNames to_come read_faults contents write_faults given due names limit scan.format from from' out out' answer
      → ScansAs to_come read_faults contents write_faults strict profile form due (Some names) print limit word from from' out out' answer
  written_named strict form given due names (Some print) limit word scan is scans from from' out out' answer does = absurd is
  written_named strict form given due names None limit word scan is scans from from' out out' answer does = inr (
    scan.format,
    read_word strict profile word scan scans,
    subst (λ f. ScansByNames to_come read_faults contents write_faults f due names limit scan.format from from' out out' answer) is does,
  )

  -- by a print format
  pub written_print : (strict : Bool) (form : OutputForm) (units : List PrintUnit) (due : Bool) (names print : Option (List ℕ)) (limit : ℕ)
      (word : List ℕ) (scan : ScanText) → IsWriting profile form print (written.Print units) → IsScan strict profile word scan
      → (from from' : Ahead S) (out out' : K) (answer : Answer)
      → ScansPrint to_come read_faults limit units scan.format from from' (contents out) (contents out') answer
      → IfErr answer (λ fault. Unread fault from from' out out') → Counts (write_faults out) (write_faults out') answer
      → ScansAs to_come read_faults contents write_faults strict profile form due names print limit word from from' out out' answer
  written_print strict form units due names None limit word scan is scans from from' out out' answer does unread counts = absurd is
  written_print strict form units due names (Some print) limit word scan is scans from from' out out' answer does unread counts = record {
    scans = inr (units, is, inr (scan.format, read_word strict profile word scan scans, does));
    unread = unread;
    failures = counts;
  }

  -- ---- shows and prints

  shows_none : (word : List ℕ) (fault : CommandFault) → IsNoScan profile word fault → (out : K)
      → ShowsWord contents write_faults profile word out out (Err fault)
  shows_none word fault (inl bad) out =
      inl (record { unread = refl; unwritten = refl; fault = fault; answers = refl; bad = bad })
  shows_none word fault (inr r) out = inr (
    r.text,
    r.stands,
    record {
      shows = subst (λ f. ShowsBy profile r.text (contents out) (contents out) (Err f)) (sym r.is)
          (refused_shows profile r.text (contents out) r.of r.refused);
      refused = r.only;
      unwritten = subst (λ f. IsUnwrittenBy f out out) (sym r.is) (unwritten_is r.of out);
      failures = subst (λ f. Counts (write_faults out) (write_faults out) (Err f)) (sym r.is) (counts_is r.of (write_faults out));
    },
  )

  prints_none : (how : WordReading) (values : List (List ℕ)) (word : List ℕ) (fault : CommandFault) → IsNoPrint profile word fault
      → (out : K) → PrintsWord contents write_faults how profile word values out out (Err fault)
  prints_none how values word fault (inl bad) out =
      inl (record { unread = refl; unwritten = refl; fault = fault; answers = refl; bad = bad })
  prints_none how values word fault (inr r) out = inr (
    r.text,
    r.stands,
    record {
      prints = subst (λ f. PrintsBy how profile r.text values (contents out) (contents out) (Err f)) (sym r.is)
          (refused_prints how profile r.text values (contents out) r.of r.refused);
      refused = r.only;
      unwritten = subst (λ f. IsUnwrittenBy f out out) (sym r.is) (unprinted_is r.of out);
      failures = subst (λ f. Counts (write_faults out) (write_faults out) (Err f)) (sym r.is)
          (print_counts_is r.of (write_faults out));
    },
  )

  module _ (form : OutputForm) (how : WordReading) (order : Order) where
    abbrev Does : Verb → List (List ℕ) → Ahead S → Ahead S → K → K → Answer → Type 0
    Does of texts from from' out out' answer =
        CarriesOutBy to_come read_faults contents write_faults profile form how order of texts from from' out out' answer

    abbrev given : Option (List ℕ)
    given = option_map string_bytes order.print

    -- ---- there is no job

    check_none : (one other refused : List ℕ) (fault : CommandFault) → AreNoTwo profile one other refused fault → (from : Ahead S)
        (out : K) → Does verb.Check (one ∷ other ∷ []) from from out out (Err fault)
    check_none one other refused fault (inl (is, none)) from out = (
      refl,
      record {
        checks = inl (fault, refl, none);
        unwritten = no_print_unwritten profile one fault out none;
        failures = no_print_counts profile one fault (write_faults out) none;
      },
    )
    check_none one other refused fault (inr (units, prints, (is, none))) from out =
        let weak = no_scan profile other fault none in (
          refl,
          record {
            checks = inr (units, prints, inl (fault, refl, weak));
            unwritten = no_scan_unwritten profile other fault out weak;
            failures = no_scan_counts profile other fault (write_faults out) weak;
          },
        )

    copy_none : (one other refused : List ℕ) (fault : CommandFault) → AreNoTwo profile one other refused fault → (from : Ahead S)
        (out : K) → Does verb.Copy (one ∷ other ∷ []) from from out out (Err fault)
    copy_none one other refused fault (inl (is, none)) from out = record {
      copies = inl (fault, refl, none);
      unread = unread fault from out (no_print_unwritten profile one fault out none);
      failures = no_print_counts profile one fault (write_faults out) none;
    }
    copy_none one other refused fault (inr (units, prints, (is, none))) from out =
        let weak = no_scan profile other fault none in
        record {
          copies = inr (units, prints, inl (fault, refl, weak));
          unread = unread fault from out (no_scan_unwritten profile other fault out weak);
          failures = no_scan_counts profile other fault (write_faults out) weak;
        }

    pub none_does : (of : Verb) (texts : List (List ℕ)) (refused : List ℕ) (fault : CommandFault)
        → IsNoJobBy order.strict profile of texts given refused fault → (from : Ahead S) (out : K)
        → Does of texts from from out out (Err fault)
    none_does verb.Show [] refused fault is from out = absurd is
    none_does verb.Show (word ∷ []) refused fault (is, none) from out = (refl, shows_none word fault none out)
    none_does verb.Show (word ∷ next ∷ more) refused fault is from out = absurd is
    none_does verb.Scan [] refused fault is from out = absurd is
    none_does verb.Scan (word ∷ []) refused fault is from out =
        scan_none order.strict form (is_headed order.file) (names_text order) given order.limit word refused fault is from out
    none_does verb.Scan (word ∷ next ∷ more) refused fault is from out = absurd is
    none_does verb.Print [] refused fault is from out = absurd is
    none_does verb.Print (word ∷ values) refused fault (is, none) from out = (refl, prints_none how values word fault none out)
    none_does verb.Check [] refused fault is from out = absurd is
    none_does verb.Check (word ∷ []) refused fault (is, none) from out = (
      refl,
      record {
        answers = inl (fault, refl, none);
        unwritten = no_print_unwritten profile word fault out none;
        failures = no_print_counts profile word fault (write_faults out) none;
      },
    )
    none_does verb.Check (one ∷ other ∷ []) refused fault is from out = check_none one other refused fault is from out
    none_does verb.Check (one ∷ other ∷ next ∷ more) refused fault is from out = absurd is
    none_does verb.Copy [] refused fault is from out = absurd is
    none_does verb.Copy (word ∷ []) refused fault is from out = absurd is
    none_does verb.Copy (one ∷ other ∷ []) refused fault is from out = copy_none one other refused fault is from out
    none_does verb.Copy (one ∷ other ∷ next ∷ more) refused fault is from out = absurd is

    -- ---- there is a job

    pub show_does : (scan : ScanText) (of : Verb) (texts : List (List ℕ)) → IsJobBy order.strict profile form given (job.Show scan) of texts
        → (from : Ahead S) (out out' : K) (answer : Answer)
        → ((p : Profile) (text : List ℕ) → Spells p text scan.format → ShowsBy p text (contents out) (contents out') answer)
        → IfErr answer (λ fault. IsUnwrittenBy fault out out') → Counts (write_faults out) (write_faults out') answer
        → Does of texts from from out out' answer
    show_does scan verb.Show [] is from out out' answer shows unwritten counts = absurd is
    show_does scan verb.Show (word ∷ []) is from out out' answer shows unwritten counts = (
      refl,
      inr (
        scan.text.items,
        is.stands,
        record {
          shows = shows profile scan.text.items (spelled profile scan.text.items scan.format is.spells);
          refused = λ at why faulty. absurd (is.faultless at why faulty);
          unwritten = unwritten;
          failures = counts;
        },
      ),
    )
    show_does scan verb.Show (word ∷ next ∷ more) is from out out' answer shows unwritten counts = absurd is
    show_does scan verb.Scan texts is from out out' answer shows unwritten counts = absurd is
    show_does scan verb.Print texts is from out out' answer shows unwritten counts = absurd is
    show_does scan verb.Check texts is from out out' answer shows unwritten counts = absurd is
    show_does scan verb.Copy texts is from out out' answer shows unwritten counts = absurd is

    pub print_does : (units : List PrintUnit) (of : Verb) (texts : List (List ℕ))
        → IsJobBy order.strict profile form given (job.Print units) of texts
        → (values : List (List ℕ)) → values ≡ drop 1 texts → (from : Ahead S) (out out' : K) (answer : Answer)
        → ((p : Profile) (text : List ℕ) → SpellsPrint p text units → PrintsBy how p text values (contents out) (contents out') answer)
        → IfErr answer (λ fault. IsUnwrittenBy fault out out') → Counts (write_faults out) (write_faults out') answer
        → Does of texts from from out out' answer
    print_does units verb.Print [] is values same from out out' answer prints unwritten counts = absurd is
    print_does units verb.Print (word ∷ rest) is values same from out out' answer prints unwritten counts =
        subst (λ (vs : List (List ℕ)). Does verb.Print (word ∷ vs) from from out out' answer) same (
          refl,
          inr (
            is.text,
            is.stands,
            record {
              prints = prints profile is.text is.spells;
              refused = λ at why faulty. absurd (is.faultless at why faulty);
              unwritten = unwritten;
              failures = counts;
            },
          ),
        )
    print_does units verb.Show texts is values same from out out' answer prints unwritten counts = absurd is
    print_does units verb.Scan texts is values same from out out' answer prints unwritten counts = absurd is
    print_does units verb.Check texts is values same from out out' answer prints unwritten counts = absurd is
    print_does units verb.Copy texts is values same from out out' answer prints unwritten counts = absurd is

    pub check_does : (units : List PrintUnit) (scan : ScanText) (verdict : Option PairFault) (of : Verb) (texts : List (List ℕ))
        → IsJobBy order.strict profile form given (job.Check units scan verdict) of texts
        → (from : Ahead S) (out out' : K) (answer : Answer)
        → TellsLine (verdict_text verdict) (verdict_status verdict) (contents out) (contents out') answer
        → IfErr answer (λ fault. IsUnwrittenBy fault out out') → Counts (write_faults out) (write_faults out') answer
        → Does of texts from from out out' answer
    check_does units scan verdict verb.Check [] is from out out' answer tells unwritten counts = absurd is
    check_does units scan verdict verb.Check (word ∷ []) is from out out' answer tells unwritten counts = absurd is
    check_does units scan verdict verb.Check (one ∷ other ∷ []) (prints, scans, judged) from out out' answer tells unwritten counts = (
      refl,
      record {
        checks = inr (units, prints, inr (scan.format, scan_word profile other scan scans, (verdict, judged, tells)));
        unwritten = unwritten;
        failures = counts;
      },
    )
    check_does units scan verdict verb.Check (one ∷ other ∷ next ∷ more) is from out out' answer tells unwritten counts = absurd is
    check_does units scan verdict verb.Show texts is from out out' answer tells unwritten counts = absurd is
    check_does units scan verdict verb.Scan texts is from out out' answer tells unwritten counts = absurd is
    check_does units scan verdict verb.Print texts is from out out' answer tells unwritten counts = absurd is
    check_does units scan verdict verb.Copy texts is from out out' answer tells unwritten counts = absurd is

    pub copy_does : (units : List PrintUnit) (scan : ScanText) (of : Verb) (texts : List (List ℕ))
        → IsJobBy order.strict profile form given (job.Copy units scan) of texts → (from from' : Ahead S) (out out' : K) (answer : Answer)
        → Copies to_come read_faults order.limit units scan.format from from' (contents out) (contents out') answer
        → IfErr answer (λ fault. Unread fault from from' out out') → Counts (write_faults out) (write_faults out') answer
        → Does of texts from from' out out' answer
    copy_does units scan verb.Copy [] is from from' out out' answer copies unread counts = absurd is
    copy_does units scan verb.Copy (word ∷ []) is from from' out out' answer copies unread counts = absurd is
    copy_does units scan verb.Copy (one ∷ other ∷ []) (prints, scans) from from' out out' answer copies unread counts = record {
      copies = inr (units, prints, inr (scan.format, scan_word profile other scan scans, copies));
      unread = unread;
      failures = counts;
    }
    copy_does units scan verb.Copy (one ∷ other ∷ next ∷ more) is from from' out out' answer copies unread counts = absurd is
    copy_does units scan verb.Show texts is from from' out out' answer copies unread counts = absurd is
    copy_does units scan verb.Scan texts is from from' out out' answer copies unread counts = absurd is
    copy_does units scan verb.Print texts is from from' out out' answer copies unread counts = absurd is
    copy_does units scan verb.Check texts is from from' out out' answer copies unread counts = absurd is
