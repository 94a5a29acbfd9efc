-- What is said of a job that has ended, and of a word that is refused.
use Rattle.std.proofs.Common.{◌≡◌, ◌∙◌, ℕ, Bool, true, false, List, [], ◌∷◌, Option, None, Some, Err, ap, inl, inr, refl, sym}
use Rattle.std.proofs.Common.{subst, map, option_map, string_bytes}
use Rattle.std.proofs.lemmas.Option.{same_Some}
use Rattle.sf_format.specs.declared.directive.Profile.{Profile}
use Rattle.sf_format.specs.declared.unit.Unit.{Unit as PrintUnit}
use Rattle.sf_format.specs.Grammar.{IsFormat}
use Rattle.sf_format.specs.Language.{Scan}
use Rattle.sf_format.specs.Pieces.{Piece, text_of}
use Rattle.sf_messages.specs.declared.fault.CommandFault.{CommandFault}
use Rattle.sf_messages.specs.declared.fault.CommandFault.TheVariants.{BadEscape, Format, PrintFormat, Values, Record, Lines, Write, Memory}
use Rattle.sf_messages.specs.declared.fault.CommandFault.TheVariants.{Pair, Unprintable, NameCount, NameEmpty, NameTwice}
use Rattle.sf_messages.specs.declared.fault.FormatName.TheVariants as name
use Rattle.sf_messages.specs.Notes.{escape_notes, failed_notes}
use Rattle.sf_pair.specs.declared.fault.PairFault.{PairFault}
use Rattle.sf_messages.specs.declared.places.place.Place.{Place}
use Rattle.sf_records.specs.form.OutputForm.{OutputForm}
use Rattle.sf_run.specs.outcome.Outcome.{Outcome}
use Rattle.sf_words.specs.declared.order.Order.{Order}
use Rattle.sf_words.specs.declared.order.Verb.{Verb}
use Rattle.sf_words.specs.declared.order.Verb.TheVariants as verb
use Rattle.sf_command.specs.jobs.Checks.{IsNoPrintWord, IsNoScanWord, IsPrintWord, IsVerdict}
use Rattle.sf_command.specs.jobs.Commands.{grammar_of}
use Rattle.sf_command.specs.jobs.CopyFormats.{AreCopies}
use Rattle.sf_command.specs.declared.jobs.copy_formats.CopyFormats.{CopyFormats}
use Rattle.sf_command.specs.jobs.Jobs.{AreNoTwo, IsJobBy, IsNoJob, IsNoJobBy, IsScan, scan_of}
use Rattle.sf_command.specs.declared.jobs.formats.ScanText.{ScanText}
use Rattle.sf_command.specs.declared.jobs.job.Job.{Job}
use Rattle.sf_command.specs.declared.jobs.job.Job.TheVariants as job
use Rattle.sf_command.proofs.JobLemmas.Working.{no_print, no_scan, spelled}
use Rattle.sf_command.specs.notes.Explains.{Explains, OfBoth, OfWord, SaysClean, SaysFailed, SaysFormat, SaysMore}
use Rattle.sf_command.specs.notes.Explains.{SaysMoreOfRefused, is_strict_of}
use Rattle.sf_command.specs.notes.Explains.{SaysAlone, SaysPair, SaysRefused, told_at, verdict_notes, word_by}

module _ (profile : Profile) where
  -- ---- records that are no match

  -- what is said by the parts of a format
  abbrev pub ByParts : ScanText → (List Piece → List ℕ) → List ℕ → Type 0
  ByParts scan says notes = (pieces : List Piece) → IsFormat (Scan profile) pieces → scan.text.items ≡ text_of pieces → notes ≡ says pieces

  module _ (number : ℕ) (outcome : Outcome) (place : Option Place) (rest notes : List ℕ) where
    failed_by : (strict : Bool) (word : List ℕ) (scan own : ScanText) → Some own ≡ Some scan → IsScan strict profile word own
        → ByParts scan (λ pieces. failed_notes scan.format (told_at pieces scan.format outcome.at) number outcome place rest) notes
        → SaysFailed strict profile number outcome place rest word notes
    failed_by strict word scan own same is says =
        let here = subst (IsScan strict profile word) (same_Some own scan same) is in
        let (given, (pieces, format, text_is, mean), read) = here.spells in
        inl (
          scan.text.items,
          here.stands,
          inl (record {
            pieces = pieces;
            own = given;
            ds = scan.format;
            format = format;
            text_is = text_is;
            mean = mean;
            read = read;
            notes_are = says pieces format text_is;
          }),
        )

    pub failed_says : (strict : Bool) (form : OutputForm) (print : Option (List ℕ)) (made : Job) (of : Verb) (texts : List (List ℕ))
        → IsJobBy strict profile form print made of texts → (scan : ScanText) → scan_of made ≡ Some scan
        → ByParts scan (λ pieces. failed_notes scan.format (told_at pieces scan.format outcome.at) number outcome place rest) notes
        → OfWord (SaysFailed (is_strict_of of strict) profile number outcome place rest) (word_by print of texts name.Scan) notes
    failed_says strict form print (job.Show own) verb.Show [] is scan same says = absurd is
    failed_says strict form print (job.Show own) verb.Show (word ∷ []) is scan same says = failed_by false word scan own same is says
    failed_says strict form print (job.Show own) verb.Show (word ∷ next ∷ more) is scan same says = absurd is
    failed_says strict form print (job.Show own) verb.Scan texts is scan same says = absurd is
    failed_says strict form print (job.Show own) verb.Print texts is scan same says = absurd is
    failed_says strict form print (job.Show own) verb.Check texts is scan same says = absurd is
    failed_says strict form print (job.Show own) verb.Copy texts is scan same says = absurd is
    failed_says strict form print (job.Scan own writing) verb.Scan [] is scan same says = absurd is
    failed_says strict form print (job.Scan own writing) verb.Scan (word ∷ []) is scan same says = failed_by strict word scan own same is.0
        says
    failed_says strict form print (job.Scan own writing) verb.Scan (word ∷ next ∷ more) is scan same says = absurd is
    failed_says strict form print (job.Scan own writing) verb.Show texts is scan same says = absurd is
    failed_says strict form print (job.Scan own writing) verb.Print texts is scan same says = absurd is
    failed_says strict form print (job.Scan own writing) verb.Check texts is scan same says = absurd is
    failed_says strict form print (job.Scan own writing) verb.Copy texts is scan same says = absurd is
    failed_says strict form print (job.Check units own verdict) verb.Check [] is scan same says = absurd is
    failed_says strict form print (job.Check units own verdict) verb.Check (one ∷ []) is scan same says = absurd is
    failed_says strict form print (job.Check units own verdict) verb.Check (one ∷ other ∷ []) is scan same says =
        failed_by false other scan own same is.1 says
    failed_says strict form print (job.Check units own verdict) verb.Check (one ∷ other ∷ next ∷ more) is scan same says = absurd is
    failed_says strict form print (job.Check units own verdict) verb.Show texts is scan same says = absurd is
    failed_says strict form print (job.Check units own verdict) verb.Scan texts is scan same says = absurd is
    failed_says strict form print (job.Check units own verdict) verb.Print texts is scan same says = absurd is
    failed_says strict form print (job.Check units own verdict) verb.Copy texts is scan same says = absurd is
    failed_says strict form print (job.Copy units own) verb.Copy [] is scan same says = absurd is
    failed_says strict form print (job.Copy units own) verb.Copy (one ∷ []) is scan same says = absurd is
    failed_says strict form print (job.Copy units own) verb.Copy (one ∷ other ∷ []) is scan same says = failed_by false other scan own same
        is.1 says
    failed_says strict form print (job.Copy units own) verb.Copy (one ∷ other ∷ next ∷ more) is scan same says = absurd is
    failed_says strict form print (job.Copy units own) verb.Show texts is scan same says = absurd is
    failed_says strict form print (job.Copy units own) verb.Scan texts is scan same says = absurd is
    failed_says strict form print (job.Copy units own) verb.Print texts is scan same says = absurd is
    failed_says strict form print (job.Copy units own) verb.Check texts is scan same says = absurd is
    failed_says strict form print (job.Print units) of texts is scan same says = absurd (cc)
    failed_says strict form print (job.Answer units) of texts is scan same says = absurd (cc)

  -- ---- pairs

  pub pair_says : (one other : List ℕ) (units : List PrintUnit) (scan : ScanText) (verdict : Option PairFault)
      → IsPrintWord profile one units → IsScan false profile other scan → IsVerdict units scan.format verdict → (notes : List ℕ)
      → ByParts scan (λ pieces. verdict_notes units pieces scan.format verdict) notes → SaysPair profile one other notes
  pair_says one other units scan verdict prints is judged notes says =
      let (pieces, format, text_is, mean) = spelled profile scan.text.items scan.format is.spells in
      record {
        us = units;
        prints = prints;
        text = scan.text.items;
        stands = is.stands;
        pieces = pieces;
        ds = scan.format;
        format = format;
        text_is = text_is;
        mean = mean;
        says = (verdict, judged, says pieces format text_is);
      }

  copies_say : (texts : List (List ℕ)) (formats : CopyFormats) (fault : PairFault) → AreCopies profile texts formats
      → IsVerdict formats.print formats.scan.format (Some fault) → (notes : List ℕ)
      → ByParts formats.scan (λ pieces. verdict_notes formats.print pieces formats.scan.format (Some fault)) notes
      → OfBoth (SaysPair profile) texts notes
  copies_say [] formats fault are own notes says = absurd are
  copies_say (print ∷ []) formats fault are own notes says = absurd are
  copies_say (print ∷ scan ∷ []) formats fault are own notes says =
      pair_says print scan formats.print formats.scan (Some fault) are.prints are.reads own notes says
  copies_say (print ∷ scan ∷ next ∷ more) formats fault are own notes says = absurd are

  module _ (strict : Bool) (form : OutputForm) (print : Option (List ℕ)) (units : List PrintUnit) (scan : ScanText)
      (notes : List ℕ) where
    pub check_says : (width : Option ℕ) (verdict : Option PairFault) (of : Verb) (texts : List (List ℕ))
        → IsJobBy strict profile form print (job.Check units scan verdict) of texts
        → ByParts scan (λ pieces. verdict_notes units pieces scan.format verdict) notes → SaysClean profile width of texts notes
    check_says width verdict verb.Check [] is says = absurd is
    check_says width verdict verb.Check (one ∷ []) is says = absurd is
    check_says width verdict verb.Check (one ∷ other ∷ []) (prints, scans, judged) says =
        pair_says one other units scan verdict prints scans judged notes says
    check_says width verdict verb.Check (one ∷ other ∷ next ∷ more) is says = absurd is
    check_says width verdict verb.Show texts is says = absurd is
    check_says width verdict verb.Scan texts is says = absurd is
    check_says width verdict verb.Print texts is says = absurd is
    check_says width verdict verb.Copy texts is says = absurd is

    pub copy_says : (fault : PairFault) (of : Verb) (texts : List (List ℕ))
        → IsJobBy strict profile form print (job.Copy units scan) of texts
        → IsVerdict units scan.format (Some fault) → ByParts scan (λ pieces. verdict_notes units pieces scan.format (Some fault)) notes
        → OfBoth (SaysPair profile) texts notes
    copy_says fault verb.Copy [] is own says = absurd is
    copy_says fault verb.Copy (one ∷ []) is own says = absurd is
    copy_says fault verb.Copy (one ∷ other ∷ []) (prints, scans) own says =
        pair_says one other units scan (Some fault) prints scans own notes says
    copy_says fault verb.Copy (one ∷ other ∷ next ∷ more) is own says = absurd is
    copy_says fault verb.Show texts is own says = absurd is
    copy_says fault verb.Scan texts is own says = absurd is
    copy_says fault verb.Print texts is own says = absurd is
    copy_says fault verb.Check texts is own says = absurd is

  -- what is said of a print format that stands alone, however it is said
  pub answer_says : (strict : Bool) (form : OutputForm) (print : Option (List ℕ)) (units : List PrintUnit) (width : Option ℕ)
      (P : (List ℕ → Type 0) → Type 0) (of : Verb) (texts : List (List ℕ)) → IsJobBy strict profile form print (job.Answer units) of texts
      → ((word : List ℕ) → IsPrintWord profile word units → P (SaysAlone profile width word)) → P (SaysClean profile width of texts)
  answer_says strict form print units width P verb.Check [] is says = absurd is
  answer_says strict form print units width P verb.Check (word ∷ []) is says = says word is
  answer_says strict form print units width P verb.Check (one ∷ other ∷ more) is says = absurd is
  answer_says strict form print units width P verb.Show texts is says = absurd is
  answer_says strict form print units width P verb.Scan texts is says = absurd is
  answer_says strict form print units width P verb.Print texts is says = absurd is
  answer_says strict form print units width P verb.Copy texts is says = absurd is

  -- ---- words that are refused

  module _ (strict : Bool) (print : Option (List ℕ)) (of : Verb) (texts : List (List ℕ)) (place : Option Place)
      (rest notes word refused : List ℕ) where
    scan_refused : (fault : CommandFault) → word_by print of texts name.Scan ≡ Some word → refused ≡ word
        → IsNoScanWord profile word fault → SaysRefused refused fault notes → Explains strict profile print of texts place rest fault notes
    scan_refused (BadEscape name.Scan at) here same none said =
        subst (λ o. OfWord (λ w s. s ≡ escape_notes w at) o notes) (sym here) (said ∙ ap (λ (w : List ℕ). escape_notes w at) same)
    scan_refused (BadEscape name.Print at) here same (other, bad) said = absurd (cc)
    scan_refused (Format fault) here same none said =
        subst (λ o. OfWord (SaysFormat fault) o notes) (sym here) (subst (λ w. SaysFormat fault w notes) same said)
    scan_refused Memory here same none said = said
    scan_refused (PrintFormat fault) here same none said = absurd none
    scan_refused (Values fault) here same none said = absurd none
    scan_refused (Record fault) here same none said = absurd none
    scan_refused (Lines fault) here same none said = absurd none
    scan_refused Write here same none said = absurd none
    scan_refused (Pair fault) here same none said = absurd none
    scan_refused (Unprintable why) here same none said = absurd none
    scan_refused (NameCount expected got) here same none said = absurd none
    scan_refused (NameEmpty number) here same none said = absurd none
    scan_refused (NameTwice number) here same none said = absurd none

    print_refused : (fault : CommandFault) → word_by print of texts name.Print ≡ Some word → refused ≡ word
        → IsNoPrintWord profile word fault → SaysRefused refused fault notes → Explains strict profile print of texts place rest fault notes
    print_refused (BadEscape name.Print at) here same none said =
        subst (λ o. OfWord (λ w s. s ≡ escape_notes w at) o notes) (sym here) (said ∙ ap (λ (w : List ℕ). escape_notes w at) same)
    print_refused (BadEscape name.Scan at) here same (other, bad) said = absurd (cc)
    print_refused (PrintFormat fault) here same none said =
        subst (λ o. OfWord (SaysFormat fault) o notes) (sym here) (subst (λ w. SaysFormat fault w notes) same said)
    print_refused Memory here same none said = said
    print_refused (Format fault) here same none said = absurd none
    print_refused (Values fault) here same none said = absurd none
    print_refused (Record fault) here same none said = absurd none
    print_refused (Lines fault) here same none said = absurd none
    print_refused Write here same none said = absurd none
    print_refused (Pair fault) here same none said = absurd none
    print_refused (Unprintable why) here same none said = absurd none
    print_refused (NameCount expected got) here same none said = absurd none
    print_refused (NameEmpty number) here same none said = absurd none
    print_refused (NameTwice number) here same none said = absurd none

  module _ (strict : Bool) (place : Option Place) (rest notes refused : List ℕ) (fault : CommandFault) where
    two_say : (print : Option (List ℕ)) (of : Verb) (one other : List ℕ) → word_by print of (one ∷ other ∷ []) name.Print ≡ Some one
        → word_by print of (one ∷ other ∷ []) name.Scan ≡ Some other → AreNoTwo profile one other refused fault
        → SaysRefused refused fault notes → Explains strict profile print of (one ∷ other ∷ []) place rest fault notes
    two_say print of one other first second (inl (is, none)) said =
        print_refused strict print of (one ∷ other ∷ []) place rest notes one refused fault first is none said
    two_say print of one other first second (inr (units, prints, (is, none))) said =
        scan_refused strict print of (one ∷ other ∷ []) place rest notes other refused fault second is (no_scan profile other fault none)
        said

    pub none_says : (of : Verb) (texts : List (List ℕ)) (print : Option (List ℕ)) → IsNoJobBy strict profile of texts print refused fault
        → SaysRefused refused fault notes → Explains strict profile print of texts place rest fault notes
    none_says verb.Show [] print is said = absurd is
    none_says verb.Show (word ∷ []) print (is, none) said =
        scan_refused strict print verb.Show (word ∷ []) place rest notes word refused fault refl is (no_scan profile word fault none) said
    none_says verb.Show (word ∷ next ∷ more) print is said = absurd is
    none_says verb.Scan [] print is said = absurd is
    none_says verb.Scan (word ∷ []) None (is, none) said =
        scan_refused strict None verb.Scan (word ∷ []) place rest notes word refused fault refl is (no_scan profile word fault none) said
    none_says verb.Scan (word ∷ []) (Some given) (inl (is, none)) said =
        print_refused strict (Some given) verb.Scan (word ∷ []) place rest notes given refused fault refl is none said
    none_says verb.Scan (word ∷ []) (Some given) (inr (units, prints, inl (is, none))) said =
        scan_refused strict (Some given) verb.Scan (word ∷ []) place rest notes word refused fault refl is (no_scan profile word fault none)
        said
    none_says verb.Scan (word ∷ []) (Some given) (inr (units, prints, inr (ds, spells, (why, mismatch, is)))) said =
        subst (λ f. Explains strict profile (Some given) verb.Scan (word ∷ []) place rest f notes) (sym is)
        (subst (λ f. SaysRefused refused f notes) is said)
    none_says verb.Scan (word ∷ next ∷ more) print is said = absurd is
    none_says verb.Print [] print is said = absurd is
    none_says verb.Print (word ∷ values) print (is, none) said =
        print_refused strict print verb.Print (word ∷ values) place rest notes word refused fault refl is (no_print profile word fault none)
        said
    none_says verb.Check [] print is said = absurd is
    none_says verb.Check (word ∷ []) print (is, none) said =
        print_refused strict print verb.Check (word ∷ []) place rest notes word refused fault refl is none said
    none_says verb.Check (one ∷ other ∷ []) print is said = two_say print verb.Check one other refl refl is said
    none_says verb.Check (one ∷ other ∷ next ∷ more) print is said = absurd is
    none_says verb.Copy [] print is said = absurd is
    none_says verb.Copy (word ∷ []) print is said = absurd is
    none_says verb.Copy (one ∷ other ∷ []) print is said = two_say print verb.Copy one other refl refl is said
    none_says verb.Copy (one ∷ other ∷ next ∷ more) print is said = absurd is

-- what is said of an order that asks for nothing that can be done
pub more_of_none : (explain : Bool) (order : Order) (place : Option Place) (rest notes refused : List ℕ) (fault : CommandFault)
    → IsNoJob order refused fault → SaysMoreOfRefused explain refused fault notes → SaysMore explain order place rest (Err fault) notes
more_of_none false order place rest notes refused fault is said = said
more_of_none true order place rest notes refused fault is (inr none) = inr none
more_of_none true order place rest notes refused fault is (inl said) = inl (none_says (grammar_of order.profile) order.strict place rest
    notes refused
    fault order.verb (map string_bytes order.texts.items) (option_map string_bytes order.print) is said)

-- what is said of a copy of lines whose formats are no pair
pub more_of_copies : (explain : Bool) (order : Order) → explain ≡ true → (formats : CopyFormats) (fault : PairFault)
    → AreCopies (grammar_of order.profile) (map string_bytes order.texts.items) formats
    → IsVerdict formats.print formats.scan.format (Some fault) → (notes : List ℕ)
    → ByParts (grammar_of order.profile) formats.scan (λ pieces. verdict_notes formats.print pieces formats.scan.format (Some fault)) notes
    → SaysMore explain order None [] (Err (Pair fault)) notes
more_of_copies true order on formats fault are own notes says =
    inl (copies_say (grammar_of order.profile) (map string_bytes order.texts.items) formats fault are own notes says)
more_of_copies false order on formats fault are own notes says = absurd (cc)
