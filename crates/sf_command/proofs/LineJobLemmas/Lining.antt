-- What is said and answered of the lines.
use Rattle.std.proofs.Common.{◌≡◌, ◌∙◌, if◌then◌else◌, ℕ, suc, ◌<◌, true, false, Bool, List, [], ◌∷◌, ◌++◌, length, Option, Some, None}
use Rattle.std.proofs.Common.{Err, inl, inr, refl, sym, ap, subst, arith, Bor}
use Rattle.std.specs.Prelude.{slice_get, ◌-◌}
use Rattle.std.specs.Option.{ForSome, option_copied}
use Rattle.std.proofs.lemmas.Option.{same_Some}
use Rattle.sf_format.specs.declared.directive.Directive.{Directive}
use Rattle.sf_format.specs.declared.directive.Profile.{Profile}
use Rattle.sf_format.specs.Grammar.{Spells}
use Rattle.sf_format.specs.Pieces.{text_of}
use Rattle.sf_format.specs.declared.spans.Span.{Span}
use Rattle.sf_records.specs.declared.by_lines.end.LineFault.{LineFault}
use Rattle.sf_records.specs.declared.by_lines.end.LinesFault.{LinesFault}
use Rattle.sf_records.specs.declared.by_lines.end.LinesFault.TheVariants as lines_fault
use Rattle.sf_records.specs.by_lines.Loops.{is_write}
use Rattle.sf_messages.specs.declared.fault.CommandFault.{CommandFault}
use Rattle.sf_messages.specs.declared.fault.CommandFault.TheVariants.{BadEscape, Format, Lines, Memory, NameCount, NameEmpty, NameTwice}
use Rattle.sf_messages.specs.declared.fault.CommandFault.TheVariants.{Pair, PrintFormat, Record, Unprintable, Values, Write}
use Rattle.sf_messages.specs.declared.fault.FormatName.{FormatName}
use Rattle.sf_messages.specs.declared.fault.FormatName.TheVariants as names
use Rattle.sf_messages.specs.Notes.{escape_notes}
use Rattle.sf_format.specs.declared.fault.FormatFault.{FormatFault}
use Rattle.sf_forms.specs.declared.makers.printable.PrintMismatch.{PrintMismatch}
use Rattle.sf_records.specs.form.OutputForm.{OutputForm}
use Rattle.sf_command.specs.declared.jobs.writing.Writing.{Writing}
use Rattle.sf_command.specs.declared.jobs.writing.Writing.TheVariants.{Form, Print}
use Rattle.sf_command.specs.jobs.Writings.{IsUnsuited, IsWriting}
use Rattle.sf_messages.specs.LineTexts.{line_fault_text}
use Rattle.sf_print.specs.sink.Sinks.{counted_on}
use Rattle.sf_command.specs.jobs.Checks.{IsNoScanWord, IsReadWord}
use Rattle.sf_command.specs.jobs.Answers.{Answer}
use Rattle.sf_command.specs.jobs.Commands.{Counts, is_write_fault}
use Rattle.sf_arguments.specs.Escapes.{Unescapes}
use Rattle.sf_command.specs.console.Fronts.{in_front}
use Rattle.sf_command.specs.notes.Explains.{AreSpansOf, IsMoreOfLine, OfWord, SaysFormat, SaysMoreOfRefused, SaysRefused, more_of_line}
use Rattle.sf_command.specs.line_jobs.Lines.{IsTelling, SaysLines, SaysMoreOfLines, SaysOfLines, SomeIsSaid, answer_by, line_telling}
use Rattle.sf_command.specs.jobs.LinesJobs.{AreRefused, AreScanWords, IsFirstRefused, IsRefused}
use Rattle.sf_arguments.proofs.Escaping.{one_reading}

-- ---- answers

-- the answer tells that the sink failed, just where the loop ended for that
write_is : (status : ℕ) (fault : Option LinesFault) → is_write fault ≡ is_write_fault (answer_by status fault)
write_is status None = refl
write_is status (Some (lines_fault.Read line)) = refl
write_is status (Some lines_fault.Write) = refl
write_is status (Some lines_fault.Memory) = refl
write_is status (Some lines_fault.TooMany) = refl

pub counts_by : (status : ℕ) (fault : Option LinesFault) (answer : Answer) (n k : ℕ) → k ≡ (if is_write fault then counted_on n else n)
    → answer ≡ answer_by status fault → Counts n k answer
counts_by status fault answer n k counted is = counted ∙ ap (λ (v : Bool). if v then counted_on n else n)
    (write_is status fault ∙ ap is_write_fault (sym is))

-- ---- what is told of lines

module _ (file : Option (List ℕ)) (profile : Profile) (quiet : Bool) (text : List ℕ) (ds : List Directive)
    (telling : ℕ → List ℕ → LineFault → List ℕ) (number : ℕ)
    (line : List ℕ) (fault : LineFault) where
  pub says_nothing : (explain : Bool) → SaysLines file profile quiet explain text ds telling → quiet ≡ true → telling number line fault ≡ []
  says_nothing false is e = ap (λ f. f number line fault) is ∙ rw e refl
  says_nothing true (pieces, format, text_is, is) e = ap (λ f. f number line fault) is ∙ rw e refl

  pub says_more : (explain : Bool) → SaysLines file profile quiet explain text ds telling → quiet ≡ false → (notes : List ℕ)
      → IsMoreOfLine profile explain text ds line fault notes
      → telling number line fault ≡ in_front file (line_fault_text number fault ++ 10 ∷ []) ++ notes
  says_more false is e notes more = ap (λ f. f number line fault) is ∙ rw (e, more) refl
  says_more true (pieces, format, text_is, is) e notes more = ap (λ f. f number line fault) is ∙ rw (e, more pieces format text_is) refl

-- the same of where directives stand, where that is lent
pub spans_lent : (profile : Profile) (text : List ℕ) (own : Option (List Span)) (lent : Option (Bor (List Span)))
    → option_copied lent ≡ own → ForSome own (AreSpansOf profile text) → ForSome lent (λ spans. AreSpansOf profile text spans.now)
spans_lent profile text own lent is known spans lent_is = known spans.now (sym is ∙ ap option_copied lent_is)

-- want of memory is told of words that all spell formats
pub refused_memory : (strict : Bool) (profile : Profile) (words : List (List ℕ)) (formats : List (List Directive))
    → AreScanWords strict profile words formats
    → 0 < length words → (word : List ℕ) × IsFirstRefused profile words word Memory
refused_memory strict profile [] formats are some = absurd (omega (arith, some))
refused_memory strict profile (word ∷ words) [] are some = absurd are
refused_memory strict profile (word ∷ words) (ds ∷ formats) ((text, stands, read), are) some = (word, inl (refl, (text, stands)))

last_behind : {A : Type 0} (x y : A) (xs : List A) (last : A) → slice_get (y ∷ xs) (length (y ∷ xs) - 1) ≡ Some last
    → slice_get (x ∷ y ∷ xs) (length (x ∷ y ∷ xs) - 1) ≡ Some last
last_behind x y xs last e =
    ap (slice_get (x ∷ y ∷ xs)) {x = length (x ∷ y ∷ xs) - 1} {y = suc (length xs)} (omega arith)
    ∙ ap (slice_get (y ∷ xs)) {x = length xs} {y = length (y ∷ xs) - 1} (omega arith) ∙ e

-- the last of the words spells the last of the formats
pub lasts : (strict : Bool) (profile : Profile) (words : List (List ℕ)) (formats : List (List Directive))
    → AreScanWords strict profile words formats
    → 0 < length words
    → (word : List ℕ) × (ds : List Directive) × (slice_get words (length words - 1) ≡ Some word)
    × (slice_get formats (length formats - 1) ≡ Some ds) × IsReadWord strict profile word ds
lasts strict profile [] formats are some = absurd (omega (arith, some))
lasts strict profile (word ∷ words) [] are some = absurd are
lasts strict profile (word ∷ []) (ds ∷ []) (stands, are) some = (word, ds, refl, refl, stands)
lasts strict profile (word ∷ []) (ds ∷ other ∷ formats) (stands, are) some = absurd (cc)
lasts strict profile (word ∷ next ∷ words) (ds ∷ []) (stands, are) some = absurd are
lasts strict profile (word ∷ next ∷ words) (ds ∷ other ∷ formats) (stands, are) some =
    let (last, format, word_is, format_is, spells) = lasts strict profile (next ∷ words) (other ∷ formats) are (omega arith) in
    (last, format, last_behind word next words last word_is, last_behind ds other formats format format_is, spells)

-- so that something is told of lines by them
pub telling_of : (file : Option (List ℕ)) (strict : Bool) (profile : Profile) (quiet explain : Bool) (words : List (List ℕ))
    (formats : List (List Directive))
    → AreScanWords strict profile words formats → 0 < length words
    → (text : List ℕ) → (explain ≡ true → OfWord Unescapes (slice_get words (length words - 1)) text)
    → (ds : List Directive) × (telling : ℕ → List ℕ → LineFault → List ℕ) × (slice_get formats (length formats - 1) ≡ Some ds)
    × SaysLines file profile quiet explain text ds telling × IsTelling file profile quiet explain words formats telling
telling_of file strict profile quiet explain words formats are some text reads =
    let (word, ds, word_is, format_is, (own, stands, (spelled, spells, read))) = lasts strict profile words formats are some in
    by explain reads word ds word_is format_is own stands spelled spells
  where
    by : (e : Bool) → (e ≡ true → OfWord Unescapes (slice_get words (length words - 1)) text) → (word : List ℕ) (ds : List Directive)
        → slice_get words (length words - 1) ≡ Some word → slice_get formats (length formats - 1) ≡ Some ds
        → (own : List ℕ) → Unescapes word own → (spelled : List Directive) → Spells profile own spelled
        → (ds : List Directive) × (telling : ℕ → List ℕ → LineFault → List ℕ) × (slice_get formats (length formats - 1) ≡ Some ds)
        × SaysLines file profile quiet e text ds telling × IsTelling file profile quiet e words formats telling
    by false h word ds word_is format_is own stands spelled spells = (
      ds,
      line_telling file quiet (λ line fault. []),
      format_is,
      refl,
      record { word = word; text = own; ds = ds; last_word = word_is; last_format = format_is; stands = stands; says = refl },
    )
    by true h word ds word_is format_is own stands spelled (pieces, format, own_is, mean) =
        let same : own ≡ text = one_reading word own text stands (subst (λ w. OfWord Unescapes w text) word_is (h refl)) in
        let text_is : text ≡ text_of pieces = sym same ∙ own_is in
        let telling : ℕ → List ℕ → LineFault → List ℕ = line_telling file quiet (more_of_line pieces ds) in (
          ds,
          telling,
          format_is,
          (pieces, format, text_is, refl),
          record {
            word = word;
            text = own;
            ds = ds;
            last_word = word_is;
            last_format = format_is;
            stands = stands;
            says =
                (pieces, format, own_is, refl);
          },
        )

-- so that there is something that is said by the last of them
pub some_said : (file : Option (List ℕ)) (strict : Bool) (profile : Profile) (quiet explain : Bool) (words : List (List ℕ))
    (formats : List (List Directive))
    → AreScanWords strict profile words formats → 0 < length words
    → (text : List ℕ) → (explain ≡ true → OfWord Unescapes (slice_get words (length words - 1)) text)
    → (ds : List Directive) → slice_get formats (length formats - 1) ≡ Some ds → SomeIsSaid file profile quiet explain text ds
some_said file strict profile quiet explain words formats are some text reads ds is =
    let (own, telling, last, says, told) = telling_of file strict profile quiet explain words formats are some text reads in
    let same : own ≡ ds = same_Some own ds (sym last ∙ is) in
    ∣ (telling, subst (λ (d : List Directive). SaysLines file profile quiet explain text d telling) same says) ∣₁

-- ---- words that are refused

module _ (profile : Profile) (fault : CommandFault) where
  -- the word that is refused is no format, for this fault
  is_refused : (words : List (List ℕ)) (a : List ℕ) → IsFirstRefused profile words a fault → IsNoScanWord profile a fault
  is_refused [] a h = absurd h
  is_refused (word ∷ words) a (inl (is, bad)) = subst (λ w. IsNoScanWord profile w fault) (sym is) bad
  is_refused (word ∷ words) a (inr (ds, good, more)) = is_refused words a more

  is_unprintable : (writing : Writing) (formats : List (List Directive)) → IsUnsuited writing formats fault
      → (why : PrintMismatch) × (fault ≡ Unprintable why)
  is_unprintable writing [] h = absurd h
  is_unprintable (Form form) (ds ∷ formats) (inl h) = absurd h
  is_unprintable (Print units) (ds ∷ formats) (inl (why, mismatch, is)) = (why, is)
  is_unprintable writing (ds ∷ formats) (inr (suits, h)) = is_unprintable writing formats h

module _ (strict : Bool) (profile : Profile) (form : OutputForm) (print : Option (List ℕ)) (passed words : List (List ℕ)) where
  says_escape : (print : Option (List ℕ)) (name : FormatName) (at : ℕ) (refused : List ℕ)
      → IsRefused strict profile form print passed words refused (BadEscape name at)
      → SaysOfLines profile print (passed ++ words) (Err (BadEscape name at)) (escape_notes refused at)
  says_escape None names.Scan at refused (inl h) = absurd h
  says_escape (Some word) names.Scan at refused (inl (is, (other, bad))) = absurd (cc)
  says_escape print names.Scan at refused (inr (writing, is, inl first)) = (refused, first, refl)
  says_escape print names.Scan at refused (inr (writing, is, inr (formats, are, unsuited))) =
      let none = is_unprintable profile (BadEscape names.Scan at) writing formats unsuited in absurd (let e = none.1 in cc)
  says_escape None names.Print at refused (inl h) = absurd h
  says_escape (Some word) names.Print at refused (inl (is, (same, bad))) = ap (λ (w : List ℕ). escape_notes w at) is
  says_escape print names.Print at refused (inr (writing, is, inl first)) =
      let other = is_refused profile (BadEscape names.Print at) (passed ++ words) refused first in absurd (let e = other.0 in cc)
  says_escape print names.Print at refused (inr (writing, is, inr (formats, are, unsuited))) =
      let none = is_unprintable profile (BadEscape names.Print at) writing formats unsuited in absurd (let e = none.1 in cc)

  pub says_of_escape : (name : FormatName) (at : ℕ) (refused : List ℕ)
      → IsRefused strict profile form print passed words refused (BadEscape name at)
      → SaysOfLines profile print (passed ++ words) (Err (BadEscape name at)) (escape_notes refused at)
  says_of_escape name at refused h = says_escape print name at refused h

  says_format : (print : Option (List ℕ)) (fault : FormatFault) (refused notes : List ℕ)
      → IsRefused strict profile form print passed words refused (Format fault) → SaysFormat fault refused notes
      → SaysOfLines profile print (passed ++ words) (Err (Format fault)) notes
  says_format None fault refused notes (inl h) said = absurd h
  says_format (Some word) fault refused notes (inl (is, bad)) said = absurd bad
  says_format print fault refused notes (inr (writing, is, inl first)) said = (refused, first, said)
  says_format print fault refused notes (inr (writing, is, inr (formats, are, unsuited))) said =
      let none = is_unprintable profile (Format fault) writing formats unsuited in absurd (let e = none.1 in cc)

  pub says_of_format : (fault : FormatFault) (refused notes : List ℕ)
      → IsRefused strict profile form print passed words refused (Format fault) → SaysFormat fault refused notes
      → SaysOfLines profile print (passed ++ words) (Err (Format fault)) notes
  says_of_format fault refused notes h said = says_format print fault refused notes h said

  says_print_format : (print : Option (List ℕ)) (fault : FormatFault) (refused notes : List ℕ)
      → IsRefused strict profile form print passed words refused (PrintFormat fault) → SaysFormat fault refused notes
      → SaysOfLines profile print (passed ++ words) (Err (PrintFormat fault)) notes
  says_print_format None fault refused notes (inl h) said = absurd h
  says_print_format (Some word) fault refused notes (inl (is, bad)) said = subst (λ w. SaysFormat fault w notes) is said
  says_print_format print fault refused notes (inr (writing, is, inl first)) said =
      absurd (is_refused profile (PrintFormat fault) (passed ++ words) refused first)
  says_print_format print fault refused notes (inr (writing, is, inr (formats, are, unsuited))) said =
      let none = is_unprintable profile (PrintFormat fault) writing formats unsuited in absurd (let e = none.1 in cc)

  pub says_of_print_format : (fault : FormatFault) (refused notes : List ℕ)
      → IsRefused strict profile form print passed words refused (PrintFormat fault) → SaysFormat fault refused notes
      → SaysOfLines profile print (passed ++ words) (Err (PrintFormat fault)) notes
  says_of_print_format fault refused notes h said = says_print_format print fault refused notes h said

  -- names are judged after the words
  no_count : (print : Option (List ℕ)) (expected got : ℕ) (refused : List ℕ)
      → IsRefused strict profile form print passed words refused (NameCount expected got) → ⊥
  no_count None expected got refused (inl h) = h
  no_count (Some word) expected got refused (inl (is, bad)) = bad
  no_count print expected got refused (inr (writing, is, inl first)) =
      is_refused profile (NameCount expected got) (passed ++ words) refused first
  no_count print expected got refused (inr (writing, is, inr (formats, are, unsuited))) =
      let none = is_unprintable profile (NameCount expected got) writing formats unsuited in absurd (let e = none.1 in cc)

  refused_says : (fault : CommandFault) (refused notes : List ℕ) → IsRefused strict profile form print passed words refused fault
      → SaysRefused refused fault notes → SaysOfLines profile print (passed ++ words) (Err fault) notes
  refused_says (BadEscape name at) refused notes is said =
      subst (SaysOfLines profile print (passed ++ words) (Err (BadEscape name at))) (sym said) (says_of_escape name at refused is)
  refused_says (Format fault) refused notes is said = says_of_format fault refused notes is said
  refused_says (PrintFormat fault) refused notes is said = says_of_print_format fault refused notes is said
  refused_says (Values fault) refused notes is said = said
  refused_says (Record fault) refused notes is said = said
  refused_says (Lines fault) refused notes is said = said
  refused_says Write refused notes is said = said
  refused_says Memory refused notes is said = said
  refused_says (Pair fault) refused notes is said = said
  refused_says (Unprintable why) refused notes is said = said
  refused_says (NameCount expected got) refused notes is said = absurd (no_count print expected got refused is)
  refused_says (NameEmpty number) refused notes is said = said
  refused_says (NameTwice number) refused notes is said = said

  -- what is said of a word that is refused
  pub more_of_refused_lines : (explain : Bool) (refused notes : List ℕ) (fault : CommandFault)
      → IsRefused strict profile form print passed words refused fault → SaysMoreOfRefused explain refused fault notes
      → SaysMoreOfLines explain profile print (passed ++ words) (Err fault) notes
  more_of_refused_lines false refused notes fault is said = said
  more_of_refused_lines true refused notes fault is (inl said) = inl (refused_says fault refused notes is said)
  more_of_refused_lines true refused notes fault is (inr none) = inr none

  -- want of memory, once all formats are there
  pub no_memory : (writing : Writing) → IsWriting profile form print writing → (word : List ℕ)
      → IsFirstRefused profile (passed ++ words) word Memory → AreRefused strict profile form print passed words Memory
  no_memory writing is word first = (word, inr (writing, is, inl first))

-- nothing may be said where more is asked for
pub nothing_said : (explain : Bool) (profile : Profile) (print : Option (List ℕ)) (words : List (List ℕ)) (answer : Answer)
    → SaysMoreOfLines explain profile print words answer []
nothing_said true profile print words answer = inr refl
nothing_said false profile print words answer = refl
