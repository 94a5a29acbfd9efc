-- What is done on a source that stands for another, as told of that other.
use Rattle.std.proofs.Common.{◌≡◌, ◌∙◌, ℕ, false, inl, inr, ap, List, [], ◌∷◌, map, option_map, string_bytes, Bool, Option, None, Some}
use Rattle.std.proofs.Common.{Ok, Err}
use Rattle.std.specs.Prelude.{IfErr}
use Rattle.std.specs.declared.io.Error.{Error}
use Rattle.sf_format.specs.declared.directive.Directive.{Directive}
use Rattle.sf_format.specs.declared.directive.Profile.{Profile}
use Rattle.sf_format.specs.declared.unit.Unit.{Unit as PrintUnit}
use Rattle.sf_records.specs.declared.by_lines.end.LineFault.{LineFault}
use Rattle.sf_records.specs.declared.by_lines.end.LinesEnd.{LinesEnd}
use Rattle.sf_records.specs.by_lines.Loops.{Loops as LineLoops}
use Rattle.sf_records.specs.by_lines.Turns.{LineWork}
use Rattle.sf_messages.specs.declared.fault.CommandFault.{CommandFault}
use Rattle.sf_messages.specs.declared.fault.CommandFault.TheVariants.{BadEscape, Format, PrintFormat, Values, Record, Lines, Write, Memory}
use Rattle.sf_messages.specs.declared.fault.CommandFault.TheVariants.{Pair, Unprintable, NameCount, NameEmpty, NameTwice}
use Rattle.sf_messages.specs.declared.fault.FormatName.{FormatName}
use Rattle.sf_messages.specs.declared.places.place.Place.{Place}
use Rattle.sf_read.specs.source.Ahead.{Ahead}
use Rattle.sf_records.specs.declared.end.ToolEnd.{ToolEnd}
use Rattle.sf_records.specs.Records.{Loops}
use Rattle.sf_records.specs.Works.{Work}
use Rattle.sf_words.specs.declared.order.LineOptions.{LineOptions}
use Rattle.sf_words.specs.declared.order.Order.{Order}
use Rattle.sf_words.specs.declared.order.Verb.{Verb}
use Rattle.sf_words.specs.declared.order.Verb.TheVariants as verb
use Rattle.sf_command.specs.jobs.Answers.{Answer}
use Rattle.sf_records.specs.Forms.{writing}
use Rattle.sf_records.specs.form.OutputForm.{OutputForm}
use Rattle.sf_arguments.specs.declared.word_reading.WordReading.{WordReading}
use Rattle.sf_command.specs.jobs.Commands.{CarriesOut, CarriesOutBy, Copies, CopiesBoth, CopiesWords, IsRefusedText, ScansAs, ScansBy}
use Rattle.sf_command.specs.jobs.Commands.{ScansForm}
use Rattle.sf_command.specs.jobs.Commands.{ScansPrint, ScansPrintWords, ScansText, ScansUnder, ScansWord, Unread, form_of, grammar_of}
use Rattle.sf_command.specs.jobs.Commands.{reading_of}
use Rattle.sf_command.specs.jobs.CopyFormats.{line_of}
use Rattle.sf_command.specs.declared.jobs.copy_formats.CopyFormats.{CopyFormats}
use Rattle.sf_records.specs.Copies.{copying}
use Rattle.sf_command.specs.line_jobs.Copies.{CopiesPair, CopiesTexts, line_options}
use Rattle.sf_command.specs.entry.Exits.{DoesOn, DoesOrder, EndsCopies, EndsLines, EndsScans, is_explained, unread_of}
use Rattle.sf_command.specs.console.Fronts.{file_name}
use Rattle.sf_command.specs.line_jobs.Lines.{RunsForm, RunsLines, RunsUnder, RunsWriting, ScansLines, scanning}
use Rattle.sf_command.specs.declared.jobs.writing.Writing.{Writing}
use Rattle.sf_command.specs.declared.jobs.writing.Writing.TheVariants.{Form, Print}
use Rattle.sf_command.specs.jobs.Heads.{heading_by, is_headed, names_text}
use Rattle.sf_forms.specs.makers.Forms.{Heading, writing_under}
use Rattle.sf_forms.specs.makers.Prints.{printing}
use Rattle.sf_command.proofs.JobLemmas.Results.{if_err, if_ok}

-- what is held, and the source that is stood for
abbrev pub over : {T S : Type 0} → (T → S) → Ahead T → Ahead S
over f a = record { held = a.held; source = f a.source; at_end = a.at_end }

abbrev made : {S : Type 0} → List ℕ → S → Bool → Ahead S
made held source at_end = record { held = held; source = source; at_end = at_end }

-- where nothing is held yet
pub over_fresh : {T S : Type 0} (f : T → S) (a : Ahead T) (source : S) → a.held ≡ [] → f a.source ≡ source → a.at_end ≡ false
    → over f a ≡ unread_of source
over_fresh f a source none is fresh = ap (λ h. made h (f a.source) a.at_end) none ∙ ap (λ s. made [] s a.at_end) is
    ∙ ap (λ e. made [] source e) fresh

module _ {T S K : Type 0} (f : T → S) (to_come : S → Option (List ℕ)) (faults : S → ℕ) (contents : K → Option (List ℕ))
    (write_faults : K → ℕ) (profile : Profile) where
  abbrev pub told : T → Option (List ℕ)
  told s = to_come (f s)

  abbrev pub failed : T → ℕ
  failed s = faults (f s)

  loops : (w : Work) (ds : List Directive) (m : ℕ) (t : List ℕ) (now : Ahead T) (n k : ℕ) (before after : Option (List ℕ)) (end : ToolEnd)
      → Loops w told ds m t now n k before after end → Loops w to_come ds m t (over f now) n k before after end
  loops w ds m t now n k before after end l = record {
    failed = l.failed;
    failures_are = l.failures_are;
    nothing_held = l.nothing_held;
    consumed = l.consumed;
    rest = l.rest;
    output = l.output;
    used = l.used;
    end = l.end;
    is = l.is;
    written = l.written;
    appends = l.appends;
    told = l.told;
  }

  unread : (fault : CommandFault) (from from' : Ahead T) (out out' : K) → Unread fault from from' out out'
      → Unread fault (over f from) (over f from') out out'
  unread (BadEscape name at) from from' out out' (same, h) = (ap (over f) same, h)
  unread (Format fault) from from' out out' (same, h) = (ap (over f) same, h)
  unread (PrintFormat fault) from from' out out' (same, h) = (ap (over f) same, h)
  unread (Values fault) from from' out out' (same, h) = (ap (over f) same, h)
  unread (Record fault) from from' out out' h = tt
  unread (Lines fault) from from' out out' (same, h) = (ap (over f) same, h)
  unread Write from from' out out' (same, h) = (ap (over f) same, h)
  unread Memory from from' out out' (same, h) = (ap (over f) same, h)
  unread (Pair fault) from from' out out' (same, h) = (ap (over f) same, h)
  unread (Unprintable why) from from' out out' (same, h) = (ap (over f) same, h)
  unread (NameCount expected got) from from' out out' (same, h) = (ap (over f) same, h)
  unread (NameEmpty number) from from' out out' (same, h) = (ap (over f) same, h)
  unread (NameTwice number) from from' out out' (same, h) = (ap (over f) same, h)

  unread_if : (answer : Answer) (from from' : Ahead T) (out out' : K) → IfErr answer (λ fault. Unread fault from from' out out')
      → IfErr answer (λ fault. Unread fault (over f from) (over f from') out out')
  unread_if (Ok n) from from' out out' h = tt
  unread_if (Err fault) from from' out out' h = unread fault from from' out out' h

  refused : (name : FormatName) (word : List ℕ) (from from' : Ahead T) (out out' : K) (answer : Answer)
      → IsRefusedText name word from from' out out' answer
      → IsRefusedText name word (over f from) (over f from') out out' answer
  refused name word from from' out out' answer r = record {
    unread = ap (over f) r.unread;
    unwritten = r.unwritten;
    fault = r.fault;
    answers = r.answers;
    bad = r.bad;
  }

  -- ---- scans

  scans_by : (strict : Bool) (makes : List Directive → Work) (limit : ℕ) (format t : List ℕ) (now : Ahead T) (n k : ℕ)
      (before after : Option (List ℕ))
      (answer : Answer)
      → ScansBy told strict profile makes limit format t now n k before after answer
      → ScansBy to_come strict profile makes limit format t (over f now) n k before after answer
  scans_by strict makes limit format t now n k before after (Err (Format fault)) h = h
  scans_by strict makes limit format t now n k before after (Err Memory) h = h
  scans_by strict makes limit format t now n k before after (Ok status) (ds, spells, (end, l, is)) =
      (ds, spells, (end, loops _ ds limit t now n k before after end l, is))
  scans_by strict makes limit format t now n k before after (Err (BadEscape name at)) (ds, spells, (end, l, is)) =
      (ds, spells, (end, loops _ ds limit t now n k before after end l, is))
  scans_by strict makes limit format t now n k before after (Err (PrintFormat fault)) (ds, spells, (end, l, is)) =
      (ds, spells, (end, loops _ ds limit t now n k before after end l, is))
  scans_by strict makes limit format t now n k before after (Err (Values fault)) (ds, spells, (end, l, is)) =
      (ds, spells, (end, loops _ ds limit t now n k before after end l, is))
  scans_by strict makes limit format t now n k before after (Err (Record fault)) (ds, spells, (end, l, is)) =
      (ds, spells, (end, loops _ ds limit t now n k before after end l, is))
  scans_by strict makes limit format t now n k before after (Err (Lines fault)) (ds, spells, (end, l, is)) =
      (ds, spells, (end, loops _ ds limit t now n k before after end l, is))
  scans_by strict makes limit format t now n k before after (Err Write) (ds, spells, (end, l, is)) =
      (ds, spells, (end, loops _ ds limit t now n k before after end l, is))
  scans_by strict makes limit format t now n k before after (Err (Pair fault)) (ds, spells, (end, l, is)) =
      (ds, spells, (end, loops _ ds limit t now n k before after end l, is))
  scans_by strict makes limit format t now n k before after (Err (Unprintable why)) (ds, spells, (end, l, is)) =
      (ds, spells, (end, loops _ ds limit t now n k before after end l, is))
  scans_by strict makes limit format t now n k before after (Err (NameCount expected got)) (ds, spells, (end, l, is)) =
      (ds, spells, (end, loops _ ds limit t now n k before after end l, is))
  scans_by strict makes limit format t now n k before after (Err (NameEmpty number)) (ds, spells, (end, l, is)) =
      (ds, spells, (end, loops _ ds limit t now n k before after end l, is))
  scans_by strict makes limit format t now n k before after (Err (NameTwice number)) (ds, spells, (end, l, is)) =
      (ds, spells, (end, loops _ ds limit t now n k before after end l, is))

  scans_text : (strict : Bool) (makes : List Directive → Work) (limit : ℕ) (text : List ℕ) (from from' : Ahead T) (out out' : K)
      (answer : Answer)
      → ScansText told failed contents write_faults strict profile makes limit text from from' out out' answer
      → ScansText to_come faults contents write_faults strict profile makes limit text (over f from) (over f from') out out' answer
  scans_text strict makes limit text from from' out out' answer s = record {
    scans = λ t is. scans_by strict makes limit text t from' (failed from.source) (failed from'.source) (contents out) (contents out')
        answer
        (s.scans t is);
    refused = s.refused;
    unread = unread_if answer from from' out out' s.unread;
    failures = s.failures;
  }

  scans_word : (strict : Bool) (makes : List Directive → Work) (limit : ℕ) (word : List ℕ) (from from' : Ahead T) (out out' : K)
      (answer : Answer)
      → ScansWord told failed contents write_faults strict profile makes limit word from from' out out' answer
      → ScansWord to_come faults contents write_faults strict profile makes limit word (over f from) (over f from') out out' answer
  scans_word strict makes limit word from from' out out' answer (inl r) = inl (refused _ word from from' out out' answer r)
  scans_word strict makes limit word from from' out out' answer (inr (text, is, s)) =
      inr (text, is, scans_text strict makes limit text from from' out out' answer s)

  -- ---- scans that print their records

  scans_print : (limit : ℕ) (units : List PrintUnit) (ds : List Directive) (from from' : Ahead T) (before after : Option (List ℕ))
      (answer : Answer) → ScansPrint told failed limit units ds from from' before after answer
      → ScansPrint to_come faults limit units ds (over f from) (over f from') before after answer
  scans_print limit units ds from from' before after answer (inl bad) = inl bad
  scans_print limit units ds from from' before after answer (inr (printable, (end, is, l))) = inr (
    printable,
    (end, is, λ t told_is. loops _ ds limit t from' (failed from.source) (failed from'.source) before after end (l t told_is)),
  )

  scans_print_words : (strict : Bool) (limit : ℕ) (print scan : List ℕ) (from from' : Ahead T) (before after : Option (List ℕ))
      (answer : Answer)
      → ScansPrintWords told failed strict profile limit print scan from from' before after answer
      → ScansPrintWords to_come faults strict profile limit print scan (over f from) (over f from') before after answer
  scans_print_words strict limit print scan from from' before after answer (inl h) = inl h
  scans_print_words strict limit print scan from from' before after answer (inr (units, is, inl h)) = inr (units, is, inl h)
  scans_print_words strict limit print scan from from' before after answer (inr (units, is, inr (ds, are, h))) =
      inr (units, is, inr (ds, are, scans_print limit units ds from from' before after answer h))

  scans_under : (due : Bool) (heading : Heading) (limit : ℕ) (ds : List Directive) (from from' : Ahead T) (out out' : K) (answer : Answer)
      → ScansUnder told failed contents write_faults due heading limit ds from from' out out' answer
      → ScansUnder to_come faults contents write_faults due heading limit ds (over f from) (over f from') out out' answer
  scans_under due heading limit ds from from' out out' answer u = record {
    mid = u.mid;
    wrote = u.wrote;
    header = u.header;
    failures = u.failures;
    scanned = if_ok u.wrote _ _ (λ ok h. (
      h.0,
      (
        h.1.0,
        h.1.1,
        λ t told_is. loops _ ds limit t from' (failed from.source) (failed from'.source) (contents u.mid) (contents out') h.1.0
            (h.1.2 t told_is),
      ),
    )) u.scanned;
    stopped = if_err u.wrote _ _ (λ why h. (h.0, ap (over f) h.1, h.2)) u.stopped;
  }

  scans_form : (strict : Bool) (form : OutputForm) (due : Bool) (names : Option (List ℕ)) (limit : ℕ) (word : List ℕ) (from from' : Ahead T)
      (out out' : K)
      (answer : Answer) → ScansForm told failed contents write_faults strict profile form due names limit word from from' out out' answer
      → ScansForm to_come faults contents write_faults strict profile form due names limit word (over f from) (over f from') out out' answer
  scans_form strict form due None limit word from from' out out' answer h = scans_word strict (writing form) limit word from from' out out'
      answer h
  scans_form strict form due (Some names) limit word from from' out out' answer (inl (refused, same, written)) =
      inl (refused, ap (over f) same, written)
  scans_form strict form due (Some names) limit word from from' out out' answer (inr (ds, are, inl (unnamed, same, written))) =
      inr (ds, are, inl (unnamed, ap (over f) same, written))
  scans_form strict form due (Some names) limit word from from' out out' answer (inr (ds, are, inr (named, under))) =
      inr (ds, are, inr (named, scans_under due (heading_by form (Some names) false) limit ds from from' out out' answer under))

  scans_as : (strict : Bool) (form : OutputForm) (due : Bool) (names print : Option (List ℕ)) (limit : ℕ) (word : List ℕ)
      (from from' : Ahead T)
      (out out' : K)
      (answer : Answer) → ScansAs told failed contents write_faults strict profile form due names print limit word from from' out out'
      answer
      → ScansAs to_come faults contents write_faults strict profile form due names print limit word (over f from) (over f from') out out'
      answer
  scans_as strict form due names None limit word from from' out out' answer h = scans_form strict form due names limit word from from' out
      out' answer h
  scans_as strict form due names (Some print) limit word from from' out out' answer h = record {
    scans = scans_print_words strict limit print word from from' (contents out) (contents out') answer h.scans;
    unread = unread_if answer from from' out out' h.unread;
    failures = h.failures;
  }

  -- ---- copies

  copies : (limit : ℕ) (units : List PrintUnit) (ds : List Directive) (from from' : Ahead T) (before after : Option (List ℕ))
      (answer : Answer)
      → Copies told failed limit units ds from from' before after answer
      → Copies to_come faults limit units ds (over f from) (over f from') before after answer
  copies limit units ds from from' before after (Err (Pair fault)) h = h
  copies limit units ds from from' before after (Ok status) (pair, (end, is, l)) =
      (pair, (end, is, λ t told_is. loops _ ds limit t from' (failed from.source) (failed from'.source) before after end (l t told_is)))
  copies limit units ds from from' before after (Err (Format fault)) (pair, (end, is, l)) =
      (pair, (end, is, λ t told_is. loops _ ds limit t from' (failed from.source) (failed from'.source) before after end (l t told_is)))
  copies limit units ds from from' before after (Err (BadEscape name at)) (pair, (end, is, l)) =
      (pair, (end, is, λ t told_is. loops _ ds limit t from' (failed from.source) (failed from'.source) before after end (l t told_is)))
  copies limit units ds from from' before after (Err (PrintFormat fault)) (pair, (end, is, l)) =
      (pair, (end, is, λ t told_is. loops _ ds limit t from' (failed from.source) (failed from'.source) before after end (l t told_is)))
  copies limit units ds from from' before after (Err (Values fault)) (pair, (end, is, l)) =
      (pair, (end, is, λ t told_is. loops _ ds limit t from' (failed from.source) (failed from'.source) before after end (l t told_is)))
  copies limit units ds from from' before after (Err (Record fault)) (pair, (end, is, l)) =
      (pair, (end, is, λ t told_is. loops _ ds limit t from' (failed from.source) (failed from'.source) before after end (l t told_is)))
  copies limit units ds from from' before after (Err (Lines fault)) (pair, (end, is, l)) =
      (pair, (end, is, λ t told_is. loops _ ds limit t from' (failed from.source) (failed from'.source) before after end (l t told_is)))
  copies limit units ds from from' before after (Err Write) (pair, (end, is, l)) =
      (pair, (end, is, λ t told_is. loops _ ds limit t from' (failed from.source) (failed from'.source) before after end (l t told_is)))
  copies limit units ds from from' before after (Err Memory) (pair, (end, is, l)) =
      (pair, (end, is, λ t told_is. loops _ ds limit t from' (failed from.source) (failed from'.source) before after end (l t told_is)))
  copies limit units ds from from' before after (Err (Unprintable why)) (pair, (end, is, l)) =
      (pair, (end, is, λ t told_is. loops _ ds limit t from' (failed from.source) (failed from'.source) before after end (l t told_is)))
  copies limit units ds from from' before after (Err (NameCount expected got)) (pair, (end, is, l)) =
      (pair, (end, is, λ t told_is. loops _ ds limit t from' (failed from.source) (failed from'.source) before after end (l t told_is)))
  copies limit units ds from from' before after (Err (NameEmpty number)) (pair, (end, is, l)) =
      (pair, (end, is, λ t told_is. loops _ ds limit t from' (failed from.source) (failed from'.source) before after end (l t told_is)))
  copies limit units ds from from' before after (Err (NameTwice number)) (pair, (end, is, l)) =
      (pair, (end, is, λ t told_is. loops _ ds limit t from' (failed from.source) (failed from'.source) before after end (l t told_is)))

  copies_words : (limit : ℕ) (print scan : List ℕ) (from from' : Ahead T) (before after : Option (List ℕ)) (answer : Answer)
      → CopiesWords told failed profile limit print scan from from' before after answer
      → CopiesWords to_come faults profile limit print scan (over f from) (over f from') before after answer
  copies_words limit print scan from from' before after answer (inl h) = inl h
  copies_words limit print scan from from' before after answer (inr (units, is, inl h)) = inr (units, is, inl h)
  copies_words limit print scan from from' before after answer (inr (units, is, inr (ds, are, h))) =
      inr (units, is, inr (ds, are, copies limit units ds from from' before after answer h))

  copies_both : (limit : ℕ) (print scan : List ℕ) (from from' : Ahead T) (out out' : K) (answer : Answer)
      → CopiesBoth told failed contents write_faults profile limit print scan from from' out out' answer
      → CopiesBoth to_come faults contents write_faults profile limit print scan (over f from) (over f from') out out' answer
  copies_both limit print scan from from' out out' answer b = record {
    copies = copies_words limit print scan from from' (contents out) (contents out') answer b.copies;
    unread = unread_if answer from from' out out' b.unread;
    failures = b.failures;
  }

-- ---- orders

module _ {T S K : Type 0} (f : T → S) (to_come : S → Option (List ℕ)) (faults : S → ℕ) (contents : K → Option (List ℕ))
    (write_faults : K → ℕ) (profile : Profile) (form : OutputForm) (how : WordReading) (order : Order) where
  carries_by : (v : Verb) (texts : List (List ℕ)) (from from' : Ahead T) (out out' : K) (answer : Answer)
      → CarriesOutBy (λ s. to_come (f s))
      (λ s. faults (f s)) contents write_faults profile form how order v texts from from' out out' answer
      → CarriesOutBy to_come faults contents write_faults profile form how order v texts (over f from) (over f from') out out' answer
  carries_by verb.Scan [] from from' out out' answer h = absurd h
  carries_by verb.Scan (word ∷ []) from from' out out' answer h =
      scans_as f to_come faults contents write_faults profile order.strict form (is_headed order.file) (names_text order)
      (option_map string_bytes order.print) order.limit word
      from from' out out' answer h
  carries_by verb.Scan (word ∷ other ∷ rest) from from' out out' answer h = absurd h
  carries_by verb.Show [] from from' out out' answer h = absurd h
  carries_by verb.Show (word ∷ []) from from' out out' answer (same, h) = (ap (over f) same, h)
  carries_by verb.Show (word ∷ other ∷ rest) from from' out out' answer h = absurd h
  carries_by verb.Print [] from from' out out' answer h = absurd h
  carries_by verb.Print (word ∷ values) from from' out out' answer (same, h) = (ap (over f) same, h)
  carries_by verb.Check [] from from' out out' answer h = absurd h
  carries_by verb.Check (print ∷ rest) from from' out out' answer (same, h) = (ap (over f) same, h)
  carries_by verb.Copy [] from from' out out' answer h = absurd h
  carries_by verb.Copy (word ∷ []) from from' out out' answer h = absurd h
  carries_by verb.Copy (print ∷ scan ∷ []) from from' out out' answer h =
      copies_both f to_come faults contents write_faults profile order.limit print scan from from' out out' answer h
  carries_by verb.Copy (print ∷ scan ∷ other ∷ rest) from from' out out' answer h = absurd h

module _ {T S K : Type 0} (f : T → S) (to_come : S → Option (List ℕ)) (faults : S → ℕ) (contents : K → Option (List ℕ))
    (write_faults : K → ℕ) (order : Order) where
  pub carries : (from from' : Ahead T) (out out' : K) (answer : Answer)
      → CarriesOut (λ s. to_come (f s)) (λ s. faults (f s)) contents write_faults order from from' out out' answer
      → CarriesOut to_come faults contents write_faults order (over f from) (over f from') out out' answer
  carries from from' out out' answer h =
      carries_by f to_come faults contents write_faults (grammar_of order.profile) (form_of order.output) (reading_of order.raw) order
      order.verb (map string_bytes order.texts.items) from from' out out' answer h

-- ---- lines

module _ {T S K E : Type 0} (f : T → S) (to_come : S → Option (List ℕ)) (faults : S → ℕ) (contents : K → Option (List ℕ))
    (write_faults : K → ℕ)
    (said : E → Option (List ℕ)) (unsaid : E → ℕ) where
  line_loops : (w : LineWork) (t : List ℕ) (now : Ahead T) (n k : ℕ) (before after : Option (List ℕ)) (silent : Bool)
      (told told' : Option (List ℕ)) (end : LinesEnd)
      → LineLoops w (λ s. to_come (f s)) t now n k before after silent told told' end
      → LineLoops w to_come t (over f now) n k before after silent told told' end
  line_loops w t now n k before after silent told told' end l = record {
    failed = l.failed;
    failures_are = l.failures_are;
    nothing_held = l.nothing_held;
    consumed = l.consumed;
    rest = l.rest;
    turns = l.turns;
    are = l.are;
    done = l.done;
    later = l.later;
    parts = l.parts;
    part = l.part;
    appends = l.appends;
    tells = l.tells;
    ends = l.ends;
  }

  runs_lines : (makes : ℕ → List Directive → Work) (options : LineOptions) (limit : ℕ) (ignored formats : List (List Directive))
      (telling : ℕ → List ℕ → LineFault → List ℕ) (from from' : Ahead T) (out out' : K) (err err' : E) (answer : Answer)
      → RunsLines (λ s. to_come (f s))
      (λ s. faults (f s)) contents write_faults said unsaid makes options limit ignored formats telling from from'
      out out' err err' answer
      → RunsLines to_come faults contents write_faults said unsaid makes options limit ignored formats telling (over f from)
      (over f from') out out' err err' answer
  unfolding line_loops
  runs_lines makes options limit ignored formats telling from from' out out' err err' answer r = record {
    end = r.end;
    mute = r.mute;
    tells = λ t is.
        let told = r.tells t is in (
          line_loops (scanning makes options limit ignored formats telling) t from' (faults (f from.source)) (faults (f from'.source))
              (contents out)
              (contents out') r.mute (said err) (said err') r.end told.0,
          told.1,
        );
    faults = r.faults;
    status = r.status;
    answers = r.answers;
    failures = r.failures;
  }

  runs_under : (due : Bool) (heading : Heading) (options : LineOptions) (limit : ℕ) (ignored formats : List (List Directive))
      (telling : ℕ → List ℕ → LineFault → List ℕ) (from from' : Ahead T) (out out' : K) (err err' : E) (answer : Answer)
      → RunsUnder (λ s. to_come (f s)) (λ s. faults (f s)) contents write_faults said unsaid due heading options limit ignored formats
      telling from from' out out' err err' answer
      → RunsUnder to_come faults contents write_faults said unsaid due heading options limit ignored formats telling (over f from)
      (over f from') out out' err err' answer
  runs_under due heading options limit ignored formats telling from from' out out' err err' answer r = record {
    mid = r.mid;
    wrote = r.wrote;
    header = r.header;
    failures = r.failures;
    scanned = if_ok r.wrote _ _
        (λ ok ran. runs_lines (writing_under heading) options limit ignored formats telling from from' r.mid out' err err' answer ran)
        r.scanned;
    stopped = if_err r.wrote _ _ (λ why h. (h.0, ap (over f) h.1, h.2, h.3)) r.stopped;
  }

  runs_form : (form : OutputForm) (tagged due : Bool) (names : Option (List ℕ)) (options : LineOptions) (limit : ℕ)
      (ignored formats : List (List Directive)) (telling : ℕ → List ℕ → LineFault → List ℕ) (from from' : Ahead T) (out out' : K)
      (err err' : E) (answer : Answer)
      → RunsForm (λ s. to_come (f s)) (λ s. faults (f s)) contents write_faults said unsaid form tagged due names options limit ignored
      formats telling from from' out out' err err' answer
      → RunsForm to_come faults contents write_faults said unsaid form tagged due names options limit ignored formats telling (over f from)
      (over f from') out out' err err' answer
  runs_form form tagged due None options limit ignored formats telling from from' out out' err err' answer r =
      runs_lines (writing_under (heading_by form None tagged)) options limit ignored formats telling from from' out out' err err' answer r
  runs_form form tagged due (Some names) options limit ignored formats telling from from' out out' err err' answer
      (inl (unnamed, same, written, silent)) = inl (unnamed, ap (over f) same, written, silent)
  runs_form form tagged due (Some names) options limit ignored formats telling from from' out out' err err' answer (inr (named, under)) =
      inr (
        named,
        runs_under due (heading_by form (Some names) tagged) options limit ignored formats telling from from' out out' err err'
            answer under,
      )

  runs_writing : (tagged due : Bool) (names : Option (List ℕ)) (how : Writing) (options : LineOptions) (limit : ℕ)
      (ignored formats : List (List Directive)) (telling : ℕ → List ℕ → LineFault → List ℕ) (from from' : Ahead T) (out out' : K)
      (err err' : E) (answer : Answer)
      → RunsWriting (λ s. to_come (f s)) (λ s. faults (f s)) contents write_faults said unsaid tagged due names how options limit ignored
      formats telling from from' out out' err err' answer
      → RunsWriting to_come faults contents write_faults said unsaid tagged due names how options limit ignored formats telling
      (over f from) (over f from') out out' err err' answer
  runs_writing tagged due names (Form form) options limit ignored formats telling from from' out out' err err' answer r =
      runs_form form tagged due names options limit ignored formats telling from from' out out' err err' answer r
  runs_writing tagged due names (Print units) options limit ignored formats telling from from' out out' err err' answer r =
      runs_lines (λ number. printing units) options limit ignored formats telling from from' out out' err err' answer r

  scans_lines : (file : Option (List ℕ)) (due strict : Bool) (profile : Profile) (form : OutputForm) (tagged : Bool)
      (names print : Option (List ℕ)) (options : LineOptions)
      (explain : Bool) (limit : ℕ)
      (passed words : List (List ℕ))
      (from from' : Ahead T) (out out' : K) (err err' : E) (answer : Answer)
      → ScansLines (λ s. to_come (f s))
      (λ s. faults (f s)) contents write_faults said unsaid file due strict profile form tagged names print options explain limit
      passed words from from' out out' err err' answer
      → ScansLines to_come faults contents write_faults said unsaid file due strict profile form tagged names print options explain limit
      passed
      words
      (over f from)
      (over f from') out out' err err' answer
  scans_lines file due strict profile form tagged names print options explain limit passed words from from' out out' err err' answer
      (inl (bad, same, written, silent)) = inl (bad, ap (over f) same, written, silent)
  scans_lines file due strict profile form tagged names print options explain limit passed words from from' out out' err err' answer
      (inr (writing, ignored, formats, telling, so, pass, are, suits, is, r)) = inr (
        writing,
        ignored,
        formats,
        telling,
        so,
        pass,
        are,
        suits,
        is,
        runs_writing tagged due names writing options limit ignored formats telling from from' out out' err err' answer r,
      )

  copies_pair : (file : Option (List ℕ)) (profile : Profile) (options : LineOptions) (explain : Bool) (limit : ℕ) (formats : CopyFormats)
      (from from' : Ahead T) (out out' : K) (err err' : E) (answer : Answer)
      → CopiesPair (λ s. to_come (f s)) (λ s. faults (f s)) contents write_faults said unsaid file profile options explain limit formats
      from from' out out' err err' answer
      → CopiesPair to_come faults contents write_faults said unsaid file profile options explain limit formats (over f from)
      (over f from') out out' err err' answer
  copies_pair file profile options explain limit formats from from' out out' err err' answer (inl (bad, same, written, silent)) =
      inl (bad, ap (over f) same, written, silent)
  copies_pair file profile options explain limit formats from from' out out' err err' answer (inr (aligned, copied)) = inr (
    aligned,
    (
      copied.0,
      copied.1,
      runs_lines (λ number ds. copying formats.print formats.scan.format) (line_options options formats) limit []
          ((line_of formats).format ∷ []) copied.0 from from' out out' err err' answer copied.2,
    ),
  )

  copies_texts : (file : Option (List ℕ)) (profile : Profile) (options : LineOptions) (explain : Bool) (limit : ℕ)
      (texts : List (List ℕ)) (from from' : Ahead T) (out out' : K) (err err' : E) (answer : Answer)
      → CopiesTexts (λ s. to_come (f s)) (λ s. faults (f s)) contents write_faults said unsaid file profile options explain limit texts
      from from' out out' err err' answer
      → CopiesTexts to_come faults contents write_faults said unsaid file profile options explain limit texts (over f from)
      (over f from') out out' err err' answer
  copies_texts file profile options explain limit [] from from' out out' err err' answer none = absurd none
  copies_texts file profile options explain limit (print ∷ []) from from' out out' err err' answer none = absurd none
  copies_texts file profile options explain limit (print ∷ scan ∷ next ∷ more) from from' out out' err err' answer none = absurd none
  copies_texts file profile options explain limit (print ∷ scan ∷ []) from from' out out' err err' answer
      (inl (bad, same, written, silent)) = inl (bad, ap (over f) same, written, silent)
  copies_texts file profile options explain limit (print ∷ scan ∷ []) from from' out out' err err' answer (inr (formats, are, pair)) =
      inr (formats, are, copies_pair file profile options explain limit formats from from' out out' err err' answer pair)

-- ---- the command

module _ {T S K E : Type 0} (f : T → S) (contents : K → Option (List ℕ)) (write_faults : K → ℕ) (hands : K → K → Type 0)
    (said : E → Option (List ℕ)) (unsaid : E → ℕ) (to_come : S → Option (List ℕ)) (faults : S → ℕ) (unread : S → Option Error)
    (unwritten : K → Option Error) (watched : Bool) where
  ends_scans : (explain : Bool) (options : LineOptions) (order : Order) (from from' : Ahead T) (out out' : K) (err err' : E)
      (ended : Answer)
      → EndsScans contents write_faults hands said unsaid (λ s. to_come (f s))
      (λ s. faults (f s)) (λ s. unread (f s)) unwritten watched explain options order from from' out out' err err' ended
      → EndsScans contents write_faults hands said unsaid to_come faults unread unwritten watched explain options order (over f from)
      (over f from') out out' err err' ended
  ends_scans explain options order from from' out out' err err' ended (answer, (mid, (between, done, ends))) = (
    answer,
    (
      mid,
      (
        between,
        scans_lines f to_come faults contents write_faults said unsaid (file_name order) (is_headed order.file) _ _ _ order.tag
            (names_text order) _ options explain order.limit _ _ from
            from' out mid err between answer done,
        ends,
      ),
    ),
  )

  ends_copies : (explain : Bool) (options : LineOptions) (order : Order) (from from' : Ahead T) (out out' : K) (err err' : E)
      (ended : Answer)
      → EndsCopies contents write_faults hands said unsaid (λ s. to_come (f s))
      (λ s. faults (f s)) (λ s. unread (f s)) unwritten watched explain options order from from' out out' err err' ended
      → EndsCopies contents write_faults hands said unsaid to_come faults unread unwritten watched explain options order (over f from)
      (over f from') out out' err err' ended
  ends_copies explain options order from from' out out' err err' ended (answer, (mid, (between, done, ends))) = (
    answer,
    (
      mid,
      (
        between,
        copies_texts f to_come faults contents write_faults said unsaid (file_name order) _ options explain order.limit _ from
            from' out mid err between answer done,
        ends,
      ),
    ),
  )

  ends_lines : (explain : Bool) (options : LineOptions) (order : Order) (verb : Verb) (from from' : Ahead T) (out out' : K)
      (err err' : E) (ended : Answer)
      → EndsLines contents write_faults hands said unsaid (λ s. to_come (f s))
      (λ s. faults (f s)) (λ s. unread (f s)) unwritten watched explain options order verb from from' out out' err err' ended
      → EndsLines contents write_faults hands said unsaid to_come faults unread unwritten watched explain options order verb (over f from)
      (over f from') out out' err err' ended
  ends_lines explain options order verb.Scan from from' out out' err err' ended done =
      ends_scans explain options order from from' out out' err err' ended done
  ends_lines explain options order verb.Copy from from' out out' err err' ended done =
      ends_copies explain options order from from' out out' err err' ended done
  ends_lines explain options order verb.Show from from' out out' err err' ended none = absurd none
  ends_lines explain options order verb.Print from from' out out' err err' ended none = absurd none
  ends_lines explain options order verb.Check from from' out out' err err' ended none = absurd none

  pub does_order : (explain : Bool) (lines : Option LineOptions) (order : Order) (place : Option Place) (from from' : Ahead T)
      (out out' : K) (err err' : E)
      (ended : Answer)
      → DoesOrder contents write_faults hands said unsaid (λ s. to_come (f s))
      (λ s. faults (f s)) (λ s. unread (f s)) unwritten watched explain lines order place from from' out out' err err' ended
      → DoesOrder contents write_faults hands said unsaid to_come faults unread unwritten watched explain lines order place (over f from)
      (over f from') out out' err err' ended
  does_order explain None order place from from' out out' err err' ended (answer, (mid, done, more)) =
      (answer, (mid, carries f to_come faults contents write_faults order from from' out mid answer done, more))
  does_order explain (Some options) order place from from' out out' err err' ended done =
      ends_lines explain options order order.verb from from' out out' err err' ended done

  -- what is done on a source, and what is left of it
  pub does_on : (order : Order) (from from' : T) (out out' : K) (err err' : E) (ended : Answer)
      → DoesOn contents write_faults hands said unsaid (λ s. to_come (f s)) (λ s. faults (f s)) (λ s. unread (f s)) unwritten watched
      (Ok order) from from' out out' err err' ended
      → DoesOn contents write_faults hands said unsaid to_come faults unread unwritten watched (Ok order) (f from) (f from') out out' err
      err' ended
  does_on order from from' out out' err err' ended d = record {
    left = over f d.left;
    place = d.place;
    done = does_order (is_explained watched order.notes) order.lines order d.place (unread_of from) d.left out out' err err' ended d.done;
    placed = d.placed;
    back = ap f d.back;
    few = d.few;
  }
