-- What the command answers, by what its calls answer.
use Rattle.std.proofs.Common.{◌≡◌, ℕ, List, Bool, true, false, Option, Err, inl, inr, refl, sym, ap, ◌∙◌}
use Rattle.sf_format.specs.declared.directive.Profile.{Profile}
use Rattle.sf_format.specs.declared.fault.FormatFault.{FormatFault}
use Rattle.sf_format.specs.declared.fault.FormatWhy.{FormatWhy}
use Rattle.sf_format.specs.declared.fault.FormatWhy.TheVariants.{NoMemory}
use Rattle.sf_format.specs.Faults.{Fault, PrintFault, IsRefused, IsPrintRefused}
use Rattle.sf_read.specs.source.Ahead.{Ahead}
use Rattle.sf_format.specs.declared.directive.Directive.{Directive}
use Rattle.sf_forms.specs.makers.Works.{Work}
use Rattle.sf_arguments.specs.declared.word_reading.WordReading.{WordReading}
use Rattle.sf_command.specs.jobs.Commands.{Counts, IsUnwrittenBy, PrintsBy, ScansBy, ShowsBy, Unread}
use Rattle.sf_messages.specs.Faults.{format_fault, format_fault_by, print_format_fault, print_format_fault_by}

-- ---- a format that is refused

abbrev pub is_memory : FormatWhy → Bool
is_memory NoMemory = true
is_memory _ = false

pub fault_of : (profile : Profile) (format : List ℕ) (fault : FormatFault) → is_memory fault.why ≡ false → IsRefused profile format fault
    → Fault profile format fault.at fault.why
fault_of profile format fault other (inl is) = is
fault_of profile format fault other (inr (none, spelled)) = let no : false ≡ true =
    sym other ∙ ap (λ (f : FormatFault). is_memory f.why) none in absurd (cc)

pub print_fault_of : (profile : Profile) (format : List ℕ) (fault : FormatFault) → is_memory fault.why ≡ false
    → IsPrintRefused profile format fault → PrintFault profile format fault.at fault.why
print_fault_of profile format fault other (inl is) = is
print_fault_of profile format fault other (inr (none, spelled)) = let no : false ≡ true =
    sym other ∙ ap (λ (f : FormatFault). is_memory f.why) none in absurd (cc)

scans_by : (strict : Bool) (profile : Profile) {S : Type 0} (to_come : S → Option (List ℕ))
    (makes : List Directive → Work) (m : ℕ) (format text : List ℕ)
    (now : Ahead S) (failures : ℕ) (held : Option (List ℕ)) (fault : FormatFault) (why : FormatWhy) → fault.why ≡ why
    → IsRefused profile format fault
    → ScansBy to_come strict profile makes m format text now failures failures held held (Err (format_fault_by why fault))
scans_by strict profile to_come makes m format text now failures held fault NoMemory is refused = refl
scans_by strict profile to_come makes m format text now failures held fault _ is refused = fault_of profile format fault (ap is_memory is)
    refused

pub refused_scans : (strict : Bool) (profile : Profile) {S : Type 0} (to_come : S → Option (List ℕ)) (makes : List Directive → Work) (m : ℕ)
    (format text : List ℕ)
    (now : Ahead S) (failures : ℕ) (held : Option (List ℕ)) (fault : FormatFault) → IsRefused profile format fault
    → ScansBy to_come strict profile makes m format text now failures failures held held (Err (format_fault fault))
refused_scans strict profile to_come makes m format text now failures held fault refused =
    scans_by strict profile to_come makes m format text now failures held fault fault.why refl refused

shows_by : (profile : Profile) (format : List ℕ) (held : Option (List ℕ)) (fault : FormatFault) (why : FormatWhy) → fault.why ≡ why
    → IsRefused profile format fault
    → ShowsBy profile format held held (Err (format_fault_by why fault))
shows_by profile format held fault NoMemory is refused = refl
shows_by profile format held fault _ is refused = fault_of profile format fault (ap is_memory is) refused

pub refused_shows : (profile : Profile) (format : List ℕ) (held : Option (List ℕ)) (fault : FormatFault) → IsRefused profile format fault
    → ShowsBy profile format held held (Err (format_fault fault))
refused_shows profile format held fault refused = shows_by profile format held fault fault.why refl refused

prints_by : (how : WordReading) (profile : Profile) (format : List ℕ) (values : List (List ℕ)) (held : Option (List ℕ))
    (fault : FormatFault) (why : FormatWhy)
    → fault.why ≡ why → IsPrintRefused profile format fault
    → PrintsBy how profile format values held held (Err (print_format_fault_by why fault))
prints_by how profile format values held fault NoMemory is refused = refl
prints_by how profile format values held fault _ is refused = print_fault_of profile format fault (ap is_memory is) refused

pub refused_prints : (how : WordReading) (profile : Profile) (format : List ℕ) (values : List (List ℕ)) (held : Option (List ℕ))
    (fault : FormatFault)
    → IsPrintRefused profile format fault
    → PrintsBy how profile format values held held (Err (print_format_fault fault))
refused_prints how profile format values held fault refused = prints_by how profile format values held fault fault.why refl refused

-- the fault of a format is none of the words, and nothing was read or written
unread_by : {S K : Type 0} (why : FormatWhy) (fault : FormatFault) (from : Ahead S) (out : K)
    → Unread (format_fault_by why fault) from from out out
unread_by NoMemory fault from out = (refl, refl)
unread_by _ fault from out = (refl, refl)

pub unread_is : {S K : Type 0} (fault : FormatFault) (from : Ahead S) (out : K) → Unread (format_fault fault) from from out out
unread_is fault from out = unread_by fault.why fault from out

unwritten_by : {K : Type 0} (why : FormatWhy) (fault : FormatFault) (out : K) → IsUnwrittenBy (format_fault_by why fault) out out
unwritten_by NoMemory fault out = refl
unwritten_by _ fault out = refl

pub unwritten_is : {K : Type 0} (fault : FormatFault) (out : K) → IsUnwrittenBy (format_fault fault) out out
unwritten_is fault out = unwritten_by fault.why fault out

unprinted_by : {K : Type 0} (why : FormatWhy) (fault : FormatFault) (out : K) → IsUnwrittenBy (print_format_fault_by why fault) out out
unprinted_by NoMemory fault out = refl
unprinted_by _ fault out = refl

pub unprinted_is : {K : Type 0} (fault : FormatFault) (out : K) → IsUnwrittenBy (print_format_fault fault) out out
unprinted_is fault out = unprinted_by fault.why fault out

-- and the sink didn't fail
counts_by : (why : FormatWhy) (fault : FormatFault) (n : ℕ) → Counts n n (Err (format_fault_by why fault))
counts_by NoMemory fault n = refl
counts_by _ fault n = refl

pub counts_is : (fault : FormatFault) (n : ℕ) → Counts n n (Err (format_fault fault))
counts_is fault n = counts_by fault.why fault n

print_counts_by : (why : FormatWhy) (fault : FormatFault) (n : ℕ) → Counts n n (Err (print_format_fault_by why fault))
print_counts_by NoMemory fault n = refl
print_counts_by _ fault n = refl

pub print_counts_is : (fault : FormatFault) (n : ℕ) → Counts n n (Err (print_format_fault fault))
print_counts_is fault n = print_counts_by fault.why fault n
