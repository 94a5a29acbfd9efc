-- What the words ask of the columns of records, and what is wrong with names.
use Rattle.std.specs.Prelude.{◌≡◌, ◌⊎◌, ◌==◌, ℕ, suc, Bool, true, false, if◌then◌else◌, List, [], Option, Some, option_map, string_bytes}
use Rattle.std.specs.List.{slice_split}
use Rattle.sf_format.specs.declared.directive.Directive.{Directive}
use Rattle.sf_forms.specs.makers.Forms.{Heading, header_text}
use Rattle.sf_forms.specs.makers.Names.{IsNamesFault}
use Rattle.sf_forms.specs.declared.makers.maker.Unwritten.{Unwritten}
use Rattle.sf_forms.specs.declared.makers.maker.Unwritten.TheVariants as unwritten
use Rattle.sf_forms.specs.declared.makers.names.NamesFault.{NamesFault}
use Rattle.sf_forms.specs.declared.makers.names.NamesFault.TheVariants as naming
use Rattle.sf_messages.specs.declared.fault.CommandFault.{CommandFault}
use Rattle.sf_messages.specs.declared.fault.CommandFault.TheVariants.{Memory, NameCount, NameEmpty, NameTwice, Write}
use Rattle.sf_records.specs.form.OutputForm.{OutputForm}
use Rattle.sf_words.specs.declared.order.Order.{Order}

-- the text of the names, if there is one
abbrev pub names_text : Order → Option (List ℕ)
names_text order = option_map string_bytes order.names

-- a comma stands between each two names
abbrev pub split : List ℕ → List (List ℕ)
split text = slice_split (λ b. b == 44) text

-- the heading of records in this form: the names in the text, and whether a first column has the number of the format that counted
abbrev pub heading_by : OutputForm → Option (List ℕ) → Bool → Heading
heading_by form names tagged = record { form = form; names = option_map split names; tagged = tagged }

-- the header stands before what is written of the first input, and before no other: this is the place of the file that is read
abbrev pub is_headed : Option ℕ → Bool
is_headed (Some (suc n)) = false
is_headed _ = true

-- the header, where it is due
abbrev pub due_header : Bool → Heading → List ℕ
due_header due heading = if due then header_text heading else []

-- what is wrong with names, as the command's fault
abbrev pub names_fault : NamesFault → CommandFault
names_fault (naming.Count expected got) = NameCount expected got
names_fault (naming.Empty number) = NameEmpty number
names_fault (naming.Twice number) = NameTwice number

-- the names in the text are no names of the formats' values, for this; or memory for them was refused
abbrev pub IsUnnamed : Bool → List ℕ → List (List Directive) → CommandFault → Type 0
IsUnnamed tagged text formats fault =
    ((why : NamesFault) × IsNamesFault tagged (split text) formats why × (fault ≡ names_fault why)) ⊎ (fault ≡ Memory)

-- why the line over the records was not written in full
abbrev pub header_fault : Unwritten → CommandFault
header_fault unwritten.Write = Write
header_fault _ = Memory
