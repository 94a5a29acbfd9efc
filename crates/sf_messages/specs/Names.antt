-- The names of formats.
use Rattle.std.specs.Prelude.{ℕ, List, codes}
use Rattle.sf_messages.specs.declared.fault.FormatName.{FormatName}
use Rattle.sf_messages.specs.declared.fault.FormatName.TheVariants as name

-- how a format is named
abbrev pub name_text : FormatName → List ℕ
name_text name.Scan = codes "scan format"
name_text name.Print = codes "print format"
