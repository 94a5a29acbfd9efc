-- Faults of formats as faults of a command.
use Rattle.sf_format.specs.declared.fault.FormatFault.{FormatFault}
use Rattle.sf_format.specs.declared.fault.FormatWhy.{FormatWhy}
use Rattle.sf_format.specs.declared.fault.FormatWhy.TheVariants.{NoMemory}
use Rattle.sf_messages.specs.declared.fault.CommandFault.{CommandFault}
use Rattle.sf_messages.specs.declared.fault.CommandFault.TheVariants.{Format, PrintFormat, Memory}

-- the command's fault for a format's fault
abbrev pub format_fault_by : FormatWhy → FormatFault → CommandFault
format_fault_by NoMemory fault = Memory
format_fault_by _ fault = Format fault

abbrev pub format_fault : FormatFault → CommandFault
format_fault fault = format_fault_by fault.why fault

abbrev pub print_format_fault_by : FormatWhy → FormatFault → CommandFault
print_format_fault_by NoMemory fault = Memory
print_format_fault_by _ fault = PrintFormat fault

abbrev pub print_format_fault : FormatFault → CommandFault
print_format_fault fault = print_format_fault_by fault.why fault
