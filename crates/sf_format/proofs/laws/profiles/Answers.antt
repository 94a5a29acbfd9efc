use Rattle.sf_format.proofs.Profiles.{two_spells_one, one_spells_two, one_has_old_bases, two_prints_one, one_prints_two}
use Rattle.sf_format.proofs.laws.profiles.Goals as goal

pub returns-clause-scan_two : goal.returns-clause-scan_two
returns-clause-scan_two c = two_spells_one

pub returns-clause-scan_one : goal.returns-clause-scan_one
returns-clause-scan_one c = one_spells_two

pub returns-clause-scan_old : goal.returns-clause-scan_old
returns-clause-scan_old c = one_has_old_bases

pub returns-clause-print_two : goal.returns-clause-print_two
returns-clause-print_two c = two_prints_one

pub returns-clause-print_one : goal.returns-clause-print_one
returns-clause-print_one c = one_prints_two
