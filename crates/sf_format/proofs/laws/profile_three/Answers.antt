use Rattle.sf_format.proofs.Profiles.{three_spells_two, two_spells_three, three_prints_two, two_prints_three}
use Rattle.sf_format.proofs.laws.profile_three.Goals as goal

pub returns-clause-scan_three : goal.returns-clause-scan_three
returns-clause-scan_three c = three_spells_two

pub returns-clause-scan_two : goal.returns-clause-scan_two
returns-clause-scan_two c = two_spells_three

pub returns-clause-print_three : goal.returns-clause-print_three
returns-clause-print_three c = three_prints_two

pub returns-clause-print_two : goal.returns-clause-print_two
returns-clause-print_two c = two_prints_three
