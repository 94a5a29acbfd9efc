use Rattle.sf_command.proofs.entry.invocation.run_source.Given as goal

-- the input is what the source tells, and its name is that under which it is lent
abbrev pub ghosts-run_placed-B-Input : goal.ghosts-run_placed-B-Input
ghosts-run_placed-B-Input g a = record { input = g.S.Source.to_come a.from.now }

abbrev pub ghosts-run_placed-B-Name : goal.ghosts-run_placed-B-Name
ghosts-run_placed-B-Name g a = record { name = a.from.ghost_name }

abbrev pub ghosts-run_unplaced : goal.ghosts-run_unplaced
ghosts-run_unplaced g a = record { name = a.from.ghost_name }
