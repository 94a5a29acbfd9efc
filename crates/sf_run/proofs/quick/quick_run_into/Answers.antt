use Rattle.sf_run.proofs.quick.quick_run_into.Goals as goal

pub returns-in-Err-clause-answers : goal.returns-in-Err-clause-answers
returns-in-Err-clause-answers g c done = c.done_rest.ensures.answers _ c.run_all_rows.ensures.room done
