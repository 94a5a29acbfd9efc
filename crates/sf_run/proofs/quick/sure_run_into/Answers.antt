use Rattle.sf_run.proofs.quick.sure_run_into.Goals as goal

pub returns-in-Err-clause-answers : goal.returns-in-Err-clause-answers
returns-in-Err-clause-answers g c ended = c.run_rest.ensures.answers _ c.run_all_rows.ensures.room ended
