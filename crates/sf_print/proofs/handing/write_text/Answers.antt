use Rattle.sf_print.proofs.InPlace.{front_taken}
use Rattle.sf_print.proofs.handing.write_text.Goals as goal

pub returns-in-Err-clause-written : goal.returns-in-Err-clause-written
returns-in-Err-clause-written g c =
    let (front, rest, is, known, count, more) = c.in-Err.ensures.took in
    front_taken _ _ c.args.text.now front rest c.in-Err.written is known count more
