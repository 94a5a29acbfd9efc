use Rattle.std.proofs.Common.{take, drop, sym, ◌∙◌, arith}
use Rattle.std.proofs.lemmas.Grind.{common_steps}
use Rattle.std.proofs.lemmas.List.{take-append-drop, length-take-le, length-drop}
use Rattle.sf_print.proofs.Appending.{took_more, Appends-then, Appends-same, Appends-keeps}
use Rattle.sf_print.proofs.handing.hand.Goals as goal

pub loop-done-preserved : goal.loop-done-preserved
loop-done-preserved g c =
    let l = c.loop-done in
    let more = took_more c.args.piece.now l.done c.in-Ok.n l.invariant.within c.in-Ok.ensures.most in
    record {
      sound = c.in-Ok.ensures.failures ∙ l.invariant.sound;
      within = more.0;
      took = Appends-same _ _ _ _ (sym more.1) (Appends-then _ _ _ _ _ l.invariant.took c.in-Ok.ensures.took);
    }

pub returns-in-Err-clause-took : goal.returns-in-Err-clause-took
returns-in-Err-clause-took g c =
    let l = c.loop-done in (
      take l.done c.args.piece.now,
      drop l.done c.args.piece.now,
      sym (take-append-drop l.done c.args.piece.now),
      Appends-keeps _ _ _ _ l.invariant.took c.in-Err.ensures.took,
      omega (arith, length-take-le l.done c.args.piece.now l.invariant.within),
      omega (arith, length-drop l.done c.args.piece.now, c.loop-done-test.true),
    )

pub returns-clause-took : goal.returns-clause-took
returns-clause-took g c = grind (arith, common_steps)
