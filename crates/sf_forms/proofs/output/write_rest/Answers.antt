use Rattle.std.proofs.Common.{take, drop, suc, get_or, sym, ap, ◌∙◌, ◌++◌}
use Rattle.std.proofs.lemmas.List.{take-append-drop}
use Rattle.std.proofs.Math.Seq.{drop-cons}
use Rattle.sf_print.proofs.Appending.{took_more, Appends-then, Appends-same, Appends-keeps}
use Rattle.sf_forms.proofs.output.write_rest.Goals as goal

pub loop-done-preserved : goal.loop-done-preserved
loop-done-preserved g c =
    let l = c.loop-done in
    let more = took_more c.args.rest.now l.done c.in-Ok.count l.invariant.within c.in-Ok.ensures.most in
    record {
      sound = c.in-Ok.ensures.failures ∙ l.invariant.sound;
      within = more.0;
      took = Appends-same _ _ _ _ (sym more.1) (Appends-then _ _ _ _ _ l.invariant.took c.in-Ok.ensures.took);
    }

pub returns-in-Err-clause-failed : goal.returns-in-Err-clause-failed
returns-in-Err-clause-failed g c =
    let l = c.loop-done in
    let bytes = c.args.rest.now in (
      take l.done bytes,
      get_or bytes l.done 0,
      drop (suc l.done) bytes,
      sym (take-append-drop l.done bytes) ∙ ap (λ rest. take l.done bytes ++ rest) (drop-cons bytes l.done 0 c.loop-done-test.true),
      Appends-keeps _ _ _ _ l.invariant.took c.in-Err.ensures.took,
    )
