use Rattle.std.proofs.Common.{[], refl, ◌++◌, ◌-◌, ◌+◌, replicate, ap, sym, ◌∙◌, arith, append-nil}
use Rattle.sf_print.proofs.Staging.{stays, handed_on, Stops-middle, PutsAll-then, PutsAll-same, runs}
use Rattle.sf_print.proofs.handing.put_run.Goals as goal

pub loop-stage-preserved : goal.loop-stage-preserved
loop-stage-preserved g c =
    let l = c.loop-stage in
    let room = 128 - l.stage.len in
    let b = c.args.byte in
    record {
      within = omega arith;
      sound = c.in_ok-flush.ensures.failures ∙ l.invariant.sound;
      text = PutsAll-same _ _ _ _ _ _ ((replicate (c.args.count - l.left) b ++ replicate room b) ++ []) _
          (append-nil _ ∙ runs (c.args.count - l.left) room (c.args.count - (l.left - room)) b
          (omega (arith, l.invariant.within, c.loop-stage-test.true)))
          (PutsAll-then _ _ _ _ _ _ _ _ _ _ [] (PutsAll-then _ _ _ _ _ _ _ _ _ _ _ l.invariant.text
          (stays _ _ _ _ _ _ c.hold_run.ensures.held c.hold_run.ensures.written)) c.in_ok-flush.ensures.text);
      count = omega (
        arith,
        l.invariant.count,
        l.invariant.within,
        l.stage.within,
        c.loop-stage-test.true,
        c.hold_run.ensures.len,
        c.hold_run.ensures.written,
        c.in_ok-flush.ensures.len,
        c.in_ok-flush.ensures.count,
      );
    }

pub returns-in_err-flush-clause-text : goal.returns-in_err-flush-clause-text
returns-in_err-flush-clause-text g c =
    let l = c.loop-stage in
    let room = 128 - l.stage.len in
    let b = c.args.byte in
    handed_on _ _ c.args.stage.now c.flush.new.stage (replicate c.args.count b) c.from_residual.result _ c.from_residual.ensures.1
    (Stops-middle _ _ _ _ _ _ _ _ (replicate (c.args.count - l.left) b ++ replicate room b) [] (replicate (l.left - room) b)
    (replicate c.args.count b)
    (PutsAll-then _ _ _ _ _ _ _ _ _ _ _ l.invariant.text (stays _ _ _ _ _ _ c.hold_run.ensures.held c.hold_run.ensures.written))
    c.in_err-flush.ensures.text
    (sym (ap (λ t. t ++ replicate (l.left - room) b) (runs (c.args.count - l.left) room (c.args.count - l.left + room) b refl)
    ∙ runs (c.args.count - l.left + room) (l.left - room) c.args.count b (omega (arith, l.invariant.within, c.loop-stage-test.true)))))

pub returns-clause-text : goal.returns-clause-text
returns-clause-text g c =
    let l = c.loop-stage in
    PutsAll-same _ _ _ _ _ _ (replicate (c.args.count - l.left) c.args.byte ++ replicate l.left c.args.byte) _
    (runs (c.args.count - l.left) l.left c.args.count c.args.byte (omega (arith, l.invariant.within)))
    (PutsAll-then _ _ _ _ _ _ _ _ _ _ _ l.invariant.text (stays _ _ _ _ _ _ c.hold_run-2.ensures.held c.hold_run-2.ensures.written))
