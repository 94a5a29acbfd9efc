use Rattle.std.proofs.Common.{◌≡◌, [], false, Some, refl, ap, length, arith}
use Rattle.sf_base.specs.stores.Kept.{Kept, buffer_of}
use Rattle.sf_report.specs.Residual.{nothing_yet, run_of}
use Rattle.sf_run.specs.Tallies.{tally_of}
use Rattle.sf_run.specs.Scanner.{standing}
use Rattle.sf_run.specs.Standing.{ran_out}
use Rattle.sf_run.proofs.Moves.{none_refused}
use Rattle.sf_run.proofs.Slots.{room_first, size_first}
use Rattle.sf_run.specs.declared.directive.Phase.TheVariants as phase
use Rattle.sf_run.specs.Standing.{ComesBy}
use Rattle.sf_run.proofs.Coming.{came, first_comes}
use Rattle.sf_run.proofs.Waits.{after_nothing, start_does, tally_nothing}
use Rattle.sf_run.proofs.scanner.Scanner.start.Goals as goal

pub invariant_of-scanner-clause-roomy : goal.invariant_of-scanner-clause-roomy
invariant_of-scanner-clause-roomy g c bounded = room_first c.args.directives.now _ c.requires.roomy bounded

pub invariant_of-scanner-clause-sized : goal.invariant_of-scanner-clause-sized
invariant_of-scanner-clause-sized g c bounded =
    let nothing : length (buffer_of (g.S.Store.kept c.args.store)) ≡ 0 = ap (λ (k : Kept). length (buffer_of k)) c.requires.empty in
    let all = size_first c.args.directives.now bounded in
    omega (arith, nothing, all)

pub returns-clause-after : goal.returns-clause-after
returns-clause-after g c =
    let ds = c.args.directives.now in
    let kept : Kept = g.S.Store.kept c.args.store in
    let nothing : tally_of c.new.result kept.values ≡ nothing_yet =
    tally_nothing c.new.result kept.values c.new.ensures.used c.new.ensures.assigned c.new.ensures.converted
    (ap (λ (k : Kept). k.values) c.requires.empty) in
    let none = c.push.ensures.within in
    let count = c.push.ensures.used in
    let start = c.new.ensures.used in
    let used : c.push.new.self.tally.used ≡ 0 = omega (arith, none, count, start) in
    let fine : ran_out (standing c.push.new.self) ≡ false = none_refused (standing c.push.new.self) _ [] refl
    (λ out. c.push.ensures.memory c.requires.sound refl out) in
    after_nothing ds c.args.limit (standing c.push.new.self) c.push.ensures.keeps.directives c.push.ensures.keeps.limit c.requires.sound
    (λ k z within. c.push.ensures.same c.requires.sound fine z k (run_of (Some k) ds 1 nothing_yet z) (omega (arith, used)) within
    (start_does ds ds kept.opened (tally_of c.new.result kept.values) k z refl (ap (λ (k : Kept). k.opened) c.requires.empty) nothing))
    c.push.ensures.settled used c.push.ensures.keeps.met
    (λ waits.
    let first : ComesBy ds 0 phase.Skipping kept.opened c.new.result.used [] [] =
    first_comes ds kept.opened c.new.result.used (ap (λ (k : Kept). k.opened) c.requires.empty) c.new.ensures.used in
    came (standing c.push.new.self) _ [] [] c.push.result (c.push.ensures.comes c.requires.sound) (omega (arith, none)) first waits)
