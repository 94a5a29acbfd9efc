use Rattle.std.proofs.Common.{true, List, ℕ, take, drop, sym, ap, subst, rules}
use Rattle.sf_base.specs.Data.{Bytes}
use Rattle.sf_run.specs.declared.directive.Finished.{Finished}
use Rattle.sf_run.specs.Phases.{end_of}
use Rattle.sf_run.specs.Quick.{GivesTo}
use Rattle.sf_report.specs.Steps.{Stores}
use Rattle.sf_run.proofs.AtOnce.{text_given}
use Rattle.sf_run.proofs.quick.give.Goals as goal

pub returns-in-Ok-clause-gives : goal.returns-in-Ok-clause-gives
returns-in-Ok-clause-gives g c =
    let e = c.args.ended in
    let slot : ℕ = c.in-Closes.slot in
    let old = g.S.Store.kept c.args.store.now in
    let new = g.S.Store.kept c.put_text.new.self in
    subst (λ (f : Finished). GivesTo (end_of (take e.item (drop e.before c.args.piece.now)) f) true old new) (sym c.in-Closes.is)
    (subst (λ (y : List ℕ). GivesTo (Stores slot (Bytes y)) true old new) (ap (take e.item) c.split_at.ensures.back)
    (text_given slot (take e.item c.split_at.result.1.now) new.room old new c.in-Ok.ensures.ok))

pub returns-in-Err-clause-gives : goal.returns-in-Err-clause-gives
returns-in-Err-clause-gives g c = search rules
