use Rattle.std.proofs.Common.{◌≡◌, ◌++◌, ◌∙◌, Bool, true, false, None, ap, sym, subst, arith, true≢false, refl}
use Rattle.sf_run.specs.Standing.{After, Gives, ran_out}
use Rattle.sf_run.specs.Texts.{AreSound}
use Rattle.sf_run.specs.Scanner.{standing}
use Rattle.sf_run.proofs.Moves.{waits_for}
use Rattle.sf_run.proofs.Waits.{after_push, within_used, ended_gives}
use Rattle.sf_run.proofs.Refusals.{after_fine, refused_gives}
use Rattle.sf_run.proofs.scanner.Scanner.feed.Goals as goal

pub returns-clause-after : goal.returns-clause-after
returns-clause-after g c ds m x fine h =
    let e = c.push-taken.ensures in
    after_push ds m (standing c.args.self.now) (standing c.push-taken.new.self) x c.args.piece.now c.push-taken.result h
    c.push-taken.new.self.bounded (λ sound. e.same sound fine) e.used e.within e.all e.stays e.keeps (λ _. e.settled) e.comes

pub returns-clause-state : goal.returns-clause-state
returns-clause-state g c ds m x fine h =
    let e = c.push-taken.ensures in
    let then : After ds m (standing c.push-taken.new.self) (x ++ c.args.piece.now) =
    after_push ds m (standing c.args.self.now) (standing c.push-taken.new.self) x c.args.piece.now c.push-taken.result h
    c.push-taken.new.self.bounded (λ sound. e.same sound fine) e.used e.within e.all e.stays e.keeps (λ _. e.settled) e.comes in
    c.state.ensures.waits ds m (x ++ c.args.piece.now) then

pub returns-clause-taken : goal.returns-clause-taken
returns-clause-taken g c ds m x first second before after fine h r s =
    let e = c.push-taken.ensures in
    let then : After ds m (standing c.push-taken.new.self) (x ++ c.args.piece.now) =
    after_push ds m (standing c.args.self.now) (standing c.push-taken.new.self) x c.args.piece.now c.push-taken.result h
    c.push-taken.new.self.bounded (λ sound. e.same sound fine) e.used e.within e.all e.stays e.keeps (λ _. e.settled) e.comes in
    let a = within_used ds m (standing c.args.self.now) x first before h r in
    let b = within_used ds m (standing c.push-taken.new.self) (x ++ c.args.piece.now) second after then s in
    omega (arith, a, b, e.used)

pub returns-clause-gives : goal.returns-clause-gives
returns-clause-gives g c ds m x z ending h is =
    let e = c.push-taken.ensures in
    let by : (v : Bool) → ran_out (standing c.push-taken.new.self) ≡ v
    → Gives ds m (standing c.push-taken.new.self) ((x ++ c.args.piece.now) ++ z) ending =
    λ v. elim v as (λ (v : Bool). ran_out (standing c.push-taken.new.self) ≡ v
    → Gives ds m (standing c.push-taken.new.self) ((x ++ c.args.piece.now) ++ z) ending) [
      | false ↦ λ fine.
          let then : After ds m (standing c.push-taken.new.self) (x ++ c.args.piece.now) =
          after_push ds m (standing c.args.self.now) (standing c.push-taken.new.self) x c.args.piece.now c.push-taken.result h
          c.push-taken.new.self.bounded (λ sound. e.same sound fine) e.used e.within e.all e.stays e.keeps (λ _. e.settled) e.comes in
          ended_gives ds m (standing c.push-taken.new.self) (x ++ c.args.piece.now) z ending then (c.state.ensures.exactly.0 is)
      | true ↦ λ out.
          let waits : c.args.self.now.ended ≡ None =
          waits_for c.args.self.now.ended (λ i. true≢false (sym out ∙ ap (λ t. ran_out (standing t)) (e.unchanged i)
          ∙ after_fine ds m (standing c.args.self.now) x h)) in
          refused_gives ds m (standing c.args.self.now) (standing c.push-taken.new.self) x c.args.piece.now z ending h waits e.keeps
          (e.memory (subst (λ l. AreSound l) (sym h.format) (h.proper, h.columns)) waits out)
    ] in
    by (ran_out (standing c.push-taken.new.self)) refl

pub returns-clause-no_text : goal.returns-clause-no_text
returns-clause-no_text g c ds m y out after = true≢false (sym out ∙ after_fine ds m (standing c.push-taken.new.self) y after)
