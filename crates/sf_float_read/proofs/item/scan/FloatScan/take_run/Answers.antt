use Rattle.std.proofs.Common.{◌≡◌, ◌+◌, ◌≤◌, ◌-◌, ℕ, List, take, drop, length, sym, ap, ◌∙◌, subst, arith, Some, None, cond}
use Rattle.std.proofs.lemmas.List.{length-drop, take_rest}
use Rattle.sf_float_read.specs.declared.item.reached.Reached.{Reached}
use Rattle.sf_float_read.specs.item.Tests.{read}
use Rattle.sf_float_read.proofs.ItemLemmas.Deciding.{read_one}
use Rattle.sf_float_read.proofs.ItemLemmas.DigitRuns.{read_further}
use Rattle.sf_float_read.proofs.item.scan.FloatScan.take_run.Goals as goal

-- with the digits ahead
ahead : (r s : Reached) (piece : List ℕ) (at k : ℕ) → read (Some r) (take at piece) ≡ Some s
    → read (Some s) (take k (take (length piece - at) (drop at piece))) ≡ Some s → read (Some r) (take (at + k) piece) ≡ Some s
ahead r s piece at k p q = read_further r s s piece at k p
    (subst (λ (t : List ℕ). read (Some s) (take k t) ≡ Some s) (take_rest piece at) q)

pub returns-then-at-piece-clause-read : goal.returns-then-at-piece-clause-read
returns-then-at-piece-clause-read c =
    ahead c.args.self.now.reached c.loop-at.self.reached c.args.piece.now c.loop-at.at c.digits_ahead-at.result
    c.loop-at.invariant.read_so c.digits_ahead-at.ensures.stays

pub returns-then-not-step-clause-read : goal.returns-then-not-step-clause-read
returns-then-not-step-clause-read c =
    ahead c.args.self.now.reached c.loop-at.self.reached c.args.piece.now c.loop-at.at c.digits_ahead-at.result
    c.loop-at.invariant.read_so c.digits_ahead-at.ensures.stays
    ∙ ap (λ s. Some s.reached) (sym (c.step.ensures.refused c.if-not-step.true))

pub returns-then-not-step-clause-stops : goal.returns-then-not-step-clause-stops
returns-then-not-step-clause-stops c below =
    let l = c.loop-at in
    let d = c.digits_ahead-at in
    let h = ahead c.args.self.now.reached l.self.reached c.args.piece.now l.at d.result l.invariant.read_so d.ensures.stays in
    read_one c.args.self.now.reached l.self.reached c.args.piece.now (l.at + d.result) below h
    ∙ sym c.step.ensures.next ∙ ap (λ t. cond t (Some c.step.new.self.reached) None) c.if-not-step.true

pub loop-at-preserved : goal.loop-at-preserved
loop-at-preserved c =
    let l = c.loop-at in
    let d = c.digits_ahead-at in
    let h = ahead c.args.self.now.reached l.self.reached c.args.piece.now l.at d.result l.invariant.read_so d.ensures.stays in
    let few = subst (λ (t : List ℕ). d.result ≤ length t) (take_rest c.args.piece.now l.at) d.ensures.within in
    let most : l.at + d.result ≤ length c.args.piece.now = omega (arith, few, length-drop l.at c.args.piece.now, l.invariant.within) in
    let within : l.at + d.result + 1 ≤ length c.args.piece.now = omega (arith, most, c.if-at-piece.false) in
    record {
      within = within;
      read_so = read_one c.args.self.now.reached l.self.reached c.args.piece.now (l.at + d.result) (omega (arith, within)) h
          ∙ sym c.step.ensures.next ∙ ap (λ t. cond t (Some c.step.new.self.reached) None) c.if-not-step.false;
      nothing = λ none. absurd (omega (arith, none));
    }
