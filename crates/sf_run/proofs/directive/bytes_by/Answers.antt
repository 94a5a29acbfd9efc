use Rattle.std.proofs.Common.{◌∙◌, ℕ, sym, subst, Option, arith}
use Rattle.std.specs.Prelude.{IfSome}
use Rattle.sf_item.specs.Wholes.{ItemWithin}
use Rattle.sf_run.proofs.Pieces.{bytes_read}
use Rattle.sf_run.proofs.directive.bytes_by.Goals as goal

pub returns-clause-answers : goal.returns-clause-answers
returns-clause-answers c k is item proper ink n =
    let own : ItemWithin k.shape k.width c.args.piece.now c.in_ok-item.item =
    subst (λ (o : Option ℕ). IfSome o (ItemWithin k.shape k.width c.args.piece.now)) c.in_ok-item.was item in
    let some = own.some in
    let below = own.behind in
    bytes_read k is.plain n c.in_ok-item.item c.args.piece.now c.finish_bytes.result proper is.shape own (ink (omega (arith, below)))
    (λ none. c.finish_bytes.ensures.none (sym is.slot ∙ none)) (λ slot some. c.finish_bytes.ensures.some slot (sym is.slot ∙ some))

pub returns-clause-fits : goal.returns-clause-fits
returns-clause-fits c k is item =
    let own : ItemWithin k.shape k.width c.args.piece.now c.in_ok-item.item =
    subst (λ (o : Option ℕ). IfSome o (ItemWithin k.shape k.width c.args.piece.now)) c.in_ok-item.was item in
    let below = own.behind in
    record {
      within = omega (arith, below);
      given = λ ok some. c.finish_bytes.ensures.given ∙ sym is.slot;
      number = c.finish_bytes.ensures.number;
      memory = c.finish_bytes.ensures.memory;
    }
