use Rattle.std.proofs.Common.{◌≡◌, ◌++◌, List, [], ◌∷◌, Some, ap, sym, ◌∙◌, append-nil}
use Rattle.std.specs.Prelude.{is_err}
use Rattle.sf_base.specs.Data.{Datum, Real, datum_at}
use Rattle.sf_base.specs.declared.real.Real.TheVariants as reals
use Rattle.sf_base.specs.declared.values.Value.TheVariants as values
use Rattle.sf_print.specs.Printed.{printed}
use Rattle.sf_run.specs.Runs.{RunReport}
use Rattle.sf_laws_tests.proofs.Carrying.{short_enough, slot_has, value_is, written}
use Rattle.sf_laws_tests.proofs.there.carried.Goals as goal

pub unreachable-requires : goal.unreachable-requires
unreachable-requires c =
    let us = c.args.pair.now.print in
    let ds = c.args.pair.now.scan in
    let given : List Datum = Real (reals.F64 c.args.bits) ∷ [] in
    let text = printed us given in
    let fit = (c.fits_is_fit.ensures us ds given).0 (sym c.double_fits.ensures.test ∙ c.if-not-double_fits.false) in
    let ok = sym c.is_err.ensures.value ∙ c.if-is_err.false in
    let low = short_enough text c.write.result ok (λ long. ap is_err (c.write.ensures.long fit long).0) in
    let wrote = written text c.new-text.result.bytes c.write.new.to.bytes c.write.result ok (c.write.ensures.written fit low) in
    let input : Some (c.new-from.result.held ++ c.new-from.result.source.to_come) ≡ Some (text ++ []) =
    ap (λ h. Some (h ++ c.new-from.result.source.to_come)) c.new-from.ensures.held
    ∙ ap (λ s. Some s.to_come) (c.new-from.ensures.source ∙ c.new.ensures)
    ∙ ap Some (c.bytes.ensures ∙ wrote ∙ ap (λ s. s.bytes ++ text) c.new-text.ensures ∙ sym (append-nil text)) in
    let has = slot_has us ds c.args.bits [] c.in-Ok.scanned.report c.in-Ok.ensures.failures (c.in-Ok.ensures.back given fit [] input low) in
    let is : c.value.result ≡ Some (values.F64 c.args.bits) = value_is c.value.result c.args.bits
    (c.value.ensures ∙ ap (λ (r : RunReport). datum_at 1 r.values) c.report.ensures ∙ has) in
    let e = c.double_in.ensures c.args.bits is in
    c.in_default-double_in.not-Some c.args.bits e

pub returns-clause-same : goal.returns-clause-same
returns-clause-same c =
    let us = c.args.pair.now.print in
    let ds = c.args.pair.now.scan in
    let given : List Datum = Real (reals.F64 c.args.bits) ∷ [] in
    let text = printed us given in
    let fit = (c.fits_is_fit.ensures us ds given).0 (sym c.double_fits.ensures.test ∙ c.if-not-double_fits.false) in
    let ok = sym c.is_err.ensures.value ∙ c.if-is_err.false in
    let low = short_enough text c.write.result ok (λ long. ap is_err (c.write.ensures.long fit long).0) in
    let wrote = written text c.new-text.result.bytes c.write.new.to.bytes c.write.result ok (c.write.ensures.written fit low) in
    let input : Some (c.new-from.result.held ++ c.new-from.result.source.to_come) ≡ Some (text ++ []) =
    ap (λ h. Some (h ++ c.new-from.result.source.to_come)) c.new-from.ensures.held
    ∙ ap (λ s. Some s.to_come) (c.new-from.ensures.source ∙ c.new.ensures)
    ∙ ap Some (c.bytes.ensures ∙ wrote ∙ ap (λ s. s.bytes ++ text) c.new-text.ensures ∙ sym (append-nil text)) in
    let has = slot_has us ds c.args.bits [] c.in-Ok.scanned.report c.in-Ok.ensures.failures (c.in-Ok.ensures.back given fit [] input low) in
    let is : c.value.result ≡ Some (values.F64 c.args.bits) = value_is c.value.result c.args.bits
    (c.value.ensures ∙ ap (λ (r : RunReport). datum_at 1 r.values) c.report.ensures ∙ has) in
    let e = c.double_in.ensures c.args.bits is in
    let some = c.in-Some.is in cc
