use Rattle.std.proofs.Common.{◌≡◌, ◌∙◌, ◌+◌, ◌≤◌, List, ap, length, subst, take, IfSome}
use Rattle.std.specs.Prelude.{IsSome}
use Rattle.sf_base.specs.Data.{Datum}
use Rattle.sf_format.specs.declared.directive.Directive.{Directive}
use Rattle.sf_format.specs.Proper.{destinations_of}
use Rattle.sf_pair.specs.Fits.{Fit}
use Rattle.sf_print.specs.Printed.{printed}
use Rattle.sf_records.specs.Copies.{row_in, row_of}
use Rattle.sf_records.proofs.copy_maker.write_copy.Goals as goal

pub returns-then-destinations-le-FEW_VALUES : goal.returns-then-destinations-le-FEW_VALUES
returns-then-destinations-le-FEW_VALUES g c =
    let pair = c.args.pair.now in
    let same : row_of c.destinations-destinations.result c.args.report.now.values ≡ row_in pair.scan c.args.report.now =
    ap (λ n. row_of n c.args.report.now.values) (c.destinations-destinations.ensures.count
    ∙ ap (λ (ds : List Directive). length (destinations_of ds)) c.scan.ensures.value) in
    let w = c.write_line in
    record {
      within = w.ensures.within;
      written = subst (λ (row : List Datum). IfSome w.result (λ end. take end w.new.line ≡ printed pair.print row)) same w.ensures.written;
      fits = subst (λ (row : List Datum). IfSome w.result (λ end. Fit pair.print pair.scan row)) same w.ensures.fits;
      answers = subst (λ (row : List Datum). Fit pair.print pair.scan row → length (printed pair.print row) + 21 ≤ length c.args.line.now
          → IsSome w.result) same w.ensures.answers;
    }

pub returns : goal.returns
returns g c =
    let pair = c.args.pair.now in
    let same : row_of c.destinations-destinations.result c.args.report.now.values ≡ row_in pair.scan c.args.report.now =
    ap (λ n. row_of n c.args.report.now.values) (c.destinations-destinations.ensures.count
    ∙ ap (λ (ds : List Directive). length (destinations_of ds)) c.scan.ensures.value) in
    let w = c.write_long_line in
    record {
      within = w.ensures.within;
      written = subst (λ (row : List Datum). IfSome w.result (λ end. take end w.new.line ≡ printed pair.print row)) same w.ensures.written;
      fits = subst (λ (row : List Datum). IfSome w.result (λ end. Fit pair.print pair.scan row)) same w.ensures.fits;
      answers = subst (λ (row : List Datum). Fit pair.print pair.scan row → length (printed pair.print row) + 21 ≤ length c.args.line.now
          → IsSome w.result) same w.ensures.answers;
    }
