use Rattle.std.proofs.Common.{subst, inl, inr, List, ℕ, ◌≡◌, false}
use Rattle.sf_base.specs.Blanks.{are_white, trimmed_end}
use Rattle.sf_item.specs.ColumnScans.{conversion_of, IsAt, TextEnds}
use Rattle.sf_item.specs.Scan.{HasRead}
use Rattle.sf_item.proofs.ColumnReadings.{inside_ends, after_ends, broken_ends}
use Rattle.sf_item.proofs.column.ColumnScan.finish.Goals as goal

pub returns-in-Inside : goal.returns-in-Inside
returns-in-Inside c = λ f h.
    let scan = c.args.self.now in
    let conversion = conversion_of scan in
    let ends : (t : List ℕ) → HasRead scan.reading t → are_white t ≡ false → TextEnds conversion (trimmed_end t) c.end_of_reading.result =
    λ t. c.end_of_reading.ensures conversion t h.reached.0 in
    elim c.in-Inside.is [
      | inl e ↦ inside_ends conversion scan.reading f h.reached.0 c.end_of_reading.result ends
          (subst (λ place. IsAt conversion scan.reading place f) e h.reached.1)
      | inr e ↦ after_ends conversion scan.reading f h.reached.0 c.end_of_reading.result ends
          (subst (λ place. IsAt conversion scan.reading place f) e h.reached.1)
    ]

pub returns-in-Broken : goal.returns-in-Broken
returns-in-Broken c = λ f h.
    let scan = c.args.self.now in
    let conversion = conversion_of scan in
    broken_ends conversion scan.reading f (subst (λ place. IsAt conversion scan.reading place f) c.in-Broken.is h.reached.1)
