use Rattle.std.proofs.Common.{◌≡◌, ◌+◌, List, ◌∷◌, drop, map, sym, ap, ◌∙◌, arith}
use Rattle.std.proofs.lemmas.List.{drop_all}
use Rattle.sf_base.specs.Data.{datum_of}
use Rattle.sf_format.specs.declared.directive.Directive.{Directive}
use Rattle.sf_format.specs.declared.unit.Unit.{Unit as PrintUnit}
use Rattle.sf_pair.specs.Fits.{all_fit, conversions, assigned_conversions}
use Rattle.sf_pair.proofs.Walking.{drop_next}
use Rattle.sf_pair.proofs.FitTests.{one_fits, none_left, none_assigned, none_fit, some_fit, last}
use Rattle.sf_pair.proofs.fitting.all_fit.Goals as goal
use Rattle.sf_pair.proofs.fitting.all_fit.Goals.{in-Some+in-Some-next_conversion+else-not-slot_fits, in_default}

pub returns-in_default-next_conversion : goal.returns-in_default-next_conversion
returns-in_default-next_conversion c =
    let ds = c.args.directives.now in
    let i = c.loop-directive.directive-index in
    let d = c.directive-item.result in
    let first : drop i ds ≡ d ∷ drop (i + 1) ds = drop_next ds i d c.loop-directive-test.true
    ∙ ap (λ (e : Directive). e ∷ drop (i + 1) ds) (sym c.directive-item.is) in
    sym (c.loop-directive.invariant ∙ none_left (map datum_of c.args.values.now) c.loop-directive.left.now ds i d c.in-Some.scan.now first
    c.in-Some.ensures c.in_default-next_conversion.ensures)

pub returns-then-not-slot_fits : goal.returns-then-not-slot_fits
returns-then-not-slot_fits c =
    let ds = c.args.directives.now in
    let i = c.loop-directive.directive-index in
    let d = c.directive-item.result in
    let first : drop i ds ≡ d ∷ drop (i + 1) ds = drop_next ds i d c.loop-directive-test.true
    ∙ ap (λ (e : Directive). e ∷ drop (i + 1) ds) (sym c.directive-item.is) in
    let conv = c.in-Some-next_conversion.conv.now in
    let rest = c.in-Some-next_conversion.rest.now in
    sym (
    c.loop-directive.invariant
    ∙ one_fits (map datum_of c.args.values.now) c.loop-directive.left.now rest conv ds i d c.in-Some.scan.now first c.in-Some.ensures
    c.in-Some-next_conversion.ensures
    ∙ none_fit (map datum_of c.args.values.now) (conversions rest)
    (assigned_conversions (drop (i + 1) ds)) conv c.in-Some.scan.now c.slot_fits.result c.slot_fits.ensures c.if-not-slot_fits.true
    )

pub loop-directive-preserved : goal.loop-directive-preserved
loop-directive-preserved c =
    let ds = c.args.directives.now in
    let i = c.loop-directive.directive-index in
    let d = c.directive-item.result in
    let values = map datum_of c.args.values.now in
    let first : drop i ds ≡ d ∷ drop (i + 1) ds = drop_next ds i d c.loop-directive-test.true
    ∙ ap (λ (e : Directive). e ∷ drop (i + 1) ds) (sym c.directive-item.is) in
    elim c.match-assigned.branch [
      | in-Some+in-Some-next_conversion+else-not-slot_fits w ↦
          let same : c.match-assigned.left.now ≡ w.in-Some-next_conversion.rest.now = (let e = w.left-is in cc) in
          c.loop-directive.invariant
          ∙ one_fits values c.loop-directive.left.now w.in-Some-next_conversion.rest.now w.in-Some-next_conversion.conv.now ds i d
          w.in-Some.scan.now first w.in-Some.ensures w.in-Some-next_conversion.ensures
          ∙ some_fit values (conversions w.in-Some-next_conversion.rest.now)
          (assigned_conversions (drop (i + 1) ds)) w.in-Some-next_conversion.conv.now w.in-Some.scan.now w.slot_fits.result
          w.slot_fits.ensures w.if-not-slot_fits.false
          ∙ ap (λ (us : List PrintUnit). all_fit values (conversions us) (assigned_conversions (drop (i + 1) ds))) (sym same)
      | in_default w ↦
          let same : c.match-assigned.left.now ≡ c.loop-directive.left.now = (let e = w.left-is in cc) in
          c.loop-directive.invariant ∙ none_assigned values c.loop-directive.left.now ds i d first w.in_default.ensures
          ∙ ap (λ (us : List PrintUnit). all_fit values (conversions us) (assigned_conversions (drop (i + 1) ds))) (sym same)
    ]

pub returns : goal.returns
returns c =
    let ds = c.args.directives.now in
    let i = c.loop-directive.directive-index in
    let values = map datum_of c.args.values.now in
    let left = conversions c.loop-directive.left.now in
    last _ _ values left c.is_none.result c.is_none.ensures c.next_conversion-2.ensures (λ next e. (next.0.now, conversions next.1.now, e))
    ∙ sym (c.loop-directive.invariant ∙ ap (λ (t : List Directive). all_fit values left (assigned_conversions t))
    (drop_all i ds (omega (arith, c.loop-directive-test.false))))
