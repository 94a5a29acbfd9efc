use Rattle.std.proofs.Common.{[], List, ◌≡◌, ◌++◌, ◌+◌, true, false, drop, is_some, length, map, take, refl, ap, sym, ◌∙◌, arith}
use Rattle.std.proofs.Common.{true≢false}
use Rattle.std.proofs.lemmas.List.{drop_all, take_all}
use Rattle.sf_format.specs.declared.directive.Directive.{Directive}
use Rattle.sf_format.specs.declared.unit.Unit.{Unit as PrintUnit}
use Rattle.sf_format.specs.declared.unit.Unit.TheVariants as unit
use Rattle.sf_print.specs.Printed.{unit_text, printed}
use Rattle.sf_print.proofs.InPlace.{more_written}
use Rattle.sf_pair.specs.Fits.{all_fit, conversions, assigned_conversions}
use Rattle.sf_pair.proofs.InPlace.{byte_next, conversion_next, first_fits, none_left_of, one_fits_of, room_at, some_left_of}
use Rattle.sf_pair.proofs.in_place.write_units.Goals.{in-Byte+in_ok-end-in-Byte, in-Conv+in-Some+in_ok-end-in-Conv}
use Rattle.sf_pair.proofs.in_place.write_units.Goals as goal

pub loop-unit-preserved : goal.loop-unit-preserved
loop-unit-preserved g c =
    let l = c.loop-unit in
    let values = map g.V.AsShown.datum c.args.values.now in
    let units = c.args.units.now in
    let i = l.unit-index in
    let below = c.loop-unit-test.true in
    let more = conversions (drop (i + 1) units) in
    elim c.match-unit.branch [
      | in-Byte+in_ok-end-in-Byte w ↦
          let same : c.match-unit.left.now ≡ l.left.now = (let e = w.left-is in cc) in
          record {
            within = omega (arith, w.in_ok-end-in-Byte.ensures.within, w.end-is, ap length w.buf-is);
            written = (λ k. take (w.end-is k) (w.buf-is k)) ∙ more_written (unit_text values) units i (unit.Byte 0) below []
                (take l.end l.buf) _ l.invariant.written
                (w.in_ok-end-in-Byte.ensures.written ∙ ap (λ (u : PrintUnit). take l.end l.buf ++ unit_text values u) (sym w.in-Byte.is));
            fits = l.invariant.fits ∙ (λ k. all_fit values (byte_next units i w.in-Byte.byte below w.in-Byte.is k)
                (assigned_conversions (sym same k)));
          }
      | in-Conv+in-Some+in_ok-end-in-Conv w ↦
          let same : c.match-unit.left.now ≡ w.in-Some.rest.now = (let e = w.left-is in cc) in
          record {
            within = omega (arith, w.in_ok-end-in-Conv.ensures.within, w.end-is, ap length w.buf-is);
            written = (λ k. take (w.end-is k) (w.buf-is k)) ∙ more_written (unit_text values) units i (unit.Byte 0) below []
                (take l.end l.buf) _ l.invariant.written
                (w.in_ok-end-in-Conv.ensures.written ∙ ap (λ (u : PrintUnit). take l.end l.buf ++ unit_text values u) (sym w.in-Conv.is));
            fits = l.invariant.fits
                ∙ one_fits_of values (conversions (drop i units)) more (assigned_conversions l.left.now)
                (assigned_conversions w.in-Some.rest.now) w.in-Conv.conv w.in-Some.scan.now
                (conversion_next units i w.in-Conv.conv below w.in-Conv.is) w.in-Some.ensures w.in_ok-end-in-Conv.ensures.fits
                ∙ ap (λ (ds : List Directive). all_fit values more (assigned_conversions ds)) (sym same);
          }
    ]

pub returns-in_err-end-in-Byte-clause-answers : goal.returns-in_err-end-in-Byte-clause-answers
returns-in_err-end-in-Byte-clause-answers g c fit room =
    let l = c.loop-unit in
    let values = map g.V.AsShown.datum c.args.values.now in
    absurd (true≢false (sym (c.in_err-end-in-Byte.ensures.answers (omega (
      arith,
      room_at values c.args.units.now l.unit-index l.end l.buf c.loop-unit-test.true l.invariant.within l.invariant.written
          (omega (arith, room, l.auto.buf)),
      ap (λ (u : PrintUnit). length (unit_text values u)) c.in-Byte.is,
    )))))

pub returns-in_default-clause-answers : goal.returns-in_default-clause-answers
returns-in_default-clause-answers g c fit room =
    let l = c.loop-unit in
    let values = map g.V.AsShown.datum c.args.values.now in
    let next = conversion_next c.args.units.now l.unit-index c.in-Conv.conv c.loop-unit-test.true c.in-Conv.is in
    let lacks : all_fit values (conversions (drop l.unit-index c.args.units.now)) (assigned_conversions l.left.now) ≡ false =
    (λ k. all_fit values (next k) (c.in_default.ensures k)) in
    sym lacks ∙ sym l.invariant.fits ∙ fit

pub returns-in_err-end-in-Conv-clause-answers : goal.returns-in_err-end-in-Conv-clause-answers
returns-in_err-end-in-Conv-clause-answers g c fit room =
    let l = c.loop-unit in
    let values = map g.V.AsShown.datum c.args.values.now in
    let units = c.args.units.now in
    let next = conversion_next units l.unit-index c.in-Conv.conv c.loop-unit-test.true c.in-Conv.is in
    let fits = first_fits values _ _ _ _ c.in-Conv.conv c.in-Some.scan.now next c.in-Some.ensures (sym l.invariant.fits ∙ fit) in
    absurd (true≢false (sym (c.in_err-end-in-Conv.ensures.answers fits (omega (
      arith,
      room_at values units l.unit-index l.end l.buf c.loop-unit-test.true l.invariant.within l.invariant.written
          (omega (arith, room, l.auto.buf)),
      ap (λ (u : PrintUnit). length (unit_text values u)) c.in-Conv.is,
    )))))

pub returns-then-is_some-clause-answers : goal.returns-then-is_some-clause-answers
returns-then-is_some-clause-answers g c fit room =
    let l = c.loop-unit in
    let units = c.args.units.now in
    let some : is_some c.next_assigned-2.result ≡ true = (let e = c.is_some.ensures in let f = c.if-is_some.true in cc) in
    some_left_of c.next_assigned-2.result _ (map g.V.AsShown.datum c.args.values.now) _ _ some c.next_assigned-2.ensures
    (λ next e. (next.0.now, assigned_conversions next.1.now, e))
    (ap conversions (drop_all l.unit-index units (omega arith))) (sym l.invariant.fits ∙ fit)

pub returns : goal.returns
returns g c =
    let l = c.loop-unit in
    let values = map g.V.AsShown.datum c.args.values.now in
    let units = c.args.units.now in
    let none : is_some c.next_assigned-2.result ≡ false = (let e = c.is_some.ensures in let f = c.if-is_some.false in cc) in
    record {
      within = l.invariant.within;
      written = l.invariant.written ∙ ap (λ (us : List PrintUnit). printed us values) (take_all l.unit-index units (omega arith));
      fits = l.invariant.fits ∙ none_left_of c.next_assigned-2.result _ values _ _ none c.next_assigned-2.ensures
          (ap conversions (drop_all l.unit-index units (omega arith)));
      answers = λ fit room. refl;
    }
