use Rattle.std.proofs.Common.{◌+◌, subst, take, refl}
use Rattle.sf_base.specs.Sets.{has_byte}
use Rattle.sf_base.specs.Bytes.{is_ink}
use Rattle.sf_item.specs.Scan.{HasRead}
use Rattle.sf_item.proofs.Readings.{integer_read, integer_ends}
use Rattle.sf_item.proofs.Scanning.{float_reads, float_stops}
use Rattle.sf_item.proofs.Runs.{run_within, run_passes, run_stops}
use Rattle.sf_item.proofs.reading.read_all.Goals as goal

pub returns-in-Integer-clause-read : goal.returns-in-Integer-clause-read
returns-in-Integer-clause-read c = λ f h.
    rw c.in-Integer.is
    (integer_read c.in-Integer.numeral c.in-Integer.reached f (take c.integer_front.result c.args.piece.now)
    (subst (λ r. HasRead r f) c.in-Integer.is h)
    c.integer_front.new.reached c.integer_front.ensures.read)

pub returns-in-Integer-clause-stops : goal.returns-in-Integer-clause-stops
returns-in-Integer-clause-stops c = λ f h below.
    rw c.in-Integer.is
    (integer_ends c.in-Integer.numeral c.in-Integer.reached f (take (c.integer_front.result + 1) c.args.piece.now)
    (subst (λ r. HasRead r f) c.in-Integer.is h)
    (c.integer_front.ensures.stops below))

pub returns-in-Text-clause-within : goal.returns-in-Text-clause-within
returns-in-Text-clause-within c = run_within is_ink c.args.piece.now c.text_run.result c.text_run.ensures.count

pub returns-in-Text-clause-read : goal.returns-in-Text-clause-read
returns-in-Text-clause-read c = λ f h.
    let read = subst (λ r. HasRead r f) c.in-Text.is h in
    rw c.in-Text.is (refl, run_passes is_ink c.args.piece.now c.text_run.result c.text_run.ensures.count f read)

pub returns-in-Text-clause-stops : goal.returns-in-Text-clause-stops
returns-in-Text-clause-stops c = λ f h below.
    let read = subst (λ r. HasRead r f) c.in-Text.is h in
    rw c.in-Text.is (λ width. run_stops is_ink c.args.piece.now c.text_run.result c.text_run.ensures.count f read below)

pub returns-in-Set-clause-within : goal.returns-in-Set-clause-within
returns-in-Set-clause-within c = run_within (has_byte c.in-Set.members.now) c.args.piece.now c.run.result c.run.ensures.count

pub returns-in-Set-clause-read : goal.returns-in-Set-clause-read
returns-in-Set-clause-read c = λ f h.
    let read = subst (λ r. HasRead r f) c.in-Set.is h in
    rw c.in-Set.is (refl, run_passes (has_byte c.in-Set.members.now) c.args.piece.now c.run.result c.run.ensures.count f read)

pub returns-in-Set-clause-stops : goal.returns-in-Set-clause-stops
returns-in-Set-clause-stops c = λ f h below.
    let read = subst (λ r. HasRead r f) c.in-Set.is h in
    rw c.in-Set.is (λ width. run_stops (has_byte c.in-Set.members.now) c.args.piece.now c.run.result c.run.ensures.count f read below)

pub returns-in-Float-clause-read : goal.returns-in-Float-clause-read
returns-in-Float-clause-read c = λ f h.
    let read = subst (λ r. HasRead r f) c.in-Float.is h in
    rw c.in-Float.is
    (float_reads c.in-Float.field-0 c.in-Float.scan f
    (take c.take_run.result c.args.piece.now) read c.take_run.new.self c.take_run.ensures.read)

pub returns-in-Float-clause-stops : goal.returns-in-Float-clause-stops
returns-in-Float-clause-stops c = λ f h below.
    let read = subst (λ r. HasRead r f) c.in-Float.is h in
    rw c.in-Float.is
    (float_stops c.in-Float.field-0 c.in-Float.scan f (take (c.take_run.result + 1) c.args.piece.now) read (c.take_run.ensures.stops below))
