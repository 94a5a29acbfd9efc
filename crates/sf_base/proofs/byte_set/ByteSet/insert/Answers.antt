use Rattle.std.proofs.Common.{◌/◌, ◌<◌, ◌||◌, ◌==◌, Bool, length, arith, sym, ap, ◌∙◌}
use Rattle.sf_base.proofs.Bits.{word_has-with_bit}
use Rattle.sf_base.proofs.Sets.{has_byte-marks_of, has_byte-held, length-marks_of}
use Rattle.sf_base.proofs.byte_set.ByteSet.insert.Goals as goal

pub returns-clause-members : goal.returns-clause-members
returns-clause-members c k below =
    let words = c.self.inside.words in
    let b = c.args.b in
    let inside : b / 64 < length words = rw c.self.invariant.0 (omega (arith, c.ranges.b.fits)) in
    has_byte-marks_of _ k below
    ∙ word_has-with_bit words b k inside
    ∙ ap (λ (had : Bool). k == b || had) (sym (has_byte-held words _ k c.self.view_is below))

pub returns-clause-sized : goal.returns-clause-sized
returns-clause-sized c = length-marks_of _
