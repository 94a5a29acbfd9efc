use Rattle.std.proofs.Common.{◌∙◌}
use Rattle.sf_base.proofs.Bits.{word_has-zeros}
use Rattle.sf_base.proofs.Sets.{has_byte-marks_of, length-marks_of}
use Rattle.sf_base.proofs.byte_set.ByteSet.empty.Goals as goal

pub returns-clause-members : goal.returns-clause-members
returns-clause-members c k below = has_byte-marks_of _ k below ∙ word_has-zeros k below

pub returns-clause-sized : goal.returns-clause-sized
returns-clause-sized c = length-marks_of _
