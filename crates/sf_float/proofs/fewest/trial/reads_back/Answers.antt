use Rattle.ryu.proofs.Signs.{finite_number}
use Rattle.sf_float.proofs.fewest.trial.reads_back.Goals as goal

pub is_sign_negative-requires : goal.is_sign_negative-requires
is_sign_negative-requires c = finite_number _ (rw c.f32_from_bits_with_nan-x.ensures (rw c.in-F32.is at c.requires.finite))

pub is_sign_negative-requires-in-F64 : goal.is_sign_negative-requires-in-F64
is_sign_negative-requires-in-F64 c = finite_number _ (rw c.f64_from_bits_with_nan-x.ensures (rw c.in-F64.is at c.requires.finite))
