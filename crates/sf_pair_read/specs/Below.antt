-- What the laws of pairs say.
use Rattle.sf_pair.specs.Walk.{AlignedIsAccepted}
use Rattle.sf_pair.specs.Laws.{AlignedIsBounded, AlignedSlotsAgree, HeldIsBounded, ReadWithin, RoundTrip}

pub record PairLaws : Type 0 where
  pub accepted : AlignedIsAccepted
  pub bounded : AlignedIsBounded
  pub held : HeldIsBounded
  pub within : ReadWithin
  pub trip : RoundTrip
  pub slots : AlignedSlotsAgree
