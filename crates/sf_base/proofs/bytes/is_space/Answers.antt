use Rattle.std.proofs.Common.{rules}
use Rattle.sf_base.proofs.bytes.is_space.Goals as goal

pub returns-then-b-ge9 : goal.returns-then-b-ge9
returns-then-b-ge9 c = search rules
