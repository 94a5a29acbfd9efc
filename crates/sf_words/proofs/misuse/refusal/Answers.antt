use Rattle.std.proofs.Common.{inl, refl}
use Rattle.sf_words.specs.Misuses.{misuse_kind}
use Rattle.sf_words.proofs.Given.{no_request}
use Rattle.sf_words.proofs.misuse.refusal.Goals as goal

pub returns-in-Ok : goal.returns-in-Ok
returns-in-Ok c = (misuse_kind c.args.misuse, inl refl, no_request c.args.misuse)
