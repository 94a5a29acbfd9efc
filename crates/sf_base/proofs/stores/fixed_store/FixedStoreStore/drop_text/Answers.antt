use Rattle.std.proofs.Common.{arith}
use Rattle.std.proofs.lemmas.Grind.{common_steps}
use Rattle.sf_base.proofs.stores.fixed_store.FixedStoreStore.drop_text.Goals as goal

pub returns : goal.returns
returns g c = grind (arith, common_steps)
