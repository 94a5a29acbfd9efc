use Rattle.sf_base.proofs.StoreLemmas.EntryLemmas.{kept_of-cut}
use Rattle.sf_base.proofs.stores.fixed_store.FixedStoreStore.cut_text.Goals as goal

pub returns : goal.returns
returns g c =
    let s = c.self.inside in
    let is_opened = rw (← c.self.view_is) at c.requires.opened in
    let within = rw (← c.self.view_is) at c.requires.within in
    rw (c.truncate.ensures.items, ← c.self.view_is)
    (kept_of-cut s.entries.items s.bytes.items s.closed c.args.count g.row.CAP s.opened c.self.invariant.0.closed_held c.self.invariant.1
    is_opened within)
