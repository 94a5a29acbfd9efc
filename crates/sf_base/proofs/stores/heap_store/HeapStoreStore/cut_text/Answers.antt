use Rattle.sf_base.proofs.StoreLemmas.EntryLemmas.{kept_of-cut}
use Rattle.sf_base.proofs.stores.heap_store.HeapStoreStore.cut_text.Goals as goal

pub returns : goal.returns
returns c =
    let s = c.self.inside in
    let is_opened = rw (← c.self.view_is) at c.requires.opened in
    let within = rw (← c.self.view_is) at c.requires.within in
    rw (c.truncate.ensures.bytes, ← c.self.view_is)
    (kept_of-cut s.entries.items s.bytes.bytes s.closed c.args.count s.sure s.opened c.self.invariant.0.closed_held
    c.self.invariant.1.held is_opened within)
