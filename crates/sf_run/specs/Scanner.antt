-- What a scanner holds.
use Rattle.sf_base.specs.declared.stores.store.Store as store
use Rattle.sf_base.specs.stores.Kept.{Kept}
use Rattle.sf_run.specs.declared.scanner.Scanner.{Scanner}
use Rattle.sf_report.specs.Memory.{capacity_of}
use Rattle.sf_run.specs.Standing.{Standing}
use Rattle.sf_run.specs.Tallies.{tally_of}

module _ {S : Type 0} {st : store.Ghosts S} where
  -- what its store has been given
  abbrev pub kept_by : Scanner S st → Kept
  kept_by s = st.kept s.store

  -- where its run stands
  abbrev pub standing : Scanner S st → Standing
  standing s = record {
    directives = s.directives.now;
    limit = s.limit;
    passed = s.passed;
    phase = s.phase;
    tally = tally_of s.tally (st.kept s.store).values;
    opened = (st.kept s.store).opened;
    ended = s.ended;
    met = s.met;
    capacity = capacity_of (st.kept s.store);
    room = (st.kept s.store).room;
  }
