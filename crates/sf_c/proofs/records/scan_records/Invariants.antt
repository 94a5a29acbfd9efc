use Rattle.std.proofs.Common.{◌≡◌, ◌≤◌, ◌-◌, length}
use Rattle.sf_c.specs.Records.{AreScanned}
use Rattle.sf_c.proofs.records.scan_records.Given as goal

-- the records so far are scanned, and their cells are the first ones
abbrev pub invariant-records : goal.invariant-records
invariant-records l = record {
  scanned : (s : AreScanned l.lines l.format l.limit l.text l.done l.values l.texts) × (length s.cells ≡ l.at);
  used : l.done.used ≤ length l.text;
  filled : l.done.filled ≤ length l.texts;
  few : l.done.records ≤ l.done.used;
  failed : l.done.failed ≡ 0;
  at : l.at ≤ length l.values;
}

abbrev pub decreases-records : goal.decreases-records
decreases-records l = length l.text - l.done.used
