use Rattle.std.proofs.Common.{◌≡◌, ◌+◌, ◌-◌, ◌≤◌, length, drop}
use Rattle.std.specs.List.{prefix_len}
use Rattle.sf_forms.specs.Quotes.{is_plain}
use Rattle.sf_forms.proofs.quote.plain_run.Given as goal

-- the bytes so far are plain
abbrev pub invariant-loop-at : goal.invariant-loop-at
invariant-loop-at l = record {
  within : l.at ≤ length l.bytes;
  front : prefix_len is_plain l.bytes ≡ l.at + prefix_len is_plain (drop l.at l.bytes);
}

abbrev pub decreases-loop-at : goal.decreases-loop-at
decreases-loop-at l = length l.bytes - l.at
