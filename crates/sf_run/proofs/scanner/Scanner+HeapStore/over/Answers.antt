use Rattle.std.proofs.Common.{rules}
use Rattle.sf_run.proofs.scanner.Scanner+HeapStore.over.Goals as goal

pub returns-then-limit-gt-MOST_BYTES-clause-enough : goal.returns-then-limit-gt-MOST_BYTES-clause-enough
returns-then-limit-gt-MOST_BYTES-clause-enough c = search rules

pub returns-then-limit-gt-MOST_BYTES-clause-as_much : goal.returns-then-limit-gt-MOST_BYTES-clause-as_much
returns-then-limit-gt-MOST_BYTES-clause-as_much c = search rules

pub on_heap-requires-clause-empty : goal.on_heap-requires-clause-empty
on_heap-requires-clause-empty c = search rules
