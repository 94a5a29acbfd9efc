use Rattle.std.proofs.Common.{◌≡◌, ◌++◌, map, drop, string_bytes}
use Rattle.clap.specs.Walk.{texts}
use Rattle.sf_words.proofs.words.push_all.Given as goal

-- with the texts that are left, they are what they are to be
abbrev pub invariant-loop-value : goal.invariant-loop-value
invariant-loop-value l = map string_bytes l.out.items ++ texts (drop l.value-index l.values)
    ≡ map string_bytes l.fn.out.items ++ texts l.values
