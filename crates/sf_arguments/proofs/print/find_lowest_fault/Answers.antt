use Rattle.std.proofs.Common.{◌+◌, ◌∙◌, arith, map, string_bytes}
use Rattle.std.proofs.lemmas.List.{length-map}
use Rattle.sf_arguments.proofs.Finding.{slot_found}
use Rattle.sf_arguments.proofs.Places.{shown_is, lowest_is, stand_more}
use Rattle.sf_arguments.proofs.print.find_lowest_fault.Goals as goal

pub fault_at-requires : goal.fault_at-requires
fault_at-requires c = slot_found c.args.units.now c.requires.slots (c.loop-at.at + 1) (omega arith) (omega (arith, c.requires.count))

pub returns-in-Some-clause-found : goal.returns-in-Some-clause-found
returns-in-Some-clause-found c =
    let units = c.args.units.now in
    let words = map string_bytes c.args.words.now in
    let is = shown_is string_bytes c.args.words.now c.loop-at.at c.index-words-at.result c.as_str.result.now
    (omega arith) c.index-words-at.is c.as_str.ensures.value in
    lowest_is c.args.how units words c.loop-at.at c.as_str.result.now c.in-Some.fault
    (length-map c.args.words.now string_bytes ∙ c.requires.count) is c.in-Some.ensures.fault c.loop-at.invariant

pub loop-at-preserved : goal.loop-at-preserved
loop-at-preserved c =
    let units = c.args.units.now in
    let words = map string_bytes c.args.words.now in
    let is = shown_is string_bytes c.args.words.now c.loop-at.at c.index-words-at.result c.as_str.result.now
    (omega arith) c.index-words-at.is c.as_str.ensures.value in
    let stands = c.in_default.ensures.none in
    stand_more c.args.how units words c.loop-at.at c.as_str.result.now stands.0 c.loop-at.invariant is stands.1
