use Rattle.std.proofs.Common.{◌++◌, false, ap, codes, drop, inr, subst, sym}
use Rattle.std.specs.Prelude.{option_map}
use Rattle.sf_print.proofs.Appending.{Appends-none}
use Rattle.sf_records.specs.by_lines.Telling.{Tells}
use Rattle.sf_records.proofs.LinewiseLemmas.Telling.{tells_then}
use Rattle.sf_command.specs.console.Fronts.{in_front}
use Rattle.sf_command.proofs.console.error_output.write_line.Goals as goal

-- the front was not written whole
pub returns-then-write_both-clause-told : goal.returns-then-write_both-clause-told
returns-then-write_both-clause-told g c =
    let line = c.args.line.now in
    let before = g.C.Console.said c.args.err.now in
    let after = g.C.Console.said c.write_both.new.err in
    let failed = c.write_both.result in
    let text = ap (λ f. in_front (option_map (λ given. given.now) f) line) c.in-Some.is in
    let told = tells_then false failed failed before after after (codes "sf: " ++ c.as_bytes.result.now) (codes ": " ++ drop 4 line)
    c.write_both.ensures.told (inr (inr (c.if-write_both.true, c.if-write_both.true, Appends-none after))) in
    subst (Tells false failed before after) (sym text)
    (subst (λ name. Tells false failed before after ((codes "sf: " ++ name) ++ (codes ": " ++ drop 4 line))) c.as_bytes.ensures.value told)

-- it was, and then what follows `sf: `
pub returns-else-write_both-clause-told : goal.returns-else-write_both-clause-told
returns-else-write_both-clause-told g c =
    let line = c.args.line.now in
    let before = g.C.Console.said c.args.err.now in
    let mid = g.C.Console.said c.write_both.new.err in
    let after = g.C.Console.said c.write_both-else-write_both.new.err in
    let failed = c.write_both-else-write_both.result in
    let text = ap (λ f. in_front (option_map (λ given. given.now) f) line) c.in-Some.is in
    let first = subst (λ r. Tells false r before mid (codes "sf: " ++ c.as_bytes.result.now)) c.if-write_both.false
    c.write_both.ensures.told in
    let told = tells_then false false failed before mid after (codes "sf: " ++ c.as_bytes.result.now) (codes ": " ++ c.after_sf.result.now)
    first c.write_both-else-write_both.ensures.told in
    let named = subst (λ name. Tells false failed before after ((codes "sf: " ++ name) ++ (codes ": " ++ c.after_sf.result.now)))
    c.as_bytes.ensures.value told in
    subst (Tells false failed before after) (sym text)
    (subst (λ rest. Tells false failed before after ((codes "sf: " ++ c.in-Some.name.now) ++ (codes ": " ++ rest))) c.after_sf.ensures
    named)
