use Rattle.std.proofs.Common.{◌≡◌, ◌∙◌, ◌+◌, ◌++◌, ℕ, List, [], length, min, ap, sym, arith, take, drop}
use Rattle.std.proofs.lemmas.List.{take-append-drop, take-take, length-take-le}
use Rattle.std.proofs.lemmas.Simd.{put_chunk_is}
use lib.Count.{count_trailing_zeros}
use Rattle.sf_forms.specs.Escapes.{stays}
use Rattle.sf_forms.proofs.Filling.{part_written}
use Rattle.sf_forms.proofs.Quoting.{front_by_mask}
use Rattle.sf_forms.proofs.escape.write_sixteen.Goals as goal

pub returns-clause-count : goal.returns-clause-count
returns-clause-count c =
    let piece = c.args.piece.now in
    let xs = take c.args.count piece in
    let long : length xs ≡ c.args.count = length-take-le c.args.count piece (omega arith) in
    c.min.ensures ∙ ap (λ (n : ℕ). min n (count_trailing_zeros 64 c.odd_in-odd.result)) (sym long)
    ∙ front_by_mask (stays c.args.form) [] piece xs (drop c.args.count piece) 0 c.odd_in-odd.result (omega arith)
    (sym (take-append-drop c.args.count piece)) (omega arith) (omega (arith, long)) c.odd_in-odd.ensures

pub returns-clause-written : goal.returns-clause-written
returns-clause-written c =
    let piece = c.args.piece.now in
    let buf = c.args.buf.now in
    let lanes : List ℕ = take 16 piece in
    let wide : length lanes ≡ 16 = length-take-le 16 piece (omega arith) in
    part_written buf _ lanes _ _ c.args.at c.args.count (omega arith) (omega (arith, wide))
    (put_chunk_is c.args.at buf lanes (omega (arith, wide))) (take-take c.args.count 16 piece (omega arith))
