use Rattle.std.proofs.Common.{◌≤◌, length, pos, ap, arith}
use Rattle.std.specs.List.{flat_map}
use Rattle.sf_print.specs.texts.Runs.{piece_bytes}
use Rattle.sf_print.proofs.TextLemmas.Short.{integer_short}
use Rattle.sf_print.proofs.TextLemmas.Blanks.{without-le}
use Rattle.sf_print.proofs.texts.visible.least_len.Goals as goal

pub visible_pieces-requires : goal.visible_pieces-requires
visible_pieces-requires c =
    let wide : c.args.conv.now.width ≤ 65535 = omega arith in
    omega (
      arith,
      ap length c.integer_pieces.ensures,
      integer_short c.args.conv.now (pos 0) wide
          (omega (arith, c.least-digits.ensures.value)),
    )

pub overflow_cast-result : goal.overflow_cast-result
overflow_cast-result c =
    let wide : c.args.conv.now.width ≤ 65535 = omega arith in
    omega (
      arith,
      c.visible_pieces.ensures,
      without-le (flat_map piece_bytes c.integer_pieces.result),
      ap length c.integer_pieces.ensures,
      integer_short c.args.conv.now (pos 0) wide (omega (arith, c.least-digits.ensures.value)),
    )
