use Rattle.std.proofs.Common.{ℕ, ◌+◌, ◌≤◌, length, ap, sym, ◌∙◌, arith}
use Rattle.std.specs.List.{flat_map}
use Rattle.sf_print.specs.texts.Runs.{piece_bytes}
use mir.Val.{bool_byte}
use Rattle.sf_print.proofs.TextLemmas.Blanks.{number_short, without-le}
use Rattle.sf_print.proofs.TextLemmas.Plainness.{length_seen}
use Rattle.sf_print.proofs.TextLemmas.Reals.{no_real}
use Rattle.sf_print.proofs.texts.visible.core_len.Goals as goal

pub value_pieces-requires : goal.value_pieces-requires
value_pieces-requires c = no_real c.args.value c.requires

pub visible_pieces-requires : goal.visible_pieces-requires
visible_pieces-requires c =
    let wide : c.args.conv.now.width ≤ 65535 = omega arith in
    omega (
      arith,
      ap length c.value_pieces.ensures,
      number_short c.args.conv.now c.args.value c.requires wide
          (omega (arith, c.least-digits.ensures.value)),
    )

pub overflow_cast-result-2 : goal.overflow_cast-result-2
overflow_cast-result-2 c =
    let wide : c.args.conv.now.width ≤ 65535 = omega arith in
    omega (
      arith,
      c.visible_pieces.ensures,
      without-le (flat_map piece_bytes c.value_pieces.result),
      ap length c.value_pieces.ensures,
      number_short c.args.conv.now c.args.value c.requires wide (omega (arith, c.least-digits.ensures.value)),
    )

pub returns-in-Some : goal.returns-in-Some
returns-in-Some c =
    ap (λ (n : ℕ). bool_byte c.in-Some.negative + n) c.decimal_len.ensures
    ∙ sym (length_seen c.in-Some.negative c.in-Some.magnitude _ c.in-Some.ensures.fits c.in-Some.ensures.text)
