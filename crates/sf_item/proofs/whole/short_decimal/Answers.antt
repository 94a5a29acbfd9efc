use Rattle.std.proofs.Common.{◌-◌, ◌<◌, ℕ, List, length, slice_index_or, sym, ap, arith}
use Rattle.std.proofs.lemmas.List.{length-take}
use Rattle.sf_item.proofs.Readings.{decimal_value, decimal_read}
use Rattle.sf_item.proofs.Wholes.{ten_more}
use Rattle.sf_item.proofs.whole.short_decimal.Goals as goal

pub loop-i-preserved : goal.loop-i-preserved
loop-i-preserved c =
    let piece : List ℕ = c.args.piece.now in
    let i : ℕ = c.loop-i.i in
    let b = slice_index_or piece i 0 in
    let value = decimal_value b c.if-b-lt48.false c.if-b-gt57.false in
    let within = c.loop-i.invariant.within in
    let differs = c.if-i-digits.false in
    let below : i < length c.args.digits.now = omega (arith, within, differs) in
    let front = ap length c.requires.front in
    record {
      read = λ numeral sign.
          decimal_read numeral sign piece i 0 c.loop-i.number (b - 48) (omega (arith, below, front, length-take {A = ℕ}))
          (omega (arith, value, c.if-b-gt57.false)) (sym value) (c.loop-i.invariant.read numeral sign);
      small = ten_more i c.loop-i.number (b - 48) c.loop-i.invariant.small (omega (arith, c.if-b-gt57.false));
      within = omega (arith, below);
    }
