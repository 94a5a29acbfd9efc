use Rattle.sf_item.proofs.Zeros.{front_read}
use Rattle.sf_item.proofs.whole.hex_number.Goals as goal

pub longer_hex-requires-clause-read : goal.longer_hex-requires-clause-read
longer_hex-requires-clause-read c = front_read 16 c.args.digits.now c.args.piece.now c.first_hex_digits-number.result.1
    c.first_hex_digits-number.result.0 c.requires c.first_hex_digits-number.ensures.most c.first_hex_digits-number.ensures.read
