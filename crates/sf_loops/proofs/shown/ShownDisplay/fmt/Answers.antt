use Rattle.std.proofs.Common.{refl}
use Rattle.sf_loops.proofs.ShownBytes.{shown_all, shown_more}
use Rattle.sf_loops.proofs.shown.ShownDisplay.fmt.Goals as goal

pub loop-byte-init : goal.loop-byte-init
loop-byte-init g c = λ plain. c.in_ok-write_str.ensures.writes plain refl

pub loop-byte-preserved : goal.loop-byte-preserved
loop-byte-preserved g c = λ plain.
    let before = c.loop-byte.invariant plain in
    shown_more g.W.Write.write_str_gives c.args.f.now c.loop-byte.f c.write_byte.new.f c.args.self.now.0.now c.loop-byte.byte-index before
    c.loop-byte-test.true (c.in_ok-write_byte.ensures before.plain refl)

pub returns-clause-writes : goal.returns-clause-writes
returns-clause-writes g c = λ plain ok.
    let before = c.loop-byte.invariant plain in
    shown_all g.W.Write.write_str_gives c.args.f.now c.loop-byte.f c.write_str-2.new.self c.args.self.now.0.now c.loop-byte.byte-index
    before c.loop-byte-test.false (c.write_str-2.ensures.writes before.plain ok)
