-- What becomes of the output where a message comes.
use Rattle.std.specs.Prelude.{◌≡◌}
use Rattle.std.specs.Io.KnownBytes.{Keeps}
use Rattle.std.specs.declared.io.traits.Write as write
use Rattle.sf_print.specs.declared.blocks.block_sink.BlockSink.{BlockSink}
use Rattle.sf_print.specs.blocks.Blocks.{taken_by, write_failures}

-- what waits is handed on, as far as the writer takes it: all that was taken stays so, and no write has failed
abbrev pub HandsOn : {W : Type 0} {w : write.Ghosts W} → BlockSink W w → BlockSink W w → Type 0
HandsOn before after = Keeps (taken_by before) (taken_by after) × (write_failures after ≡ write_failures before)
