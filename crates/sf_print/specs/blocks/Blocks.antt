-- What a sink took that hands on blocks: the bytes that its writer has, and those of the block.
use Rattle.std.specs.Prelude.{◌≡◌, ℕ, ◌+◌, ◌-◌, Bool, true, ◌⊎◌, List, [], length, slice_range, Option, Result, Ok}
use Rattle.std.specs.Io.KnownBytes.{append_known}
use Rattle.std.specs.declared.io.traits.Write as write
use Rattle.std.specs.declared.io.Error.{Error}
use Rattle.sf_print.specs.declared.blocks.block_sink.BlockSink.{BlockSink}
use Rattle.sf_print.specs.declared.blocks.unblocked.Unblocked.{Unblocked}

module _ {W : Type 0} {w : write.Ghosts W} where
  -- the writer
  abbrev pub writer_of : BlockSink W w → W
  writer_of s = s.writer

  -- the bytes of the block that wait for the writer
  abbrev pub waiting_in : BlockSink W w → List ℕ
  waiting_in s = slice_range s.block.items s.start s.end

  -- how many bytes of the block are free
  abbrev pub room_of : BlockSink W w → ℕ
  room_of s = length s.block.items - s.end

  -- whether a flush failed
  abbrev pub has_failed_flush : BlockSink W w → Bool
  has_failed_flush s = s.unflushed

  -- why the last of its writes and flushes failed that did
  abbrev pub last_error_of : BlockSink W w → Option Error
  last_error_of s = s.last_error

  -- all bytes that the sink took, where the writer makes its own known
  abbrev pub taken_by : BlockSink W w → Option (List ℕ)
  taken_by s = append_known (w.contents s.writer) (waiting_in s)

  -- a text is taken whole into the room of the block, and the writer isn't asked
  abbrev pub TakesShort : {E : Type 0} → BlockSink W w → BlockSink W w → List ℕ → Result ℕ E → Type 0
  TakesShort old new text result =
      (result ≡ Ok (length text)) × (writer_of new ≡ writer_of old) × (room_of new + length text ≡ room_of old)

  -- the block has no byte, so that nothing waits: all that the sink took, the writer has
  abbrev pub HoldsNothing : BlockSink W w → Type 0
  HoldsNothing s = (length s.block.items ≡ 0) × (waiting_in s ≡ []) × (taken_by s ≡ w.contents s.writer)

  -- none of its bytes waits for the writer; or a flush failed, which the sink remembers
  abbrev pub IsHandedOn : BlockSink W w → Type 0
  IsHandedOn s = (waiting_in s ≡ []) ⊎ (has_failed_flush s ≡ true)

  -- how often a write of the sink failed
  abbrev pub write_failures : BlockSink W w → ℕ
  write_failures s = s.failures

module _ {W : Type 0} (w : write.Ghosts W) where
  -- of a sink without a block: what its writer took
  abbrev pub handed_to : Unblocked W → Option (List ℕ)
  handed_to s = w.contents s.writer

-- and how often it failed
abbrev pub faults_of : {W : Type 0} → Unblocked W → ℕ
faults_of s = s.failures
