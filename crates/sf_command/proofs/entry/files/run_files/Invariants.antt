use Rattle.std.proofs.Common.{◌≡◌, ◌+◌, ℕ, length}
use Rattle.sf_command.specs.entry.Files.{RunsFiles}
use Rattle.sf_command.proofs.entry.files.run_files.Given as goal

-- the order but for the file that is read, and what the files that are left make of all
abbrev pub invariant-loop-place : goal.invariant-loop-place
invariant-loop-place g l = record {
  same : l.order ≡ record l.fn.order { file = l.order.file };
  goes : (left : ℕ) (files' : _) (out' : _) (err' : _) (status : ℕ) → left + l.place ≡ length l.fn.order.files.items
      → RunsFiles g.F.Opener.Opens g.K.Sink.contents g.K.Sink.failures g.C.Console.Hands g.C.Console.said g.C.Console.unsaid
      g.S.Source.to_come g.S.Source.failures g.C.Reasons.why_unread g.C.Console.why l.watched left l.fn.order l.place l.worst l.files
      files' l.out out' l.err err' status
      → RunsFiles g.F.Opener.Opens g.K.Sink.contents g.K.Sink.failures g.C.Console.Hands g.C.Console.said g.C.Console.unsaid
      g.S.Source.to_come g.S.Source.failures g.C.Reasons.why_unread g.C.Console.why l.watched (length l.fn.order.files.items) l.fn.order
      0 0 l.fn.files files' l.fn.out out'
      l.fn.err err' status;
}
