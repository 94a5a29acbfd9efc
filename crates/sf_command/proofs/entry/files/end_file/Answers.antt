use Rattle.std.proofs.Common.{subst, sym}
use Rattle.sf_command.specs.entry.Files.{EndsFile}
use Rattle.sf_command.proofs.entry.files.end_file.Goals as goal

pub returns-else-is_open : goal.returns-else-is_open
returns-else-is_open g c =
    subst (λ is. EndsFile g.C.Console.Hands g.C.Console.said g.C.Console.unsaid is c.args.keep_going c.args.name.now c.args.notes.now
    c.args.answer
    c.args.out.now c.end_unopened.new.out c.args.err.now c.end_unopened.new.err c.end_unopened.result) (sym c.if-is_open.false)
    (c.end_unopened.ensures c.args.keep_going)
