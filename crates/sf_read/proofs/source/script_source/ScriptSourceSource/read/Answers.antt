use Rattle.std.proofs.Common.{◌≡◌, [], take, refl, ◌∙◌}
use Rattle.sf_read.proofs.SourceLemmas.Scripts.{bytes_left, no_bytes}
use Rattle.sf_read.proofs.source.script_source.ScriptSourceSource.read.Goals as goal

pub returns-clause-bytes : goal.returns-clause-bytes
returns-clause-bytes c = (
  rw (c.give.ensures.later, ← c.self.view_is) (bytes_left _ c.advance.new.self.present
      (take c.give.result c.give.new.buf) c.give.new.self.present c.advance.new.self.later c.in_ok-advance.ensures.left
      c.give.ensures.present),
  λ zero room.
      let none : c.give.new.self.present ≡ [] = c.give.ensures.end zero room in
      let before : c.advance.new.self.present ≡ [] = rw (c.give.ensures.present, zero, none) refl in
      no_bytes c.give.new.self.present c.give.new.self.later none (c.give.ensures.later ∙ c.in_ok-advance.ensures.ready before),
)
