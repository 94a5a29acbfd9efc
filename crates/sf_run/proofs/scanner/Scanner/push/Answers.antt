use Rattle.std.proofs.Common.{◌≡◌, ◌∙◌, ℕ, None, ap, arith, is_some, subst}
use Rattle.std.proofs.lemmas.Grind.{common_steps}
use Rattle.std.proofs.lemmas.List.{drop-drop, length-drop}
use Rattle.std.proofs.lemmas.Option.{slice_get_read}
use Rattle.sf_run.proofs.Coming.{advances_on, ended_advances, stays_put}
use Rattle.sf_run.proofs.Moves.{follows_on, not_out, sound_at}
use Rattle.sf_run.proofs.Refusals.{refused_behind}
use Rattle.sf_run.specs.Texts.{IsSound}
use Rattle.sf_run.specs.Scanner.{standing}
use Rattle.sf_run.specs.Standing.{Advances, RefusesIn}
use Rattle.sf_run.proofs.scanner.Scanner.push.Goals as goal

pub loop-directive-preserved : goal.loop-directive-preserved
loop-directive-preserved g c =
    let l = c.loop-directive in
    let new = c.hand-handed.new.self in
    record {
      same = grind (arith, slice_get_read, not_out, sound_at, drop-drop, follows_on);
      memory = λ sound waits out.
          let old = c.args.self.now in
          let mid = l.self in
          let own : IsSound c.in-Some.directive.now = grind (arith, slice_get_read, sound_at) in
          let still : mid.ended ≡ None = grind (arith, common_steps) in
          let fine = not_out mid.ended (ap is_some still) in
          let keeps = l.invariant.keeps in
          let on = c.hand-handed.ensures.keeps in
          let used = l.invariant.used in
          refused_behind (standing old) (standing mid) (standing new) c.args.piece.now l.taken l.invariant.within
          (on.limit ∙ keeps.limit) keeps.directives still used (l.invariant.same sound fine) (l.invariant.comes sound)
          (subst (λ y. RefusesIn (standing new) (standing mid) y) c.split_at.ensures.back (c.hand-handed.ensures.memory own out));
      within = grind (arith, length-drop);
      used = grind arith;
      stays = grind arith;
      nothing = grind arith;
      unchanged = grind arith;
      keeps = grind (arith, common_steps);
      full = grind (arith, length-drop);
      comes = grind (arith, slice_get_read, sound_at, advances_on);
    }

pub loop-directive-init : goal.loop-directive-init
loop-directive-init g c = grind (arith, common_steps, stays_put)

pub returns-in_default-clause-comes : goal.returns-in_default-clause-comes
returns-in_default-clause-comes g c proper = ended_advances (standing c.conclude.new.self)
    (standing c.args.self.now) c.args.piece.now c.loop-directive.taken c.conclude.ensures.ended

pub returns-then-taken-piece-clause-comes : goal.returns-then-taken-piece-clause-comes
returns-then-taken-piece-clause-comes g c proper =
    let mid = c.loop-directive.self in
    let taken : ℕ = c.loop-directive.taken in
    let new = c.hand-handed.new.self in
    let own : IsSound c.in-Some.directive.now = grind (arith, slice_get_read, sound_at) in
    let second : Advances (standing new) (standing mid) c.split_at.result.1.now c.hand-handed.result.taken =
    c.hand-handed.ensures.comes own in
    advances_on (standing c.args.self.now) (standing mid) (standing new) c.args.piece.now taken c.hand-handed.result.taken
    (grind (arith, common_steps)) (c.loop-directive.invariant.comes proper)
    (subst (λ l. Advances (standing new) (standing mid) l c.hand-handed.result.taken) c.split_at.ensures.back second)
