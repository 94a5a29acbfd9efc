use Rattle.std.proofs.Common.{◌<◌, ℕ, List, [], sym, subst}
use Rattle.sf_print.proofs.Appending.{Appends-keeps, Appends-none}
use Rattle.sf_records.specs.declared.by_lines.end.LineFault.TheVariants.{TooLong}
use Rattle.sf_records.specs.declared.by_lines.options.LinesOptions.{LinesOptions}
use Rattle.sf_records.specs.by_lines.Coming.{PassesRest}
use Rattle.sf_records.specs.by_lines.Telling.{Tells}
use Rattle.sf_records.proofs.LinewiseLemmas.Coming.{rest_passed}
use Rattle.sf_records.proofs.by_lines.turn.tell_long.Goals as goal

pub returns-in-Ok-clause-turns : goal.returns-in-Ok-clause-turns
returns-in-Ok-clause-turns g c w is said old part lost open' long front =
    rest_passed g.S.Source.to_come old c.args.from.now c.pass_rest.new.from w c.args.number part c.args.line.now.items
    (g.K.Sink.contents c.args.to.now) (g.K.Sink.contents c.tell.new.to)
    (g.E.Teller.failed c.args.teller.now) (g.E.Teller.failed c.tell.new.self) (g.E.Teller.told c.args.teller.now)
    (g.E.Teller.told c.tell.new.self)
    (subst (λ (o : LinesOptions). o.skip < c.args.number) (sym is) c.requires.counts) lost open' long front
    (Appends-keeps (g.K.Sink.contents c.args.to.now) (g.K.Sink.contents c.args.to.now) (g.K.Sink.contents c.tell.new.to) []
    (Appends-none (g.K.Sink.contents c.args.to.now)) c.tell.ensures.taken)
    (subst (λ (y : List ℕ). Tells (g.E.Teller.failed c.args.teller.now) (g.E.Teller.failed c.tell.new.self)
    (g.E.Teller.told c.args.teller.now) (g.E.Teller.told c.tell.new.self) (w.telling c.args.number y TooLong)) c.deref.ensures.value
    (c.in-Ok.ensures.told w.telling said))
    c.pass_rest.result
    (subst (λ (o : LinesOptions). PassesRest g.S.Source.to_come c.args.from.now c.pass_rest.new.from o.keep_going c.pass_rest.result)
    (sym is) c.pass_rest.ensures.rest)
