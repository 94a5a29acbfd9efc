use Rattle.std.proofs.Common.{ap, sym}
use Rattle.std.specs.Option.{option_map}
use Rattle.sf_base.specs.Data.{datum_of}
use Rattle.sf_print.specs.Given.{given_text}
use Rattle.sf_print.proofs.Staging.{Puts-same}
use Rattle.sf_print.proofs.given.put_one.Goals as goal

pub returns-in-Some-clause-text : goal.returns-in-Some-clause-text
returns-in-Some-clause-text g c =
    Puts-same _ _ c.args.stage.now c.put_value.new.stage _ (given_text c.args.conv.now (option_map datum_of c.args.given.now))
    c.put_value.result (ap (λ v. given_text c.args.conv.now (option_map datum_of v)) (sym c.in-Some.is)) c.put_value.ensures.text

pub returns-in-None-clause-text : goal.returns-in-None-clause-text
returns-in-None-clause-text g c =
    Puts-same _ _ c.args.stage.now c.put_run.new.stage _ (given_text c.args.conv.now (option_map datum_of c.args.given.now))
    c.put_run.result (ap (λ v. given_text c.args.conv.now (option_map datum_of v)) (sym c.in-None.is)) c.put_run.ensures.text
