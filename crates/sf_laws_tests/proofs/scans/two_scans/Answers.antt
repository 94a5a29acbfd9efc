use Rattle.std.proofs.Common.{◌∷◌, [], refl}
use Rattle.sf_laws_tests.proofs.scans.two_scans.Goals as goal

pub returns : goal.returns
returns g c = λ t e.
    let both = c.scans_are_runs.ensures c.args.from.now c.fscan-2.new.from
    (record { directives = c.args.first.now; limit = 1000; report = c.in-Ok.before.report }
    ∷ record { directives = c.args.second.now; limit = 1000; report = c.in-Ok-fscan.after.report } ∷ [])
    (c.fscan.new.from, c.in-Ok.ensures.scan, (c.fscan-2.new.from, c.in-Ok-fscan.ensures.scan, refl)) t e in
    (both.0, both.2, both.1)
