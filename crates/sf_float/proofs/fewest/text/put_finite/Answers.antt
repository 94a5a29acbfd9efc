use Rattle.std.proofs.Common.{◌++◌, take, sym, ap, ◌∙◌}
use Rattle.sf_float.specs.fewest.Laid.{laid_out}
use Rattle.sf_float.proofs.FewestLemmas.Texts.{kept_text}
use Rattle.sf_float.proofs.fewest.text.put_finite.Goals as goal

pub returns-in-Some-clause-text : goal.returns-in-Some-clause-text
returns-in-Some-clause-text c =
    let z = c.in-Some.cut in
    c.put_laid_out.ensures.written
    ∙ ap (λ s. take c.args.at c.args.out.now ++ laid_out c.args.real s.0 s.1) c.shortest-n.ensures.value
    ∙ ap (λ t. take c.args.at c.args.out.now ++ t) (sym (kept_text c.args.real c.args.x z.first z.twice z.lost c.in-Some.ensures.cut))
