use Rattle.std.proofs.Common.{◌≡◌, ◌∙◌, sym, true≢false}
use Rattle.std.proofs.lemmas.Slice.Eq.{bytes_eq-Decides}
use Rattle.sf_forms.proofs.MakerLemmas.Naming.{all_taken, all_with, none_among, one_among}
use Rattle.sf_forms.proofs.makers.names.stands_in.Goals as goal

pub returns-then-eq-clause-found : goal.returns-then-eq-clause-found
returns-then-eq-clause-found c e =
    one_among c.args.names.now c.loop-name.name-index _ c.args.text.now c.loop-name-test.true
    ((bytes_eq-Decides _ c.args.text.now).0 (sym c.eq.ensures ∙ c.if-eq.true))

pub loop-name-preserved : goal.loop-name-preserved
loop-name-preserved c =
    all_with (λ name. name.now ≡ c.args.text.now → ⊥) c.args.names.now c.loop-name.name-index _ c.loop-name-test.true
    c.loop-name.invariant
    (λ same. true≢false (sym ((bytes_eq-Decides _ c.args.text.now).1 same) ∙ sym c.eq.ensures ∙ c.if-eq.false))

pub returns-clause-missing : goal.returns-clause-missing
returns-clause-missing c e =
    none_among c.args.names.now c.args.text.now
    (all_taken (λ name. name.now ≡ c.args.text.now → ⊥) c.args.names.now c.loop-name.name-index c.loop-name-test.false
    c.loop-name.invariant)
