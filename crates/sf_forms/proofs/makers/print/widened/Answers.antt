use Rattle.std.proofs.Common.{◌≡◌, ◌∙◌, ℤ, Option, Some, cond, ap, sym, true, true≢false}
use Rattle.std.specs.Prelude.{is_some}
use Rattle.std.specs.Option.{option_map}
use Rattle.std.proofs.lemmas.Option.{same_Some}
use Rattle.sf_base.specs.Data.{Number, datum_of_number, with_sign}
use Rattle.sf_base.specs.declared.number.Number as number
use Rattle.sf_base.specs.declared.values.Kind.{Kind}
use Rattle.sf_forms.specs.makers.Prints.{holds_all}
use Rattle.sf_forms.proofs.MakerLemmas.Widening.{held}
use Rattle.sf_forms.proofs.makers.print.widened.Goals as goal

-- what the kind makes of the number
made : (kind : Kind) (z : ℤ) (r : Option number.Number) (v : Option ℤ) → option_map datum_of_number r ≡ option_map (Number kind) v
    → v ≡ Some z → option_map datum_of_number r ≡ Some (Number kind z)
made kind z r v is v_is = is ∙ ap (option_map (Number kind)) v_is

pub unreachable-requires : goal.unreachable-requires
unreachable-requires c =
    let n = c.args.number in
    let some = made c.args.wide (with_sign n.negative n.magnitude) c.number.result _ c.number.ensures
    (held c.args.wide n.kind n.negative n.magnitude (sym c.holds_all.ensures ∙ c.if-not-holds_all.false) n.held) in
    true≢false (ap is_some (sym some ∙ ap (option_map datum_of_number) c.in-None.is))

pub returns : goal.returns
returns c =
    let n = c.args.number in
    let holds : holds_all c.args.wide n.kind ≡ true = sym c.holds_all.ensures ∙ c.if-not-holds_all.false in
    let some = made c.args.wide (with_sign n.negative n.magnitude) c.number.result _ c.number.ensures
    (held c.args.wide n.kind n.negative n.magnitude holds n.held) in
    same_Some _ _ (ap (option_map datum_of_number) (sym c.in-Some.is) ∙ some)
    ∙ ap (λ b. cond b (Number c.args.wide (with_sign n.negative n.magnitude)) (Number n.kind (with_sign n.negative n.magnitude)))
    (sym holds)
