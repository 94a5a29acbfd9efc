use Rattle.std.proofs.Common.{◌≡◌, sym, ap, subst, ◌∙◌, Some, rules}
use Rattle.std.specs.Option.{option_map}
use Rattle.num_traits.specs.Laws.{Checks}
use Rattle.sf_base.specs.Data.{IsIn, value_of, with_sign}
use Rattle.sf_base.proofs.Casts.{held_is_in, number_is, cast_is}
use Rattle.sf_base.proofs.integers.ScanInt.from_parts.Goals as goal

pub returns : goal.returns
returns g c =
    let n = c.in_ok-number.number in
    let z = with_sign n.negative n.magnitude in
    let own = g.Self.ScanInt.own_kind in
    let is = number_is c.kind.result own n (value_of c.kind.result c.args.negative c.args.magnitude) c.kind.ensures
    c.in_ok-number.ensures in
    let has : IsIn own z = subst (λ k. IsIn k z) is.0 (held_is_in n.kind n.negative n.magnitude n.held) in
    let checks : Checks g.Self.Number.value g.Self.Number.fits z c.cast.result = search rules in
    let whole : option_map g.Self.ScanInt.integer c.cast.result ≡ Some z = cast_is g.Self.ScanInt.integer g.Self.Number.value
    g.Self.Number.fits z c.cast.result g.met.Self.ScanInt.integer_law (g.met.Self.ScanInt.fits_law z has) checks in
    rw (c.if-overflowed.false) (whole ∙ sym is.1 ∙ ap (λ k. value_of k c.args.negative c.args.magnitude) c.kind.ensures)
