use Rattle.std.proofs.Common.{◌∷◌, [], ap, map}
use Rattle.sf_base.specs.Data.{datum_of}
use Rattle.sf_read.proofs.FieldLemmas.Pushed.{pushed}
use Rattle.sf_read.proofs.field.long_tuples.Tuple11Row.with_values.Goals as goal

pub returns : goal.returns
returns g c =
    let v0 = g.A.Field.given c.args.self.now.0 in
    let v1 = g.B.Field.given c.args.self.now.1 in
    let v2 = g.C.Field.given c.args.self.now.2 in
    let v3 = g.D.Field.given c.args.self.now.3 in
    let v4 = g.E.Field.given c.args.self.now.4 in
    let v5 = g.F.Field.given c.args.self.now.5 in
    let v6 = g.G.Field.given c.args.self.now.6 in
    let v7 = g.H.Field.given c.args.self.now.7 in
    let v8 = g.I.Field.given c.args.self.now.8 in
    let v9 = g.J.Field.given c.args.self.now.9 in
    let v10 = g.K.Field.given c.args.self.now.10 in
    let values0 = ap (map datum_of) c.new-values.ensures in
    let values1 = pushed [] _ v0 _ _ c.value.ensures values0 c.push_present.ensures.there in
    let values2 = pushed (v0 ∷ []) _ v1 _ _ c.value-2.ensures values1 c.push_present-2.ensures.there in
    let values3 = pushed (v0 ∷ v1 ∷ []) _ v2 _ _ c.value-3.ensures values2 c.push_present-3.ensures.there in
    let values4 = pushed (v0 ∷ v1 ∷ v2 ∷ []) _ v3 _ _ c.value-4.ensures values3 c.push_present-4.ensures.there in
    let values5 = pushed (v0 ∷ v1 ∷ v2 ∷ v3 ∷ []) _ v4 _ _ c.value-5.ensures values4 c.push_present-5.ensures.there in
    let values6 = pushed (v0 ∷ v1 ∷ v2 ∷ v3 ∷ v4 ∷ []) _ v5 _ _ c.value-6.ensures values5 c.push_present-6.ensures.there in
    let values7 = pushed (v0 ∷ v1 ∷ v2 ∷ v3 ∷ v4 ∷ v5 ∷ []) _ v6 _ _ c.value-7.ensures values6 c.push_present-7.ensures.there in
    let values8 = pushed (v0 ∷ v1 ∷ v2 ∷ v3 ∷ v4 ∷ v5 ∷ v6 ∷ []) _ v7 _ _ c.value-8.ensures values7 c.push_present-8.ensures.there in
    let values9 = pushed (v0 ∷ v1 ∷ v2 ∷ v3 ∷ v4 ∷ v5 ∷ v6 ∷ v7 ∷ []) _ v8 _ _ c.value-9.ensures values8 c.push_present-9.ensures.there in
    let values10 = pushed (v0 ∷ v1 ∷ v2 ∷ v3 ∷ v4 ∷ v5 ∷ v6 ∷ v7 ∷ v8 ∷ []) _ v9 _ _ c.value-10.ensures values9
    c.push_present-10.ensures.there in
    pushed (v0 ∷ v1 ∷ v2 ∷ v3 ∷ v4 ∷ v5 ∷ v6 ∷ v7 ∷ v8 ∷ v9 ∷ []) _ v10 _ _ c.value-11.ensures values10 c.push_present-11.ensures.there
