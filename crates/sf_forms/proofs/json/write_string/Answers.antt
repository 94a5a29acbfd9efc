use Rattle.std.proofs.Common.{◌≡◌, List, ℕ, ◌++◌, [], ◌∷◌, IfSome, take, subst, arith, ap, ◌∙◌, sym}
use Rattle.sf_forms.specs.JsonStrings.{json_string}
use Rattle.sf_forms.proofs.JsonWriting.{whole_plain}
use Rattle.sf_forms.proofs.Short.{front_stays, plain_written}
use Rattle.sf_forms.proofs.json.write_string.Goals as goal

pub returns-then-plain-bytes-clause-written : goal.returns-then-plain-bytes-clause-written
returns-then-plain-bytes-clause-written c =
    let xs = c.args.bytes.now in
    let front = c.write_front-plain in
    plain_written c.args.buf.now front.new.buf c.write_byte.new.buf xs c.args.at front.result c.write_byte.result
    c.if-plain-bytes.true front.ensures.written c.write_byte.ensures.written
    ∙ ap (λ (t : List ℕ). take c.args.at c.args.buf.now ++ (34 ∷ (t ++ 34 ∷ [])))
    (sym (whole_plain xs (sym front.ensures.count ∙ c.if-plain-bytes.true)))

pub returns-clause-written : goal.returns-clause-written
returns-clause-written c =
    let front = c.write_front-plain in
    let json = c.write_json_string in
    subst (λ (t : List ℕ). IfSome json.result (λ end. take end json.new.buf ≡ t ++ json_string c.args.bytes.now))
    (front_stays c.args.buf.now front.new.buf c.args.bytes.now c.args.at (omega arith) front.ensures.written) json.ensures.written
