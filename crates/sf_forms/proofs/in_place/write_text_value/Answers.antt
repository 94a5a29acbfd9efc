use Rattle.std.proofs.Common.{◌≡◌, ◌∙◌, ◌+◌, ◌++◌, ◌∷◌, [], ℕ, List, IfSome, length, take, ap, sym, subst, arith}
use Rattle.std.proofs.lemmas.List.{length-take-le}
use Rattle.std.specs.List.{flat_map, prefix_len, slice_range}
use Rattle.sf_base.specs.Data.{Bytes}
use Rattle.sf_forms.specs.declared.form.OutputForm.{OutputForm}
use Rattle.sf_forms.specs.Escapes.{stays}
use Rattle.sf_forms.specs.Forms.{value_text}
use Rattle.sf_forms.specs.InPlace.{lead, looked_in, parted, quote, trail}
use Rattle.sf_forms.specs.Quotes.{escaped, is_plain}
use Rattle.sf_forms.proofs.InPlace.{before_stays, kept_text, parted_length, plain_begun, put_around}
use Rattle.sf_forms.proofs.Short.{cut_rest, rest_length, rest_then}
use Rattle.sf_forms.proofs.in_place.write_text_value.Goals as goal

pub returns-then-kept-count-clause-written : goal.returns-then-kept-count-clause-written
returns-then-kept-count-clause-written c =
    let form = c.args.form in
    let xs : List ℕ = take c.args.count c.args.piece.now in
    let all : prefix_len (stays (looked_in form)) xs ≡ length xs =
    ap (λ (f : OutputForm). prefix_len (stays f) xs) (sym c.looked_in.ensures) ∙ sym c.write_sixteen-kept.ensures.count
    ∙ c.if-kept-count.true ∙ sym (length-take-le c.args.count c.args.piece.now c.requires.of) in
    let text = put_around c.put_lead-text.new.buf c.put_quote-start.new.buf c.write_sixteen-kept.new.buf c.put_quote-end.new.buf
    (quote form) xs (quote form) c.put_lead-text.result c.put_quote-start.result (c.put_quote-start.result + c.args.count)
    c.put_quote-end.result c.put_quote-start.ensures.written c.write_sixteen-kept.ensures.written c.put_quote-end.ensures.written in
    put_around c.args.buf.now c.put_lead-text.new.buf c.put_quote-end.new.buf c.put_trail.new.buf (lead form)
    (value_text form (Bytes xs)) (trail form) c.args.at c.put_lead-text.result c.put_quote-end.result c.put_trail.result
    c.put_lead-text.ensures.written
    (text ∙ ap (λ (t : List ℕ). take c.put_lead-text.result c.put_lead-text.new.buf ++ t) (sym (kept_text form xs all)))
    c.put_trail.ensures.written

pub returns-in-Plain-clause-written : goal.returns-in-Plain-clause-written
returns-in-Plain-clause-written c =
    let is = c.in-Plain.is in
    let piece = c.args.piece.now in
    let xs : List ℕ = take c.args.count piece in
    let long : length xs ≡ c.args.count = length-take-le c.args.count piece c.requires.of in
    let front = c.write_sixteen-kept in
    let rest = c.write_plain_rest in
    let count : front.result ≡ prefix_len is_plain xs =
    front.ensures.count ∙ ap (λ (f : OutputForm). prefix_len (stays f) xs) (c.looked_in.ensures ∙ ap looked_in is) in
    let begun : take (c.args.at + 1 + length xs) front.new.buf ≡ take c.args.at c.args.buf.now ++ 34 ∷ xs =
    plain_begun c.args.buf.now c.put_lead-text.new.buf c.put_quote-start.new.buf front.new.buf (lead c.args.form) (quote c.args.form) xs
    c.args.at c.put_lead-text.result c.put_quote-start.result c.args.count (ap lead is) (ap quote is) c.put_lead-text.ensures.end
    c.put_quote-start.ensures.end (sym long) c.put_lead-text.ensures.written c.put_quote-start.ensures.written front.ensures.written in
    let place : c.put_quote-start.result + front.result ≡ c.args.at + 1 + front.result =
    omega (
      arith,
      c.put_lead-text.ensures.end,
      c.put_quote-start.ensures.end,
      ap (λ f. length (lead f)) is,
      ap (λ f. length (quote f)) is,
    ) in
    let cut = cut_rest piece c.args.count front.result c.requires.of front.ensures.within in
    let written : IfSome rest.result (λ end. take end rest.new.buf ≡ take (c.args.at + 1 + front.result) front.new.buf
    ++ ((flat_map escaped (slice_range xs front.result (length xs)) ++ 34 ∷ []) ++ 32 ∷ [])) =
    subst (λ (t : List ℕ). IfSome rest.result (λ end. take end rest.new.buf ≡ take (c.args.at + 1 + front.result) front.new.buf
    ++ ((flat_map escaped t ++ 34 ∷ []) ++ 32 ∷ []))) cut
    (subst (λ (k : ℕ). IfSome rest.result (λ end. take end rest.new.buf ≡ take k front.new.buf
    ++ ((flat_map escaped (slice_range piece front.result c.args.count) ++ 34 ∷ []) ++ 32 ∷ []))) place rest.ensures.written) in
    subst (λ (f : OutputForm). IfSome rest.result (λ end. take end rest.new.buf
    ≡ take c.args.at c.args.buf.now ++ parted f (value_text f (Bytes xs)))) (sym is)
    (rest_then rest.result c.args.buf.now front.new.buf rest.new.buf xs (32 ∷ []) c.args.at front.result c.requires.place
    (omega (arith, long, front.ensures.within)) count begun written)

pub returns-in-Plain-clause-answers : goal.returns-in-Plain-clause-answers
returns-in-Plain-clause-answers c room =
    let is = c.in-Plain.is in
    let piece = c.args.piece.now in
    let xs : List ℕ = take c.args.count piece in
    let long : length xs ≡ c.args.count = length-take-le c.args.count piece c.requires.of in
    let front = c.write_sixteen-kept in
    let count : front.result ≡ prefix_len is_plain xs =
    front.ensures.count ∙ ap (λ (f : OutputForm). prefix_len (stays f) xs) (c.looked_in.ensures ∙ ap looked_in is) in
    c.write_plain_rest.ensures.answers (omega (
      arith,
      room,
      long,
      parted_length c.args.form (value_text c.args.form (Bytes xs)),
      ap (λ f. length (value_text f (Bytes xs))) is,
      rest_length xs front.result (omega (arith, long, front.ensures.within)) count,
      ap (λ (t : List ℕ). length (flat_map escaped t))
          (cut_rest piece c.args.count front.result c.requires.of front.ensures.within),
      c.put_lead-text.ensures.end,
      c.put_quote-start.ensures.end,
      ap (λ f. length (lead f)) is,
      ap (λ f. length (quote f)) is,
      c.put_lead-text.auto.buf,
      c.put_quote-start.auto.buf,
      front.auto.buf,
    ))

pub returns-in-Tsv : goal.returns-in-Tsv
returns-in-Tsv c =
    let xs : List ℕ = take c.args.count c.args.piece.now in
    let front = c.write_sixteen-kept in
    let any = c.write_any_text-in-Tsv in
    let same : take c.args.at front.new.buf ≡ take c.args.at c.args.buf.now =
    before_stays c.args.buf.now c.put_lead-text.new.buf c.put_quote-start.new.buf front.new.buf (lead c.args.form) (quote c.args.form) xs
    c.args.at c.put_lead-text.result c.put_quote-start.result (c.put_quote-start.result + c.args.count) c.requires.place
    (omega (arith, c.put_lead-text.ensures.end, c.put_quote-start.ensures.end)) c.put_lead-text.ensures.written
    c.put_quote-start.ensures.written front.ensures.written in
    record {
      within = any.ensures.within;
      written = subst (λ (t : List ℕ). IfSome any.result (λ end. take end any.new.buf
          ≡ t ++ parted c.args.form (value_text c.args.form (Bytes xs)))) same any.ensures.written;
      answers = λ room. any.ensures.answers
          (omega (arith, room, c.put_lead-text.auto.buf, c.put_quote-start.auto.buf, front.auto.buf));
    }
