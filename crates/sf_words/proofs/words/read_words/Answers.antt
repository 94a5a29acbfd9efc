use Rattle.std.proofs.Common.{◌∙◌, ◌∷◌, [], cond, inl, inr, map, refl, string_bytes, subst, sym}
use Rattle.clap.specs.declared.error.kind.ErrorKind.TheVariants.{DisplayHelp}
use Rattle.sf_words.specs.Orders.{IsRefusal, order_faults}
use Rattle.sf_words.proofs.Given.{refused_by}
use Rattle.sf_words.proofs.words.read_words.Goals as goal

pub returns-then-asks_formats-clause-refused : goal.returns-then-asks_formats-clause-refused
returns-then-asks_formats-clause-refused c =
    let page = refused_by DisplayHelp (DisplayHelp ∷ []) c.formats_page.result c.formats_page.ensures (inr (inl refl)) in
    subst (λ b. IsRefusal (cond b (DisplayHelp ∷ []) (order_faults (map string_bytes c.args.words.now))) c.formats_page.result)
    (sym (sym c.asks_formats.ensures ∙ c.if-asks_formats.true)) page
