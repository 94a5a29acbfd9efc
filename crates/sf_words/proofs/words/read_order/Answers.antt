use Rattle.std.proofs.Common.{◌≡◌, ◌∙◌, [], ◌∷◌, IfErr, IfOk, codes, map, string_bytes, true, ap, ap₂, refl, subst, sym}
use Rattle.clap.specs.Walk.{texts}
use Rattle.clap.specs.Kinds.{or_else}
use Rattle.clap.specs.Words.{fault_of, is_simple, is_simple_and_free, kind_of, subcommand_of}
use Rattle.sf_words.specs.Hyphens.{clap_words}
use Rattle.sf_words.specs.Line.{sf_app}
use Rattle.sf_words.specs.Orders.{IsOrderOf, IsRefusal, entered_faults}
use Rattle.sf_words.specs.Taken.{IsTaken}
use Rattle.sf_words.proofs.Given.{refused_by, refused_first}
use Rattle.sf_words.proofs.Taken.{taken_is}
use Rattle.sf_words.proofs.words.read_order.Goals as goal

simple : is_simple sf_app ≡ true
simple = refl

free : is_simple_and_free sf_app ≡ true
free = refl

pub order_of-requires : goal.order_of-requires
order_of-requires c =
    let joined = ap (map string_bytes) c.deref.ensures.value ∙ c.in_ok-joined.ensures in
    let words = ap texts c.as_slice.ensures.value ∙ c.in_ok-all.ensures ∙ ap (λ ws. codes "sf" ∷ ws) joined in
    let entered = (c.in-Ok.ensures.matches (subst (λ a. is_simple a ≡ true) (sym c.in_ok-line.ensures.is) simple)).1 in
    let none = c.in-Ok.ensures.kinds (subst (λ a. is_simple_and_free a ≡ true) (sym c.in_ok-line.ensures.is) free) in
    let taken = taken_is (codes "sf" ∷ clap_words (map string_bytes c.args.words.now))
    (sym (ap₂ fault_of c.in_ok-line.ensures.is words) ∙ none) in
    subst IsTaken (sym (entered ∙ ap₂ subcommand_of c.in_ok-line.ensures.is words)) taken

pub returns-in-Ok-clause-order : goal.returns-in-Ok-clause-order
returns-in-Ok-clause-order c =
    let joined = ap (map string_bytes) c.deref.ensures.value ∙ c.in_ok-joined.ensures in
    let words = ap texts c.as_slice.ensures.value ∙ c.in_ok-all.ensures ∙ ap (λ ws. codes "sf" ∷ ws) joined in
    let entered = (c.in-Ok.ensures.matches (subst (λ a. is_simple a ≡ true) (sym c.in_ok-line.ensures.is) simple)).1 in
    subst (λ e. IfOk c.order_of.result (IsOrderOf e)) (entered ∙ ap₂ subcommand_of c.in_ok-line.ensures.is words) c.order_of.ensures.order

pub returns-in-Ok-clause-taken : goal.returns-in-Ok-clause-taken
returns-in-Ok-clause-taken c =
    let joined = ap (map string_bytes) c.deref.ensures.value ∙ c.in_ok-joined.ensures in
    let words = ap texts c.as_slice.ensures.value ∙ c.in_ok-all.ensures ∙ ap (λ ws. codes "sf" ∷ ws) joined in
    let entered = (c.in-Ok.ensures.matches (subst (λ a. is_simple a ≡ true) (sym c.in_ok-line.ensures.is) simple)).1 in
    let none = c.in-Ok.ensures.kinds (subst (λ a. is_simple_and_free a ≡ true) (sym c.in_ok-line.ensures.is) free) in
    let own = subst (λ e. IfOk c.order_of.result (λ _. entered_faults e ≡ []))
    (entered ∙ ap₂ subcommand_of c.in_ok-line.ensures.is words) c.order_of.ensures.taken in
    subst (λ kinds. IfOk c.order_of.result (λ _. or_else kinds (entered_faults
    (subcommand_of sf_app (codes "sf" ∷ clap_words (map string_bytes c.args.words.now)))) ≡ []))
    (sym (sym (ap₂ fault_of c.in_ok-line.ensures.is words) ∙ none)) own

pub returns-in-Ok-clause-refused : goal.returns-in-Ok-clause-refused
returns-in-Ok-clause-refused c =
    let joined = ap (map string_bytes) c.deref.ensures.value ∙ c.in_ok-joined.ensures in
    let words = ap texts c.as_slice.ensures.value ∙ c.in_ok-all.ensures ∙ ap (λ ws. codes "sf" ∷ ws) joined in
    let entered = (c.in-Ok.ensures.matches (subst (λ a. is_simple a ≡ true) (sym c.in_ok-line.ensures.is) simple)).1 in
    let none = c.in-Ok.ensures.kinds (subst (λ a. is_simple_and_free a ≡ true) (sym c.in_ok-line.ensures.is) free) in
    let own = subst (λ e. IfErr c.order_of.result (IsRefusal (entered_faults e)))
    (entered ∙ ap₂ subcommand_of c.in_ok-line.ensures.is words) c.order_of.ensures.refused in
    subst (λ kinds. IfErr c.order_of.result (IsRefusal (or_else kinds
    (entered_faults (subcommand_of sf_app (codes "sf" ∷ clap_words (map string_bytes c.args.words.now)))))))
    (sym (sym (ap₂ fault_of c.in_ok-line.ensures.is words) ∙ none)) own

pub returns-clause-refused : goal.returns-clause-refused
returns-clause-refused c =
    let joined = ap (map string_bytes) c.deref.ensures.value ∙ c.in_ok-joined.ensures in
    let words = ap texts c.as_slice.ensures.value ∙ c.in_ok-all.ensures ∙ ap (λ ws. codes "sf" ∷ ws) joined in
    let among = c.in-Err.ensures.kinds (subst (λ a. is_simple_and_free a ≡ true) (sym c.in_ok-line.ensures.is) free) in
    let all = codes "sf" ∷ clap_words (map string_bytes c.args.words.now) in
    let refused = subst (λ kinds. IsRefusal kinds c.fault_of.result) (ap₂ fault_of c.in_ok-line.ensures.is words)
    (refused_by (kind_of c.in-Err.error) _ c.fault_of.result c.fault_of.ensures among) in
    refused_first (fault_of sf_app all) (entered_faults (subcommand_of sf_app all)) c.fault_of.result refused
