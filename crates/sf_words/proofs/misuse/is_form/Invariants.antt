use Rattle.std.proofs.Common.{◌≡◌, drop}
use Rattle.std.specs.List.{list_any}
use Rattle.std.specs.Str.{bytes_eq}
use Rattle.sf_words.specs.Orders.{is_form}
use Rattle.sf_words.proofs.misuse.is_form.Given as goal

-- a form has the name where one of those that are left does
abbrev pub invariant-loop-form : goal.invariant-loop-form
invariant-loop-form l = list_any (λ form. bytes_eq l.name form.now) (drop l.form-index l.form-items) ≡ is_form l.name
