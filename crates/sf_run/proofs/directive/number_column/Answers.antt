use Rattle.std.proofs.Common.{arith, refl, sym, ap, subst, ◌∙◌, ◌≡◌, ◌-◌, ◌+◌, ℕ, true, true≢false}
use Rattle.std.proofs.Common.{inl, inr, List, Option, Some, drop, length, take, unwrap_or}
use Rattle.std.proofs.lemmas.List.{length-drop}
use Rattle.sf_base.specs.Data.{value_of}
use Rattle.sf_format.specs.declared.directive.Directive.TheVariants.{Conv}
use Rattle.sf_format.specs.Leads.{is_strict_lead}
use Rattle.sf_item.specs.Matching.{IsInteger}
use Rattle.sf_report.specs.Machine.{Skipping}
use Rattle.sf_report.specs.Steps.{StepEnd}
use Rattle.sf_run.specs.Pieces.{EndsIn}
use Rattle.sf_run.proofs.ColumnNumbers.{column_number}
use Rattle.sf_run.proofs.directive.number_column.Goals as goal

pub overflow_add-before : goal.overflow_add-before
overflow_add-before c =
    let skip = c.skipped-before.ensures.within in
    let is = (c.in_ok-whole.ensures (Some (c.args.width - c.skipped-before.result)) refl).behind in
    let back = ap length c.split_at.ensures.back in
    let rest = length-drop c.skipped-before.result c.args.piece.now in
    omega (arith, skip, is, back, rest)

pub returns : goal.returns
returns c n =
    let skip = c.skipped-before.ensures in
    let rest = c.in_ok-after.ensures in
    let k = c.args.conversion.now in
    let piece : List ℕ = c.args.piece.now in
    let w = c.skipped-before.result in
    let r = c.in_ok-whole.whole in
    let a = c.in_ok-after.after in
    let width = rest.end ∙ sym (ap (λ (o : Option ℕ). unwrap_or o 1) c.requires.width) in
    let within = rest.within in
    let end = rest.end in
    let text : List ℕ = take r.bytes (drop w piece) in
    let integer : IsInteger c.args.numeral text r.negative r.magnitude =
    subst (λ (y : List ℕ). IsInteger c.args.numeral (take r.bytes y) r.negative r.magnitude) c.split_at.ensures.back
    (c.in_ok-whole.ensures (Some (c.args.width - w)) refl).integer in
    let tight : is_strict_lead c.args.numeral.lead ≡ true → a ≡ 0 = λ strict. elim c.else-is_strict.either [
      | inl both ↦ (let none = both.1 in omega (arith, none))
      | inr loose ↦ absurd (true≢false (sym strict ∙ sym c.is_strict.ensures ∙ loose))
    ] in
    record {
      ends = λ sound. subst (λ (e : StepEnd). EndsIn (Conv k) Skipping n piece (w + r.bytes + a) e)
          (sym (c.finish_number.ensures.end text (value_of k.kind r.negative r.magnitude) c.number_of-number.ensures))
          (column_number k c.args.numeral c.requires.column c.requires.shape piece w r.bytes a r.magnitude r.negative width
          (omega (arith, width, end, within)) skip.white skip.next rest.white tight integer n sound.0);
      within = omega (arith, end, within);
      fits = record {
        within = omega (arith, end, within);
        given = λ ok missing. c.finish_number.ensures.given ok;
        number = c.finish_number.ensures.number;
        memory = c.finish_number.ensures.memory;
      };
    }
