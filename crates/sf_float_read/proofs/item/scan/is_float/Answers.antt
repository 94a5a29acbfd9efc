use Rattle.std.proofs.Common.{◌≡◌, ◌+◌, ◌<◌, length, take, drop, Some, None, true≢false, sym, ap, ◌∙◌, inl, inr, eq-or-lt_of_le}
use Rattle.std.proofs.Math.Seq.{take-length}
use Rattle.std.proofs.lemmas.Bool.{eqb-true}
use Rattle.std.proofs.lemmas.List.{take-append-drop}
use Rattle.sf_float_read.specs.declared.item.reached.Forms.TheVariants.{All}
use Rattle.sf_float_read.specs.declared.item.reached.Reached.TheVariants as at
use Rattle.sf_float_read.specs.item.Tests.{read, is_whole_at, is_float}
use Rattle.sf_float_read.proofs.ItemLemmas.Deciding.{float_decided, read_more}
use Rattle.sf_float_read.proofs.item.scan.is_float.Goals as goal

pub returns-then-taken-text : goal.returns-then-taken-text
returns-then-taken-text c =
    let t = c.args.text.now in
    let r = c.take_run-taken in
    let whole : take r.result t ≡ t = ap (λ k. take k t) c.if-taken-text.true ∙ take-length t in
    let reached = ap (λ s. read (Some s) t) (sym c.start-scan.ensures.start) ∙ ap (read (Some c.start-scan.result.reached)) (sym whole)
    ∙ r.ensures.read in
    let is : is_float t ≡ c.is_match.result = ap is_whole_at reached ∙ sym c.is_match.ensures.whole in
    let d = float_decided All t in
    ((λ h. d.0 (is ∙ h)), (λ f. sym is ∙ d.1 f))

pub returns-else-taken-text : goal.returns-else-taken-text
returns-else-taken-text c =
    let t = c.args.text.now in
    let r = c.take_run-taken in
    let n = r.result + 1 in
    let below : r.result < length t = (elim (eq-or-lt_of_le r.ensures.within) [ inl e ↦ absurd (c.if-taken-text.false e) | inr l ↦ l ]) in
    let none : read (Some at.Start) t ≡ None = ap (read (Some at.Start)) (sym (take-append-drop n t))
    ∙ read_more (Some at.Start) (take n t) (drop n t)
    ∙ ap (λ o. read o (drop n t)) (ap (λ s. read (Some s) (take n t)) (sym c.start-scan.ensures.start) ∙ r.ensures.stops below) in
    let d = float_decided All t in
    ((λ h. absurd (c.if-taken-text.false (eqb-true _ _ h))), (λ f. absurd (true≢false (sym (d.1 f) ∙ ap is_whole_at none))))
