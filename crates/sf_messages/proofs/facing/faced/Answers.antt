use Rattle.std.proofs.Common.{◌≡◌, ◌∙◌, ◌-◌, ℕ, ap, length, min, take}
use Rattle.std.proofs.lemmas.List.{take_min}
use Rattle.sf_messages.specs.Facing.{left_behind}
use Rattle.sf_messages.proofs.facing.faced.Goals as goal

pub returns : goal.returns
returns c =
    let ds = c.args.directives.now in
    let before : c.min-before.result ≡ min (c.args.number - 1) (length ds) =
    c.min-before.ensures ∙ ap (λ (n : ℕ). min n (length ds)) (c.saturating_sub.ensures ∙ ap (λ (n : ℕ). n - 1) c.from.ensures) in
    c.left_behind.ensures ∙ ap (λ (n : ℕ). left_behind (take n ds) c.args.units.now) before
    ∙ ap (λ xs. left_behind xs c.args.units.now) (take_min (c.args.number - 1) ds)
