use Rattle.std.proofs.Common.{◌≡◌, length, min, ap, subst, sym, refl}
use Rattle.std.specs.List.{prefix_len}
use lib.Count.{count_trailing_zeros}
use Rattle.sf_forms.specs.Quotes.{is_plain}
use Rattle.sf_forms.proofs.Quoting.{short_front}
use Rattle.sf_forms.proofs.quote.short_run.Goals as goal

pub returns-clause-count : goal.returns-clause-count
returns-clause-count c =
    let after = c.copy_from_slice.ensures.after in
    let short = short_front c.copy_from_slice.new.self _ _ c.odd_mask-odd.result c.odd_mask-odd.ensures (ap length (sym after)) refl
    c.requires in
    let count : min (length c.args.bytes.now) (count_trailing_zeros 64 c.odd_mask-odd.result) ≡ prefix_len is_plain c.args.bytes.now =
    subst (λ xs. min (length xs) (count_trailing_zeros 64 c.odd_mask-odd.result) ≡ prefix_len is_plain xs) after short in
    let is = c.min.ensures in
    cc
