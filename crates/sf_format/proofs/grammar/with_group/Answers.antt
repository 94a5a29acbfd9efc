use Rattle.std.proofs.Common.{◌≡◌, ◌-◌, length, ◌∙◌, ap}
use Rattle.sf_format.proofs.Steps.{opened_set}
use Rattle.sf_format.proofs.grammar.with_group.Goals as goal

pub returns : goal.returns
returns g c =
    let is = c.in_ok-parts.was in
    let first : c.len.result - c.args.count ≡ length c.in_ok-parts.parts.items - c.args.count
    = ap (λ n. n - c.args.count) (c.len.ensures ∙ c.in_ok-parts.parts.ok.0) in
    rw is
    (opened_set (g.G.Grammar.means c.args.grammar) c.in_ok-parts.parts.items c.args.count (c.len.result - c.args.count)
    c.index_mut.result.now c.open_group.new.part first (rw is at c.requires) c.index_mut.ensures.value c.open_group.ensures)
