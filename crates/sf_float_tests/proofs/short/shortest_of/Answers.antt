use Rattle.std.proofs.Common.{All, ap, subst, sym, ◌∙◌}
use Rattle.std.specs.Float.Ieee.{binary64}
use Rattle.std.specs.Float.Parse.{parse_float}
use Rattle.sf_base.specs.declared.real.Real.TheVariants.{F64}
use Rattle.sf_float.specs.fewest.Laws.{IsShort}
use Rattle.sf_float_tests.proofs.short.shortest_of.Goals as goal

pub returns : goal.returns
returns c =
    let r = F64 c.args.bits in
    let ranged = c.ranges.bits.fits in
    let text = c.write_shortest.ensures.text in
    record {
      text = text;
      reads = ap (parse_float binary64) text ∙ c.reads_back.ensures r ranged;
      fewest = λ n last some same. c.none_shorter.ensures r n last ranged some same;
      nearest = λ n last some same few. c.none_nearer.ensures r n last ranged some same few;
      bytes = subst (All IsShort) (sym text) (c.has_short_bytes.ensures r);
    }
