use Rattle.std.proofs.Common.{◌≡◌, ◌≤◌, ◌+◌, ◌++◌, ◌∷◌, [], Some, None, drop, length, rules, subst, sym}
use Rattle.sf_arguments.specs.Escapes.{Stands, piece_of}
use Rattle.sf_arguments.proofs.Escaping.{front_of, no_end_within, none_of, one_more_piece}
use Rattle.sf_arguments.proofs.escape.resolve.Goals as goal

-- a word that stands for bytes has a piece at each place before its end
pub unreachable-requires : goal.unreachable-requires
unreachable-requires c =
    let word = c.args.word.now in
    let ends : piece_of (drop c.loop-at.at word) ≡ None = none_of word c.loop-at.at c.piece_of.result c.piece_of.ensures.piece
    c.in_default.is in
    no_end_within c.loop-at.bytes.items c.requires.0 word c.loop-at.at
    (length word) c.loop-at.invariant.read c.requires.1 c.loop-at-test.true ends

pub loop-at-preserved : goal.loop-at-preserved
loop-at-preserved c =
    let word = c.args.word.now in
    let piece = c.in-Some.piece in
    let items : c.push.new.self.items ≡ c.loop-at.bytes.items ++ piece.byte ∷ [] = search rules in
    let within : c.loop-at.at + piece.size ≤ length word = search rules in
    let front : piece_of (drop c.loop-at.at word) ≡ Some piece = front_of word c.loop-at.at c.piece_of.result piece
    c.piece_of.ensures.piece c.in-Some.is in
    record {
      within = within;
      read = subst (Stands word (c.loop-at.at + piece.size)) (sym items)
          (one_more_piece c.loop-at.bytes.items word c.loop-at.at piece.byte piece.size c.loop-at.invariant.read front);
    }
