use Rattle.std.proofs.Common.{◌≡◌, ◌∙◌, ap, drop, arith}
use Rattle.std.proofs.lemmas.List.{take_rest}
use Rattle.sf_format.specs.Lists.{front}
use Rattle.sf_format.specs.Scanlist.{is_inner}
use Rattle.sf_format.proofs.Scanlists.{members_split}
use Rattle.sf_format.proofs.scan.scanlist.members.Goals as goal

pub split_at-requires : goal.split_at-requires
split_at-requires c =
    let e : c.split_front.result.0.now ≡ front is_inner (drop 1 c.args.text.now) =
    c.split_front.ensures.front ∙ ap (front is_inner) (take_rest c.args.text.now 1) in
    (members_split c.args.text.now c.split_front.result.0.now (omega arith) e).0

pub returns-in-len1-up-clause-members : goal.returns-in-len1-up-clause-members
returns-in-len1-up-clause-members c =
    let e : c.split_front.result.0.now ≡ front is_inner (drop 1 c.args.text.now) =
    c.split_front.ensures.front ∙ ap (front is_inner) (take_rest c.args.text.now 1) in
    c.split_at.ensures.front ∙ (members_split c.args.text.now c.split_front.result.0.now (omega arith) e).1

pub returns-in-len1-up-clause-close : goal.returns-in-len1-up-clause-close
returns-in-len1-up-clause-close c =
    let e : c.split_front.result.0.now ≡ front is_inner (drop 1 c.args.text.now) =
    c.split_front.ensures.front ∙ ap (front is_inner) (take_rest c.args.text.now 1) in
    c.split_at.ensures.back ∙ (members_split c.args.text.now c.split_front.result.0.now (omega arith) e).2
