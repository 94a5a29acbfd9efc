use Rattle.std.proofs.Common.{◌∙◌, ap}
use Rattle.std.proofs.lemmas.List.Splits.{join_with_byte-slice_split}
use Rattle.std.specs.List.{join_with_byte}
use Rattle.sf_forms.proofs.makers.names.Names.split.Goals as goal

pub returns-clause-joined : goal.returns-clause-joined
returns-clause-joined c = ap (join_with_byte 44) c.in_ok-names.ensures ∙ join_with_byte-slice_split 44 c.args.text.now
