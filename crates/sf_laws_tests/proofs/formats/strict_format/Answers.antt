use Rattle.std.proofs.Common.{◌≡◌, ℕ, ◌+◌, Bool, true, false, List, [], ◌∷◌, length, map, subst, sym}
use Rattle.sf_format.specs.declared.directive.Directive.{Directive}
use Rattle.sf_format.specs.declared.directive.Profile.{Profile}
use Rattle.sf_format.specs.Grammar.{MeanAll, Means, destinations}
use Rattle.sf_format.specs.Groups.{opened_by}
use Rattle.sf_format.specs.Pieces.{Piece, GroupStart, GroupEnd}
use Rattle.sf_format.specs.Strictness.{MarksMakeStrict, marked, strictly}
use Rattle.sf_laws_tests.proofs.formats.strict_format.Goals as goal

-- with their marks written, the parts stand for what they stood for, made strict
all_marked : (law : MarksMakeStrict) (profile : Profile) (first : Bool) (place : ℕ) (pieces : List Piece) (ds : List Directive)
    → MeanAll (Means profile) first place pieces ds
    → MeanAll (λ opens at piece d. Means profile opens at (marked profile piece) d) first place pieces (map strictly ds)
all_marked law profile first place [] [] h = tt
all_marked law profile first place [] (d ∷ ds) h = h
all_marked law profile first place (GroupStart ∷ pieces) ds h = all_marked law profile true place pieces ds h
all_marked law profile first place (GroupEnd ∷ pieces) ds h = all_marked law profile false place pieces ds h
all_marked law profile first place (piece ∷ pieces) [] h = absurd h
all_marked law profile first place (piece ∷ pieces) (d ∷ ds) h = (
  law profile (opened_by first pieces) place piece d h.0,
  all_marked law profile false (place + length (destinations (piece ∷ []))) pieces ds h.1,
)

pub returns : goal.returns
returns c =
    let spelled = c.in-Ok.ensures.spelled in (
      spelled.0,
      spelled.2,
      subst (λ ds. MeanAll (λ opens at piece d. Means c.args.profile opens at (marked c.args.profile piece) d) false 1 spelled.0 ds)
          (sym c.strict.ensures) (all_marked c.marks_make_strict.ensures c.args.profile false 1 spelled.0 c.in-Ok.format spelled.3),
    )
