-- One part passed after others: its own rules, and then where it stands.
use Rattle.std.proofs.Common.{◌≡◌, ℕ, zero, suc, ◌+◌, ◌-◌, ◌<◌, ◌≤◌, Bool, true, false, List, [], ◌∷◌, ◌++◌, length, Option, Some, None}
use Rattle.std.specs.Prelude.{Ok}
use Rattle.std.proofs.Common.{refl, sym, ap, ◌∙◌, subst, arith, length-append, slice_index_or, slice_set}
use Rattle.sf_format.specs.Language.{Language}
use Rattle.sf_format.specs.declared.fault.FormatWhy.{FormatWhy}
use Rattle.sf_format.specs.declared.fault.FormatWhy.TheVariants.{BadGroup}
use Rattle.sf_format.specs.declared.fault.FormatFault.{FormatFault}
use Rattle.sf_format.specs.declared.grammar.Before.{Before}
use Rattle.sf_format.specs.declared.grammar.Passed.{Passed}
use Rattle.sf_format.specs.declared.slots.Slots.{Slots}
use Rattle.sf_format.specs.declared.groups.Group.{Group}
use Rattle.sf_format.specs.declared.groups.Role.{Role}
use Rattle.sf_format.specs.declared.groups.Stage.TheVariants.{Outside}
use Rattle.sf_format.specs.Groups.{role_of, may_stand, next_stage, place_told}
use Rattle.sf_format.specs.Pieces.{Piece, text_of}
use Rattle.sf_format.specs.Cut.{part_at}
use Rattle.sf_format.specs.Grammar.{destinations}
use Rattle.sf_format.specs.Rules.{first_of}
use Rattle.sf_format.specs.Faults.{part_rules, group_rules, next_rules}
use Rattle.sf_format.specs.Passing.{Holds, IsJoined, IsOpened, PassesBy, Precedes, StepsBy, fault_of, started}
use Rattle.sf_format.proofs.Rules.{first_append}
use Rattle.sf_format.proofs.Passages.{first_left}
use Rattle.sf_format.proofs.Destinations.{destinations_push}
use Rattle.sf_format.proofs.Groupings.{stage_push, start_push}

-- the part has a fault itself
pub own_fault : (language : Language) (done : List Piece) (x : List ℕ) (at : ℕ) (fault : FormatWhy × ℕ) → length (text_of done) ≡ at
    → first_of (part_rules language (destinations done) at x) ≡ Some fault → first_of (next_rules language done x) ≡ Some fault
own_fault language done x at fault place first =
    first_left (part_rules language (destinations done) (length (text_of done)) x) (group_rules done (part_at language x).piece) fault
    (subst (λ p. first_of (part_rules language (destinations done) p x) ≡ Some fault) (sym place) first)

-- it has none, and may not stand there
pub group_fault : (language : Language) (done : List Piece) (x : List ℕ) (at : ℕ) (before : Before) (role : Role) (fault : FormatFault)
    → length (text_of done) ≡ at → Precedes before done → role ≡ role_of (part_at language x).piece
    → first_of (part_rules language (destinations done) at x) ≡ None → may_stand before.group.stage role ≡ false
    → fault ≡ record { at = place_told before.group.stage role before.group.start at; why = BadGroup }
    → first_of (next_rules language done x) ≡ Some (fault_of fault)
group_fault language done x at before role fault place precedes same none may is =
    rw (
      first_append (part_rules language (destinations done) (length (text_of done)) x) (group_rules done (part_at language x).piece),
      place,
      none,
      ← precedes.stage,
      ← precedes.start,
      ← same,
      may,
      is,
    ) refl

-- it has none, and may
pub no_fault : (language : Language) (done : List Piece) (x : List ℕ) (at : ℕ) (before : Before) (role : Role)
    → length (text_of done) ≡ at → Precedes before done → role ≡ role_of (part_at language x).piece
    → first_of (part_rules language (destinations done) at x) ≡ None → may_stand before.group.stage role ≡ true
    → first_of (next_rules language done x) ≡ None
no_fault language done x at before role place precedes same none may =
    rw (
      first_append (part_rules language (destinations done) (length (text_of done)) x) (group_rules done (part_at language x).piece),
      place,
      none,
      ← precedes.stage,
      ← same,
      may,
    ) refl

-- so it is passed with the others
pub precedes_more : (done : List Piece) (piece : Piece) (at : ℕ) (before : Before) (slots : Slots) (group : Group) (role : Role)
    → length (text_of done) ≡ at → Precedes before done → role ≡ role_of piece
    → Holds slots (destinations done ++ destinations (piece ∷ []))
    → group.stage ≡ next_stage before.group.stage role → group.start ≡ started role at before.group.start
    → Precedes (record { slots = slots; group = group }) (done ++ piece ∷ [])
precedes_more done piece at before slots group role place precedes same holds stage start = record {
  slots = rw (destinations_push done piece) holds;
  stage = rw (stage, precedes.stage, same) (sym (stage_push Outside done piece));
  start =
      let here : 0 + length (text_of done) ≡ length (text_of done) = omega arith in
      rw (start, precedes.start, same, ← place) (sym (rw here at (start_push 0 0 done piece)));
}

-- both at once
pub stepped : {D : Type 0} (wanted : Bool) (means : Option ℕ → ℕ → Piece → D → Type 0) (language : Language) (done : List Piece)
    (x : List ℕ) (at : ℕ) (before : Before) (passed : Passed D) (group : Group) → length (text_of done) ≡ at → Precedes before done
    → PassesBy wanted means (part_rules language (destinations done) at x) (destinations done) (part_at language x) (Ok passed)
    → IsJoined before.group passed.role at (Ok group)
    → StepsBy wanted means language done x
    (Ok (record { passed = passed; before = record { slots = passed.slots; group = group } }))
stepped wanted means language done x at before passed group place precedes passes joined = (
  no_fault language done x at before passed.role place precedes passes.5 passes.0 joined.0,
  passes.1,
  passes.2,
  precedes_more done (part_at language x).piece at before passed.slots group passed.role place precedes passes.5 passes.3 joined.1 joined.2,
  passes.4,
  passes.5,
)

-- ---- the end of a group

-- a list around an element of it
split_at : {D : Type 0} (ds : List D) (i : ℕ) → i < length ds
    → (front : List D) × (d : D) × (back : List D) × (ds ≡ front ++ d ∷ back) × (length front ≡ i)
split_at [] i below = absurd (omega (arith, below))
split_at (d ∷ ds) zero below = ([], d, ds, refl, refl)
split_at (d ∷ ds) (suc i) below =
    let later = split_at ds i (omega (arith, below)) in
    (d ∷ later.0, later.1, later.2, ap (λ es. d ∷ es) later.3, ap suc later.4)

index_there : {D : Type 0} (front : List D) (d : D) (back : List D) (other : D)
    → slice_index_or (front ++ d ∷ back) (length front) other ≡ d
index_there [] d back other = refl
index_there (a ∷ front) d back other = index_there front d back other

set_there : {D : Type 0} (front : List D) (d : D) (back : List D) (e : D)
    → slice_set (front ++ d ∷ back) (length front) e ≡ front ++ e ∷ back
set_there [] d back e = refl
set_there (a ∷ front) d back e = ap (λ ds. a ∷ ds) (set_there front d back e)

opened_split : {D : Type 0} (means : Option ℕ → ℕ → Piece → D → Type 0) (front : List D) (a : D) (back ds : List D) (count i : ℕ) (d e : D)
    → ds ≡ front ++ a ∷ back → length front ≡ i → suc (length back) ≡ count → d ≡ slice_index_or ds i d
    → ((place : ℕ) (piece : Piece) → means None place piece d → means (Some (count - 1)) place piece e)
    → IsOpened means count (Some ds) (Some (slice_set ds i e))
opened_split means front a back ds count i d e same before counted there opens =
    let here : d ≡ a = there ∙ rw (same, ← before) (index_there front a back d) in
    let left : count - 1 ≡ length back = omega (arith, counted) in (
      front,
      a,
      e,
      back,
      same,
      rw (same, ← before) (set_there front a back e),
      counted,
      λ place piece is. subst (λ n. means (Some n) place piece e) left (opens place piece (rw here is)),
    )

pub opened_set : {D : Type 0} (means : Option ℕ → ℕ → Piece → D → Type 0) (ds : List D) (count i : ℕ) (d e : D)
    → i ≡ length ds - count → (1 ≤ count) × (count ≤ length ds) → d ≡ slice_index_or ds i d
    → ((place : ℕ) (piece : Piece) → means None place piece d → means (Some (count - 1)) place piece e)
    → IsOpened means count (Some ds) (Some (slice_set ds i e))
opened_set means ds count i d e is within there opens =
    let split = split_at ds i (omega (arith, is, within.0, within.1)) in
    let lengths = ap length split.3 ∙ length-append split.0 (split.1 ∷ split.2) in
    let counted : suc (length split.2) ≡ count = omega (arith, lengths, split.4, is, within.0, within.1) in
    opened_split means split.0 split.1 split.2 ds count i d e split.3 split.4 counted there opens
