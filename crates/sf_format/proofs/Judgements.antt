-- What is judged of a text is its parts or its fault: laws of formats, and what is answered about a text.
use Rattle.std.proofs.Common.{◌≡◌, ℕ, ◌≤◌, inl, inr, Bool, true, false, nat_lt, List, [], length, Option, Some, None, Result, Ok, Err}
use Rattle.std.proofs.Common.{refl, ◌∙◌, arith, lit≤, append-nil, ◌⊎◌, sym, ap, subst}
use Rattle.std.proofs.lemmas.Bool.Decides.{nat_tests}
use Rattle.sf_base.specs.Bytes.{AreBytes}
use Rattle.sf_format.specs.Language.{Language}
use Rattle.sf_format.specs.declared.fault.FormatWhy.{FormatWhy}
use Rattle.sf_format.specs.Pieces.{Piece, text_of}
use Rattle.sf_format.specs.Grammar.{IsFormat, IsMeaning, SpellsAs, SpellsCounted}
use Rattle.sf_format.specs.Rules.{first_of}
use Rattle.sf_format.specs.Faults.{open_rules, number_rules, whole_rules, AreFaultless, FaultIn, IsRefusedAs, no_memory}
use Rattle.sf_format.specs.Reading.{unless, read, whole_judged, judged}
use Rattle.sf_format.proofs.Outcomes.{within, not_above, is_above}
use Rattle.sf_format.proofs.Rules.{quiet_is, quiet_from, quiet_split}
use Rattle.sf_format.proofs.Numbers.{slots_from, slots_quiet}
use Rattle.sf_format.proofs.WholeTexts.{Tells, read_tells, parts_read, format_read, fault_read}
use Rattle.sf_format.specs.declared.fault.FormatFault.{FormatFault}
use Rattle.sf_format.specs.declared.grammar.Before.{Before}
use Rattle.sf_format.specs.declared.groups.Stage.{Stage}
use Rattle.sf_format.specs.declared.groups.Stage.TheVariants.{Outside, First, Inside}
use Rattle.sf_format.specs.Groups.{stage_after, is_open}
use Rattle.sf_format.specs.Passing.{Judged, Gathers, IsHindered, Walked, fault_of}
use Rattle.sf_format.proofs.PartSlots.{format_few}
use Rattle.sf_format.proofs.Meanings.{mean_all_one, some_meanings}

abbrev pub Judgement : Type 0
Judgement = Result (List Piece) (FormatWhy × ℕ)

-- what the judgement says of a text
abbrev pub Judges : Language → List ℕ → Judgement → Type 0
Judges language text (Ok pieces) = IsFormat language pieces × (text ≡ text_of pieces)
Judges language text (Err fault) = FaultIn language text fault.1 fault.0

-- ---- the whole of a text

none_open : (stage : Stage) → is_open stage ≡ false → stage ≡ Outside
none_open Outside e = refl
none_open First e = absurd (cc)
none_open Inside e = absurd (cc)

whole_split : (pieces : List Piece) → first_of (whole_rules pieces) ≡ None
    → (stage_after Outside pieces ≡ Outside) × (first_of (number_rules pieces) ≡ None)
whole_split pieces e =
    let split = quiet_split (open_rules pieces) (number_rules pieces) (quiet_is (whole_rules pieces) e) in
    (none_open (stage_after Outside pieces) split.0.0, quiet_from (number_rules pieces) split.1)

pub whole_quiet : (pieces : List Piece) → stage_after Outside pieces ≡ Outside → first_of (number_rules pieces) ≡ None
    → first_of (whole_rules pieces) ≡ None
whole_quiet pieces closed e = rw closed e

-- what was read of a short text
whole_tell : (language : Language) (text : List ℕ) (r : Judgement) → length text ≤ 4096 → Tells language [] text r
    → Judges language text (whole_judged r)
whole_tell language text (Ok pieces) few divides = by_first (first_of (whole_rules pieces)) refl
  where
    by_first : (first : Option (FormatWhy × ℕ)) → first_of (whole_rules pieces) ≡ first → Judges language text (unless first (Ok pieces))
    by_first None e =
        let same = divides.text ∙ append-nil (text_of pieces) in
        let split = whole_split pieces e in (
          record {
            short = rw same at few;
            each = divides.each;
            apart = divides.apart;
            slots = slots_from pieces divides.alike split.1;
            grouped = divides.grouped;
            closed = split.0;
          },
          same,
        )
    by_first (Some fault) e =
        let faultless : AreFaultless language pieces
        = record { each = divides.each; apart = divides.apart; alike = divides.alike; grouped = divides.grouped } in
        inr (few, inr (pieces, faultless, divides.text ∙ append-nil (text_of pieces), e))
whole_tell language text (Err fault) few tells =
    let divides = tells.divides in
    let faultless : AreFaultless language tells.more
    = record { each = divides.each; apart = divides.apart; alike = divides.alike; grouped = divides.grouped } in
    inr (few, inl (tells.more, tells.rest, faultless, divides.text, tells.first))

pub read_judged : (language : Language) (text : List ℕ) (r : Judgement) → length text ≤ 4096 → read (length text) language [] text ≡ r
    → judged language text ≡ whole_judged r
read_judged language text r few e = rw (not_above 4096 (length text) few, e)

-- each text of bytes is judged rightly
pub judged_tells : (language : Language) (text : List ℕ) → AreBytes text → Judges language text (judged language text)
judged_tells language text bytes = by_length (nat_lt 4096 (length text)) refl
  where
    by_length : (v : Bool) → nat_lt 4096 (length text) ≡ v → Judges language text (judged language text)
    by_length true e = rw e (inl (grind (arith, nat_tests), refl, refl))
    by_length false e =
        rw e
        (whole_tell language text (read (length text) language [] text) (within 4096 (length text) e)
        (read_tells (length text) language [] text (omega arith) bytes (inl (tt, lit≤ tt))))

-- the parts of a format are judged so
pub format_judged : (language : Language) (pieces : List Piece) → IsFormat language pieces → judged language (text_of pieces) ≡ Ok pieces
format_judged language pieces is =
    read_judged language (text_of pieces) (Ok pieces) is.short (format_read language pieces is)
    ∙ rw (whole_quiet pieces is.closed (slots_quiet pieces is.slots))

-- a fault of a text is judged so
pub fault_judged : (language : Language) (text : List ℕ) (at : ℕ) (why : FormatWhy) → FaultIn language text at why
    → judged language text ≡ Err (why, at)
fault_judged language text at why h =
    elim h [
      | inl much ↦ rw (is_above 4096 (length text) much.0, much.1, much.2)
      | inr few ↦
          elim few.1 [
            | inl part ↦ read_judged language text (Err (why, at)) few.0 (fault_read language text (why, at) part)
            | inr (done, good, is, first) ↦ read_judged language text (Ok done) few.0
                (rw is (parts_read language done good.each good.apart good.alike good.grouped)) ∙ rw first
          ]
    ]

pub judged_short : (language : Language) (text : List ℕ) (pieces : List Piece) → judged language text ≡ Ok pieces → length text ≤ 4096
judged_short language text pieces e = grind (arith, nat_tests)

-- the parts of a spelled text are those that are judged
pub spelled_judged : {D : Type 0} (language : Language) (means : Option ℕ → ℕ → Piece → D → Type 0) (text : List ℕ) (ds : List D)
    (h : SpellsAs language means text ds) → judged language text ≡ Ok h.0
spelled_judged language means text ds h = ap (judged language) h.2 ∙ format_judged language h.0 h.1

pub one_list : {D : Type 0} {language : Language} {means : Option ℕ → ℕ → Piece → D → Type 0} → IsMeaning D language means
    → (text : List ℕ) (ds es : List D) → SpellsAs language means text ds → SpellsAs language means text es → ds ≡ es
one_list {language = language} {means} m text ds es h k =
    let same : h.0 ≡ k.0 = let e = sym (spelled_judged language means text ds h) ∙ spelled_judged language means text es k in cc in
    mean_all_one m false 1 k.0 ds es (rw same at h.3) k.3

pub one_fault : (language : Language) (text : List ℕ) (at place : ℕ) (why reason : FormatWhy) → FaultIn language text at why
    → FaultIn language text place reason → (at ≡ place) × (why ≡ reason)
one_fault language text at place why reason h k =
    let same : (why, at) ≡ (reason, place) =
    let e = sym (fault_judged language text at why h) ∙ fault_judged language text place reason k in cc in
    (ap (λ (p : FormatWhy × ℕ). p.1) same, ap (λ (p : FormatWhy × ℕ). p.0) same)

pub not_both : {D : Type 0} (language : Language) (means : Option ℕ → ℕ → Piece → D → Type 0) (text : List ℕ) (ds : List D) (at : ℕ)
    (why : FormatWhy) → SpellsAs language means text ds → FaultIn language text at why → ⊥
not_both language means text ds at why h k =
    let e = sym (spelled_judged language means text ds h) ∙ fault_judged language text at why k in absurd (cc)

-- a format whose parts are judged spells some list
some_spelled : {D : Type 0} {language : Language} {means : Option ℕ → ℕ → Piece → D → Type 0} → IsMeaning D language means
    → (text : List ℕ) (pieces : List Piece) → Judges language text (Ok pieces) → (ds : List D) × SpellsAs language means text ds
some_spelled m text pieces h = let ds = some_meanings m false 1 pieces h.0.each in (ds.0, (pieces, h.0, h.1, ds.1))

pub either : {D : Type 0} {language : Language} {means : Option ℕ → ℕ → Piece → D → Type 0} → IsMeaning D language means → (text : List ℕ)
    → AreBytes text
    → ((ds : List D) × SpellsAs language means text ds) ⊎ ((at : ℕ) × (why : FormatWhy) × FaultIn language text at why)
either {D} {language} {means} m text bytes = by_judgement (judged language text) (judged_tells language text bytes)
  where
    by_judgement : (r : Judgement) → Judges language text r
        → ((ds : List D) × SpellsAs language means text ds) ⊎ ((at : ℕ) × (why : FormatWhy) × FaultIn language text at why)
    by_judgement (Ok pieces) h = inl (some_spelled m text pieces h)
    by_judgement (Err fault) h = inr (fault.1, fault.0, h)

-- ---- what is judged

tells : (language : Language) (text : List ℕ) (r : Judgement) → AreBytes text → judged language text ≡ r → Judges language text r
tells language text r bytes e = subst (Judges language text) e (judged_tells language text bytes)

pub all_judged : (language : Language) (text : List ℕ) (all : Before) → length text ≤ 4096 → (walked : Walked language text (Ok all))
    → None ≡ first_of (whole_rules walked.0) → Judged language text (Ok all.slots.count)
all_judged language text all short walked e =
    (walked.0, read_judged language text (Ok walked.0) short walked.1 ∙ rw (← e), walked.2.slots.count)

pub judged_few : (language : Language) (text : List ℕ) (count : ℕ) → AreBytes text → Judged language text (Ok count) → count ≤ 32
judged_few language text count bytes h =
    let is = tells language text (Ok h.0) bytes h.1 in omega (arith, h.2, format_few language h.0 is.0)

-- ---- a text whose parts were judged good

-- what is read of it are those parts
read_same : (language : Language) (text : List ℕ) (pieces others : List Piece) → judged language text ≡ Ok pieces
    → read (length text) language [] text ≡ Ok others → others ≡ pieces
read_same language text pieces others e f =
    let both = sym (read_judged language text (Ok others) (judged_short language text pieces e) f) ∙ e in grind arith

pub gathers_spells : {D : Type 0} {language : Language} {means : Option ℕ → ℕ → Piece → D → Type 0} {text : List ℕ} {ds : List D}
    (count : ℕ) → AreBytes text
    → Judged language text (Ok count) → Gathers language means text ds → SpellsCounted language means text ds count
gathers_spells {language = language} {text = text} count bytes judges h =
    let is = tells language text (Ok judges.0) bytes judges.1 in
    ((judges.0, is.0, is.1, rw (read_same language text judges.0 h.pieces judges.1 h.parts) at h.meaning), judges.2)

-- ---- a text that is refused

pub judged_fault : {D : Type 0} {language : Language} {means : Option ℕ → ℕ → Piece → D → Type 0} → IsMeaning D language means
    → (text : List ℕ) (fault : FormatFault) → AreBytes text → judged language text ≡ Err (fault_of fault)
    → IsRefusedAs language means text fault
judged_fault {language = language} m text fault bytes e = inl (tells language text (Err (fault_of fault)) bytes e)

pub hindered : {D : Type 0} {language : Language} {means : Option ℕ → ℕ → Piece → D → Type 0} → IsMeaning D language means
    → (text : List ℕ) (count : ℕ) (fault : FormatFault) → AreBytes text → Judged language text (Ok count)
    → IsHindered language text fault → IsRefusedAs language means text fault
hindered {language = language} {means} m text count fault bytes judges h =
    elim h [
      | inl e ↦
          judged_fault m text fault bytes
          (read_judged language text (Err (fault_of fault)) (judged_short language text judges.0 judges.1) e)
      | inr none ↦ inr (none, some_spelled m text judges.0 (tells language text (Ok judges.0) bytes judges.1))
    ]

-- what is refused rightly is refused for each fault, and where something is spelled, for memory
pub told : {D : Type 0} {language : Language} {means : Option ℕ → ℕ → Piece → D → Type 0} → IsMeaning D language means
    → (text : List ℕ) (fault : FormatFault) → IsRefusedAs language means text fault
    → ((at : ℕ) (why : FormatWhy) → FaultIn language text at why → fault ≡ record { at = at; why = why })
    × ((ds : List D) → SpellsAs language means text ds → fault ≡ no_memory)
told {language = language} {means} m text fault (inl f) = (
  λ at why g. let same = one_fault language text fault.at at fault.why why f g in rw (← same.0, ← same.1),
  λ ds h. absurd (not_both language means text ds fault.at fault.why h f),
)
told {language = language} {means} m text fault (inr none) = (
  λ at why g. absurd (not_both language means text none.1.0 at why none.1.1 g),
  λ ds h. none.0,
)

-- a text that is judged good has no fault
pub no_fault : {A : Type 0} (language : Language) (text : List ℕ) (count : ℕ) (at : ℕ) (why : FormatWhy) → Judged language text (Ok count)
    → FaultIn language text at why → A
no_fault language text count at why judges h = let e = sym judges.1 ∙ fault_judged language text at why h in absurd (cc)
