-- The formats of lines, read from their words in turn.
use Rattle.std.proofs.Common.{◌≡◌, ◌∙◌, ℕ, suc, ◌+◌, ◌<◌, ◌≤◌, zero, Bool, List, [], ◌∷◌, ◌++◌, length, map, drop, get_or, inl, inr, refl}
use Rattle.std.proofs.Common.{sym, ap, subst, append_assoc, append-nil, arith}
use Rattle.std.proofs.Math.Seq.{drop-cons}
use Rattle.sf_format.specs.declared.directive.Directive.{Directive}
use Rattle.sf_format.specs.declared.directive.Profile.{Profile}
use Rattle.sf_messages.specs.declared.fault.CommandFault.{CommandFault}
use Rattle.sf_messages.specs.declared.fault.CommandFault.TheVariants.{Memory}
use Rattle.sf_command.specs.jobs.Checks.{IsNoScanWord, IsReadWord}
use Rattle.sf_command.specs.jobs.LinesJobs.{AreScanWords, IsFirstRefused}

-- the formats of the words before are read: with those of the words behind they are those of all
pub record Opened (strict : Bool) (profile : Profile) (words rest : List (List ℕ)) (formats : List (List Directive)) : Type 0 where
  pub all : (more : List (List Directive)) → AreScanWords strict profile rest more → AreScanWords strict profile words (formats ++ more)
  pub none : (refused : List ℕ) (fault : CommandFault) → IsFirstRefused profile rest refused fault
      → IsFirstRefused profile words refused fault

module _ {A : Type 0} (f : A → List ℕ) (strict : Bool) (profile : Profile) (words : List A) (formats : List (List Directive)) where
  abbrev behind : ℕ → List (List ℕ)
  behind i = map f (drop i words)

  stands_next : (i : ℕ) (x : A) → i < length words → x ≡ get_or words i x → behind i ≡ f x ∷ behind (i + 1)
  stands_next i x lt is =
      let on : i + 1 ≡ suc i = omega arith in
      ap (map f) (drop-cons words i x lt ∙ ap (λ y. y ∷ drop (suc i) words) (sym is) ∙ ap (λ n. x ∷ drop n words) (sym on))

  pub opened_next : (i : ℕ) (x : A) → i < length words → x ≡ get_or words i x → (ds : List Directive) → IsReadWord strict profile (f x) ds
      → Opened strict profile (map f words) (behind i) formats → Opened strict profile (map f words) (behind (i + 1)) (formats ++ ds ∷ [])
  opened_next i x lt is ds (text, stands, (own, spells, read)) o =
      let next = stands_next i x lt is in
      record {
        all = λ more h. subst (AreScanWords strict profile (map f words)) (sym (append_assoc formats (ds ∷ []) more))
            (o.all (ds ∷ more) (subst (λ ws. AreScanWords strict profile ws (ds ∷ more)) (sym next)
            ((text, stands, (own, spells, read)), h)));
        none = λ refused fault h. o.none refused fault (subst (λ ws. IsFirstRefused profile ws refused fault) (sym next)
            (inr (own, (text, stands, spells), h)));
      }

  pub closed_at : (i : ℕ) (x : A) → i < length words → x ≡ get_or words i x → (fault : CommandFault) → IsNoScanWord profile (f x) fault
      → Opened strict profile (map f words) (behind i) formats → IsFirstRefused profile (map f words) (f x) fault
  closed_at i x lt is fault bad o = o.none (f x) fault (subst (λ ws. IsFirstRefused profile ws (f x) fault) (sym (stands_next i x lt is))
      (inl (refl, bad)))

  -- want of memory is told of a word that is read
  pub refused_at : (i : ℕ) (x : A) → i < length words → x ≡ get_or words i x → (ds : List Directive) → IsReadWord strict profile (f x) ds
      → Opened strict profile (map f words) (behind i) formats → IsFirstRefused profile (map f words) (f x) Memory
  refused_at i x lt is ds (text, stands, read) o = closed_at i x lt is Memory (text, stands) o

  empty : (xs : List A) (i : ℕ) → length xs ≤ i → drop i xs ≡ []
  empty [] zero le = refl
  empty [] (suc i) le = refl
  empty (x ∷ xs) zero le = absurd (omega (arith, le))
  empty (x ∷ xs) (suc i) le = empty xs i (omega (arith, le))

  pub all_opened : (i : ℕ) → length words ≤ i → Opened strict profile (map f words) (behind i) formats
      → AreScanWords strict profile (map f words) formats
  all_opened i le o =
      subst (AreScanWords strict profile (map f words)) (append-nil formats)
      (o.all [] (subst (λ ws. AreScanWords strict profile ws []) (sym (ap (map f) (empty words i le))) refl))

-- as many formats as words
pub as_many : (strict : Bool) (profile : Profile) (words : List (List ℕ)) (formats : List (List Directive))
    → AreScanWords strict profile words formats
    → length formats ≡ length words
as_many strict profile [] formats is = ap (length {A = List Directive}) is
as_many strict profile (word ∷ words) [] h = absurd h
as_many strict profile (word ∷ words) (ds ∷ formats) (stands, h) = ap suc (as_many strict profile words formats h)

pub refused_before : (profile : Profile) (passed words : List (List ℕ)) (word : List ℕ) (fault : CommandFault)
    → IsFirstRefused profile passed word fault → IsFirstRefused profile (passed ++ words) word fault
refused_before profile [] words word fault h = absurd h
refused_before profile (first ∷ passed) words word fault (inl h) = inl h
refused_before profile (first ∷ passed) words word fault (inr (ds, spells, h)) =
    inr (ds, spells, refused_before profile passed words word fault h)

pub refused_after : (strict : Bool) (profile : Profile) (passed words : List (List ℕ)) (ignored : List (List Directive)) (word : List ℕ)
    (fault : CommandFault) → AreScanWords strict profile passed ignored → IsFirstRefused profile words word fault
    → IsFirstRefused profile (passed ++ words) word fault
refused_after strict profile [] words ignored word fault are h = h
refused_after strict profile (first ∷ passed) words [] word fault are h = absurd are
refused_after strict profile (first ∷ passed) words (ds ∷ ignored) word fault ((text, stands, (own, spells, read)), are) h =
    inr (own, (text, stands, spells), refused_after strict profile passed words ignored word fault are h)
