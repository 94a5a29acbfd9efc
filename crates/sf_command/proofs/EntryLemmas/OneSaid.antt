-- Of the words of an order of lines one alone is refused, and one text is said of it.
use Rattle.std.proofs.Common.{◌≡◌, ◌∙◌, ℕ, List, [], ◌∷◌, Some, None, Ok, Err, inl, inr, sym, ap, subst}
use Rattle.sf_format.specs.declared.directive.Directive.{Directive}
use Rattle.sf_format.specs.declared.directive.Profile.{Profile}
use Rattle.sf_format.specs.declared.fault.FormatFault.{FormatFault}
use Rattle.sf_format.specs.Grammar.{Means, Spells}
use Rattle.sf_format.specs.Language.{Scan}
use Rattle.sf_format.proofs.Judgements.{not_both}
use Rattle.sf_messages.specs.declared.fault.CommandFault.{CommandFault}
use Rattle.sf_messages.specs.declared.fault.CommandFault.TheVariants.{BadEscape, Format, PrintFormat, Values, Record, Lines, Write, Memory}
use Rattle.sf_messages.specs.declared.fault.CommandFault.TheVariants.{Pair, Unprintable, NameCount, NameEmpty, NameTwice}
use Rattle.sf_messages.specs.declared.fault.FormatName.TheVariants as name
use Rattle.sf_messages.specs.Notes.{escape_notes, format_notes}
use Rattle.sf_command.specs.jobs.Checks.{IsNoScanWord, IsScanWord}
use Rattle.sf_command.specs.notes.Explains.{SaysFormat}
use Rattle.sf_command.specs.entry.Laws.{OneIsSaid}
use Rattle.sf_command.specs.jobs.LinesJobs.{IsFirstRefused}
use Rattle.sf_arguments.proofs.Escaping.{bad_or_good, one_reading}

module _ (profile : Profile) (fault : CommandFault) where
  -- no word that has the fault spells a format
  abbrev IsOfNoFormat : Type 0
  IsOfNoFormat = (word : List ℕ) (ds : List Directive) → IsNoScanWord profile word fault → IsScanWord profile word ds → ⊥

  one_word : IsOfNoFormat → (words : List (List ℕ)) (a b : List ℕ) → IsFirstRefused profile words a fault
      → IsFirstRefused profile words b fault → a ≡ b
  one_word none [] a b h k = absurd h
  one_word none (word ∷ words) a b (inl (is, bad)) (inl (too, also)) = is ∙ sym too
  one_word none (word ∷ words) a b (inl (is, bad)) (inr (ds, good, more)) = absurd (none word ds bad good)
  one_word none (word ∷ words) a b (inr (ds, good, more)) (inl (is, bad)) = absurd (none word ds bad good)
  one_word none (word ∷ words) a b (inr (ds, good, more)) (inr (es, also, further)) = one_word none words a b more further

module _ (profile : Profile) (fault : FormatFault) where
  of_no_format : IsOfNoFormat profile (Format fault)
  of_no_format word ds (text, stands, has) (other, too, spells) =
      let same : other ≡ text = one_reading word other text too stands in
      not_both (Scan profile) (Means profile) text ds fault.at fault.why (subst (λ t. Spells profile t ds) same spells) has

-- one text is said of a word that is refused for its format
one_of_format : (fault : FormatFault) (word notes others : List ℕ) → SaysFormat fault word notes → SaysFormat fault word others
    → notes ≡ others
one_of_format fault word notes others (inl (text, stands, is)) (inl (other, good, too)) =
    is ∙ ap (λ (t : List ℕ). format_notes t fault) (one_reading word text other stands good) ∙ sym too
one_of_format fault word notes others (inl (text, stands, is)) (inr (at, bad, too)) = bad_or_good word text at bad stands
one_of_format fault word notes others (inr (at, bad, is)) (inl (text, stands, too)) = bad_or_good word text at bad stands
one_of_format fault word notes others (inr (at, bad, is)) (inr (place, ill, too)) = is ∙ sym too

pub one_is_said_holds : OneIsSaid
one_is_said_holds profile print words (Ok status) notes others is too = is ∙ sym too
one_is_said_holds profile print words (Err (BadEscape name.Scan at)) notes others (word, first, is) (other, also, too) =
    let none : IsOfNoFormat profile (BadEscape name.Scan at) = λ w ds bad good. bad_or_good w good.0 at bad.1 good.1 in
    is ∙ ap (λ (w : List ℕ). escape_notes w at) (one_word profile (BadEscape name.Scan at) none words word other first also) ∙ sym too
one_is_said_holds profile None words (Err (BadEscape name.Print at)) notes others is too = is ∙ sym too
one_is_said_holds profile (Some print) words (Err (BadEscape name.Print at)) notes others is too = is ∙ sym too
one_is_said_holds profile print words (Err (Format fault)) notes others (word, first, is) (other, also, too) =
    let same : other ≡ word = one_word profile (Format fault) (of_no_format profile fault) words other word also first in
    one_of_format fault word notes others is (subst (λ w. SaysFormat fault w others) same too)
one_is_said_holds profile None words (Err (PrintFormat fault)) notes others is too = is ∙ sym too
one_is_said_holds profile (Some print) words (Err (PrintFormat fault)) notes others is too = one_of_format fault print notes others is too
one_is_said_holds profile print words (Err (Values fault)) notes others is too = is ∙ sym too
one_is_said_holds profile print words (Err (Record fault)) notes others is too = is ∙ sym too
one_is_said_holds profile print words (Err (Lines fault)) notes others is too = is ∙ sym too
one_is_said_holds profile print words (Err Write) notes others is too = is ∙ sym too
one_is_said_holds profile print words (Err Memory) notes others is too = is ∙ sym too
one_is_said_holds profile print words (Err (Pair fault)) notes others is too = is ∙ sym too
one_is_said_holds profile print words (Err (Unprintable why)) notes others is too = is ∙ sym too
one_is_said_holds profile print words (Err (NameCount expected got)) notes others is too = is ∙ sym too
one_is_said_holds profile print words (Err (NameEmpty number)) notes others is too = is ∙ sym too
one_is_said_holds profile print words (Err (NameTwice number)) notes others is too = is ∙ sym too
