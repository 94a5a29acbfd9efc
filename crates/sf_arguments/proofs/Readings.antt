-- A word, read in one way, stands for one list of bytes, or has one first bad escape.
use Rattle.std.proofs.Common.{◌≡◌, ◌∙◌, ℕ, List, sym}
use Rattle.sf_arguments.specs.Readings.{IsUnread, Reads}
use Rattle.sf_arguments.specs.declared.word_reading.WordReading.{WordReading}
use Rattle.sf_arguments.specs.declared.word_reading.WordReading.TheVariants.{Escaped, Raw}
use Rattle.sf_arguments.proofs.Escaping.{bad_or_good, one_bad_escape, one_reading}

pub unread_or_read : {A : Type 0} (how : WordReading) (word bytes : List ℕ) (at : ℕ) → IsUnread how word at → Reads how word bytes → A
unread_or_read Escaped word bytes at bad good = bad_or_good word bytes at bad good
unread_or_read Raw word bytes at bad good = absurd bad

pub one_unread : (how : WordReading) (word : List ℕ) (a b : ℕ) → IsUnread how word a → IsUnread how word b → a ≡ b
one_unread Escaped word a b bad ill = one_bad_escape word a b bad ill
one_unread Raw word a b bad ill = absurd bad

pub one_list : (how : WordReading) (word a b : List ℕ) → Reads how word a → Reads how word b → a ≡ b
one_list Escaped word a b is too = one_reading word a b is too
one_list Raw word a b is too = is ∙ sym too
