-- Laws of an order of lines.
use Rattle.std.specs.Prelude.{◌≡◌, ℕ, List, Option}
use Rattle.sf_format.specs.declared.directive.Profile.{Profile}
use Rattle.sf_command.specs.jobs.Answers.{Answer}
use Rattle.sf_command.specs.line_jobs.Lines.{SaysOfLines}

-- after the line of an answer of lines at most one text is to be said: of the word that is refused, and of no other
abbrev pub OneIsSaid : Type 0
OneIsSaid = (profile : Profile) (print : Option (List ℕ)) (words : List (List ℕ)) (answer : Answer) (notes others : List ℕ)
    → SaysOfLines profile print words answer notes → SaysOfLines profile print words answer others → notes ≡ others
