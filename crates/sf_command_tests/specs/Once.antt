-- What an order to scan lines says after the line of its answer, once.
use Rattle.std.specs.Prelude.{◌≡◌, ◌⊎◌, ◌++◌, ℕ, Bool, List, [], Option, Some, Result, Ok, map, option_map, string_bytes}
use Rattle.std.specs.declared.io.Error.{Error}
use Rattle.sf_format.specs.declared.directive.Profile.{Profile}
use Rattle.sf_read.specs.source.Ahead.{Ahead}
use Rattle.sf_words.specs.declared.order.LineOptions.{LineOptions}
use Rattle.sf_words.specs.declared.order.Order.{Order}
use Rattle.sf_words.specs.declared.order.Verb.TheVariants.{Scan}
use Rattle.sf_words.specs.declared.order.WordsFault.{WordsFault}
use Rattle.sf_command.specs.console.Ends.{EndsKnown, exit_of}
use Rattle.sf_command.specs.console.Fronts.{file_name}
use Rattle.sf_command.specs.entry.Exits.{IsRead, is_explained}
use Rattle.sf_command.specs.entry.Hints.{passed_hint}
use Rattle.sf_command.specs.jobs.Answers.{Answer}
use Rattle.sf_command.specs.jobs.Commands.{form_of, grammar_of}
use Rattle.sf_command.specs.jobs.Heads.{is_headed, names_text}
use Rattle.sf_command.specs.line_jobs.Lines.{SaysOfLines, ScansLines}

-- each text that is to be said after the line of this answer is this one; or nothing is said
abbrev pub IsTheOne : Profile → Option (List ℕ) → List (List ℕ) → Answer → List ℕ → Type 0
IsTheOne profile print words answer notes =
    ((other : List ℕ) → SaysOfLines profile print words answer other → notes ≡ other) ⊎ (notes ≡ [])

module _ {S K E : Type 0} (contents : K → Option (List ℕ)) (write_faults : K → ℕ) (hands : K → K → Type 0)
    (said : E → Option (List ℕ)) (unsaid : E → ℕ) (to_come : S → Option (List ℕ)) (read_faults : S → ℕ)
    (why_unread : S → Option Error) (why_unwritten : K → Option Error) where
  -- what an order to scan lines comes to, with the one text that is said after the line of its answer
  pub record ScansOnce (watched explain : Bool) (options : LineOptions) (order : Order) (from from' : Ahead S) (out out' : K)
      (err err' : E) (status : ℕ) : Type 0 where
    pub answer : Answer
    pub mid : K
    pub between : E
    pub scans : ScansLines to_come read_faults contents write_faults said unsaid (file_name order) (is_headed order.file)
        order.strict (grammar_of order.profile) (form_of order.output) order.tag (names_text order)
        (option_map string_bytes order.print) options
        explain order.limit (map string_bytes order.ignored.items) (map string_bytes order.texts.items) from from' out mid err between
        answer
    pub notes : List ℕ
    pub one : IsTheOne (grammar_of order.profile) (option_map string_bytes order.print)
        (map string_bytes order.ignored.items ++ map string_bytes order.texts.items) answer notes
    pub all : List ℕ
    pub are : (all ≡ notes ++ passed_hint explain order answer) ⊎ (all ≡ notes)
    pub ended : Answer
    pub ends : EndsKnown hands said unsaid watched explain (why_unread from'.source) (why_unwritten mid) order all answer mid out'
        between err' ended
    pub status_is : status ≡ exit_of ended

  -- the words are read, and where they are an order to scan lines, this comes of it
  pub record RunsOnce (watched : Bool) (words : List (List ℕ)) (from from' : Ahead S) (out out' : K) (err err' : E) (status : ℕ)
      : Type 0 where
    pub asked : Result Order WordsFault
    pub read : IsRead words asked
    pub once : (order : Order) (options : LineOptions) → asked ≡ Ok order → order.lines ≡ Some options → order.verb ≡ Scan
        → ScansOnce watched (is_explained watched order.notes) options order from from' out out' err err' status
