-- What a run of the command comes to where it is an order to scan lines: one text is said after the line of its answer.
use Rattle.std.proofs.Common.{ℕ, Bool, true, false, List, Option, Result, inl, inr, subst}
use Rattle.std.specs.declared.io.Error.{Error}
use Rattle.sf_format.specs.declared.directive.Profile.{Profile}
use Rattle.sf_messages.specs.declared.places.place.Place.{Place}
use Rattle.sf_read.specs.source.Ahead.{Ahead}
use Rattle.sf_words.specs.declared.order.LineOptions.{LineOptions}
use Rattle.sf_words.specs.declared.order.Order.{Order}
use Rattle.sf_words.specs.declared.order.Verb.{Verb}
use Rattle.sf_words.specs.declared.order.WordsFault.{WordsFault}
use Rattle.sf_command.specs.entry.Exits.{Does, DoesOrder, EndsLines, Exits, is_explained}
use Rattle.sf_command.specs.entry.Laws.{OneIsSaid}
use Rattle.sf_command.specs.jobs.Answers.{Answer}
use Rattle.sf_command.specs.line_jobs.Lines.{SaysMoreOfLines}
use Rattle.sf_command_tests.specs.Once.{IsTheOne, RunsOnce}

one_of : OneIsSaid → (explain : Bool) (profile : Profile) (print : Option (List ℕ)) (words : List (List ℕ)) (answer : Answer)
    (notes : List ℕ) → SaysMoreOfLines explain profile print words answer notes → IsTheOne profile print words answer notes
one_of law true profile print words answer notes (inl says) = inl (λ other too. law profile print words answer notes other says too)
one_of law true profile print words answer notes (inr none) = inr none
one_of law false profile print words answer notes none = inr none

module _ {S K E : Type 0} (contents : K → Option (List ℕ)) (write_faults : K → ℕ) (hands : K → K → Type 0)
    (said : E → Option (List ℕ)) (unsaid : E → ℕ) (to_come : S → Option (List ℕ)) (read_faults : S → ℕ)
    (why_unread : S → Option Error) (why_unwritten : K → Option Error) where
  pub runs_once : OneIsSaid → (watched : Bool) (words : List (List ℕ)) (place : Option Place) (from from' : Ahead S) (out out' : K)
      (err err' : E) (status : ℕ)
      → Exits contents write_faults hands said unsaid to_come read_faults why_unread why_unwritten watched words place from from' out out'
      err err' status
      → RunsOnce contents write_faults hands said unsaid to_come read_faults why_unread why_unwritten watched words from from' out out'
      err err' status
  runs_once law watched words place from from' out out' err err' status (asked, ended, by, is) = record {
    asked = asked;
    read = by.read;
    once = λ order options read lines scan.
        let explain = is_explained watched order.notes in
        let does = subst (λ (a : Result Order WordsFault). Does contents write_faults hands said unsaid to_come read_faults why_unread
        why_unwritten watched a place from from' out out' err err' ended) read by.done in
        let lined = subst (λ (l : Option LineOptions). DoesOrder contents write_faults hands said unsaid to_come read_faults why_unread
        why_unwritten watched explain l order place from from' out out' err err' ended) lines does in
        let ended_scans = subst (λ (v : Verb). EndsLines contents write_faults hands said
        unsaid to_come read_faults why_unread why_unwritten watched explain options order v from from' out out' err err' ended) scan
        lined in
        let (answer, (mid, (between, scans, (notes, says, (all, are, ends))))) = ended_scans in
        record {
          answer = answer;
          mid = mid;
          between = between;
          scans = scans;
          notes = notes;
          one = one_of law explain _ _ _ answer notes says;
          all = all;
          are = are;
          ended = ended;
          ends = ends;
          status_is = is;
        };
  }
