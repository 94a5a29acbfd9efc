-- How far a run has come within the front of a piece: the directives that have ended, and what is counted of them.
use Rattle.std.specs.Prelude.{◌≡◌, ℕ, ◌+◌, ◌-◌, ◌≤◌, true, List, ◌++◌, length, take, drop, min, None}
use Rattle.sf_base.specs.stores.Kept.{Kept, texts_in}
use Rattle.sf_format.specs.declared.directive.Directive.{Directive}
use Rattle.sf_format.specs.Layout.{items_assigned, items_taken}
use Rattle.sf_format.specs.Proper.{slots_of}
use Rattle.sf_report.specs.Residual.{nothing_yet, run_of}
use Rattle.sf_run.specs.declared.quick.Missing.{Missing}
use Rattle.sf_run.specs.declared.quick.Place.{Place}
use Rattle.sf_run.specs.declared.tally.Tally as code
use Rattle.sf_run.specs.Holding.{are_among}
use Rattle.sf_run.specs.Places.{places_left}
use Rattle.sf_run.specs.Tallies.{tally_of}
use Rattle.sf_run.specs.Texts.{slots_in}

-- The directives before this place have ended within the front, none by a failure, in which the run has come so far, and the store was
-- given what they gave.
pub record Going (ds : List Directive) (front : List ℕ) (p : ℕ) (t : code.Tally) (kept : Kept) : Type 0 where
  pub same : (z : List ℕ) → run_of None ds 1 nothing_yet (front ++ z)
      ≡ run_of None (drop p ds) (p + 1) (tally_of t kept.values) (drop t.used front ++ z)
  pub within : t.used ≤ length front
  pub given : are_among (slots_in kept.values) (slots_of (take p ds)) ≡ true
  pub opened : kept.opened ≡ None
  pub joined : kept.closed ≡ texts_in kept.values

-- what the first so many directives count, and the destinations after them
pub record Few (ds : List Directive) (p : ℕ) : Type 0 where
  pub assigned : items_assigned (take p ds) + places_left ds p ≤ 32
  pub converted : items_taken (take p ds) ≤ p

-- The directives before this place have ended within the front, none by a failure; after the bytes that they took is the
-- rest, and their items are counted, those that are missing by themselves.
pub record Counted (ds : List Directive) (front tail : List ℕ) (p : ℕ) (missing : Missing) (kept : Kept) : Type 0 where
  pub tally : code.Tally
  pub going : Going ds front p tally kept
  pub rest : tail ≡ drop tally.used front
  pub short : length tail ≤ length front
  pub assigned : tally.assigned + missing.assigned ≡ items_assigned (take p ds)
  pub converted : tally.converted + missing.converted ≡ items_taken (take p ds)
  pub few : Few ds p

-- the run has come to this place, and so many items are missing
abbrev pub HasCome : List Directive → List ℕ → Place → Missing → Kept → Type 0
HasCome ds front place missing kept = Counted ds front (drop place.used front) (length ds - place.left) missing kept

-- no item is missing
abbrev pub none_missing : Missing
none_missing = record { assigned = 0; converted = 0 }

-- the bytes of the piece that the limit allows
abbrev pub front_of : ℕ → List ℕ → List ℕ
front_of limit piece = take (min limit (length piece)) piece
