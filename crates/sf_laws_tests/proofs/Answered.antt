-- What holds of an answer that is there.
use Rattle.std.proofs.Common.{ℕ, Option, Some, None}
use Rattle.std.specs.Prelude.{IfSome, MatchOption}

pub if_some : {A : Type 0} {P Q : A → Type 0} (o : Option A) → IfSome o P → ((a : A) → P a → Q a) → IfSome o Q
if_some None h f = tt
if_some (Some a) h f = f a h

pub if_match : {A : Type 0} (N : Type 0) {P Q : A → Type 0} (o : Option A) → MatchOption o N P → ((a : A) → P a → Q a) → IfSome o Q
if_match N None h f = tt
if_match N (Some a) h f = f a h
