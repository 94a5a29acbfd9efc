-- Lists of rules of which none applies.
use Rattle.std.proofs.Common.{◌≡◌, false, List, [], ◌∷◌, ◌++◌, map, Option, Some, None, is_some, refl, arith}
use Rattle.std.specs.List.{AllByRecursion}
use Rattle.sf_base.specs.declared.rules.Rule.{Rule as CodeRule}
use Rattle.sf_base.specs.Rules.{first_reason}
use Rattle.sf_format.specs.declared.fault.FormatFault.{FormatFault}
use Rattle.sf_format.specs.Rules.{Rule, first_of}
use Rattle.sf_format.specs.Passing.{fault_in, row_of}

-- no rule applies
abbrev pub Quiet : List Rule → Type 0
Quiet rules = AllByRecursion (λ rule. rule.applies ≡ false) rules

pub quiet_is : (rules : List Rule) → first_of rules ≡ None → Quiet rules
quiet_is [] e = tt
quiet_is (rule ∷ rules) e = grind (arith, quiet_is rules)

pub quiet_from : (rules : List Rule) → Quiet rules → first_of rules ≡ None
quiet_from [] h = refl
quiet_from (rule ∷ rules) h = rw h.0 (quiet_from rules h.1)

abbrev pub or_else : {A : Type 0} → Option A → Option A → Option A
or_else None other = other
or_else (Some a) other = Some a

pub first_append : (a b : List Rule) → first_of (a ++ b) ≡ or_else (first_of a) (first_of b)
first_append [] b = refl
first_append (rule ∷ a) b = grind (arith, first_append a b)

pub all_append : {A : Type 0} (P : A → Type 0) (xs ys : List A) → AllByRecursion P xs → AllByRecursion P ys → AllByRecursion P (xs ++ ys)
all_append P [] ys h k = k
all_append P (x ∷ xs) ys h k = (h.0, all_append P xs ys h.1 k)

pub all_front : {A : Type 0} (P : A → Type 0) (xs ys : List A) → AllByRecursion P (xs ++ ys) → AllByRecursion P xs
all_front P [] ys h = tt
all_front P (x ∷ xs) ys h = (h.0, all_front P xs ys h.1)

pub all_back : {A : Type 0} (P : A → Type 0) (xs ys : List A) → AllByRecursion P (xs ++ ys) → AllByRecursion P ys
all_back P [] ys h = h
all_back P (x ∷ xs) ys h = all_back P xs ys h.1

pub all_map : {A : Type 0} (P Q : A → Type 0) → ((a : A) → P a → Q a) → (xs : List A) → AllByRecursion P xs → AllByRecursion Q xs
all_map P Q f [] h = tt
all_map P Q f (x ∷ xs) h = (f x h.0, all_map P Q f xs h.1)

pub none_from : {A : Type 0} (o : Option A) → is_some o ≡ false → o ≡ None
none_from o e = grind arith

pub quiet_join : (a b : List Rule) → Quiet a → Quiet b → Quiet (a ++ b)
quiet_join a b h k = all_append (λ r. r.applies ≡ false) a b h k

pub quiet_split : (a b : List Rule) → Quiet (a ++ b) → Quiet a × Quiet b
quiet_split a b h = (all_front (λ r. r.applies ≡ false) a b h, all_back (λ r. r.applies ≡ false) a b h)

-- the first rule of a table in the code
pub table_fault : (rules : List (CodeRule FormatFault)) → fault_in (first_reason rules) ≡ first_of (map row_of rules)
table_fault [] = refl
table_fault (rule ∷ rules) = grind (arith, table_fault rules)
