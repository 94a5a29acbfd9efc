-- Why a text is refused.
use Rattle.std.proofs.Common.{◌≡◌, ◌⊎◌, inl, inr, ℕ, List, ap}
use Rattle.sf_format.specs.declared.directive.Profile.{Profile}
use Rattle.sf_format.specs.declared.fault.FormatFault.{FormatFault}
use Rattle.sf_format.specs.declared.fault.FormatWhy.TheVariants.{NoMemory}
use Rattle.sf_format.specs.Faults.{Fault, IsRefused}
use Rattle.sf_format.specs.Laws.{HaveOneFault}

-- a text that is refused twice, but for memory, is so for one fault
pub same_fault : (profile : Profile) (text : List ℕ) → HaveOneFault Fault → (first second : FormatFault) → IsRefused profile text first
    → IsRefused profile text second
    → (first.why ≡ NoMemory) ⊎ (second.why ≡ NoMemory) ⊎ ((first.at ≡ second.at) × (first.why ≡ second.why))
same_fault profile text one first second (inl a) (inl b) = inr (inr (one profile text first.at second.at first.why second.why a b))
same_fault profile text one first second (inl a) (inr b) = inr (inl (ap (λ (f : FormatFault). f.why) b.0))
same_fault profile text one first second (inr a) b = inl (ap (λ (f : FormatFault). f.why) a.0)
