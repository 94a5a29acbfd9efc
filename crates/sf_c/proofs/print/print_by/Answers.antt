use Rattle.std.proofs.Common.{◌≡◌, Some, inl, inr, map, pos, subst, ℤ, to_z, of_z, w32}
use Rattle.sf_base.specs.Data.{datum_of}
use Rattle.sf_print.specs.Printed.{printed}
use Rattle.sf_c.proofs.Data.{refused_is}
use Rattle.sf_c.proofs.print.print_by.Goals as goal

-- the answer is 3 or 6
not_three : (n : ℤ) → n ≡ pos 3 → to_z w32 (of_z w32 n) ≡ pos 6 → ⊥
not_three n three six = let e = subst (λ (z : ℤ). to_z w32 (of_z w32 z) ≡ pos 6) three six in cc

pub returns-clause-refused : goal.returns-clause-refused
returns-clause-refused c = λ six. elim c.refuse.ensures.codes [
  | inl three ↦ absurd (not_three c.refuse.result three six)
  | inr is ↦ record {
    fault = c.in-Err.fault;
    measured_is = refused_is _ c.fprint.result (Some c.new-to.result.bytes) (Some c.fprint.new.to.bytes)
        (printed c.args.format.now (map datum_of c.args.values.now)) c.in-Err.fault _ c.in-Err.is c.fprint.ensures.refused
        c.fprint.ensures.written
        (c.refuse.ensures.sink is);
    why_is = c.refuse.ensures.why is;
    slot_is = c.refuse.ensures.slot is;
  }
]
