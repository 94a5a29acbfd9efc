use Rattle.std.proofs.Common.{◌≡◌, ℕ, List, ◌++◌, length, map, take, drop, unwrap_or, IsTrue, ◌↔◌, subst, ap, sym, ◌∙◌, arith}
use Rattle.std.proofs.Math.Seq.{take-append_seam}
use Rattle.sf_format.specs.Layout.{row_of}
use Rattle.sf_format.specs.Strictness.{strictly}
use Rattle.sf_format.specs.Unbounded.{EndsUnbounded}
use Rattle.sf_format.proofs.Strict.{accepted_stays, destinations_stay, optionals_stay, widths_stay, taken_stay, assigned_stay}
use Rattle.sf_format.proofs.scan.ScanFormat.strict.Goals as goal

-- what was written through a slice of all elements is what the list holds
written : {X : Type 0} (n : ℕ) (new rest : List X) → n ≡ length new → take n (new ++ rest) ≡ new
written n new rest e = ap (λ (k : ℕ). take k (new ++ rest)) e ∙ take-append_seam new rest

pub invariant_of-format : goal.invariant_of-format
invariant_of-format c =
    let old = c.format.inside.directives.items in
    let is : take c.format.inside.directives.len (c.make_all_strict.new.directives ++ drop (length c.make_all_strict.new.directives) old)
    ≡ map strictly old =
    written _ c.make_all_strict.new.directives _ (omega (arith, c.make_all_strict.auto.directives, c.deref_mut.ensures.len))
    ∙ c.make_all_strict.ensures ∙ ap (map strictly) c.deref_mut.ensures.value in
    record {
      accepted = rw is (accepted_stays old c.format.invariant.accepted);
      summed = rw is (c.format.invariant.summed ∙ sym (widths_stay old));
      counted = rw is (c.format.invariant.counted ∙ ap length (sym (destinations_stay old)));
      laid = rw is (written _ c.lay_out.new.rows _ (omega (arith, c.lay_out.auto.rows, c.deref_mut-2.ensures.len)) ∙ c.lay_out.ensures
          ∙ ap (map row_of) (c.deref.ensures.value ∙ is));
      assigned = rw is (c.format.invariant.assigned ∙ sym (assigned_stay old));
      converted = rw is (c.format.invariant.converted ∙ sym (taken_stay old));
      optional = rw is (c.format.invariant.optional ∙ sym (optionals_stay old));
      reserve = rw is (c.format.invariant.reserve ∙ ap (λ w. unwrap_or w 0) (sym (widths_stay old)));
      unbounded = subst (λ ds. IsTrue c.ends_unbounded.result ↔ EndsUnbounded ds) c.deref-3.ensures.value c.ends_unbounded.ensures;
    }
