use Rattle.std.proofs.Common.{◌≡◌, Err, ap, inr, refl, subst, sym}
use Rattle.sf_format.specs.Faults.{Fault, IsRefused}
use Rattle.sf_format.specs.Grammar.{Spells}
use Rattle.sf_messages.specs.declared.fault.CommandFault.{CommandFault}
use Rattle.sf_messages.specs.Faults.{format_fault}
use Rattle.sf_arguments.specs.Escapes.{Unescapes}
use Rattle.sf_command.proofs.jobs.formats.read_scan_text.Goals as goal

pub returns-in-Ok-clause-ok : goal.returns-in-Ok-clause-ok
returns-in-Ok-clause-ok c = record {
  stands = c.in_ok-text.ensures.ok;
  spells = (
    c.in-Ok.format,
    subst (λ bytes. Spells c.args.profile bytes c.in-Ok.format) c.deref.ensures.value c.in-Ok.ensures.spelled,
    c.as_read.ensures,
  );
  faultless = λ at why faulty.
      let here : Fault c.args.profile c.deref.result.now at why =
      subst (λ bytes. Fault c.args.profile bytes at why) (sym c.deref.ensures.value) faulty in
      let told = c.in-Ok.ensures.fault at why here in absurd (cc);
}

pub returns-in-Err-clause-err : goal.returns-in-Err-clause-err
returns-in-Err-clause-err c =
    let stands : Unescapes c.args.word.now c.deref.result.now =
    subst (Unescapes c.args.word.now) (sym c.deref.ensures.value) c.in_ok-text.ensures.ok in
    let refused : IsRefused c.args.profile c.deref.result.now c.in-Err.fault = c.in-Err.ensures.refused in
    rw c.format_fault.ensures (inr (record {
      text = c.deref.result.now;
      stands = stands;
      of = c.in-Err.fault;
      refused = refused;
      is = refl;
      only = λ at why faulty.
          let told = c.in-Err.ensures.fault at why faulty in
          let same : c.in-Err.fault ≡ record { at = at; why = why } = cc in
          ap (λ (f : CommandFault). Err f) (ap format_fault same);
    }))
