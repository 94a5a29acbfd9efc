use Rattle.sf_base.specs.Data.{Bytes}
use Rattle.sf_base.specs.stores.Kept.{Kept, buffer_of, text_of, with_closed}
use Rattle.sf_report.specs.Steps.{Stores}
use Rattle.std.proofs.Common.{◌≡◌, ◌∙◌, length, arith, true, refl, sym, ap, subst}
use Rattle.std.specs.Prelude.{IsSome}
use Rattle.sf_run.specs.Scanner.{kept_by}
use Rattle.sf_run.specs.Texts.{closing_text}
use Rattle.sf_run.proofs.Moves.{place_taken}
use Rattle.sf_run.proofs.Slots.{is_destination_of, given_capacity, given_kept, given_more, given_size, given_slot, joined_text, room_passed}
use Rattle.sf_run.proofs.Slots.{size_passed, text_opened, with_given}
use Rattle.sf_run.proofs.scanner.Scanner.close_text.Goals as goal

pub cut_opened-requires : goal.cut_opened-requires
cut_opened-requires g c =
    let s = c.args.self.now in
    text_opened (kept_by s).opened c.args.slot (s.under_way ∙ c.requires.text)

pub close_text-requires : goal.close_text-requires
close_text-requires g c =
    let s = c.args.self.now in
    subst (λ (k : Kept). IsSome k.opened) (sym c.cut_opened.ensures)
    (text_opened _ c.args.slot (given_slot c.args.directive.now (kept_by s).opened c.args.slot (s.under_way ∙ c.requires.text)))

-- the store has been given the text
given : (g : _) (c : goal.After-close_text g)
    → g.S.Store.kept c.close_text.new.self ≡ with_given c.args.directive.now c.args.slot (kept_by c.args.self.now)
given g c =
    let s = c.args.self.now in
    c.close_text.ensures ∙ ap with_closed c.cut_opened.ensures
    ∙ given_kept c.args.directive.now c.args.slot (kept_by s) (s.under_way ∙ c.requires.text)

pub invariant_of-self-clause-given : goal.invariant_of-self-clause-given
invariant_of-self-clause-given g c =
    let s = c.args.self.now in
    rw (given g c) (given_more s.directives.now s.passed c.args.directive.now
    (kept_by s).values c.args.slot _ c.requires.current c.requires.own s.given)

pub invariant_of-self-clause-joined : goal.invariant_of-self-clause-joined
invariant_of-self-clause-joined g c =
    let s = c.args.self.now in
    rw (given g c) (joined_text (kept_by s).closed (kept_by s).values c.args.slot _ s.joined)

pub invariant_of-self-clause-roomy : goal.invariant_of-self-clause-roomy
invariant_of-self-clause-roomy g c bounded =
    let s = c.args.self.now in
    let still = room_passed s.ended s.directives.now s.passed c.args.directive.now s.phase (kept_by s).room c.requires.current
    (s.roomy bounded) in
    rw (given g c) (omega (arith, still))

pub returns : goal.returns
returns g c =
    let s = c.args.self.now in
    let d = c.args.directive.now in
    let own : g.S.Store.kept c.close_text.new.self ≡ with_given d c.args.slot (kept_by s) = c.close_text.ensures
    ∙ ap with_closed c.cut_opened.ensures ∙ given_kept d c.args.slot (kept_by s) (s.under_way ∙ c.requires.text) in
    rw own (record {
      keeps = record {
        directives = refl;
        limit = refl;
        met = refl;
        capacity = given_capacity d c.args.slot (kept_by s);
        room = omega arith;
      };
      ended = refl;
      passed = refl;
      phase = refl;
      opened = refl;
      tally = c.counted-tally.ensures.tally (Stores c.args.slot (Bytes (closing_text d (text_of (kept_by s).opened)))) (kept_by s).values
          (record { passes = refl; stored = refl });
    })

pub invariant_of-self-clause-sized : goal.invariant_of-self-clause-sized
invariant_of-self-clause-sized g c bounded =
    let s = c.args.self.now in
    let less = given_size c.args.directive.now (kept_by s).closed (text_of (kept_by s).opened) in
    let still = size_passed s.ended s.directives.now s.passed c.args.directive.now s.phase
    (length (buffer_of (kept_by s))) _ c.requires.current (s.sized bounded) in
    rw (given g c) (omega (arith, less, still))

pub invariant_of-self-clause-assigned : goal.invariant_of-self-clause-assigned
invariant_of-self-clause-assigned g c =
    let s = c.args.self.now in
    let place = place_taken s.directives.now s.passed c.args.directive.now true c.requires.current
    (λ e. is_destination_of c.args.directive.now c.args.slot c.requires.own) in
    omega (arith, s.assigned, place, c.counted-tally.ensures.assigned)
