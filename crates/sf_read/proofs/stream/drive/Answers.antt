use Rattle.std.proofs.Common.{◌≡◌, [], ℕ, false, ◌+◌, ◌≤◌, length, take, sym, ap, ◌∙◌, arith}
use Rattle.std.proofs.lemmas.List.{drop_all}
use Rattle.sf_run.specs.Runs.{IsOpen}
use Rattle.sf_run.specs.Standing.{used_by, ran_out}
use Rattle.sf_run.specs.Scanner.{standing}
use Rattle.sf_read.specs.source.Counts.{lines_after}
use Rattle.sf_read.specs.Reading.{Reading}
use Rattle.sf_read.proofs.Reading.{started, fed_more, refilled, ended, ended_at_end, failed, falls}
use Rattle.sf_read.proofs.Lines.{lines_on, no_lines}
use Rattle.sf_read.proofs.stream.drive.Goals as goal

pub returns-in-Ended-clause-driven : goal.returns-in-Ended-clause-driven
returns-in-Ended-clause-driven g c =
    let ds = (standing c.args.scanner.now).directives in
    let m : ℕ = (standing c.args.scanner.now).limit in
    ended c.held.result.now c.feed-fed.result.taken c.refills.invariant.0 c.held.ensures.held c.feed-fed.ensures.within
    c.feed-fed.ensures.used
    (λ x z ending h. c.feed-fed.ensures.gives ds m x z ending h c.in-Ended.is) (λ x sum h. c.feed-fed.ensures.bounded ds m x sum h)
    c.consume.ensures.held c.consume.ensures.source c.consume.ensures.at_end c.consume.ensures.told

pub returns-then-is_at_end-clause-driven : goal.returns-then-is_at_end-clause-driven
returns-then-is_at_end-clause-driven g c =
    let ds = (standing c.args.scanner.now).directives in
    let m : ℕ = (standing c.args.scanner.now).limit in
    let stored : ran_out (standing c.feed-fed.new.self) ≡ false = c.feed-fed.ensures.stopped c.in-Wait.is in
    let none : c.consume.new.self.held ≡ [] = c.is_at_end.ensures.held c.if-is_at_end.true in
    let now : (r : Reading g.S.Source.to_come g.S.Source.reads g.S.Source.failures g.row.N ds m c.args.from.now c.consume.new.self
    (standing c.feed-fed.new.self)) × IsOpen ds r.fed
    = fed_more c.held.result.now c.refills.invariant.0 c.held.ensures.held
    (λ x h. c.feed-fed.ensures.after ds m x stored h) (λ x h. c.feed-fed.ensures.waits ds m x h c.in-Wait.is)
    (λ x h. (c.feed-fed.ensures.state ds m x stored h).0 c.in-Wait.is)
    none c.consume.ensures.source c.consume.ensures.at_end in
    ended_at_end now.0 none (sym c.is_at_end.ensures.is ∙ c.if-is_at_end.true)
    (c.is_at_end.ensures.told c.if-is_at_end.true) c.end.ensures.used (c.end.ensures.memory ∙ stored)
    (λ x h. c.end.ensures.gives ds m x h)

pub returns-in-Err-clause-driven : goal.returns-in-Err-clause-driven
returns-in-Err-clause-driven g c =
    let ds = (standing c.args.scanner.now).directives in
    let m : ℕ = (standing c.args.scanner.now).limit in
    let stored : ran_out (standing c.feed-fed.new.self) ≡ false = c.feed-fed.ensures.stopped c.in-Wait.is in
    let none : c.consume.new.self.held ≡ [] = rw (c.consume.ensures.held, c.feed-fed.ensures.all c.in-Wait.is, ← c.held.ensures.held)
    (drop_all _ c.held.result.now (omega arith)) in
    let open' : c.consume.new.self.at_end ≡ false = sym c.is_at_end.ensures.is ∙ c.if-is_at_end.false in
    let now : (r : Reading g.S.Source.to_come g.S.Source.reads g.S.Source.failures g.row.N ds m c.args.from.now c.consume.new.self
    (standing c.feed-fed.new.self)) × IsOpen ds r.fed
    = fed_more c.held.result.now c.refills.invariant.0 c.held.ensures.held
    (λ x h. c.feed-fed.ensures.after ds m x stored h) (λ x h. c.feed-fed.ensures.waits ds m x h c.in-Wait.is)
    (λ x h. (c.feed-fed.ensures.state ds m x stored h).0 c.in-Wait.is)
    none c.consume.ensures.source c.consume.ensures.at_end in
    failed now none open' c.refill.ensures.reads c.in-Err.ensures.failures c.refill.ensures.bytes c.in-Err.ensures.failed
    c.end-in-Err.ensures.used (c.end-in-Err.ensures.memory ∙ stored)
    (λ x h. c.end-in-Err.ensures.gives ds m x h)

pub refills-smaller : goal.refills-smaller
refills-smaller g c =
    let ds = (standing c.args.scanner.now).directives in
    let m : ℕ = (standing c.args.scanner.now).limit in
    let stored : ran_out (standing c.feed-fed.new.self) ≡ false = c.feed-fed.ensures.stopped c.in-Wait.is in
    let r = c.refills.invariant.0 in
    let open' : c.refills.from.at_end ≡ false = sym c.consume.ensures.at_end ∙ sym c.is_at_end.ensures.is ∙ c.if-is_at_end.false in
    let used : used_by (standing c.feed-fed.new.self) ≡ used_by (standing c.refills.scanner) + length c.refills.from.held =
    c.feed-fed.ensures.used ∙ ap (λ n. used_by (standing c.refills.scanner) + n)
    (c.feed-fed.ensures.all c.in-Wait.is ∙ ap length c.held.ensures.held) in
    let few : used_by (standing c.feed-fed.new.self) ≤ m = rw (c.feed-fed.ensures.waits ds m r.fed r.after c.in-Wait.is)
    (((c.feed-fed.ensures.state ds m r.fed stored r.after).0 c.in-Wait.is).1) in
    falls m (used_by (standing c.refills.scanner)) (used_by (standing c.feed-fed.new.self))
    (length c.refills.from.held) c.refills.from.at_end c.refill.new.self.at_end c.refill.new.self.held open' used few
    c.in-Ok.ensures.read

pub refills-preserved : goal.refills-preserved
refills-preserved g c =
    let within : c.feed-fed.result.taken ≤ length c.refills.from.held =
    omega (arith, c.feed-fed.ensures.within, ap length c.held.ensures.held) in
    let front : c.split_at.result.0.now ≡ take c.feed-fed.result.taken c.refills.from.held =
    c.split_at.ensures.front ∙ ap (take c.feed-fed.result.taken) c.held-in-refills.ensures.held in
    let ds = (standing c.args.scanner.now).directives in
    let m : ℕ = (standing c.args.scanner.now).limit in
    let stored : ran_out (standing c.feed-fed.new.self) ≡ false = c.feed-fed.ensures.stopped c.in-Wait.is in
    let none : c.consume.new.self.held ≡ [] = rw (c.consume.ensures.held, c.feed-fed.ensures.all c.in-Wait.is, ← c.held.ensures.held)
    (drop_all _ c.held.result.now (omega arith)) in
    let open' : c.consume.new.self.at_end ≡ false = sym c.is_at_end.ensures.is ∙ c.if-is_at_end.false in
    let now : (r : Reading g.S.Source.to_come g.S.Source.reads g.S.Source.failures g.row.N ds m c.args.from.now c.consume.new.self
    (standing c.feed-fed.new.self)) × IsOpen ds r.fed
    = fed_more c.held.result.now c.refills.invariant.0 c.held.ensures.held
    (λ x h. c.feed-fed.ensures.after ds m x stored h) (λ x h. c.feed-fed.ensures.waits ds m x h c.in-Wait.is)
    (λ x h. (c.feed-fed.ensures.state ds m x stored h).0 c.in-Wait.is)
    none c.consume.ensures.source c.consume.ensures.at_end in (
      refilled now none open' c.refill.ensures.reads c.in-Ok.ensures.failures c.refill.ensures.bytes c.refill.ensures.few
          c.in-Ok.ensures.read,
      omega (arith, c.refills.invariant.1, c.feed-fed.ensures.room),
      λ t e. lines_on c.refills.invariant.0 t e c.args.lines.now c.refills.lines
          (c.refills.invariant.2 t e) c.feed-fed.result.taken within c.split_at.result.0.now front c.count_newlines.new.lines
          (used_by (standing c.feed-fed.new.self)) c.count_newlines.ensures c.feed-fed.ensures.used,
    )

pub refills-init : goal.refills-init
refills-init g c =
    let nothing : used_by (standing c.args.scanner.now) ≡ 0 = omega (arith, c.requires.within) in (
      started c.args.from.now c.requires,
      omega arith,
      λ t e. no_lines c.args.lines.now (omega arith)
          ∙ ap (λ n. lines_after c.args.lines.now (take n t)) (sym nothing),
    )

pub returns-in-Ended-clause-lines : goal.returns-in-Ended-clause-lines
returns-in-Ended-clause-lines g c t e =
    let within : c.feed-fed.result.taken ≤ length c.refills.from.held =
    omega (arith, c.feed-fed.ensures.within, ap length c.held.ensures.held) in
    let front : c.split_at.result.0.now ≡ take c.feed-fed.result.taken c.refills.from.held =
    c.split_at.ensures.front ∙ ap (take c.feed-fed.result.taken) c.held-in-refills.ensures.held in
    lines_on c.refills.invariant.0 t e c.args.lines.now c.refills.lines
    (c.refills.invariant.2 t e) c.feed-fed.result.taken within c.split_at.result.0.now front c.count_newlines.new.lines
    (used_by (standing c.feed-fed.new.self)) c.count_newlines.ensures c.feed-fed.ensures.used

pub returns-then-is_at_end-clause-lines : goal.returns-then-is_at_end-clause-lines
returns-then-is_at_end-clause-lines g c t e =
    let within : c.feed-fed.result.taken ≤ length c.refills.from.held =
    omega (arith, c.feed-fed.ensures.within, ap length c.held.ensures.held) in
    let front : c.split_at.result.0.now ≡ take c.feed-fed.result.taken c.refills.from.held =
    c.split_at.ensures.front ∙ ap (take c.feed-fed.result.taken) c.held-in-refills.ensures.held in
    lines_on c.refills.invariant.0 t e c.args.lines.now c.refills.lines
    (c.refills.invariant.2 t e) c.feed-fed.result.taken within c.split_at.result.0.now front c.count_newlines.new.lines
    (used_by (standing c.end.new.self)) c.count_newlines.ensures (c.end.ensures.used ∙ c.feed-fed.ensures.used)

pub returns-in-Err-clause-lines : goal.returns-in-Err-clause-lines
returns-in-Err-clause-lines g c t e =
    let within : c.feed-fed.result.taken ≤ length c.refills.from.held =
    omega (arith, c.feed-fed.ensures.within, ap length c.held.ensures.held) in
    let front : c.split_at.result.0.now ≡ take c.feed-fed.result.taken c.refills.from.held =
    c.split_at.ensures.front ∙ ap (take c.feed-fed.result.taken) c.held-in-refills.ensures.held in
    lines_on c.refills.invariant.0 t e c.args.lines.now c.refills.lines
    (c.refills.invariant.2 t e) c.feed-fed.result.taken within c.split_at.result.0.now front c.count_newlines.new.lines
    (used_by (standing c.end-in-Err.new.self)) c.count_newlines.ensures (c.end-in-Err.ensures.used ∙ c.feed-fed.ensures.used)
