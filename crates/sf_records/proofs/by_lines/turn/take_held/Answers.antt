use Rattle.std.proofs.Common.{◌≡◌, ◌≤◌, ◌++◌, ◌∙◌, ℕ, List, cond, drop, length, take, sym, ap, subst, arith}
use Rattle.std.proofs.lemmas.List.{length-take-le, take-append-drop, take-take}
use Rattle.sf_print.specs.sink.Sinks.{counted_on}
use Rattle.sf_records.specs.by_lines.Coming.{Came}
use Rattle.sf_records.specs.by_lines.Turns.{work_of}
use Rattle.sf_records.proofs.LinewiseLemmas.Coming.{turned}
use Rattle.sf_read.proofs.LineLemmas.Held.{takes}
use Rattle.sf_records.proofs.by_lines.turn.take_held.Goals as goal

-- what is looked at begins with the line
begun : (held : List ℕ) (len seen : ℕ) → len ≤ seen → take seen held ≡ take len held ++ drop len (take seen held)
begun held len seen most =
    sym (take-append-drop len (take seen held)) ∙ ap (λ (y : List ℕ). y ++ drop len (take seen held)) (take-take len seen held most)

pub judge-judged-requires : goal.judge-judged-requires
judge-judged-requires g c =
    let held : List ℕ = c.args.from.now.held in
    let len : ℕ = c.args.len in
    let within : len ≤ length held = let low = c.requires.held.within in omega (arith, low) in
    let line : c.split_at-2.result.0.now ≡ take len held = c.split_at-2.ensures.front ∙ ap (take len) c.held-held.ensures.held in
    record {
      front = (
        drop len (take c.min.result held),
        c.split_at.ensures.front ∙ ap (take c.min.result) c.held-held.ensures.held
            ∙ begun held len c.min.result (let low = c.requires.held.within in let least = c.min.ensures in omega (arith, low, least))
            ∙ ap (λ (y : List ℕ). y ++ drop len (take c.min.result held)) (sym line),
      );
      ignored = c.requires.ignored;
      proper = c.requires.proper;
      short = omega (arith, ap length line, length-take-le len held within, c.requires.short);
      counts = c.requires.counts;
    }

pub returns-clause-turns : goal.returns-clause-turns
returns-clause-turns g c telling said =
    let held : List ℕ = c.args.from.now.held in
    let len : ℕ = c.args.len in
    let w = work_of c.args.options.now c.args.formats.now.ignored.now c.args.formats.now.tried.now
    (g.M.Maker.work c.args.maker.now) telling in
    let line : c.split_at-2.result.0.now ≡ take len held = c.split_at-2.ensures.front ∙ ap (take len) c.held-held.ensures.held in
    turned g.S.Source.to_come c.args.from.now c.consume.new.self w c.args.number _ _ _ _ _ _ (take len held)
    (takes g.S.Source.to_come c.args.from.now c.consume.new.self len c.requires.held c.requires.open c.consume.ensures.held
    c.consume.ensures.source)
    (let within = c.requires.held.within in omega (arith, c.requires.short, length-take-le len held (omega (arith, within))))
    c.judge-judged.result
    (subst (λ (y : List ℕ). Came w c.args.number y (g.K.Sink.contents c.args.to.now) (g.K.Sink.contents c.judge-judged.new.to)
    (g.E.Teller.failed c.args.teller.now) (g.E.Teller.failed c.judge-judged.new.teller) (g.E.Teller.told c.args.teller.now)
    (g.E.Teller.told c.judge-judged.new.teller) c.judge-judged.result)
    line (c.judge-judged.ensures.came telling said))

pub returns-clause-source : goal.returns-clause-source
returns-clause-source g c =
    ap g.S.Source.failures c.consume.ensures.source
    ∙ ap (λ b. cond b (counted_on (g.S.Source.failures c.args.from.now.source)) (g.S.Source.failures c.args.from.now.source))
    (sym c.judge-judged.ensures.read)
