use Rattle.std.proofs.Common.{◌≡◌, ◌∙◌, ℕ, Option, Some, sym, ap, arith, true≢false}
use Rattle.std.specs.Prelude.{unwrap_or}
use Rattle.sf_run.proofs.Told as told
use Rattle.sf_records.specs.InPlace.{line_in}
use Rattle.sf_records.proofs.InPlaceTexts as texts
use Rattle.sf_records.proofs.LinewiseLemmas.InPlace.{line_of, one_used}
use Rattle.sf_records.proofs.by_lines.in_place.write_line.Goals.{else-options-via-else-options, else-options-via-then-options+else-runs-len}
use Rattle.sf_records.proofs.by_lines.in_place.write_line.Goals.{then-len-runs-via-else-len-runs+then-options-len}
use Rattle.sf_records.proofs.by_lines.in_place.write_line.Goals.{then-len-runs-via-then-len-runs}
use Rattle.sf_records.proofs.by_lines.in_place.write_line.Goals as goal

same : (found : Option ℕ) (len other : ℕ) → found ≡ Some len → found ≡ Some other → len ≡ other
same found len other is as_well = ap (λ o. unwrap_or o 0) (sym is ∙ as_well)

pub returns-then-runs-eq0-clause-answers : goal.returns-then-runs-eq0-clause-answers
returns-then-runs-eq0-clause-answers c can =
    let runs = c.write_runs_in-runs in
    absurd (runs.ensures.answers (omega (arith, c.if-runs-eq0.true))
    (texts.follows_at_first _ 22 _ c.args.format.now c.args.options.now.limit c.args.piece.now runs.result.records
    runs.result.used runs.result.end c.args.room.now runs.new.room c.if-runs-eq0.true runs.ensures.runs runs.ensures.place runs.auto.room
    can.follows))

pub returns-then-len-runs-clause-answers : goal.returns-then-len-runs-clause-answers
returns-then-len-runs-clause-answers c can =
    let runs = c.write_runs_in-runs in
    let len : c.in_ok-len.len ≡ can.len = same c.line_len.result c.in_ok-len.len can.len c.in_ok-len.was
    (c.line_len.ensures.answers can.len can.held) in
    let used : runs.result.used ≡ can.follows.run.report.used = one_used c.args.format.now c.destinations.ensures.proper
    c.args.options.now.limit (line_in c.args.form) c.args.piece.now runs.result.records runs.result.used can.follows.capacity _
    told.one_report (omega (arith, c.if-runs-eq0.false)) runs.ensures.most runs.ensures.runs can.follows.run in
    let within = can.within in
    let short = can.short in
    elim c.then-len-runs.branch [
      | then-len-runs-via-then-len-runs w ↦ absurd (omega (arith, within, used, len, w.if-len-runs.true))
      | then-len-runs-via-else-len-runs+then-options-len w ↦ absurd (omega (arith, short, len, w.if-options-len.true))
    ]

pub returns-then-runs-len-clause-answers : goal.returns-then-runs-len-clause-answers
returns-then-runs-len-clause-answers c can =
    let runs = c.write_runs_in-runs in
    let len : c.in_ok-len.len ≡ can.len = same c.line_len.result c.in_ok-len.len can.len c.in_ok-len.was
    (c.line_len.ensures.answers can.len can.held) in
    let used : runs.result.used ≡ can.follows.run.report.used = one_used c.args.format.now c.destinations.ensures.proper
    c.args.options.now.limit (line_in c.args.form) c.args.piece.now runs.result.records runs.result.used can.follows.capacity _
    told.one_report (omega (arith, c.if-runs-eq0.false)) runs.ensures.most runs.ensures.runs can.follows.run in
    let all = can.whole c.if-options.true in
    absurd (omega (arith, all, used, len, c.if-runs-len.true))

pub returns-clause-written : goal.returns-clause-written
returns-clause-written c =
    let runs = c.write_runs_in-runs in
    line_of c.args.form c.args.format.now c.args.options.now c.args.piece.now runs.result.records runs.result.used c.in_ok-len.len _
    (omega (arith, c.if-runs-eq0.false)) runs.ensures.most runs.ensures.runs c.in_ok-len.ensures.held c.if-len-runs.false
    c.if-options-len.false
    (λ whole. elim c.else-options.branch [
      | else-options-via-then-options+else-runs-len w ↦ w.if-runs-len.false
      | else-options-via-else-options w ↦ absurd (true≢false (sym whole ∙ w.if-options.false))
    ])
