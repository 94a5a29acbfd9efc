use Rattle.std.proofs.Common.{◌≡◌, ◌∙◌, ℕ, List, true, length, sym, ap, subst, Err}
use Rattle.sf_run.specs.outcome.Outcome.{Outcome}
use Rattle.sf_read.specs.source.Counts.{counted_on}
use Rattle.sf_read.specs.declared.matching.Match.{Match}
use Rattle.sf_read.specs.Matches.{leaves}
use Rattle.sf_loops.specs.declared.line_fault.LineWhy.TheVariants as why
use Rattle.sf_loops.specs.Lines.{IsLineFault, LineLoop, Misses}
use Rattle.sf_loops.specs.Turns.{outcome_of}
use Rattle.sf_loops.proofs.Scanning.{judged_default, judged_left, left_done, missed, scanned_on}
use Rattle.sf_loops.proofs.line_reports.LineReports.judge.Goals as goal

pub returns-in-Done-clause-scanned : goal.returns-in-Done-clause-scanned
returns-in-Done-clause-scanned g c =
    scanned_on c.args.self.now c.scan-outcome.new.self _ c.args.self.now.line c.scan-outcome.ensures.scanned
    (ap (λ (l : LineLoop g.row.S.Denot). l.report) c.self.view_is)

pub returns-in-NoMemory-clause-scanned : goal.returns-in-NoMemory-clause-scanned
returns-in-NoMemory-clause-scanned g c =
    scanned_on c.args.self.now c.scan-outcome.new.self c.stop.new.self c.args.self.now.line c.scan-outcome.ensures.scanned
    (ap (λ (l : LineLoop g.row.S.Denot). l.report) c.stop.ensures.rest)

pub returns-in_default : goal.returns-in_default
returns-in_default g c =
    let rest = c.scan-outcome.ensures.rest in
    let same : c.miss-in_default.new.self.report ≡ c.scan-outcome.new.self.report = ap
    (λ (l : LineLoop g.row.S.Denot). l.report) c.miss-in_default.ensures.rest in
    let is : c.scan-outcome.result ≡ outcome_of c.miss-in_default.new.self.report =
    c.scan-outcome.ensures.outcome ∙ ap outcome_of (sym same) in
    let read : c.scan-outcome.new.self.read ≡ c.args.self.now.read = ap (λ (l : LineLoop g.row.S.Denot). l.read) rest in
    let format : c.miss-in_default.new.self.format ≡ c.args.self.now.format =
    ap (λ (l : LineLoop g.row.S.Denot). l.format) c.miss-in_default.ensures.rest ∙ ap (λ (l : LineLoop g.row.S.Denot). l.format) rest in
    let told : IsLineFault c.miss-in_default.result (counted_on c.args.self.now.read) c.args.self.now.line (why.Failed
    c.scan-outcome.result) =
    subst (λ n. IsLineFault c.miss-in_default.result (counted_on n) c.args.self.now.line (why.Failed c.scan-outcome.result)) read
    (subst (λ t. IsLineFault c.miss-in_default.result (counted_on c.scan-outcome.new.self.read) t (why.Failed c.scan-outcome.result))
    (ap (λ (l : LineLoop g.row.S.Denot). l.line) rest) c.miss-in_default.ensures.fault) in
    record {
      scanned = scanned_on c.args.self.now c.scan-outcome.new.self c.miss-in_default.new.self c.args.self.now.line
          c.scan-outcome.ensures.scanned same;
      ahead = ap (λ (l : LineLoop g.row.S.Denot). l.ahead) c.miss-in_default.ensures.rest
          ∙ ap (λ (l : LineLoop g.row.S.Denot). l.ahead) rest;
      judged = λ open'. judged_default c.args.self.now c.miss-in_default.new.self c.miss-in_default.new.self.report.status
          c.args.self.now.line c.miss-in_default.result
          (λ e. c.in_default.not-Done (ap (λ o. o.status) is ∙ e)) (λ e. c.in_default.not-NoMemory (ap (λ o. o.status) is ∙ e))
          (subst (λ o. Misses c.args.self.now c.miss-in_default.new.self c.args.self.now.line (why.Failed o) (Err
          c.miss-in_default.result)) is
          (missed c.args.self.now c.miss-in_default.new.self c.args.self.now.line (why.Failed c.scan-outcome.result)
          c.miss-in_default.result
          format
          (ap (λ (l : LineLoop g.row.S.Denot). l.limit) c.miss-in_default.ensures.rest ∙ ap (λ (l : LineLoop g.row.S.Denot). l.limit) rest)
          (ap (λ (l : LineLoop g.row.S.Denot). l.read) c.miss-in_default.ensures.rest ∙ ap counted_on read)
          (ap (λ (l : LineLoop g.row.S.Denot). l.over) c.miss-in_default.ensures.rest ∙ ap (λ (l : LineLoop g.row.S.Denot). l.over) rest
          ∙ open')
          told));
      kept = λ e. absurd cc;
      roomy = λ e. absurd cc;
      format = format;
      matching = ap (λ (l : LineLoop g.row.S.Denot). l.matching) c.miss-in_default.ensures.rest
          ∙ ap (λ (l : LineLoop g.row.S.Denot). l.matching) rest;
    }

pub returns-then-leaves-clause-scanned : goal.returns-then-leaves-clause-scanned
returns-then-leaves-clause-scanned g c =
    scanned_on c.args.self.now c.scan-outcome.new.self c.miss.new.self c.args.self.now.line c.scan-outcome.ensures.scanned
    (ap (λ (l : LineLoop g.row.S.Denot). l.report) c.miss.ensures.rest)

pub returns-then-leaves-clause-judged : goal.returns-then-leaves-clause-judged
returns-then-leaves-clause-judged g c open' =
    let old = c.args.self.now in
    let rest = c.scan-outcome.ensures.rest in
    let same : c.miss.new.self.report ≡ c.scan-outcome.new.self.report = ap (λ (l : LineLoop g.row.S.Denot). l.report)
    c.miss.ensures.rest in
    let is : c.scan-outcome.result ≡ outcome_of c.miss.new.self.report = c.scan-outcome.ensures.outcome ∙ ap outcome_of (sym same) in
    let used : c.scan-outcome.result.used ≡ c.miss.new.self.report.used = ap (λ (o : Outcome). o.used) is in
    let read : c.scan-outcome.new.self.read ≡ old.read = ap (λ (l : LineLoop g.row.S.Denot). l.read) rest in
    let line : c.scan-outcome.new.self.line ≡ old.line = ap (λ (l : LineLoop g.row.S.Denot). l.line) rest in
    let len : c.len.result ≡ length old.line =
    c.len.ensures ∙ c.self.inside.line.ok.0 ∙ ap length (ap (λ (l : LineLoop g.row.S.Denot). l.line) c.self.view_is ∙ line) in
    let matching : c.self.inside.matching ≡ old.matching =
    ap (λ (l : LineLoop g.row.S.Denot). l.matching) c.self.view_is ∙ ap (λ (l : LineLoop g.row.S.Denot). l.matching) rest in
    let left : leaves old.matching c.miss.new.self.report.status c.miss.new.self.report.used (length old.line) ≡ true =
    subst (λ (w : Match). leaves w c.miss.new.self.report.status c.miss.new.self.report.used (length old.line) ≡ true) matching
    (subst (λ n. leaves c.self.inside.matching c.miss.new.self.report.status c.miss.new.self.report.used n ≡ true) len
    (subst (λ (o : Outcome). leaves c.self.inside.matching o.status o.used c.len.result ≡ true) is
    (sym c.leaves.ensures ∙ c.if-leaves.true))) in
    let told : IsLineFault c.miss.result (counted_on old.read) old.line (why.LeftOver c.miss.new.self.report.used) =
    subst (λ u. IsLineFault c.miss.result (counted_on old.read) old.line (why.LeftOver u)) used
    (subst (λ n. IsLineFault c.miss.result (counted_on n) old.line (why.LeftOver c.scan-outcome.result.used)) read
    (subst (λ (t : List ℕ). IsLineFault c.miss.result (counted_on c.scan-outcome.new.self.read) t (why.LeftOver c.scan-outcome.result.used))
    line c.miss.ensures.fault)) in
    judged_left old c.miss.new.self c.miss.new.self.report.status old.line (Err c.miss.result)
    (left_done old.matching c.miss.new.self.report.status c.miss.new.self.report.used (length old.line) left) left
    (missed old c.miss.new.self old.line (why.LeftOver c.miss.new.self.report.used) c.miss.result
    (ap (λ (l : LineLoop g.row.S.Denot). l.format) c.miss.ensures.rest ∙ ap (λ (l : LineLoop g.row.S.Denot). l.format) rest)
    (ap (λ (l : LineLoop g.row.S.Denot). l.limit) c.miss.ensures.rest ∙ ap (λ (l : LineLoop g.row.S.Denot). l.limit) rest)
    (ap (λ (l : LineLoop g.row.S.Denot). l.read) c.miss.ensures.rest ∙ ap counted_on read)
    (ap (λ (l : LineLoop g.row.S.Denot). l.over) c.miss.ensures.rest ∙ ap (λ (l : LineLoop g.row.S.Denot). l.over) rest ∙ open')
    told)
