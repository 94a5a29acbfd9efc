use Rattle.std.proofs.Common.{◌∙◌, ap, false, refl, arith, Err, Ok}
use Rattle.sf_loops.specs.Lines.{LineLoop}
use Rattle.sf_loops.proofs.Given.{end_kept}
use Rattle.sf_loops.proofs.Scanning.{comes_of_line, missed, next_by, stopped}
use Rattle.sf_loops.proofs.line_reports.LineReports.advance.Goals as goal

pub returns-in-Line-clause-format : goal.returns-in-Line-clause-format
returns-in-Line-clause-format g c = c.judge.ensures.format ∙ ap (λ (l : LineLoop g.row.S.Denot). l.format) c.self.view_is

pub returns-in-Line-clause-next : goal.returns-in-Line-clause-next
returns-in-Line-clause-next g c =
    next_by g.S.Source.to_come g.S.Source.reads g.S.Source.failures g.row.N _ c.args.self.now c.judge.new.self c.next_line.new.from _ _
    c.judge.result c.self.view_is c.judge.ensures.ahead c.judge.ensures.matching c.in-Line.ensures.reads c.in-Line.ensures.waited
    c.in-Line.ensures.failures
    c.in-Line.ensures.refused (λ e. (let k = c.judge.ensures.kept e in omega (arith, k, c.in-Line.ensures.capacity))) c.judge.ensures.roomy
    (λ open'. comes_of_line _ _ c.judge.new.self c.judge.result (record { format = refl; limit = refl; matching = refl; read = refl })
    c.judge.ensures.scanned (c.judge.ensures.judged open'))

pub returns-in-TooLong-clause-next : goal.returns-in-TooLong-clause-next
returns-in-TooLong-clause-next g c =
    next_by g.S.Source.to_come g.S.Source.reads g.S.Source.failures g.row.N _ c.args.self.now c.miss.new.self c.next_line.new.from _ _
    (Err c.miss.result) c.self.view_is (ap (λ (l : LineLoop g.row.S.Denot). l.ahead) c.miss.ensures.rest)
    (ap (λ (l : LineLoop g.row.S.Denot). l.matching) c.miss.ensures.rest) c.in-TooLong.ensures.reads
    c.in-TooLong.ensures.waited c.in-TooLong.ensures.failures
    c.in-TooLong.ensures.refused (λ e. absurd cc) (λ e. absurd cc)
    (λ open'. missed _ c.miss.new.self _ _ c.miss.result (ap (λ (l : LineLoop g.row.S.Denot). l.format) c.miss.ensures.rest)
    (ap (λ (l : LineLoop g.row.S.Denot). l.limit) c.miss.ensures.rest)
    (ap (λ (l : LineLoop g.row.S.Denot). l.read) c.miss.ensures.rest)
    (ap (λ (l : LineLoop g.row.S.Denot). l.over) c.miss.ensures.rest ∙ open')
    c.miss.ensures.fault)

pub returns-in-End-clause-next : goal.returns-in-End-clause-next
returns-in-End-clause-next g c =
    next_by g.S.Source.to_come g.S.Source.reads g.S.Source.failures g.row.N _ c.args.self.now _ c.next_line.new.from _ _
    (Ok false) c.self.view_is refl refl c.in-End.ensures.reads
    c.in-End.ensures.waited c.in-End.ensures.failures
    c.in-End.ensures.refused (λ e. absurd cc) (λ e. absurd cc)
    (λ open'. (refl, record { format = refl; limit = refl; read_are = refl; over_is = refl }))

pub returns-in-Fault-clause-next : goal.returns-in-Fault-clause-next
returns-in-Fault-clause-next g c =
    next_by g.S.Source.to_come g.S.Source.reads g.S.Source.failures g.row.N _ c.args.self.now c.stop.new.self c.next_line.new.from _ _
    (Err c.stop.result) c.self.view_is (ap (λ (l : LineLoop g.row.S.Denot). l.ahead) c.stop.ensures.rest)
    (ap (λ (l : LineLoop g.row.S.Denot). l.matching) c.stop.ensures.rest) c.in-Fault.ensures.reads
    c.in-Fault.ensures.waited c.in-Fault.ensures.failures
    c.in-Fault.ensures.refused (λ e. absurd cc) (λ e. absurd cc)
    (λ open'. stopped _ c.stop.new.self _ c.stop.result (ap (λ (l : LineLoop g.row.S.Denot). l.format) c.stop.ensures.rest)
    (ap (λ (l : LineLoop g.row.S.Denot). l.limit) c.stop.ensures.rest)
    (ap (λ (l : LineLoop g.row.S.Denot). l.read) c.stop.ensures.rest)
    (ap (λ (l : LineLoop g.row.S.Denot). l.over) c.stop.ensures.rest)
    c.stop.ensures.fault)

pub returns-in-Endless-clause-next : goal.returns-in-Endless-clause-next
returns-in-Endless-clause-next g c =
    next_by g.S.Source.to_come g.S.Source.reads g.S.Source.failures g.row.N _ c.args.self.now c.stop-in-Endless.new.self
    c.next_line.new.from _ _
    (Err c.stop-in-Endless.result) c.self.view_is (ap (λ (l : LineLoop g.row.S.Denot). l.ahead) c.stop-in-Endless.ensures.rest)
    (ap (λ (l : LineLoop g.row.S.Denot). l.matching) c.stop-in-Endless.ensures.rest)
    c.in-Endless.ensures.reads c.in-Endless.ensures.waited c.in-Endless.ensures.failures
    c.in-Endless.ensures.refused (λ e. absurd cc) (λ e. absurd cc)
    (λ open'. stopped _ c.stop-in-Endless.new.self _ c.stop-in-Endless.result
    (ap (λ (l : LineLoop g.row.S.Denot). l.format) c.stop-in-Endless.ensures.rest)
    (ap (λ (l : LineLoop g.row.S.Denot). l.limit) c.stop-in-Endless.ensures.rest)
    (ap (λ (l : LineLoop g.row.S.Denot). l.read) c.stop-in-Endless.ensures.rest)
    (ap (λ (l : LineLoop g.row.S.Denot). l.over) c.stop-in-Endless.ensures.rest)
    c.stop-in-Endless.ensures.fault)

pub returns-in-NoMemory-clause-next : goal.returns-in-NoMemory-clause-next
returns-in-NoMemory-clause-next g c =
    next_by g.S.Source.to_come g.S.Source.reads g.S.Source.failures g.row.N _ c.args.self.now c.stop-in-NoMemory.new.self
    c.next_line.new.from _ _
    (Err c.stop-in-NoMemory.result) c.self.view_is (ap (λ (l : LineLoop g.row.S.Denot). l.ahead) c.stop-in-NoMemory.ensures.rest)
    (ap (λ (l : LineLoop g.row.S.Denot). l.matching) c.stop-in-NoMemory.ensures.rest)
    c.in-NoMemory.ensures.reads c.in-NoMemory.ensures.waited c.in-NoMemory.ensures.failures
    c.in-NoMemory.ensures.refused (λ e. absurd cc) (λ e. absurd cc)
    (λ open'. stopped _ c.stop-in-NoMemory.new.self _ c.stop-in-NoMemory.result
    (ap (λ (l : LineLoop g.row.S.Denot). l.format) c.stop-in-NoMemory.ensures.rest)
    (ap (λ (l : LineLoop g.row.S.Denot). l.limit) c.stop-in-NoMemory.ensures.rest)
    (ap (λ (l : LineLoop g.row.S.Denot). l.read) c.stop-in-NoMemory.ensures.rest)
    (ap (λ (l : LineLoop g.row.S.Denot). l.over) c.stop-in-NoMemory.ensures.rest)
    c.stop-in-NoMemory.ensures.fault)

pub returns-in-Line-clause-no_read : goal.returns-in-Line-clause-no_read
returns-in-Line-clause-no_read g c =
    (end_kept _ _ _ _ (ap (λ (l : LineLoop g.row.S.Denot). l.ahead) c.self.view_is)
    c.judge.ensures.ahead c.in-Line.ensures.no_read c.in-Line.ensures.stays).no_read

pub returns-in-Line-clause-stays : goal.returns-in-Line-clause-stays
returns-in-Line-clause-stays g c =
    (end_kept _ _ _ _ (ap (λ (l : LineLoop g.row.S.Denot). l.ahead) c.self.view_is)
    c.judge.ensures.ahead c.in-Line.ensures.no_read c.in-Line.ensures.stays).stays

pub returns-in-TooLong-clause-no_read : goal.returns-in-TooLong-clause-no_read
returns-in-TooLong-clause-no_read g c =
    (end_kept _ _ _ _ (ap (λ (l : LineLoop g.row.S.Denot). l.ahead) c.self.view_is)
    (ap (λ (l : LineLoop g.row.S.Denot). l.ahead) c.miss.ensures.rest) c.in-TooLong.ensures.no_read c.in-TooLong.ensures.stays).no_read

pub returns-in-TooLong-clause-stays : goal.returns-in-TooLong-clause-stays
returns-in-TooLong-clause-stays g c =
    (end_kept _ _ _ _ (ap (λ (l : LineLoop g.row.S.Denot). l.ahead) c.self.view_is)
    (ap (λ (l : LineLoop g.row.S.Denot). l.ahead) c.miss.ensures.rest) c.in-TooLong.ensures.no_read c.in-TooLong.ensures.stays).stays

pub returns-in-End-clause-no_read : goal.returns-in-End-clause-no_read
returns-in-End-clause-no_read g c =
    (end_kept _ _ c.next_line.new.from c.next_line.new.from (ap (λ (l : LineLoop g.row.S.Denot). l.ahead) c.self.view_is)
    refl c.in-End.ensures.no_read c.in-End.ensures.stays).no_read

pub returns-in-End-clause-stays : goal.returns-in-End-clause-stays
returns-in-End-clause-stays g c =
    (end_kept _ _ c.next_line.new.from c.next_line.new.from (ap (λ (l : LineLoop g.row.S.Denot). l.ahead) c.self.view_is)
    refl c.in-End.ensures.no_read c.in-End.ensures.stays).stays

pub returns-in-Fault-clause-no_read : goal.returns-in-Fault-clause-no_read
returns-in-Fault-clause-no_read g c =
    (end_kept _ _ _ _ (ap (λ (l : LineLoop g.row.S.Denot). l.ahead) c.self.view_is)
    (ap (λ (l : LineLoop g.row.S.Denot). l.ahead) c.stop.ensures.rest) c.in-Fault.ensures.no_read c.in-Fault.ensures.stays).no_read

pub returns-in-Fault-clause-stays : goal.returns-in-Fault-clause-stays
returns-in-Fault-clause-stays g c =
    (end_kept _ _ _ _ (ap (λ (l : LineLoop g.row.S.Denot). l.ahead) c.self.view_is)
    (ap (λ (l : LineLoop g.row.S.Denot). l.ahead) c.stop.ensures.rest) c.in-Fault.ensures.no_read c.in-Fault.ensures.stays).stays

pub returns-in-Endless-clause-no_read : goal.returns-in-Endless-clause-no_read
returns-in-Endless-clause-no_read g c =
    (end_kept _ _ _ _ (ap (λ (l : LineLoop g.row.S.Denot). l.ahead) c.self.view_is)
    (ap (λ (l : LineLoop g.row.S.Denot). l.ahead) c.stop-in-Endless.ensures.rest) c.in-Endless.ensures.no_read
    c.in-Endless.ensures.stays).no_read

pub returns-in-Endless-clause-stays : goal.returns-in-Endless-clause-stays
returns-in-Endless-clause-stays g c =
    (end_kept _ _ _ _ (ap (λ (l : LineLoop g.row.S.Denot). l.ahead) c.self.view_is)
    (ap (λ (l : LineLoop g.row.S.Denot). l.ahead) c.stop-in-Endless.ensures.rest) c.in-Endless.ensures.no_read
    c.in-Endless.ensures.stays).stays

pub returns-in-NoMemory-clause-no_read : goal.returns-in-NoMemory-clause-no_read
returns-in-NoMemory-clause-no_read g c =
    (end_kept _ _ _ _ (ap (λ (l : LineLoop g.row.S.Denot). l.ahead) c.self.view_is)
    (ap (λ (l : LineLoop g.row.S.Denot). l.ahead) c.stop-in-NoMemory.ensures.rest) c.in-NoMemory.ensures.no_read
    c.in-NoMemory.ensures.stays).no_read

pub returns-in-NoMemory-clause-stays : goal.returns-in-NoMemory-clause-stays
returns-in-NoMemory-clause-stays g c =
    (end_kept _ _ _ _ (ap (λ (l : LineLoop g.row.S.Denot). l.ahead) c.self.view_is)
    (ap (λ (l : LineLoop g.row.S.Denot). l.ahead) c.stop-in-NoMemory.ensures.rest) c.in-NoMemory.ensures.no_read
    c.in-NoMemory.ensures.stays).stays
