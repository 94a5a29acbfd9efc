use Rattle.std.proofs.Common.{◌≡◌, ◌∙◌, [], false, ap}
use Rattle.sf_run.specs.outcome.Ending.TheVariants.{End}
use Rattle.sf_run.specs.Standing.{Gives, ran_out}
use Rattle.sf_run.specs.Scanner.{standing}
use Rattle.sf_read.proofs.Ended.{fed_and_ended, told_within}
use Rattle.sf_read.proofs.whole.run_over.Goals as goal

pub unreachable-requires : goal.unreachable-requires
unreachable-requires g c =
    let gives : Gives (standing c.args.scanner).directives (standing c.args.scanner).limit (standing c.end.new.self) c.args.text.now End =
    fed_and_ended _ _ (standing c.feed.new.self) (standing c.end.new.self) c.args.text.now End c.feed.result.state
    (λ fine. c.feed.ensures.after _ _ [] fine c.requires) c.feed.ensures.stopped (λ is z. c.feed.ensures.gives _ _ [] z End c.requires is)
    (λ fed. c.end.ensures.gives _ _ _ fed) (λ own. ap standing (c.end.ensures.unchanged _ _ _ _ own)) in
    c.in-Err.ensures.gives _ _ _ _ gives

pub returns-clause-told : goal.returns-clause-told
returns-clause-told g c ds m after =
    let gives : Gives ds m (standing c.end.new.self) c.args.text.now End =
    fed_and_ended ds m (standing c.feed.new.self) (standing c.end.new.self) c.args.text.now End c.feed.result.state
    (λ fine. c.feed.ensures.after _ _ [] fine after) c.feed.ensures.stopped (λ is z. c.feed.ensures.gives _ _ [] z End after is)
    (λ fed. c.end.ensures.gives _ _ _ fed) (λ own. ap standing (c.end.ensures.unchanged _ _ _ _ own)) in
    c.in-Ok.ensures.gives _ _ _ _ gives

pub returns-clause-bounded : goal.returns-clause-bounded
returns-clause-bounded g c ds m after sum =
    let fine : ran_out (standing c.end.new.self) ≡ false = c.end.ensures.memory ∙ c.feed.ensures.bounded _ _ [] sum after in
    told_within _ _ _ End c.in-Ok.scanned.report (returns-clause-told g c ds m after) (c.in-Ok.ensures.memory ∙ fine)
