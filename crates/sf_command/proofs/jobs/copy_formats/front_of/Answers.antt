use Rattle.std.proofs.Common.{◌≡◌, ◌++◌, Some}
use Rattle.std.proofs.lemmas.Slice.Eq.{strip_suffix_is}
use Rattle.std.proofs.lemmas.Bool.Decides.{Decides-eqb}
use Rattle.sf_command.specs.jobs.CopyFormats.{newline_end}
use Rattle.sf_command.proofs.JobLemmas.Fronts.{has_front, is_no_format, no_front}
use Rattle.sf_command.proofs.jobs.copy_formats.front_of.Goals as goal

pub returns-in_ok-scan-in-Ok : goal.returns-in_ok-scan-in-Ok
returns-in_ok-scan-in-Ok c =
    let ends : c.args.own.now ≡ c.in-Some.front.now ++ newline_end =
    strip_suffix_is Decides-eqb c.args.own.now newline_end (Some c.in-Some.front) c.in-Some.ensures.cases in
    has_front c.args.profile c.args.own.now c.in-Some.front.now c.in-Ok.format c.in_ok-scan-in-Ok.scan ends c.in-Ok.ensures.spelled
    c.in_ok-scan-in-Ok.ensures.bytes c.in_ok-scan-in-Ok.ensures.format

pub returns-in_default-why : goal.returns-in_default-why
returns-in_default-why c =
    let ends : c.args.own.now ≡ c.in-Some.front.now ++ newline_end =
    strip_suffix_is Decides-eqb c.args.own.now newline_end (Some c.in-Some.front) c.in-Some.ensures.cases in
    no_front c.args.profile c.args.own.now c.in-Some.front.now ends
    (is_no_format c.args.profile c.in-Some.front.now c.in-Err.fault c.in_default-why.not-NoMemory c.in-Err.ensures.refused)
