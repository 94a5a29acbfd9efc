use Rattle.std.proofs.Common.{◌++◌, List, ℕ, ap, length, sym, ◌∙◌}
use Rattle.sf_format.specs.Proper.{destinations_of}
use Rattle.sf_forms.specs.Heads.{Heading, headed_text, header_text}
use Rattle.sf_records_tests.proofs.NamedLemmas.{under}
use Rattle.sf_records_tests.proofs.WrittenLemmas.{made_whole}
use Rattle.sf_records_tests.proofs.named.record_under.Goals as goal

pub returns : goal.returns
returns g c =
    let n = length (destinations_of c.args.format.now) in
    let r = c.args.report.now in
    let made = c.headed-maker.result in
    let own = under c.args.form c.args.names in
    let head = c.write_header.new.to.bytes in
    let first = made_whole (header_text made) c.new-to.result.bytes head c.write_header.result
    (sym c.is_err.ensures.value ∙ c.if-is_err.false) c.write_header.ensures.written in
    let second = made_whole (headed_text c.write_header.new.self 1 n r) head c.write.new.to.bytes c.write.result
    (sym c.is_err-2.ensures.value ∙ c.if-is_err-2.false) c.write.ensures.made in
    second ∙ ap (λ (h : Heading). head ++ headed_text h 1 n r) (c.write_header.ensures.same ∙ c.headed-maker.ensures)
    ∙ ap (λ (b : List ℕ). b ++ headed_text own 1 n r)
    (first ∙ ap (λ s. s.bytes ++ header_text made) c.new-to.ensures ∙ ap (λ (h : Heading). header_text h) c.headed-maker.ensures)
