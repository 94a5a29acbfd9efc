use Rattle.std.proofs.Common.{ap, ◌∙◌, subst}
use Rattle.std.specs.Prelude.{IfErr}
use Rattle.clap.specs.Words.{Kinds}
use Rattle.sf_words.specs.Orders.{IsRefusal, faults_of}
use Rattle.sf_laws_tests.proofs.words.taken_words.Goals as goal

pub returns : goal.returns
returns c = record {
  behind = λ verb texts has few e. subst (λ (k : Kinds). IfErr c.read_words.result (IsRefusal k))
      (ap faults_of e ∙ (c.texts_behind_dashes.ensures verb texts has few).taken) c.read_words.ensures.refused;
  plain = λ verb texts has all few e. subst (λ (k : Kinds). IfErr c.read_words.result (IsRefusal k))
      (ap faults_of e ∙ (c.plain_texts.ensures verb texts has all few).taken) c.read_words.ensures.refused;
  formats = λ format more all e. subst (λ (k : Kinds). IfErr c.read_words.result (IsRefusal k))
      (ap faults_of e ∙ (c.formats_of_lines.ensures format more all).0.taken) c.read_words.ensures.refused;
}
