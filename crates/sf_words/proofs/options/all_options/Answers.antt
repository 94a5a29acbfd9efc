use Rattle.std.proofs.Common.{refl}
use Rattle.sf_words.proofs.options.all_options.Goals as goal

pub returns : goal.returns
returns c = record {
  show = λ app. refl;
  scan = λ app. refl;
  print = λ app. refl;
  check = λ app. refl;
  copy = λ app. refl;
  of_lines = λ rows. refl;
}
