use Rattle.verdict.proofs.Needless.{needless-nested, same-racy, same-second, repeats-needless}
use Rattle.verdict.proofs.laws.repeats.Goals as goal

pub returns : goal.returns
returns c = record {
  well_nested = λ w records depths stays h go. needless-nested w records depths stays h (repeats-needless w stays go);
  same_racy = λ w records depths stays h go l. same-racy w records depths stays h (repeats-needless w stays go) l;
  same_second = λ w records depths stays h go l j x. same-second w records depths stays h go l j x;
}
