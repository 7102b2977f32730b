use Rattle.verdict.proofs.Needless.{needless-nested, same-racy}
use Rattle.verdict.proofs.laws.needless.Goals as goal

pub returns : goal.returns
returns c = record {
  well_nested = λ w records depths stays h go. needless-nested w records depths stays h go;
  same_racy = λ w records depths stays h go l. same-racy w records depths stays h go l;
}
