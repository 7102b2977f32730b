use Rattle.verdict.proofs.Reordered.{reordered-nested, reordered-racy}
use Rattle.verdict.proofs.laws.reordered.Goals as goal

pub returns : goal.returns
returns c = record {
  well_nested = λ w v records depths h r. reordered-nested w v records depths h r;
  same_racy = λ w v records depths h r l. reordered-racy w v records depths h r l;
}
