use Rattle.std.proofs.Common.{refl}
use Rattle.dag.proofs.ShareLemmas.{one_shard, shard-by_location}
use Rattle.dag.proofs.laws.shares.Goals as goal

pub returns : goal.returns
returns c = record {
  structure = λ k n. (refl, refl, refl, refl);
  one_shard = λ n l a h. one_shard n l a h;
  by_location = λ k n l a b. shard-by_location k n l a b;
}
