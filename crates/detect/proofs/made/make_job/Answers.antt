use Rattle.std.proofs.Common.{sym}
use Rattle.detect.proofs.made.make_job.Goals as goal

pub returns-clause-between : goal.returns-clause-between
returns-clause-between g c = record {
  to_shard = sym c.in_ok-sender.ensures.lane;
  from_shard = c.in_ok-back.ensures.lane;
  new = record { shard = c.in_ok-shard.ensures.new; none_taken = c.in_ok-sender.ensures.empty.1; none_put = c.in_ok-back.ensures.empty.0 };
  none_put = c.in_ok-sender.ensures.empty.0;
  none_taken = c.in_ok-back.ensures.empty.1;
}

pub returns-clause-job : goal.returns-clause-job
returns-clause-job g c = record { number = c.in_ok-shard.ensures.index; to_shard = c.in_ok-sender.ensures.capacity.1; from_shard = c.in_ok-back.ensures.capacity.0 }
