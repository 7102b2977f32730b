use Rattle.verdict.proofs.Common.{parallel_through, parallel_after, early-increasing, early-exactly, verdict_is_report, report_is_verdict, racy, race_free}
use Rattle.dag.proofs.Readers.{kept_parallel_at}
use Rattle.verdict.proofs.laws.dag.Goals as goal

pub returns : goal.returns
returns c = record {
  parallel_through = λ w records depths v. parallel_through w v;
  parallel_after = λ w records depths v. parallel_after w v;
  kept_reader = λ w records depths v. kept_parallel_at w v;
  early_races = λ t w records depths v. record { ascending = early-increasing w t; exactly = early-exactly w v t };
  verdict_is_report = λ w records depths v. verdict_is_report w v;
  one_report = λ w records depths v. report_is_verdict w v;
  racy = λ w records depths v. racy w v;
  race_free = λ w records depths v. race_free w v;
}
