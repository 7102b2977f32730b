use Rattle.std.proofs.Common.{◌≡◌, vec_len}
use Rattle.test_detect.proofs.tests.answers.hashers.Given as goal

abbrev pub invariant-loop : goal.invariant-loop
invariant-loop l = vec_len l.hashers ≡ l.counter
