use Rattle.std.proofs.Common.{◌≡◌, vec_len}
use Rattle.replies.proofs.answers.hashers_for.Given as goal

abbrev pub invariant-loop : goal.invariant-loop
invariant-loop l = vec_len l.hashers ≡ l.counter
