use Rattle.route.proofs.Common.{◌≡◌, length, map, vec_len, vec_capacity, put_of}
use Rattle.route.proofs.router.Router.into_ends.Given as goal

abbrev pub invariant-loop-sender : goal.invariant-loop-sender
invariant-loop-sender l = (map (λ e. e.lane) l.ends.items ≡ map (λ s. s.lane) l.yielded) × (map put_of l.ends.items ≡ map put_of l.yielded) × (vec_len l.ends ≡ length l.yielded) × (vec_capacity l.ends ≡ vec_capacity l.initial.ends)
