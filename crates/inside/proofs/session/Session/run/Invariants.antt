use Rattle.std.proofs.Common.{map, take}
use Rattle.inside.specs.Naming.{named_with}
use Rattle.inside.specs.Sessions.{taken, HaveStepped}
use Rattle.inside.proofs.session.Session.run.Given as goal

abbrev pub invariant-loop-record : goal.invariant-loop-record
invariant-loop-record l = HaveStepped l.fn.self (map (named_with l.fn.bits) (take l.record-index l.fn.records)) l.self taken
