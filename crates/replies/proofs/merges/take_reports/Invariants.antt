use Rattle.replies.proofs.Common.{◌≡◌, take, FnReturnsAt, known_bytes, HaveTaken}
use Rattle.replies.proofs.merges.take_reports.Given as goal

-- the reports before this name were taken
abbrev pub invariant-loop-name : goal.invariant-loop-name
invariant-loop-name g l = (l.number ≡ l.name-index)
    × HaveTaken (FnReturnsAt g.O.Fn l.fn.opener) (known_bytes g.F.Read.remaining) (take l.name-index l.names) l.collector
