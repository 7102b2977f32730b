-- Private: what sends records goes on.
use Rattle.std.specs.Prelude.{◌≡◌, IsFalse, List, [], ◌∷◌, ◌++◌, Some}
use Rattle.dag.specs.declared.records.Placed.{Placed}
use Rattle.route.specs.Steps.{IsIdle}
use Rattle.route.specs.Routers.{RouterState, HasSent, IsOnLanes}
use Rattle.detect.specs.declared.reading_thread.ReadingThread.{ReadingThread}
use Rattle.detect.specs.LanesBack.{IsFurther}

-- a record may be sent: none is pending, no lane has its mark, and no refused growth is known
pub record MaySend (s : ReadingThread) : Type 0 where
  pub idle : IsIdle s.router
  pub none_refused : IsFalse s.gathering.collector.refused

-- of these records all but the last were sent whole, and that one is pending
pub record LacksLast (w : List Placed) (r : RouterState) : Type 0 where
  pub before : List Placed
  pub last : Placed
  pub all : before ++ last ∷ [] ≡ w
  pub pending : r.pending ≡ Some last
  pub sent : HasSent before r

-- the same part is sent on the same lanes, and more was taken of the lanes back
pub record GoesOn (old new : ReadingThread) : Type 0 where
  pub part : new.part ≡ old.part
  pub lanes : IsOnLanes old.router new.router
  pub further : IsFurther old.gathering new.gathering
