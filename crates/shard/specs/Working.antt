-- Promised: what a worker is given, and what it hands back.
use Rattle.std.specs.Prelude.{◌≡◌, ◌<◌, ◌≤◌, ◌⊎◌, ◌∷◌, ◌++◌, ℕ, List, [], length, map}
use Rattle.dag.specs.Bounds.{most_records}
use Rattle.dag.specs.declared.records.Record.{Record}
use Rattle.dag.specs.declared.records.Placed.{Placed}
use Rattle.dag.specs.Traces.{placed, IsRootReturn, IsWellNested}
use Rattle.dag.specs.Shares.{share}
use Rattle.dag.specs.Accesses.{RaceAt}
use Rattle.shadow.specs.Found.{found}
use Rattle.lane.specs.declared.item.Item.{Item}
use Rattle.lane.specs.declared.item.Item.TheVariants.{One, Finish}
use Rattle.lane.specs.Items.{IsBeginning}
use Rattle.dag.specs.declared.back.Back.{Back}
use Rattle.dag.specs.declared.back.Back.TheVariants.{Race, NoMemory}

-- the records, without their places
abbrev pub whats : List Placed → List Record
whats u = map (λ p. p.what) u

-- the places rise from above this one, to 2^48 at most
abbrev pub RiseFrom : ℕ → List Placed → Type 0
RiseFrom place [] = Unit {0}
RiseFrom place (p ∷ u) = (place < p.place) × (p.place ≤ most_records) × RiseFrom p.place u

-- as a trace, a share, and a prefix of either are: the places ascend, and the root's return is nowhere but last
pub record AreInOrder (u : List Placed) : Type 0 where
  pub rising : RiseFrom 0 u
  pub ended_last : (i : ℕ) → i < length u → IsRootReturn (whats u) i → ⊥

-- races as they are handed back
abbrev pub race_items : List RaceAt → List (Item Back)
race_items rs = map (λ r. One (Race r)) rs

-- A worker applies no more from record p on: the record was out of order, or it was in order and a growth was
-- refused. What the worker has put are the races of the records before, and after a refused growth one NoMemory.
pub data HasStopped (u : List Placed) (put : List (Item Back)) : Type 0 where
  out_of_order : (v rest : List Placed) (p : Placed) → u ≡ v ++ p ∷ rest → AreInOrder v → (AreInOrder (v ++ p ∷ []) → ⊥)
      → put ≡ race_items (found v) → HasStopped u put
  no_memory : (v rest : List Placed) (p : Placed) → u ≡ v ++ p ∷ rest → AreInOrder (v ++ p ∷ [])
      → put ≡ race_items (found v) ++ One NoMemory ∷ [] → HasStopped u put

-- what a worker has put that was given the records u: the races found in them if they are in order, or less
abbrev pub HasHandedBack : List Placed → List (Item Back) → Type 0
HasHandedBack u put = (AreInOrder u × (put ≡ race_items (found u))) ⊎ HasStopped u put

-- a prefix of a share of a well nested trace
pub record IsOfShare (u : List Placed) : Type 0 where
  pub trace : List Record
  pub shard : ℕ
  pub shards : ℕ
  pub limit : ℕ
  pub depths : ℕ
  pub nested : IsWellNested trace limit depths
  pub to_limit : limit ≤ most_records
  pub begins : IsBeginning u (share shard shards (placed trace))

-- the races found in u and the mark; or, after a refused growth, a prefix of them, one NoMemory and the mark
abbrev pub PutsFound : List Placed → List (Item Back) → Type 0
PutsFound u put = (put ≡ race_items (found u) ++ Finish ∷ [])
    ⊎ ((rs : List RaceAt) × IsBeginning rs (found u) × (put ≡ race_items rs ++ One NoMemory ∷ Finish ∷ []))
