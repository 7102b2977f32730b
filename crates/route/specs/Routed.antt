-- Promised: what was routed, read off what was put on each of n lanes: `on k` is what was put on lane k.
use Rattle.std.specs.Prelude.{◌≡◌, ℕ, ◌<◌, ◌↔◌, ◌⊎◌, true, List, [], ◌∷◌, ◌++◌, map, Contains, Option, option_to_list}
use Rattle.std.specs.List.Sorted.{IsStrictlyIncreasing}
use Rattle.lane.specs.declared.item.Item.{Item}
use Rattle.lane.specs.Items.{has_mark, records, with_mark, IsBeginning}
use Rattle.dag.specs.declared.records.Placed.{Placed}
use Rattle.dag.specs.Shares.{goes_placed, share}

-- the places rise
abbrev pub IsRising : List Placed → Type 0
IsRising u = IsStrictlyIncreasing (map (λ p. p.place) u)

-- w, and then the pending record
abbrev pub in_hand : List Placed → Option Placed → List Placed
in_hand w pending = w ++ option_to_list pending

-- some lane has the record
abbrev pub IsOnSome : ℕ → (ℕ → List (Item Placed)) → Placed → Type 0
IsOnSome n on p = (k : ℕ) × (k < n) × Contains (records (on k)) p

-- u is the list of the records that stand on any lane, each once, by rising place
pub record IsRouted (n : ℕ) (on : ℕ → List (Item Placed)) (u : List Placed) : Type 0 where
  pub rising : IsRising u
  pub exact : (p : Placed) → Contains u p ↔ IsOnSome n on p

-- the record that is being sent: a lane has it, and a lane that it goes to lacks it
pub record IsBeingSent (n : ℕ) (on : ℕ → List (Item Placed)) (p : Placed) : Type 0 where
  pub begun : IsOnSome n on p
  pub unfinished : (k : ℕ) × (k < n) × (goes_placed k n p ≡ true) × (Contains (records (on k)) p → ⊥)

-- lane k has its share of u, or lacks the last record of it, which is then the one being sent
abbrev pub HasShare : ℕ → (ℕ → List (Item Placed)) → List Placed → ℕ → Type 0
HasShare n on u k = (records (on k) ≡ share k n u)
    ⊎ ((p : Placed) × (records (on k) ++ p ∷ [] ≡ share k n u) × IsBeingSent n on p)

-- a lane with the mark has its whole share, and then the mark, and no record is being sent
pub record HasWholeShare (n : ℕ) (on : ℕ → List (Item Placed)) (u : List Placed) (k : ℕ) : Type 0 where
  pub whole : on k ≡ with_mark (share k n u)
  pub none_sent : (p : Placed) → IsBeingSent n on p → ⊥

-- The items taken from lane k are a prefix of its share of u, so each record comes once and in trace order. If the
-- mark was taken, they are the whole share, and nothing more is on the lane.
pub record TakesShare (n : ℕ) (u : List Placed) (k : ℕ) (taken put : List (Item Placed)) : Type 0 where
  pub front : IsBeginning (records taken) (share k n u)
  pub each_once : IsRising (records taken)
  pub whole : has_mark taken ≡ true → taken ≡ with_mark (share k n u)
  pub none_more : has_mark taken ≡ true → put ≡ taken

-- exactly one list was routed, and it is a prefix of w
pub record HasRouted (n : ℕ) (on : ℕ → List (Item Placed)) (w : List Placed) : Type 0 where
  pub list : List Placed
  pub routed : IsRouted n on list
  pub only : (v : List Placed) → IsRouted n on v → v ≡ list
  pub front : IsBeginning list w
