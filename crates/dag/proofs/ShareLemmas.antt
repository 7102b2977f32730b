-- Laws of shares.
use Rattle.dag.proofs.Common.{◌≡◌, ℕ, ◌<◌, ◌%◌, true, cond, List, [], ◌∷◌, ◌++◌, refl, sym, arith, eq-eqb, eqb-true, Record, Spawn, Call, Return, Sync, Read, Write, Kind, access, ExactlyOne}
use Rattle.std.proofs.lemmas.List.Elements.{filter-append}
use Rattle.dag.specs.declared.records.Kind.TheVariants as kinds
use Rattle.dag.specs.declared.records.Placed.{Placed}
use Rattle.dag.specs.Shares.{goes, goes_placed, share}

pub share-append : (k n : ℕ) (u v : List Placed) → share k n (u ++ v) ≡ share k n u ++ share k n v
share-append k n u v = filter-append (goes_placed k n) u v

pub share-push : (k n : ℕ) (u : List Placed) (p : Placed) → share k n (u ++ p ∷ []) ≡ share k n u ++ cond (goes_placed k n p) (p ∷ []) []
share-push k n u p = share-append k n u (p ∷ [])

-- each record goes to some shard
pub goes_somewhere : (n : ℕ) (r : Record) → 0 < n → (k : ℕ) × (k < n) × (goes k n r ≡ true)
goes_somewhere n Spawn h = (0, h, refl)
goes_somewhere n Call h = (0, h, refl)
goes_somewhere n Return h = (0, h, refl)
goes_somewhere n Sync h = (0, h, refl)
goes_somewhere n (Read l) h = (l % n, omega arith, eq-eqb (l % n) (l % n) refl)
goes_somewhere n (Write l) h = (l % n, omega arith, eq-eqb (l % n) (l % n) refl)

-- an access goes to one shard
pub one_shard : (n l : ℕ) (a : Kind) → 0 < n → ExactlyOne (λ k. (k < n) × (goes k n (access a l) ≡ true))
one_shard n l kinds.Read h = (l % n, (omega arith, eq-eqb (l % n) (l % n) refl), λ k g. sym (eqb-true (l % n) k g.1))
one_shard n l kinds.Write h = (l % n, (omega arith, eq-eqb (l % n) (l % n) refl), λ k g. sym (eqb-true (l % n) k g.1))

-- it goes there by its location
pub shard-by_location : (k n l : ℕ) (a b : Kind) → goes k n (access a l) ≡ goes k n (access b l)
shard-by_location k n l kinds.Read kinds.Read = refl
shard-by_location k n l kinds.Read kinds.Write = refl
shard-by_location k n l kinds.Write kinds.Read = refl
shard-by_location k n l kinds.Write kinds.Write = refl
