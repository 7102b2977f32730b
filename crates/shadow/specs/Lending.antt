-- Promised: a page that is lent.
use Rattle.std.specs.Prelude.{ℕ, List}
use Rattle.std.specs.Borrow.{Lends, MutBor, Fml, RattleType}
use Rattle.std.specs.declared.hash.Hasher as hasher
use Rattle.std.specs.declared.hash.BuildHasher as builder
use Rattle.indexmap.specs.IndexMap.{set_value_at}
use Rattle.shadow.specs.declared.pages.CellPage as cells
use Rattle.shadow.specs.contracts.pages.Pages as pages

module _ (P G S Seats Hint H : RattleType) (page : cells.Ghosts P.Denot Seats.Denot)
    (build : builder.Ghosts S.Denot H.Denot) (hash : hasher.Ghosts H.Denot) where
  -- once the borrow r ends, the page at the index is what was last written through r
  abbrev pub lends_page : MutBor (List (ℕ × P.Denot)) → ℕ → MutBor P.Denot → Fml
  lends_page s index r = Lends (pages.the_row P G S Seats Hint H page build hash) P s r (set_value_at s.now index)
