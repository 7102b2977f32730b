-- Private: what an access does to the names that groups keep of their units.
use Rattle.std.specs.Prelude.{ℕ, zero, suc, Bool, false, ◌||◌, Option, None, Some, List, if◌then◌else◌, ◌≡◌, ◌≢◌, ◌<◌}
use Rattle.std.specs.Prelude.{◌≤◌, ◌⊎◌, true, length, get_or, option_map, is_some, not, ◌&&◌}
use Rattle.dag.specs.declared.records.Kind.{Kind}
use Rattle.bags.specs.Procedures.{Active, in_p}
use Rattle.dag.specs.declared.records.Kind.TheVariants.{Read, Write}
use Rattle.blocks.specs.Masks.{has}
use Rattle.blocks.specs.Steps.{no_steps}
use Rattle.blocks.specs.Pages.{names_at, names_of, Block}
use Rattle.blocks.specs.declared.step.Step.{Step}
use Rattle.blocks.specs.declared.step.Names.{Names}
use Rattle.blocks.specs.declared.groups.Group.{Group}

-- whether a step at this place, if it is one, has its procedure in a P-bag
abbrev pub is_in_p_from : List Active → ℕ → ℕ → Bool
is_in_p_from fs procedure zero = false
is_in_p_from fs procedure (suc k) = in_p fs procedure

abbrev pub is_step_in_p : List Active → Step → Bool
is_step_in_p fs s = is_in_p_from fs s.procedure s.place

-- whether an access races with one of these
abbrev pub has_rival : List Active → Kind → Names → Bool
has_rival fs Read n = is_step_in_p fs n.writer
has_rival fs Write n = is_step_in_p fs n.writer || is_step_in_p fs n.reader

-- whether an access leaves these as they are
abbrev pub keeps_names : List Active → Kind → Names → Bool
keeps_names fs Read n = is_step_in_p fs n.reader
keeps_names fs Write n = false

-- what is kept after such a step, if they don't stay
abbrev pub touched_names : Kind → Step → Names → Names
touched_names Read step n = record { writer = n.writer; reader = step }
touched_names Write step n = record { writer = step; reader = n.reader }

abbrev pub names_after : List Active → Kind → Step → Names → Names
names_after fs kind step n = if keeps_names fs kind n then n else touched_names kind step n

-- whether an access races with one of the names, if there are any
abbrev pub is_racy : List Active → Kind → Option Names → Bool
is_racy fs kind None = false
is_racy fs kind (Some n) = has_rival fs kind n

-- the procedures of these names, if they are names, are among so many
abbrev pub IsKnown : ℕ → Step → Type 0
IsKnown count s = s.place ≢ 0 → s.procedure < count

pub record AreKnown (count : ℕ) (n : Names) : Type 0 where
  pub writer : IsKnown count n.writer
  pub reader : IsKnown count n.reader

-- the group that stands for one past the end
abbrev pub no_group : Group
no_group = record { units = 0; names = no_steps }

-- what groups keep of a unit after an access, if they have the unit, and it is one of those accessed
abbrev pub names_at_touched : List Active → Kind → Step → Bool → Option Names → Option Names
names_at_touched fs kind step false o = o
names_at_touched fs kind step true o = option_map (names_after fs kind step) o

-- the names of a unit after an access to the step's units
abbrev pub names_of_touched : List Active → Kind → Step → ℕ → Names → Names
names_of_touched fs kind step unit n = if has step.units unit then names_after fs kind step n else n

-- the group at this index has these names, and stands behind so many
pub record IsAlike (gs : List Group) (count : ℕ) (n : Names) (at : ℕ) : Type 0 where
  pub behind : count ≤ at
  pub within : at < length gs
  pub names : (get_or gs at no_group).names ≡ n

-- of each unit they keep what they did, or what an access to these units makes of it
abbrev pub IsPartly : List Active → Kind → Step → ℕ → List Group → List Group → Type 0
IsPartly fs kind step units old new = (i : ℕ) → i < 64 → (names_of new i ≡ names_of old i)
    ⊎ ((has units i ≡ true) × (names_of new i ≡ names_after fs kind step (names_of old i)))

-- these are the units that groups have
abbrev pub IsTouched : ℕ → List Group → Type 0
IsTouched touched gs = (i : ℕ) → i < 64 → has touched i ≡ is_some (names_at gs i)

-- the units at which an access reports a race: it races there, and no race was reported
abbrev pub AreNew : List Active → Kind → ℕ → Block → ℕ → Type 0
AreNew fs kind units b racy = (i : ℕ) → i < 64
    → has racy i ≡ (has units i && (is_racy fs kind (names_at b.groups i) && not (has b.reported i)))
