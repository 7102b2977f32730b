-- Promised: a session at the handle that C has of it.
use Rattle.std.specs.Prelude.{◌≡◌, ◌≢◌, []}
use base.Fraction.{full_share}
use base.Fml.{Fml, ftrue, fsep, fex}
use denote.RattleType.{RattleType}
use denote.RawPtr.{Ptr, lies_at}
use Rattle.online.specs.Lives.{first_lives}
use Rattle.inside.specs.declared.session.Session.{Session}
use Rattle.inside.specs.declared.session.Session.TheVariants.{Stopped}
use Rattle.inside.specs.declared.handle.Handle.{Handle}
use Rattle.inside.specs.Sessions.{HasTaken}

-- what lies at p has the property P
abbrev pub held : (R : RattleType) → Ptr → (R.Denot → Type 0) → Fml
held R p P = fex R.Denot (λ d. fsep (lies_at R full_share p d) (fex (P d) (λ _. ftrue)))

-- the handle of a session in this room, which has taken no record, or has stopped
abbrev pub IsNewIn : Ptr → Handle → Type 0
IsNewIn room h = (h.at ≡ room) × (h.session ≢ Stopped → HasTaken [] first_lives h.session)

-- the handle's session lies where it lay, and went from one state to the next so
abbrev pub InItsRoom : Handle → Handle → (Session → Session → Type 0) → Type 0
InItsRoom before after P = (after.at ≡ before.at) × P before.session after.session
