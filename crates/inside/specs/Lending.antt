-- Private: a handle follows the session that it lends.
use Rattle.std.specs.Borrow.{Lends, MutBor, Fml}
use Rattle.inside.specs.declared.session.Session.{Session}
use Rattle.inside.specs.declared.handle.Handle.{Handle}
use Rattle.inside.specs.contracts.session.Session.{the_row as session_row}
use Rattle.inside.specs.contracts.handle.Handle.{the_row}

abbrev pub with_session : Handle → Session → Handle
with_session h s = record h { session = s }

abbrev pub LendsSession : MutBor Handle → MutBor Session → Fml
LendsSession h r = Lends the_row session_row h r (with_session h.now)
