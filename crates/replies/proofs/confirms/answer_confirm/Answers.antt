use Rattle.std.proofs.Common.{inl, inr, refl}
use Rattle.replies.proofs.Endings.{untouched}
use Rattle.replies.proofs.confirms.answer_confirm.Goals as goal

pub returns-in-Ok : goal.returns-in-Ok
returns-in-Ok g c = inr (record { entries = c.in-Ok.entries; given = c.in-Ok.ensures; answered = c.answer_entries.ensures })

pub returns-in-Err : goal.returns-in-Err
returns-in-Err g c = inl (refl, record { refusal = c.in-Err.refusal; refused = c.in-Err.ensures; untouched = untouched _; said = c.say_refusal.ensures; is_two = refl })
