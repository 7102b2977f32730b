use Rattle.audit.proofs.MeetingLemmas.{met_none}
use Rattle.audit.proofs.meetings.Meetings.new.Goals as goal

pub returns : goal.returns
returns c = met_none _ _ c.new.ensures.items c.new-2.ensures.items
