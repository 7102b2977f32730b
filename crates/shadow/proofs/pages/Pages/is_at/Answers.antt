use Rattle.shadow.proofs.Common.{rules}
use Rattle.shadow.proofs.pages.Pages.is_at.Goals as goal

pub returns-in-Some : goal.returns-in-Some
returns-in-Some g c same = record { kept = c.in-Some.field-0-1.now; found = search rules; at = search rules }
