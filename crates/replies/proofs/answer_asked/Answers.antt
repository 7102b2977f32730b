use Rattle.replies.proofs.Common.{⊤, None, known_bytes}
use Rattle.replies.proofs.Opened.{answered_so}
use Rattle.replies.proofs.answer_asked.Goals as goal

pub returns : goal.returns
returns g c = answered_so _ (λ name opened. ⊤) (λ name opened gives. tt) (known_bytes (λ file. None)) c.args.asked.now _ _ _ c.answer_from_files.ensures
