use Rattle.trace.proofs.Common.{◌++◌, ◌∷◌, [], ℕ, List, IfSome, subst, option_to_list, Record, HasRead, AreText}
use Rattle.trace.proofs.Readings.{up_to_line_end}
use Rattle.trace.proofs.Texts.{take_rest}
use Rattle.trace.proofs.reading.Reader.step.Goals as goal

pub returns-clause-taken : goal.returns-clause-taken
returns-clause-taken c w bytes h =
    let P : List ℕ → Type 0 = λ b. HasRead (w ++ option_to_list c.in_ok-taken.taken.what) b c.next-2.new.self in
    subst P (take_rest bytes c.args.piece.now c.in_ok-used.used c.in_ok-taken.taken.used) (c.in_ok-taken.ensures.taken w _ (c.in_ok-used.ensures.taken w bytes h))

pub returns-clause-up_to_line_end : goal.returns-clause-up_to_line_end
returns-clause-up_to_line_end c w bytes h =
    let P : List ℕ → Type 0 = λ b. IfSome c.in_ok-taken.taken.what (λ (r : Record). AreText c.next-2.new.self.version (w ++ r ∷ []) b) in
    subst P (take_rest bytes c.args.piece.now c.in_ok-used.used c.in_ok-taken.taken.used)
    (up_to_line_end w c.in_ok-taken.taken.what _ c.next-2.new.self (c.in_ok-taken.ensures.taken w _ (c.in_ok-used.ensures.taken w bytes h)) c.in_ok-taken.ensures.at_line)
