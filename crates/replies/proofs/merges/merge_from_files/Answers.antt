use Rattle.std.proofs.Common.{refl, inl, inr}
use Rattle.replies.proofs.Endings.{untouched}
use Rattle.replies.proofs.merges.merge_from_files.Goals as goal

pub returns-in-Ok : goal.returns-in-Ok
returns-in-Ok g c =
    let taken = rw c.as_slice.ensures.value at c.in-Ok.ensures in
    inl (record { reports = taken.reports; read = taken.read; written = c.answer_merged.ensures taken.reports taken.kept })

pub returns-in-Err : goal.returns-in-Err
returns-in-Err g c = inr (record {
  number = c.in-Err.refused.number;
  refusal = c.in-Err.refused.refusal;
  first = rw c.as_slice.ensures.value at c.in-Err.ensures;
  untouched = untouched _;
  said = c.say_merge_refusal.ensures;
  is_two = refl;
})
