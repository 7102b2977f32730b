use Rattle.std.proofs.Common.{rules}
use Rattle.replies.proofs.answers.refuse.Goals as goal

pub returns-in-Help-clause-helped : goal.returns-in-Help-clause-helped
returns-in-Help-clause-helped g c = rw (c.in-Help.is, ← c.as_bytes.ensures.value) (c.finish.ensures c.as_bytes.result.now _ c.put_all-put.ensures)

pub returns-in-NoMemory-clause-refused : goal.returns-in-NoMemory-clause-refused
returns-in-NoMemory-clause-refused g c = rw c.in-NoMemory.is (c.no_answer.ensures.two, search rules, c.no_answer.ensures.said)
