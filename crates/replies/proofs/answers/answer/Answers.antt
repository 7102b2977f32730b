use Rattle.replies.proofs.answers.answer.Goals as goal

pub returns-in-Check : goal.returns-in-Check
returns-in-Check g c = rw c.in-Check.is c.answer_check.ensures

pub returns-in-Pairs : goal.returns-in-Pairs
returns-in-Pairs g c = rw c.in-Pairs.is c.answer_pairs.ensures

pub returns-in-Explain : goal.returns-in-Explain
returns-in-Explain g c = rw c.in-Explain.is c.answer_explain.ensures

pub returns-in-Measure : goal.returns-in-Measure
returns-in-Measure g c = rw c.in-Measure.is c.answer_measure.ensures
