use Rattle.texts.proofs.Common.{◌++◌, codes, decimal, ap, given_as}
use Rattle.texts.proofs.messages.say_fault.Goals as goal

pub returns-in-Text : goal.returns-in-Text
returns-in-Text g c = rw c.in-Text.is (given_as (ap (λ e. codes "spbags: line " ++ decimal c.in-Text.text.line ++ e) c.text_words.ensures.ending) c.say_at.ensures)

pub returns-in-Nest : goal.returns-in-Nest
returns-in-Nest g c = rw c.in-Nest.is (given_as (ap (λ e. codes "spbags: place " ++ decimal c.in-Nest.nest.place ++ e) c.nest_words.ensures.ending) c.say_at-in-Nest.ensures)

pub returns-in-Read : goal.returns-in-Read
returns-in-Read g c = rw c.in-Read.is c.say.ensures

pub returns-in-NoMemory : goal.returns-in-NoMemory
returns-in-NoMemory g c = rw c.in-NoMemory.is c.say-in-NoMemory.ensures

pub returns-in-NoThread : goal.returns-in-NoThread
returns-in-NoThread g c = rw c.in-NoThread.is c.say-in-NoThread.ensures
