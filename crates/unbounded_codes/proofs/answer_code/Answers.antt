use Rattle.unbounded_codes.proofs.Along.{along_answer_code}
use borrow.Author.Rules.{rules}
use Rattle.unbounded_codes.proofs.answer_code.Goals as goal

pub returns-in-Nothing : goal.returns-in-Nothing
returns-in-Nothing c = search (rules, along_answer_code)

pub returns-in-Pushed : goal.returns-in-Pushed
returns-in-Pushed c = search (rules, along_answer_code)

pub returns-in-Closed : goal.returns-in-Closed
returns-in-Closed c = search (rules, along_answer_code)

pub returns-in-Popped : goal.returns-in-Popped
returns-in-Popped c = search (rules, along_answer_code)

pub returns-in-Empty : goal.returns-in-Empty
returns-in-Empty c = search (rules, along_answer_code)

pub returns-in-PopClosed : goal.returns-in-PopClosed
returns-in-PopClosed c = search (rules, along_answer_code)

pub returns-in-Len : goal.returns-in-Len
returns-in-Len c = search (rules, along_answer_code)

pub returns-in-Yes : goal.returns-in-Yes
returns-in-Yes c = search (rules, along_answer_code)

pub returns-in-No : goal.returns-in-No
returns-in-No c = search (rules, along_answer_code)
