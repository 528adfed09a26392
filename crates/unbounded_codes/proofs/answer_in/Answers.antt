use native.Mathlib.Omega.{arith}
use Rattle.queue_entries.proofs.Reading.{past}
use Rattle.unbounded_codes.proofs.Along.{along_answer, last_answer}
use borrow.Author.Rules.{rules}
use Rattle.unbounded_codes.proofs.answer_in.Goals as goal

pub returns-in-7 : goal.returns-in-7
returns-in-7 c = search (rules, along_answer)

pub returns-in-9 : goal.returns-in-9
returns-in-9 c = search (rules, along_answer)

pub returns-in_default : goal.returns-in_default
returns-in_default c = let r = c.in_default.in_default-own.rest in last_answer _ _ (past 9
    (past 8 (past 7 (past 6 (past 5 (past 4 (past 3 (past 2 (past 1 (past 0 (omega arith) r.0.0.0.0.0.0.0.0.0.1) r.0.0.0.0.0.0.0.0.1)
    r.0.0.0.0.0.0.0.1) r.0.0.0.0.0.0.1) r.0.0.0.0.0.1) r.0.0.0.0.1) r.0.0.0.1) r.0.0.1) r.0.1) r.1)
