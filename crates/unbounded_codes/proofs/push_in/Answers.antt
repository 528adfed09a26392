use borrow.Author.Rules.{rules}
use native.Mathlib.Omega.{arith}
use Rattle.queue_entries.proofs.Reading.{past}
use Rattle.unbounded_codes.proofs.Along.{along_push, last_push}
use Rattle.unbounded_codes.proofs.push_in.Goals as goal

pub returns-in-0 : goal.returns-in-0
returns-in-0 c = search (rules, along_push)

pub returns-in-1 : goal.returns-in-1
returns-in-1 c = search (rules, along_push)

pub returns-in-2 : goal.returns-in-2
returns-in-2 c = search (rules, along_push)

pub returns-in-3 : goal.returns-in-3
returns-in-3 c = search (rules, along_push)

pub returns-in-4 : goal.returns-in-4
returns-in-4 c = search (rules, along_push)

pub returns-in-5 : goal.returns-in-5
returns-in-5 c = search (rules, along_push)

pub returns-in-6 : goal.returns-in-6
returns-in-6 c = search (rules, along_push)

pub returns-in-7 : goal.returns-in-7
returns-in-7 c = search (rules, along_push)

pub returns-in-8 : goal.returns-in-8
returns-in-8 c = search (rules, along_push)

pub returns-in-9 : goal.returns-in-9
returns-in-9 c = search (rules, along_push)

pub returns-in-10 : goal.returns-in-10
returns-in-10 c = search (rules, along_push)

pub returns-in-11 : goal.returns-in-11
returns-in-11 c = search (rules, along_push)

pub returns-in-12 : goal.returns-in-12
returns-in-12 c = search (rules, along_push)

pub returns-in-13 : goal.returns-in-13
returns-in-13 c = search (rules, along_push)

pub returns-in_default : goal.returns-in_default
returns-in_default c = let r = c.in_default.in_default-own.rest in last_push _ _ _ _ _ _ _ _ _
    (past 13 (past 12 (past 11 (past 10 (past 9 (past 8 (past 7 (past 6
    (past 5 (past 4 (past 3 (past 2 (past 1 (past 0 (omega arith) r.0.0.0.0.0.0.0.0.0.0.0.0.0.1) r.0.0.0.0.0.0.0.0.0.0.0.0.1)
    r.0.0.0.0.0.0.0.0.0.0.0.1) r.0.0.0.0.0.0.0.0.0.0.1) r.0.0.0.0.0.0.0.0.0.1) r.0.0.0.0.0.0.0.0.1)
    r.0.0.0.0.0.0.0.1) r.0.0.0.0.0.0.1) r.0.0.0.0.0.1) r.0.0.0.0.1) r.0.0.0.1) r.0.0.1) r.0.1) r.1)
