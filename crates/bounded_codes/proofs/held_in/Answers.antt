use native.Mathlib.Omega.{arith}
use Rattle.queue_entries.proofs.Reading.{past}
use Rattle.bounded_codes.proofs.Along.{along_held, last_held}
use borrow.Author.Rules.{rules}
use Rattle.bounded_codes.proofs.held_in.Goals as goal

pub returns-in-0 : goal.returns-in-0
returns-in-0 c = search (rules, along_held)

pub returns-in-1 : goal.returns-in-1
returns-in-1 c = search (rules, along_held)

pub returns-in-2 : goal.returns-in-2
returns-in-2 c = search (rules, along_held)

pub returns-in-3 : goal.returns-in-3
returns-in-3 c = search (rules, along_held)

pub returns-in-4 : goal.returns-in-4
returns-in-4 c = search (rules, along_held)

pub returns-in-5 : goal.returns-in-5
returns-in-5 c = search (rules, along_held)

pub returns-in-6 : goal.returns-in-6
returns-in-6 c = search (rules, along_held)

pub returns-in-7 : goal.returns-in-7
returns-in-7 c = search (rules, along_held)

pub returns-in-8 : goal.returns-in-8
returns-in-8 c = search (rules, along_held)

pub returns-in-9 : goal.returns-in-9
returns-in-9 c = search (rules, along_held)

pub returns-in-10 : goal.returns-in-10
returns-in-10 c = search (rules, along_held)

pub returns-in-11 : goal.returns-in-11
returns-in-11 c = search (rules, along_held)

pub returns-in-12 : goal.returns-in-12
returns-in-12 c = search (rules, along_held)

pub returns-in-13 : goal.returns-in-13
returns-in-13 c = search (rules, along_held)

pub returns-in-14 : goal.returns-in-14
returns-in-14 c = search (rules, along_held)

pub returns-in-15 : goal.returns-in-15
returns-in-15 c = search (rules, along_held)

pub returns-in-16 : goal.returns-in-16
returns-in-16 c = search (rules, along_held)

pub returns-in-17 : goal.returns-in-17
returns-in-17 c = search (rules, along_held)

pub returns-in-18 : goal.returns-in-18
returns-in-18 c = search (rules, along_held)

pub returns-in-19 : goal.returns-in-19
returns-in-19 c = search (rules, along_held)

pub returns-in-20 : goal.returns-in-20
returns-in-20 c = search (rules, along_held)

pub returns-in-21 : goal.returns-in-21
returns-in-21 c = search (rules, along_held)

pub returns-in_default : goal.returns-in_default
returns-in_default c = let r = c.in_default.in_default-own.rest in last_held _ _ _ (past 26
    (past 25 (past 24 (past 23 (past 22 (past 21 (past 20 (past 19
    (past 18 (past 17 (past 16 (past 15 (past 14 (past 13 (past 12
    (past 11 (past 10 (past 9 (past 8 (past 7 (past 6 (past 5 (past 4
    (past 3 (past 2 (past 1 (past 0 (omega arith) r.0.0.0.0.0.0.0.0.0.0.0.0.0.0.0.0.0.0.0.0.0.0.0.0.0.0.1)
    r.0.0.0.0.0.0.0.0.0.0.0.0.0.0.0.0.0.0.0.0.0.0.0.0.0.1)
    r.0.0.0.0.0.0.0.0.0.0.0.0.0.0.0.0.0.0.0.0.0.0.0.0.1) r.0.0.0.0.0.0.0.0.0.0.0.0.0.0.0.0.0.0.0.0.0.0.0.1)
    r.0.0.0.0.0.0.0.0.0.0.0.0.0.0.0.0.0.0.0.0.0.0.1) r.0.0.0.0.0.0.0.0.0.0.0.0.0.0.0.0.0.0.0.0.0.1)
    r.0.0.0.0.0.0.0.0.0.0.0.0.0.0.0.0.0.0.0.0.1) r.0.0.0.0.0.0.0.0.0.0.0.0.0.0.0.0.0.0.0.1)
    r.0.0.0.0.0.0.0.0.0.0.0.0.0.0.0.0.0.0.1) r.0.0.0.0.0.0.0.0.0.0.0.0.0.0.0.0.0.1)
    r.0.0.0.0.0.0.0.0.0.0.0.0.0.0.0.0.1) r.0.0.0.0.0.0.0.0.0.0.0.0.0.0.0.1)
    r.0.0.0.0.0.0.0.0.0.0.0.0.0.0.1) r.0.0.0.0.0.0.0.0.0.0.0.0.0.1) r.0.0.0.0.0.0.0.0.0.0.0.0.1)
    r.0.0.0.0.0.0.0.0.0.0.0.1) r.0.0.0.0.0.0.0.0.0.0.1) r.0.0.0.0.0.0.0.0.0.1) r.0.0.0.0.0.0.0.0.1)
    r.0.0.0.0.0.0.0.1) r.0.0.0.0.0.0.1) r.0.0.0.0.0.1) r.0.0.0.0.1) r.0.0.0.1) r.0.0.1) r.0.1) r.1)
