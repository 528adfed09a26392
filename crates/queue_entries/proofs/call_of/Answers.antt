use native.Mathlib.Omega.{arith}
use borrow.Author.Rules.{rules}
use Rattle.queue_entries.proofs.Reading.{past, along_call, last_call}
use Rattle.queue_entries.proofs.call_of.Goals as goal

pub returns-in-0 : goal.returns-in-0
returns-in-0 c = search (rules, along_call)

pub returns-in-1 : goal.returns-in-1
returns-in-1 c = search (rules, along_call)

pub returns-in_default : goal.returns-in_default
returns-in_default c = let r = c.in_default.in_default-own.rest in
    last_call _ _ (past 6 (past 5 (past 4 (past 3 (past 2 (past 1 (past 0 (omega arith) r.0.0.0.0.0.0.1) r.0.0.0.0.0.1) r.0.0.0.0.1)
    r.0.0.0.1) r.0.0.1) r.0.1) r.1)
