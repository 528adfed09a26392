use native.Mathlib.Omega.{arith}
use Rattle.queue_entries.proofs.Reading.{past}
use Rattle.unbounded_codes.proofs.Along.{along_look, last_look}
use borrow.Author.Rules.{rules}
use Rattle.unbounded_codes.proofs.look_in.Goals as goal

pub returns-in-1 : goal.returns-in-1
returns-in-1 c = search (rules, along_look)

pub returns-in-2 : goal.returns-in-2
returns-in-2 c = search (rules, along_look)

pub returns-in-4 : goal.returns-in-4
returns-in-4 c = search (rules, along_look)

pub returns-in_default : goal.returns-in_default
returns-in_default c = let r = c.in_default.in_default-own.rest in last_look _ _ _ (past 6
    (past 5 (past 4 (past 3 (past 2 (past 1 (past 0 (omega arith) r.0.0.0.0.0.0.1) r.0.0.0.0.0.1) r.0.0.0.0.1) r.0.0.0.1)
    r.0.0.1) r.0.1) r.1)
