use mathlib.Core.Path.{◌∙◌}
use native.Mathlib.Omega.{arith}
use borrow.Author.Rules.{rules}
use Rattle.queue_entries.proofs.Searching.{search_stops, search_goes, search_ends}
use Rattle.bounded_runs.proofs.Ended.{unread_told, read_told}
use Rattle.bounded_runs.proofs.unless_unread.Goals as goal

pub returns-in_default : goal.returns-in_default
returns-in_default c = let l = c.loop-i in
    let e = c.entry_of in
    c.unchanged.ensures ∙ unread_told _ _ _ _ (search_stops _ _ _ _ _ l.invariant.1 l.invariant.0
    (omega arith) e.result e.ensures (search rules))

pub loop-i-preserved : goal.loop-i-preserved
loop-i-preserved c = let l = c.loop-i in
    let e = c.entry_of in (
      l.invariant.0,
      search_goes _ _ _ _ _ l.invariant.1 l.invariant.0 (omega arith) e.result
          e.ensures _ _ c.in-Asks.is,
    )

pub returns : goal.returns
returns c = read_told _ _ _ (search_ends _ _ _ _ _ c.loop-i.invariant.1 c.loop-i.invariant.0 (omega arith))
