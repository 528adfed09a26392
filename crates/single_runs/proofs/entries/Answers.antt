use mathlib.Core.Path.{◌∙◌}
use native.Mathlib.Omega.{arith}
use borrow.Author.Rules.{rules}
use Rattle.single_machine.specs.Turn.{begun, stored}
use Rattle.single_runs.proofs.Turns.{first_stand, ended, stop_9, stop_3, stop, start, move, in_time, worker_below}
use Rattle.single_runs.proofs.entries.Goals as goal
use Rattle.single_runs.proofs.entries.Goals.{in-Start, in-Move}

pub loop-i-init : goal.loop-i-init
loop-i-init c = first_stand _ _ (search rules) _ (omega arith)

pub returns-in_default : goal.returns-in_default
returns-in_default c = c.ran.ensures ∙ stop_9 _ _ _ _ _ c.loop-i.invariant
    c.loop-i-test.true c.entry_of.result
    c.entry_of.ensures (search rules)

pub returns-then-count-worker : goal.returns-then-count-worker
returns-then-count-worker c = c.ran-then-count-worker.ensures ∙ stop_3 _ _ _ _ _ c.loop-i.invariant
    c.loop-i-test.true c.entry_of.result
    c.entry_of.ensures c.in-Asks.worker
    c.in-Asks.order (search rules) c.if-count-worker.true

pub offset_bounds-workers-w : goal.offset_bounds-workers-w
offset_bounds-workers-w c = let h = (worker_below _ _ _ _ _ c.loop-i.invariant c.in-Asks.worker c.if-count-worker.false) in omega arith

pub bounds-workers-w : goal.bounds-workers-w
bounds-workers-w c = (worker_below _ _ _ _ _ c.loop-i.invariant c.in-Asks.worker c.if-count-worker.false)

pub returns-in-Refuse : goal.returns-in-Refuse
returns-in-Refuse c = c.ran-in-Refuse.ensures ∙ stop _ _ _ _ _ c.loop-i.invariant c.loop-i-test.true
    c.entry_of.result
    c.entry_of.ensures
    c.in-Asks.worker
    c.in-Asks.order
    (search rules) c.if-count-worker.false
    c.verdict_of.result c.verdict_of.ensures c.in-Refuse.number
    (search rules)

pub offset_bounds-workers-w-in-Start : goal.offset_bounds-workers-w-in-Start
offset_bounds-workers-w-in-Start c = let h = (worker_below _ _ _ _ _ c.loop-i.invariant c.in-Asks.worker c.if-count-worker.false) in omega arith

pub bounds-workers-w-in-Start : goal.bounds-workers-w-in-Start
bounds-workers-w-in-Start c = (worker_below _ _ _ _ _ c.loop-i.invariant c.in-Asks.worker c.if-count-worker.false)

pub offset_bounds-workers-w-in-Move : goal.offset_bounds-workers-w-in-Move
offset_bounds-workers-w-in-Move c = let h = (worker_below _ _ _ _ _ c.loop-i.invariant c.in-Asks.worker c.if-count-worker.false) in omega arith

pub bounds-workers-w-in-Move : goal.bounds-workers-w-in-Move
bounds-workers-w-in-Move c = (worker_below _ _ _ _ _ c.loop-i.invariant c.in-Asks.worker c.if-count-worker.false)

pub overflow_add-meter : goal.overflow_add-meter
overflow_add-meter c = let h = in_time _ _ _ _ _ c.loop-i.invariant c.loop-i-test.true
    c.entry_of.result
    c.entry_of.ensures
    c.in-Asks.worker
    c.in-Asks.order
    (search rules) c.if-count-worker.false
    c.verdict_of.result c.verdict_of.ensures
    c.in-Move.field-0 c.in-Move.is in omega arith

pub loop-i-preserved : goal.loop-i-preserved
unfolding begun stored
loop-i-preserved c = elim c.match-verdict_of.branch [
  | in-Start w ↦
      rw (w.single-is, w.workers-is, w.meter-is)
      (start _ _ _ _ _ c.loop-i.invariant
      c.loop-i-test.true
      c.entry_of.result
      c.entry_of.ensures
      c.in-Asks.worker
      c.in-Asks.order
      (search rules) c.if-count-worker.false
      c.verdict_of.result c.verdict_of.ensures
      w.in-Start.call _ (search rules) w.first_place.ensures)
  | in-Move w ↦
      rw (w.single-is, w.workers-is, w.meter-is)
      (move _ _ _ _ _ c.loop-i.invariant
      c.loop-i-test.true
      c.entry_of.result
      c.entry_of.ensures
      c.in-Asks.worker
      c.in-Asks.order
      (search rules) c.if-count-worker.false
      c.verdict_of.result c.verdict_of.ensures
      w.in-Move.field-0 w.act_at-a.result w.in-Move.is w.act_at-a.ensures)
]

pub returns : goal.returns
returns c = c.ran-2.ensures ∙ ended _ _ _ _ _ c.loop-i.invariant c.loop-i-test.false
