use Rattle.std.proofs.Common.{◌∙◌, refl, ap, arith}
use Rattle.bounded_orders.specs.Orders.{judged_of}
use Rattle.bounded_lent.proofs.Running.{begins, left_of, ends_whole, stops_here, goes_on}
use Rattle.bounded_lent.proofs.run.Goals as goal

pub loop-i-init : goal.loop-i-init
loop-i-init c = (
  refl,
  begins c.args.ring.now c.args.records.now c.args.schedule.now c.judged-whole.result c.entries_of-n.result
      (c.judged-whole.ensures ∙ ap (λ b. judged_of b c.args.schedule.now) c.broken.ensures) c.entries_of-n.ensures,
)

pub returns-then-refusal-ne0 : goal.returns-then-refusal-ne0
returns-then-refusal-ne0 c = let l = c.loop-i in
    stops_here _ _ _ _ _ l.i l.ring l.records (left_of _ _ _ _ _ l.i l.ring l.records l.invariant.1 c.loop-i-test.true)
    c.loop-i-test.true c.turn-refusal.result c.turn-refusal.new.ring c.turn-refusal.new.records c.turn-refusal.ensures c.if-refusal-ne0.true

pub loop-i-preserved : goal.loop-i-preserved
loop-i-preserved c = let l = c.loop-i in (
  c.turn-refusal.auto.records ∙ l.invariant.0,
  goes_on _ _ _ _ _ l.i l.ring l.records (left_of _ _ _ _ _ l.i l.ring l.records l.invariant.1 c.loop-i-test.true)
      c.loop-i-test.true c.turn-refusal.result c.turn-refusal.new.ring c.turn-refusal.new.records c.turn-refusal.ensures
      c.if-refusal-ne0.false c.turn-refusal.auto.records,
)

pub returns : goal.returns
returns c = let l = c.loop-i in ends_whole _ _ _ _ _ l.i l.ring l.records l.invariant.1 (omega arith)
