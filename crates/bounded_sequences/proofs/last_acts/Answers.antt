use Prim.Native.Nat.{◌<◌}
use mathlib.Core.Path.{refl}
use native.Mathlib.Omega.{arith}
use Rattle.queue_walks.specs.Walks.{walkers_most}
use Rattle.bounded_sequences.proofs.Turning.{turn_begins, turn_8, turn_half, turn_9, turn_again, turn_done}
use Rattle.bounded_sequences.proofs.last_acts.Goals as goal

pub loop-w-init : goal.loop-w-init
loop-w-init c =
    (c.requires.few.0, c.requires.few.1, turn_begins _ _ _ _ _ _ refl c.requires.room)

pub last_act-r-requires : goal.last_act-r-requires
last_act-r-requires c =
    let l = c.loop-w in
    let few = c.loop-w-test.true in
    let low : l.w < walkers_most = omega (arith, l.invariant.0, few) in
    record { few = (low, l.invariant.1); room = turn_8 _ _ _ _ _ _ _ _ _ l.invariant.2 few }

pub last_act-r-requires-in-loop-w : goal.last_act-r-requires-in-loop-w
last_act-r-requires-in-loop-w c =
    let l = c.loop-w in
    let few = c.loop-w-test.true in
    let h = turn_half _ _ _ _ _ _ _ _ _ l.invariant.2 few c.last_act-r.new.out c.last_act-r.result c.last_act-r.ensures.answer c.last_act-r.ensures.lent c.last_act-r.auto.out in
    let low : l.w < walkers_most = omega (arith, l.invariant.0, few) in
    record { few = (low, l.invariant.1); room = turn_9 _ _ _ _ _ _ _ _ _ h }

pub loop-w-preserved : goal.loop-w-preserved
loop-w-preserved c =
    let l = c.loop-w in
    let few = c.loop-w-test.true in
    let h = turn_half _ _ _ _ _ _ _ _ _ l.invariant.2 few c.last_act-r.new.out c.last_act-r.result c.last_act-r.ensures.answer c.last_act-r.ensures.lent c.last_act-r.auto.out in
    (l.invariant.0, l.invariant.1, turn_again _ _ _ _ _ _ _ _ _ h c.last_act-r-in-loop-w.new.out c.last_act-r-in-loop-w.result c.last_act-r-in-loop-w.ensures.answer c.last_act-r-in-loop-w.ensures.lent c.last_act-r-in-loop-w.auto.out)

pub returns : goal.returns
returns c = record { answer = (turn_done _ _ _ _ _ _ _ _ _ c.loop-w.invariant.2 c.loop-w-test.false).0; lent = (turn_done _ _ _ _ _ _ _ _ _ c.loop-w.invariant.2 c.loop-w-test.false).1 }
