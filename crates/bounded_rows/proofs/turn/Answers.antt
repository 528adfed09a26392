use native.Mathlib.Omega.{arith}
use Rattle.bounded_rows.proofs.Turning.{eight_words, nine, three, stop, start, moving, move}
use borrow.Author.Rules.{rules}
use Rattle.bounded_rows.proofs.turn.Goals as goal

pub returns-in_default : goal.returns-in_default
returns-in_default c =
    let a = c.args in let p = c.requires in let e = c.entry_of in
    let z = nine a.head.now a.slots.now a.records.now p.records_value p.records_value_2 a.bits a.first a.second e.result e.ensures (search rules) in
    record { records_after = z.0; records_after_2 = z.1; records_after_3 = z.2 }

pub returns-then-count-worker : goal.returns-then-count-worker
returns-then-count-worker c =
    let a = c.args in
    let p = c.requires in let e = c.entry_of in
    let z = three a.head.now a.slots.now a.records.now p.records_value p.records_value_2 a.bits a.first a.second e.result e.ensures c.in-Asks.worker c.in-Asks.order (search rules) c.if-count-worker.true in
    record { records_after = z.0; records_after_2 = z.1; records_after_3 = z.2 }

pub bounds-head-6 : goal.bounds-head-6
bounds-head-6 c =
    let a = c.args in let p = c.requires in omega (
      arith,
      eight_words a.head.now a.slots.now a.records.now p.records_value p.records_value_2,
    )

pub act-requires : goal.act-requires
act-requires c =
    let a = c.args
    in let p = c.requires in
    let e = c.entry_of in
    let v = c.verdict_in-verdict in
    moving a.head.now a.slots.now a.records.now p.records_value p.records_value_2 a.bits a.first a.second e.result e.ensures c.in-Asks.worker c.in-Asks.order
    (search rules)
    c.if-count-worker.false
    v.result v.ensures c.in-Move.lose (search rules)

pub returns-in-Refuse : goal.returns-in-Refuse
returns-in-Refuse c =
    let a = c.args
    in let p = c.requires in
    let e = c.entry_of in
    let v = c.verdict_in-verdict in
    let z = stop a.head.now a.slots.now a.records.now p.records_value p.records_value_2 a.bits a.first a.second e.result e.ensures c.in-Asks.worker c.in-Asks.order
    (search rules)
    c.if-count-worker.false
    v.result v.ensures c.in-Refuse.number (search rules) in
    record { records_after = z.0; records_after_2 = z.1; records_after_3 = z.2 }

pub returns-in-Start : goal.returns-in-Start
returns-in-Start c =
    let a = c.args in let p = c.requires in let e =
    c.entry_of in
    let v = c.verdict_in-verdict in
    let z = start a.head.now a.slots.now a.records.now p.records_value p.records_value_2 a.bits a.first a.second e.result e.ensures c.in-Asks.worker c.in-Asks.order
    (search rules)
    c.if-count-worker.false
    v.result v.ensures c.in-Start.call (search rules) _ c.begin.ensures in
    record { records_after = z.0; records_after_2 = z.1; records_after_3 = z.2 }

pub returns-in-Move : goal.returns-in-Move
returns-in-Move c =
    let a = c.args in
    let p = c.requires in
    let e = c.entry_of in
    let v = c.verdict_in-verdict in
    let z = move a.head.now a.slots.now a.records.now p.records_value p.records_value_2 a.bits a.first a.second e.result e.ensures c.in-Asks.worker c.in-Asks.order
    (search rules) c.if-count-worker.false
    v.result v.ensures c.in-Move.lose (search rules) _ _ _ c.act.ensures in
    record { records_after = z.0; records_after_2 = z.1; records_after_3 = z.2 }
