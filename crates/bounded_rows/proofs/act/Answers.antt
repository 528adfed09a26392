use native.Mathlib.Omega.{arith}
use Rattle.bounded_rows.proofs.Acting.{eight, record_room, fair, word_fits, few, slot_room, acted}
use borrow.Author.Rules.{rules}
use Rattle.bounded_rows.proofs.act.Goals as goal

pub fixed_in-f-requires : goal.fixed_in-f-requires
fixed_in-f-requires c =
    let a = c.args in let p = c.requires in
    eight a.head.now a.slots.now a.records.now a.i p

pub ends_in-e-requires : goal.ends_in-e-requires
ends_in-e-requires c =
    let a = c.args in let p = c.requires in
    eight a.head.now a.slots.now a.records.now a.i p

pub bounds-head-6 : goal.bounds-head-6
bounds-head-6 c =
    let a = c.args in let p = c.requires in
    omega (arith, eight a.head.now a.slots.now a.records.now a.i p)

pub overflow_mul-at : goal.overflow_mul-at
overflow_mul-at c =
    let a = c.args in let p = c.requires in
    search (rules, record_room a.head.now a.slots.now a.records.now a.i p)

pub offset_bounds-records-at : goal.offset_bounds-records-at
offset_bounds-records-at c =
    let a = c.args in let p = c.requires in
    search (rules, record_room a.head.now a.slots.now a.records.now a.i p)

pub bounds-records-at : goal.bounds-records-at
bounds-records-at c =
    let a = c.args in let p = c.requires in
    search (rules, record_room a.head.now a.slots.now a.records.now a.i p)

pub overflow_add-at : goal.overflow_add-at
overflow_add-at c =
    let a = c.args in let p = c.requires in
    search (rules, record_room a.head.now a.slots.now a.records.now a.i p)

pub offset_bounds-records-at-2 : goal.offset_bounds-records-at-2
offset_bounds-records-at-2 c =
    let a = c.args in let p = c.requires in
    search (rules, record_room a.head.now a.slots.now a.records.now a.i p)

pub bounds-records-at-2 : goal.bounds-records-at-2
bounds-records-at-2 c =
    let a = c.args in let p = c.requires in
    search (rules, record_room a.head.now a.slots.now a.records.now a.i p)

pub overflow_add-at-2 : goal.overflow_add-at-2
overflow_add-at-2 c =
    let a = c.args in let p = c.requires in
    search (rules, record_room a.head.now a.slots.now a.records.now a.i p)

pub offset_bounds-records-at-3 : goal.offset_bounds-records-at-3
offset_bounds-records-at-3 c =
    let a = c.args in let p = c.requires in
    search (rules, record_room a.head.now a.slots.now a.records.now a.i p)

pub bounds-records-at-3 : goal.bounds-records-at-3
bounds-records-at-3 c =
    let a = c.args in let p = c.requires in
    search (rules, record_room a.head.now a.slots.now a.records.now a.i p)

pub spot-k-requires : goal.spot-k-requires
spot-k-requires c =
    let a = c.args in let p = c.requires in
    let f = c.fixed_in-f in
    fair a.head.now a.slots.now a.records.now a.i p f.result f.ensures

pub slot_at-s-requires : goal.slot_at-s-requires
slot_at-s-requires c =
    let a = c.args in let p = c.requires in
    let f = c.fixed_in-f in
    let d = c.words_held-held in
    let k = c.spot-k in
    slot_room a.head.now a.slots.now a.records.now a.i p f.result f.ensures d.result d.ensures k.result k.ensures

pub record_at-r-requires : goal.record_at-r-requires
record_at-r-requires c =
    let a = c.args in let p = c.requires in
    record_room a.head.now a.slots.now a.records.now a.i p

pub act_at-a-requires : goal.act_at-a-requires
act_at-a-requires c =
    let a = c.args in let p = c.requires in
    let f = c.fixed_in-f in
    let r = c.record_at-r in
    record {
      fair = fair a.head.now a.slots.now a.records.now a.i p f.result f.ensures;
      held = word_fits a.head.now a.slots.now a.records.now a.i p f.result f.ensures r.result r.ensures;
    }

pub record_after-after-requires : goal.record_after-after-requires
record_after-after-requires c =
    let a = c.args in let
    p = c.requires in
    let f = c.fixed_in-f in
    let r = c.record_at-r in
    few a.head.now a.slots.now a.records.now a.i p f.result f.ensures r.result r.ensures

pub overflow_add-meter : goal.overflow_add-meter
overflow_add-meter c =
    let p = c.requires in
    record { fits = omega (arith, p.in_time) }

pub put_head-requires : goal.put_head-requires
put_head-requires c =
    let a = c.args in let p = c.requires in
    eight a.head.now a.slots.now a.records.now a.i p

pub put_slot-requires : goal.put_slot-requires
put_slot-requires c =
    let a = c.args in let p = c.requires in
    let f = c.fixed_in-f in
    let d = c.words_held-held in
    let k = c.spot-k in
    slot_room a.head.now a.slots.now a.records.now a.i p f.result f.ensures d.result d.ensures k.result k.ensures

pub put_record-requires : goal.put_record-requires
put_record-requires c =
    let a = c.args in let p = c.requires in
    record_room a.head.now a.slots.now a.records.now a.i p

pub returns : goal.returns
returns c =
    let a = c.args in let p = c.requires in
    let f = c.fixed_in-f in
    let d = c.words_held-held in
    let k = c.spot-k in
    let e = c.ends_in-e in
    let s = c.slot_at-s in
    let r = c.record_at-r in
    let x = c.act_at-a in
    let y = c.record_after-after in
    acted a.head.now a.slots.now a.records.now a.i p f.result f.ensures d.result d.ensures k.result k.ensures e.result e.ensures s.result s.ensures r.result r.ensures
    a.bits a.lose x.result x.ensures y.result y.ensures _ _ _ c.put_head.ensures c.put_slot.ensures c.put_record.ensures
