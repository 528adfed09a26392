use Rattle.bounded_sixteen_rows.proofs.Turning.{ends_short, slot_short, seven_words, record_room, fair, fits, slot_room, turned}
use Rattle.bounded_sixteen_rows.proofs.turn.Goals as goal

pub record_at-r-requires : goal.record_at-r-requires
record_at-r-requires c = let a = c.args in record_room a.head.now a.meter.now a.stamps.now a.values.now a.records.now c.requires.records_value c.requires.records_value_2 a.first a.second
    c.worker_of-w.result c.worker_of-w.ensures

pub fixed_in-f-requires : goal.fixed_in-f-requires
fixed_in-f-requires c = let a = c.args in
    seven_words a.head.now a.meter.now a.stamps.now a.values.now a.records.now c.requires.records_value c.requires.records_value_2

pub ends_in-e-requires : goal.ends_in-e-requires
ends_in-e-requires c = let a = c.args in
    seven_words a.head.now a.meter.now a.stamps.now a.values.now a.records.now c.requires.records_value c.requires.records_value_2

pub slot_of-k-requires : goal.slot_of-k-requires
slot_of-k-requires c = let a = c.args in
    fair a.head.now a.meter.now a.stamps.now a.values.now a.records.now c.requires.records_value c.requires.records_value_2 a.first a.second
    c.worker_of-w.result c.worker_of-w.ensures
    c.fixed_in-f.result c.fixed_in-f.ensures c.record_at-r.result
    c.record_at-r.ensures

pub slot_at-s-requires : goal.slot_at-s-requires
slot_at-s-requires c = let a = c.args in
    let z = slot_room a.head.now a.meter.now a.stamps.now a.values.now a.records.now c.requires.records_value c.requires.records_value_2 a.first a.second
    c.worker_of-w.result
    c.worker_of-w.ensures
    c.fixed_in-f.result c.fixed_in-f.ensures
    c.record_at-r.result
    c.record_at-r.ensures c.slot_of-k.result
    c.slot_of-k.ensures in record { k_in_bounds = z.0; k_in_bounds_2 = z.1 }

pub turn_on-t-requires : goal.turn_on-t-requires
turn_on-t-requires c = let a = c.args in record {
  fair = fair a.head.now a.meter.now a.stamps.now a.values.now a.records.now c.requires.records_value c.requires.records_value_2 a.first a.second
      c.worker_of-w.result
      c.worker_of-w.ensures
      c.fixed_in-f.result c.fixed_in-f.ensures
      c.record_at-r.result
      c.record_at-r.ensures;
  true_value = fits a.head.now a.meter.now a.stamps.now a.values.now a.records.now c.requires.records_value c.requires.records_value_2 a.first a.second
      c.worker_of-w.result
      c.worker_of-w.ensures
      c.fixed_in-f.result c.fixed_in-f.ensures
      c.record_at-r.result
      c.record_at-r.ensures;
}

pub put_ends-requires : goal.put_ends-requires
put_ends-requires c = let a = c.args in let p =
    c.requires in let z = ends_short c.fixed_in-f.result c.ends_in-e.result
    c.slot_at-s.result
    c.record_at-r.result a.meter.now _
    a.first a.second c.worker_of-w.result c.slot_of-k.result
    c.turn_on-t.result c.ends_in-e.ensures.head c.ends_in-e.ensures.tail
    c.slot_at-s.ensures.short
    c.worker_of-w.ensures
    c.slot_of-k.ensures c.turn_on-t.ensures in
    record { head_len = seven_words a.head.now a.meter.now a.stamps.now a.values.now a.records.now p.records_value p.records_value_2; head_lt_narrow = z.0; tail_lt_narrow = z.1 }

pub put_slot-requires : goal.put_slot-requires
put_slot-requires c = let a = c.args in
    let z = slot_room a.head.now a.meter.now a.stamps.now a.values.now a.records.now c.requires.records_value c.requires.records_value_2 a.first a.second
    c.worker_of-w.result c.worker_of-w.ensures
    c.fixed_in-f.result c.fixed_in-f.ensures c.record_at-r.result c.record_at-r.ensures
    c.slot_of-k.result
    c.slot_of-k.ensures in record {
      k_in_bounds = z.0;
      k_in_bounds_2 = z.1;
      stamp_lt_narrow = slot_short c.fixed_in-f.result c.ends_in-e.result c.slot_at-s.result
          c.record_at-r.result a.meter.now _ a.first a.second
          c.worker_of-w.result c.slot_of-k.result c.turn_on-t.result
          c.ends_in-e.ensures.head
          c.ends_in-e.ensures.tail
          c.slot_at-s.ensures.short
          c.worker_of-w.ensures c.slot_of-k.ensures c.turn_on-t.ensures;
    }

pub put_record-requires : goal.put_record-requires
put_record-requires c = let a = c.args in
    record_room a.head.now a.meter.now a.stamps.now a.values.now a.records.now c.requires.records_value c.requires.records_value_2 a.first a.second
    c.worker_of-w.result
    c.worker_of-w.ensures

pub returns : goal.returns
returns c = let a = c.args in
    let z = turned a.head.now a.meter.now a.stamps.now a.values.now a.records.now c.requires.records_value c.requires.records_value_2 a.first a.second
    c.worker_of-w.result
    c.worker_of-w.ensures
    c.fixed_in-f.result
    c.fixed_in-f.ensures
    c.record_at-r.result
    c.record_at-r.ensures
    c.slot_of-k.result c.slot_of-k.ensures
    c.ends_in-e.result c.ends_in-e.ensures.same
    c.slot_at-s.result c.slot_at-s.ensures.same c.turn_on-t.result
    c.turn_on-t.ensures _ _ _ _ c.put_ends.ensures
    c.put_slot.ensures.stamps
    c.put_slot.ensures.values c.put_record.ensures in record { records_after = z.0; records_after_2 = z.1; records_after_3 = z.2 }
