use Rattle.bounded_sixteen_host.proofs.Making.{make_six, make_refused, make_seven, few_slots, few_editions, few_stamps, make_done}
use borrow.Author.Rules.{rules}
use Rattle.bounded_sixteen_host.proofs.fern_ring16_make.Goals as goal

pub returns-then-not-shaped_for : goal.returns-then-not-shaped_for
returns-then-not-shaped_for c = let a = c.args in
    make_six a.head.now a.meter.now a.stamps.now a.values.now a.records.now a.capacity a.edition c.shaped_for.result
    c.shaped_for.ensures c.if-not-shaped_for.true

pub returns-then-refusal-ne0 : goal.returns-then-refusal-ne0
returns-then-refusal-ne0 c = let a = c.args in
    make_refused a.head.now a.meter.now a.stamps.now a.values.now a.records.now a.capacity a.edition
    c.shaped_for.result c.shaped_for.ensures c.if-not-shaped_for.false
    c.make_refusal-refusal.result c.make_refusal-refusal.ensures c.if-refusal-ne0.true

pub put_fresh-requires : goal.put_fresh-requires
put_fresh-requires c = let a = c.args in record {
  head_len = make_seven a.head.now a.meter.now a.stamps.now a.values.now a.records.now a.capacity a.edition
      c.shaped_for.result c.shaped_for.ensures c.if-not-shaped_for.false
      c.make_refusal-refusal.result c.make_refusal-refusal.ensures c.if-refusal-ne0.false;
  capacity_le_slots_most = few_slots a.head.now a.meter.now a.stamps.now a.values.now a.records.now a.capacity a.edition
      c.shaped_for.result c.shaped_for.ensures c.if-not-shaped_for.false
      c.make_refusal-refusal.result c.make_refusal-refusal.ensures c.if-refusal-ne0.false;
  edition_le_editions_most = few_editions a.head.now a.meter.now a.stamps.now a.values.now a.records.now a.capacity a.edition
      c.shaped_for.result c.shaped_for.ensures c.if-not-shaped_for.false
      c.make_refusal-refusal.result c.make_refusal-refusal.ensures c.if-refusal-ne0.false;
}

pub put_stamps-requires : goal.put_stamps-requires
put_stamps-requires c = let a = c.args in few_stamps a.head.now a.meter.now a.stamps.now a.values.now a.records.now a.capacity a.edition
    c.shaped_for.result
    c.shaped_for.ensures
    c.if-not-shaped_for.false c.make_refusal-refusal.result
    c.make_refusal-refusal.ensures c.if-refusal-ne0.false

pub returns : goal.returns
returns c = search (rules, make_done)
