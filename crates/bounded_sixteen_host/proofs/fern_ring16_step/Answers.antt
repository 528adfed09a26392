use Rattle.bounded_sixteen_host.proofs.Running.{step_six, sound, stands_so, stepped}
use borrow.Author.Rules.{rules}
use Rattle.bounded_sixteen_host.proofs.fern_ring16_step.Goals as goal

pub returns-then-broken : goal.returns-then-broken
returns-then-broken c = let a = c.args in
    step_six a.head.now a.meter.now a.stamps.now a.values.now a.records.now c.broken.result c.broken.ensures
    a.first a.second c.if-broken.true

pub turn-requires : goal.turn-requires
turn-requires c = let a = c.args in record {
  records_value = sound a.head.now a.meter.now a.stamps.now a.values.now a.records.now
      c.broken.result c.broken.ensures
      c.if-broken.false;
  records_value_2 = stands_so a.head.now a.meter.now a.stamps.now a.values.now a.records.now
      c.broken.result c.broken.ensures
      c.if-broken.false;
}

pub returns : goal.returns
returns c = search (rules, stepped)
