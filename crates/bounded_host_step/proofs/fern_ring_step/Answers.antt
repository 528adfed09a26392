use Rattle.bounded_host_step.proofs.Stepping.{step_six, stepped}
use Rattle.bounded_slices.proofs.Judged.{sound, stands_so}
use borrow.Author.Rules.{rules}
use Rattle.bounded_host_step.proofs.fern_ring_step.Goals as goal

pub returns-then-broken : goal.returns-then-broken
returns-then-broken c = search (rules, step_six)

pub turn-requires : goal.turn-requires
turn-requires c = record {
  records_value = sound c.args.head.now
      c.args.slots.now
      c.args.records.now
      c.broken.result c.broken.ensures c.if-broken.false;
  records_value_2 = stands_so c.args.head.now
      c.args.slots.now
      c.args.records.now
      c.broken.result c.broken.ensures c.if-broken.false;
}

pub returns : goal.returns
returns c = search (rules, stepped)
