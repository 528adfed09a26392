use Rattle.bounded_sixteen_rows.proofs.Lists.{slot_read}
use Rattle.bounded_sixteen_rows.proofs.slot_at.Goals as goal

pub returns : goal.returns
returns c = record {
  same = slot_read c.args.stamps.now c.args.values.now
      c.args.k _ c.wide.ensures.same;
  short = c.wide.ensures.short;
}
