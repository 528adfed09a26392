use Rattle.std.proofs.Common.{rules, arith, length-set}
use Rattle.tape_pieces.proofs.Stretches.{none_passed, no_bytes, entry_passed}
use Rattle.tapes_fields.specs.Fields.{size_of}
use Rattle.tape_pieces.proofs.entries.Goals as goal

pub loop-n-init : goal.loop-n-init
loop-n-init c = record {
  inside = omega arith;
  behind = omega arith;
  heard = none_passed c.args.v c.args.bytes.now c.args.words.now c.args.from;
}

pub returns-then-bytes-at-clause-next : goal.returns-then-bytes-at-clause-next
returns-then-bytes-at-clause-next c = no_bytes c.args.v c.args.bytes.now c.loop-n.at (search rules)

pub loop-n-preserved : goal.loop-n-preserved
unfolding size_of
loop-n-preserved c = record {
  inside = simp length-set (omega arith);
  behind = omega (arith, c.size-at.ensures.0);
  heard = entry_passed c.args.v c.args.bytes.now c.loop-n.at c.field_in-f.result c.field_in-f.ensures c.in-Entry.first c.in-Entry.item c.size-at.result
      c.in-Entry.is c.size-at.ensures.0 (search rules) c.loop-n.words c.args.from c.loop-n.n _ c.loop-n.invariant.behind (search rules)
      c.loop-n.invariant.heard;
}
