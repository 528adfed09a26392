use mathlib.Core.Path.{refl}
use native.Mathlib.Omega.{arith}
use Rattle.tapes.proofs.Fills.{length_tape, head_past, entry_byte, entry_room, entry_in, entry_left, entry_load, entry_written, end_room, end_written, over_itself}
use Rattle.tapes.proofs.fill.Goals as goal

pub put_head-requires : goal.put_head-requires
put_head-requires c = omega (
  arith,
  length_tape c.args.v c.args.capacity
      c.args.workers c.args.words.now,
)

pub loop-i-init : goal.loop-i-init
loop-i-init c = let p = c.put_head in (
  omega (
    arith,
    length_tape c.args.v
        c.args.capacity c.args.workers
        c.args.words.now,
  ),
  omega (arith, p.auto.buffer),
  refl,
  over_itself c.args.v c.args.capacity
      c.args.workers c.args.words.now
      c.args.buffer.now p.new.buffer p.ensures,
  head_past c.args.v c.args.capacity
      c.args.workers c.args.words.now,
  c.requires.0,
)

pub put_entry-requires : goal.put_entry-requires
put_entry-requires c = let l = c.loop-i in (
  entry_byte c.args.v
      c.args.capacity
      c.args.workers
      c.args.words.now _ _ l.i l.at _ l.invariant.0
      l.invariant.1 l.invariant.3 l.invariant.4 (omega arith) l.invariant.5,
  entry_room c.args.v
      c.args.capacity
      c.args.workers
      c.args.words.now _ _ l.i l.at _ l.invariant.0
      l.invariant.1 l.invariant.3 l.invariant.4 (omega arith) l.invariant.5,
)

pub loop-i-preserved : goal.loop-i-preserved
loop-i-preserved c = let l = c.loop-i in
    let p = c.put_entry in (
      entry_in c.args.v
          c.args.capacity
          c.args.workers
          c.args.words.now _ _
          l.i l.at _ l.invariant.0 l.invariant.1 l.invariant.3 l.invariant.4 (omega arith) l.invariant.5 _ c.size-at.ensures.0,
      l.invariant.1,
      omega (arith, p.auto.buffer),
      entry_written c.args.v
          c.args.capacity
          c.args.workers
          c.args.words.now _ _
          l.i l.at _ l.invariant.0 l.invariant.1 l.invariant.3 l.invariant.4 (omega arith) l.invariant.5 _ c.size-at.ensures.0 _ p.ensures,
      entry_left c.args.v
          c.args.capacity
          c.args.workers
          c.args.words.now _ _
          l.i l.at _ l.invariant.0 l.invariant.1 l.invariant.3 l.invariant.4 (omega arith) l.invariant.5 _ c.size-at.ensures.0,
      entry_load c.args.v
          c.args.capacity
          c.args.workers
          c.args.words.now _ _
          l.i l.at _ l.invariant.0 l.invariant.1 l.invariant.3 l.invariant.4 (omega arith) l.invariant.5 _ c.size-at.ensures.0,
    )

pub put_end-requires : goal.put_end-requires
put_end-requires c = let l = c.loop-i in end_room c.args.v
    c.args.capacity
    c.args.workers
    c.args.words.now _ _ l.i l.at 0 l.invariant.0 l.invariant.1 l.invariant.3
    l.invariant.4 (omega arith)

pub shape_of-buffer : goal.shape_of-buffer
shape_of-buffer c = omega (arith, c.put_end.auto.buffer)

pub returns : goal.returns
returns c = let l = c.loop-i in
    end_written c.args.v
    c.args.capacity
    c.args.workers
    c.args.words.now _ _ l.i l.at 0 l.invariant.0
    l.invariant.1 l.invariant.3 l.invariant.4 (omega arith) _ _ c.put_head.ensures
    c.put_end.ensures
