use Prim.Native.Nat.{◌*◌}
use native.Mathlib.Omega.{arith}
use Rattle.bounded_words.proofs.Marks.{mark_is}
use Rattle.bounded_sixteen_host.proofs.Making.{room_5, room_6, room_7, fresh_written}
use Rattle.bounded_sixteen_host.proofs.put_fresh.Goals as goal

pub overflow_cast-head : goal.overflow_cast-head
overflow_cast-head c = let s = mark_is c.args.capacity in omega (arith, s.least, c.mark_of-mark.ensures)

pub overflow_mul-head : goal.overflow_mul-head
overflow_mul-head c = let s = mark_is c.args.capacity in omega (arith, s.least, c.mark_of-mark.ensures)

pub overflow_cast-head-2 : goal.overflow_cast-head-2
overflow_cast-head-2 c = let s = mark_is c.args.capacity in omega (arith, s.least, c.mark_of-mark.ensures)

pub bounds-head-4 : goal.bounds-head-4
bounds-head-4 c = let a = c.args in let m = c.mark_of-mark.result in room_5 a.head.now m (2 * m) a.capacity a.edition c.requires.head_len

pub bounds-head-5 : goal.bounds-head-5
bounds-head-5 c = let a = c.args in let m = c.mark_of-mark.result in room_6 a.head.now m (2 * m) a.capacity a.edition c.requires.head_len 0

pub bounds-head-6 : goal.bounds-head-6
bounds-head-6 c = let a = c.args in let m = c.mark_of-mark.result in room_7 a.head.now m (2 * m) a.capacity a.edition c.requires.head_len 0 0

pub returns : goal.returns
returns c = let a = c.args in fresh_written a.head.now a.capacity c.mark_of-mark.result a.edition c.requires.head_len c.mark_of-mark.ensures
