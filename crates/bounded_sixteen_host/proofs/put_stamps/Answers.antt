use Rattle.bounded_sixteen_host.proofs.Making.{none_stamped, stamped_long, stamp_room, stamp_fits, one_stamped, all_stamped}
use borrow.Author.Rules.{rules}
use Rattle.bounded_sixteen_host.proofs.put_stamps.Goals as goal

pub loop-i-init : goal.loop-i-init
loop-i-init c = search (rules, none_stamped)

pub overflow_cast-stamps : goal.overflow_cast-stamps
overflow_cast-stamps c = search (rules, stamp_fits)

pub bounds-stamps-i : goal.bounds-stamps-i
bounds-stamps-i c = search (rules, stamp_room)

pub loop-i-preserved : goal.loop-i-preserved
loop-i-preserved c = search (rules, one_stamped)

pub shape_of-stamps : goal.shape_of-stamps
shape_of-stamps c = search (rules, stamped_long)

pub returns : goal.returns
returns c = search (rules, all_stamped)
