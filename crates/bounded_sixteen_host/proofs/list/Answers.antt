use mathlib.Core.Path.{refl}
use native.Mathlib.Omega.{arith}
use lib.ListN.{length-set}
use Rattle.bounded_orders.proofs.Listing.{filled_none, filled_more}
use Rattle.bounded_sixteen_host.proofs.Listing.{four, ten, within_of, few, all_listed}
use borrow.Author.Rules.{rules}
use Rattle.bounded_sixteen_host.proofs.list.Goals as goal

pub returns-then-not-idle : goal.returns-then-not-idle
returns-then-not-idle c = search (rules, four)

pub count-n-requires : goal.count-n-requires
count-n-requires c = search (rules, within_of)

pub returns-then-buffer-n : goal.returns-then-buffer-n
returns-then-buffer-n c = search (rules, ten)

pub loop-k-init : goal.loop-k-init
loop-k-init c = (omega arith, refl, filled_none _ _)

pub item_at-requires : goal.item_at-requires
item_at-requires c = search (rules, few)

pub loop-k-preserved : goal.loop-k-preserved
loop-k-preserved c = let l = c.loop-k.invariant in (l.0, simp length-set l.1, filled_more _ _ _ _ _ (omega arith) l.2 c.item_at.ensures)

pub returns : goal.returns
returns c = search (rules, all_listed)
