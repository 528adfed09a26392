use mathlib.Core.Path.{refl}
use native.Mathlib.Omega.{arith}
use borrow.Author.Rules.{rules}
use lib.ListN.{length-set}
use Rattle.bounded_orders.proofs.Listing.{turned_6, turned_4, turned_10, listed, filled_none, filled_more, sound_by}
use Rattle.bounded_machine.proofs.Items.{small_count}
use Rattle.bounded_orders.proofs.contents_by.Goals as goal

pub returns-then-broken : goal.returns-then-broken
returns-then-broken c = search (rules, turned_6)

pub returns-then-not-idle : goal.returns-then-not-idle
returns-then-not-idle c = search (rules, turned_4)

pub count_in-n-requires : goal.count_in-n-requires
count_in-n-requires c = search (rules, sound_by)

pub returns-then-buffer-n : goal.returns-then-buffer-n
returns-then-buffer-n c = search (rules, turned_10)

pub loop-k-init : goal.loop-k-init
loop-k-init c = (omega arith, refl, filled_none _ _)

pub item_at-requires : goal.item_at-requires
item_at-requires c = search (rules, sound_by, small_count)

pub loop-k-preserved : goal.loop-k-preserved
loop-k-preserved c = let l = c.loop-k.invariant in (l.0, simp length-set l.1, filled_more _ _ _ _ _ (omega arith) l.2 c.item_at.ensures)

pub returns : goal.returns
returns c =
    let n = c.count_in-n in
    let l = c.loop-k in
    listed _ _ _ _ (search rules) (search rules) n.result n.ensures _ l.k (omega arith) (omega arith) l.invariant.2
