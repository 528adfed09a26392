use Prim.Native.Nat.{◌<◌}
use native.Mathlib.Omega.{arith}
use Rattle.bounded_words.specs.Limits.{slots_most}
use Rattle.bounded_machine.proofs.Items.{fair_at, wrapped_below, item_is, index_small}
use borrow.Author.Rules.{rules}
use Rattle.bounded_machine.proofs.item_at.Goals as goal

pub index-requires : goal.index-requires
index-requires c = rw c.fixed.ensures (search (rules, fair_at))

pub overflow_add-at : goal.overflow_add-at
overflow_add-at c = let i = rw c.fixed.ensures at c.index.ensures in search (rules, index_small)

pub offset_bounds-ring-wrap : goal.offset_bounds-ring-wrap
offset_bounds-ring-wrap c = let i = rw c.fixed.ensures at c.index.ensures in let h : c.wrap.result < slots_most = search (rules, wrapped_below) in omega arith

pub bounds-ring-wrap : goal.bounds-ring-wrap
bounds-ring-wrap c = let i = rw c.fixed.ensures at c.index.ensures in search (rules, wrapped_below)

pub returns : goal.returns
returns c = let i = rw c.fixed.ensures at c.index.ensures in search (rules, item_is)
