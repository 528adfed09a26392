use Prim.Native.Nat.{◌+◌, ◌*◌}
use mathlib.Core.Path.{◌≡◌, refl}
use native.Mathlib.Omega.{arith}
use borrow.Author.Rules.{rules}
use lib.ListN.{length-set}
use Rattle.tapes.proofs.Hears.{none_copied, no_other, entry_there, words_left, two_written, all_copied, even_words}
use Rattle.tapes.proofs.copy.Goals as goal

pub loop-i-init : goal.loop-i-init
loop-i-init c = let n = none_copied c.args.v c.args.bytes.now c.args.buffer.now in
    (omega arith, c.requires.1, c.requires.2, refl, n.0, n.1)

pub returns-in_default : goal.returns-in_default
returns-in_default c = let l = c.loop-i in
    absurd (no_other c.args.v c.args.bytes.now _ l.at (2 * l.i) c.field_in.result l.invariant.0 (omega arith) c.field_in.ensures l.invariant.5 c.in_default.not-Entry)

pub loop-i-preserved : goal.loop-i-preserved
loop-i-preserved c = let l = c.loop-i in
    let up : 2 * (l.i + 1) ≡ 2 * l.i + 2 = omega arith in (
      entry_there c.args.v c.args.bytes.now _ l.at (2 * l.i) c.field_in.result l.invariant.0 (omega arith) c.field_in.ensures l.invariant.5
          c.in-Entry.first c.in-Entry.item (search rules) _ c.size-at.ensures.0,
      l.invariant.1,
      l.invariant.2,
      simp length-set l.invariant.3,
      rw up (two_written c.args.v c.args.bytes.now _ l.at (2 * l.i) c.field_in.result l.invariant.0 (omega arith) c.field_in.ensures l.invariant.5
          c.in-Entry.first c.in-Entry.item (search rules) _ _ (omega arith) l.invariant.4),
      rw up (words_left c.args.v c.args.bytes.now _ l.at (2 * l.i) c.field_in.result l.invariant.0 (omega arith) c.field_in.ensures l.invariant.5
          c.in-Entry.first c.in-Entry.item (search rules) _ c.size-at.ensures.0),
    )

pub returns : goal.returns
returns c = let l = c.loop-i in all_copied _ _ _ (2 * l.i) (omega (arith, even_words c.args.v c.args.bytes.now)) l.invariant.4
