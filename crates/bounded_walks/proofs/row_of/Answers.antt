use mathlib.Core.Path.{refl, ◌∙◌}
use native.Mathlib.Omega.{arith}
use lib.ListN.{length-set}
use Rattle.bounded_walks.proofs.Facts.{row_more, row_whole}
use Rattle.bounded_walks.proofs.row_of.Goals as goal

pub loop-i-init : goal.loop-i-init
loop-i-init c = (omega (arith, c.well_formed), refl, refl)

pub loop-i-preserved : goal.loop-i-preserved
loop-i-preserved c =
    let l = c.loop-i in (
      l.invariant.0,
      length-set l.row l.i c.number_of.result ∙ l.invariant.1,
      row_more c.args.slots c.args.value l.invariant.0 l.row l.i c.number_of.result l.invariant.1 (omega arith) c.number_of.ensures l.invariant.2,
    )

pub returns : goal.returns
returns c =
    let l = c.loop-i in
    row_whole c.args.slots c.args.value l.invariant.0 l.row l.i l.invariant.1 (omega arith) l.invariant.2
