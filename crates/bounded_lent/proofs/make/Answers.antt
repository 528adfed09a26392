use Rattle.std.proofs.Common.{◌≡◌, ◌∙◌, sym, ap, arith, length, length-set}
use Rattle.bounded_lent.specs.Lent.{lent}
use Rattle.bounded_lent.proofs.Making.{none_idle, one_more, made_lent, idle_first, at_most_all}
use Rattle.bounded_lent.proofs.make.Goals as goal

pub loop-i-init : goal.loop-i-init
loop-i-init c = (omega (arith, c.unless_refused-n.ensures, at_most_all c.make-made.result.refusal (length c.args.records.now)), sym (none_idle c.args.records.now))

pub loop-i-preserved : goal.loop-i-preserved
loop-i-preserved c = (
  simp length-set c.loop-i.invariant.0,
  one_more c.loop-i.i c.args.records.now c.loop-i.records c.idle.result c.loop-i.invariant.1 c.idle.ensures,
)

pub returns : goal.returns
returns c =
    let n : c.loop-i.i ≡ c.unless_refused-n.result = omega arith in
    ap (lent c.make-made.result.refusal c.make-made.result.ring)
    (c.loop-i.invariant.1 ∙ ap (λ k. idle_first k c.args.records.now) (n ∙ c.unless_refused-n.ensures))
    ∙ made_lent c.args.records.now c.args.capacity c.args.edition c.make-made.result c.make-made.ensures
