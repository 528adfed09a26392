use Rattle.std.proofs.Common.{ℕ, ◌∙◌, sym, ap, arith, take, drop}
use Rattle.std.proofs.lemmas.List.{length-take-le}
use Rattle.bounded_lent.specs.Lent.{Lent, step_lent}
use Rattle.bounded_lent_by_value.specs.Lends.{stepped, lends_of}
use Rattle.bounded_lent_by_value.proofs.Most.{none_over}
use Rattle.bounded_lent_by_value.proofs.lend.Goals as goal

pub slice_bounds-records-end : goal.slice_bounds-records-end
slice_bounds-records-end c = omega (arith, c.at_most-n.ensures, none_over c.args.count)

pub slice_bounds-step-end : goal.slice_bounds-step-end
slice_bounds-step-end c =
    sym (length-take-le c.at_most-n.result c.args.all (omega (arith, c.at_most-n.ensures, none_over c.args.count)))

pub returns : goal.returns
unfolding lends_of
returns c =
    ap (λ (x : Lent). stepped x (drop c.at_most-n.result c.args.all)) c.step-refusal.ensures
    ∙ ap (λ (k : ℕ). stepped (step_lent c.args.l (take k c.args.all) c.args.first c.args.second) (drop k c.args.all)) c.at_most-n.ensures
