use Rattle.std.proofs.Common.{ℕ, ◌∙◌, sym, ap, arith, take, drop}
use Rattle.std.proofs.lemmas.List.{length-take-le}
use Rattle.bounded_lent.specs.Lent.{Gone, run_lent}
use Rattle.bounded_lent_by_value.specs.Lends.{passed, passes_of}
use Rattle.bounded_lent_by_value.proofs.Most.{none_over}
use Rattle.bounded_lent_by_value.proofs.lend_all.Goals as goal

pub slice_bounds-records-end : goal.slice_bounds-records-end
slice_bounds-records-end c = omega (arith, c.at_most-n.ensures, none_over c.args.count)

pub slice_bounds-run-end : goal.slice_bounds-run-end
slice_bounds-run-end c =
    sym (length-take-le c.at_most-n.result c.args.all (omega (arith, c.at_most-n.ensures, none_over c.args.count)))

pub returns : goal.returns
unfolding passes_of
returns c =
    ap (λ (x : Gone). passed x (drop c.at_most-n.result c.args.all)) c.run-report.ensures
    ∙ ap (λ (k : ℕ). passed (run_lent c.args.l (take k c.args.all) c.args.schedule.now) (drop k c.args.all)) c.at_most-n.ensures
