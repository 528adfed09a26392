use mathlib.Core.Path.{sym, ◌∙◌}
use borrow.Author.Rules.{rules}
use Rattle.unbounded_runs.proofs.Turns.{broken_run, odd_run, unread_run, read_run}
use Rattle.unbounded_runs.proofs.run.Goals as goal

pub returns-then-broken_in : goal.returns-then-broken_in
returns-then-broken_in c = c.ran.ensures ∙ broken_run _ _ c.broken_in.result c.broken_in.ensures c.if-broken_in.true

pub returns-then-schedule-eq1 : goal.returns-then-schedule-eq1
returns-then-schedule-eq1 c = c.ran-then-schedule-eq1.ensures ∙ odd_run _ _ c.broken_in.result c.broken_in.ensures c.if-broken_in.false c.if-schedule-eq1.true

pub run_from-requires : goal.run_from-requires
run_from-requires c = sym c.broken_in.ensures ∙ c.if-broken_in.false

pub returns-in-Some : goal.returns-in-Some
returns-in-Some c = c.ran-in-Some.ensures ∙ unread_run _ _ c.broken_in.result
    c.broken_in.ensures c.if-broken_in.false
    c.if-schedule-eq1.false c.search_but.result
    c.search_but.ensures _ (search rules)

pub returns-in-None : goal.returns-in-None
returns-in-None c = c.run_from.ensures ∙ read_run _ _ c.broken_in.result
    c.broken_in.ensures c.if-broken_in.false
    c.if-schedule-eq1.false c.search_but.result c.search_but.ensures
    (search rules)
