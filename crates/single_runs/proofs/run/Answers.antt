use mathlib.Core.Path.{sym, ◌∙◌}
use native.Mathlib.Omega.{arith}
use borrow.Author.Rules.{rules}
use Rattle.single_runs.proofs.Turns.{broken_run, odd_run, unread_run, read_run, unrefused_run}
use Rattle.single_runs.proofs.run.Goals as goal

pub returns-then-broken : goal.returns-then-broken
returns-then-broken c = c.unchanged.ensures ∙ broken_run _ _ c.broken.result c.broken.ensures c.if-broken.true

pub returns-then-schedule-eq1 : goal.returns-then-schedule-eq1
returns-then-schedule-eq1 c = c.unchanged-then-schedule-eq1.ensures ∙ odd_run _ _ c.broken.result c.broken.ensures c.if-broken.false c.if-schedule-eq1.true

pub entries-done-requires : goal.entries-done-requires
entries-done-requires c = let h = c.if-schedule-eq1.false in record { unbroken = sym c.broken.ensures ∙ c.if-broken.false; whole = omega arith }

pub returns-then-done-eq0 : goal.returns-then-done-eq0
returns-then-done-eq0 c =
    unrefused_run _ _ (sym c.broken.ensures ∙ c.if-broken.false) c.if-schedule-eq1.false c.entries-done.result c.entries-done.ensures c.if-done-eq0.true

pub returns-in-Some : goal.returns-in-Some
returns-in-Some c =
    c.unchanged-in-Some.ensures
    ∙ unread_run _ _ c.broken.result c.broken.ensures c.if-broken.false c.if-schedule-eq1.false c.search.result c.search.ensures _ (search rules)

pub returns-in-None : goal.returns-in-None
returns-in-None c =
    c.entries-done.ensures
    ∙ read_run _ _ c.broken.result c.broken.ensures c.if-broken.false c.if-schedule-eq1.false c.search.result c.search.ensures (search rules)
