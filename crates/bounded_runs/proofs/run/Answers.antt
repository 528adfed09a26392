use mathlib.Core.Path.{sym, ◌∙◌}
use native.Mathlib.Omega.{arith}
use Rattle.bounded_runs.proofs.Ended.{broken_run, odd_run, searched_run, not_refused}
use Rattle.bounded_runs.proofs.run.Goals as goal

pub returns-then-broken : goal.returns-then-broken
returns-then-broken c = c.unchanged.ensures ∙ broken_run _ _ _ c.broken.result c.broken.ensures c.if-broken.true

pub returns-then-schedule-eq1 : goal.returns-then-schedule-eq1
returns-then-schedule-eq1 c = c.unchanged-then-schedule-eq1.ensures ∙ odd_run _ _ _ c.broken.result c.broken.ensures c.if-broken.false c.if-schedule-eq1.true

pub entries-done-requires : goal.entries-done-requires
entries-done-requires c = let h = c.if-schedule-eq1.false in record { m_value = sym c.broken.ensures ∙ c.if-broken.false; schedule_len = omega arith }

pub returns-then-done-eq0 : goal.returns-then-done-eq0
returns-then-done-eq0 c =
    not_refused _ _ _ (sym c.broken.ensures ∙ c.if-broken.false) c.if-schedule-eq1.false c.entries-done.result c.entries-done.ensures c.if-done-eq0.true

pub returns : goal.returns
returns c =
    c.unless_unread.ensures
    ∙ searched_run _ _ _ c.broken.result c.broken.ensures c.if-broken.false c.if-schedule-eq1.false c.entries-done.result c.entries-done.ensures
