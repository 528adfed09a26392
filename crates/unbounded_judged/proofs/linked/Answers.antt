use mathlib.Core.Path.{◌∙◌}
use borrow.Author.Tests.{le-ltb}
use Rattle.unbounded_judged.proofs.Kept.{linked_behind, linked_wraps, linked_far, linked_by}
use Rattle.unbounded_judged.proofs.linked.Goals as goal

pub returns-then-t-h : goal.returns-then-t-h
returns-then-t-h c = linked_behind _ _ _ _ c.unmarked-h.ensures c.unmarked-t.ensures c.if-t-h.true

pub returns-then-last-ge-LAPS : goal.returns-then-last-ge-LAPS
returns-then-last-ge-LAPS c = linked_wraps _ _ _ _ c.unmarked-h.ensures
    c.unmarked-t.ensures c.if-t-h.false c.if-last-ge-LAPS.true

pub returns-then-last-first : goal.returns-then-last-first
returns-then-last-first c = linked_by _ _ _ _ c.unmarked-h.ensures
    c.unmarked-t.ensures c.if-t-h.false
    c.if-last-ge-LAPS.false c.if-last-first.true _ c.number-k.ensures _
    c.linked_from.ensures

pub returns-else-last-first : goal.returns-else-last-first
returns-else-last-first c = le-ltb _ _ c.if-last-first.false ∙ linked_far _ _ _ _ c.unmarked-h.ensures
    c.unmarked-t.ensures c.if-t-h.false c.if-last-ge-LAPS.false
    c.if-last-first.false
