use mathlib.Core.Path.{sym, ◌∙◌}
use mathlib.Core.Logic.{inl, inr}
use borrow.Author.Rules.{rules}
use borrow.Author.Tests.{leb-false}
use Rattle.tapes_host.proofs.Recording.{no_head, no_end, past_room, in_room}
use Rattle.tapes_host.proofs.stands.Goals as goal
use Rattle.tapes_host.proofs.stands.Goals.{then-room-ge3, else-room-ge3}

pub returns-then-long-room : goal.returns-then-long-room
returns-then-long-room c = search (rules, in_room)

pub returns-else-long-room : goal.returns-else-long-room
returns-else-long-room c =
    let false_is = c.if-long-room.false in
    elim c.if-room-ge3.branch [
      | then-room-ge3 w ↦ false_is ∙ past_room _ _ _ w.if-room-ge3.true.0 w.if-room-ge3.true.1 (leb-false _ _ (sym w.value-is ∙ false_is))
      | else-room-ge3 w ↦ elim w.if-room-ge3.either [ inl p ↦ false_is ∙ no_end _ _ _ p.0 p.1 | inr p ↦ false_is ∙ no_head _ _ _ p ]
    ]
