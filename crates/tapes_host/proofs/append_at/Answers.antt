use Rattle.tapes_host.proofs.Recording.{not_carried, no_room_left, entry_byte, entry_has_room, one_more}
use borrow.Author.Rules.{rules}
use Rattle.tapes_host.proofs.append_at.Goals as goal

pub returns-then-not-carried : goal.returns-then-not-carried
returns-then-not-carried c = search (rules, not_carried)

pub returns-then-tape-all : goal.returns-then-tape-all
returns-then-tape-all c = search (rules, no_room_left)

pub put_entry-requires : goal.put_entry-requires
put_entry-requires c = (search (rules, entry_byte), search (rules, entry_has_room))

pub returns : goal.returns
returns c = search (rules, one_more)
