use borrow.Author.Rules.{rules}
use Rattle.unbounded_rows.proofs.Going.{places_begin, places_end, place_room, no_place, places_more}
use Rattle.unbounded_rows.proofs.all_placed.Goals as goal

pub loop-i-init : goal.loop-i-init
loop-i-init c = search (rules, places_begin)

pub placed_at-requires : goal.placed_at-requires
placed_at-requires c = search (rules, place_room)

pub loop-i-preserved : goal.loop-i-preserved
loop-i-preserved c = search (rules, places_more)

pub returns-then-not-placed_at : goal.returns-then-not-placed_at
returns-then-not-placed_at c = search (rules, no_place)

pub returns : goal.returns
returns c = search (rules, places_end)
