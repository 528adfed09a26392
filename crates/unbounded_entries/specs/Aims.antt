-- One entry as the loop takes it: where it goes, and what it leaves there. That it is `turn_of`: proofs/Outcome.antt.
use Rattle.std.specs.Prelude.{ℕ, ◌+◌, Bool, true, false, cond, List, nat_lt}
use Rattle.queue_entries.specs.declared.Order.{Order}
use Rattle.queue_entries.specs.declared.Order.TheVariants.{Begin, Act}
use Rattle.queue_entries.specs.declared.Entry.{Entry}
use Rattle.queue_entries.specs.declared.Entry.TheVariants.{Unreadable, Asks}
use Rattle.queue_entries.specs.declared.Verdict.{Verdict}
use Rattle.queue_entries.specs.declared.Verdict.TheVariants.{Refuse, Start, Move}
use Rattle.unbounded_words.specs.Words.{Sizes}
use Rattle.unbounded_places.specs.declared.Slot.{Slot}
use Rattle.unbounded_places.specs.declared.Block.{Block}
use Rattle.unbounded_places.specs.declared.Ends.{Ends}
use Rattle.unbounded_places.specs.declared.Place.{Place}
use Rattle.unbounded_places.specs.declared.View.{View}
use Rattle.unbounded_places.specs.declared.Worker.{Worker}
use Rattle.unbounded_places.specs.Places.{view_of, begin_of}
use Rattle.unbounded_acts.specs.declared.Acted.{Acted}
use Rattle.unbounded_acts.specs.Acts.{act_of}
use Rattle.unbounded_machine.specs.Machine.{place_of}
use Rattle.unbounded_machine.specs.Broken.{broken_in}
use Rattle.unbounded_machine.specs.Turn.{entry_here, verdict_of, lowest_free, block_used, slot_used}
use Rattle.unbounded_entries.specs.declared.Ask.{Ask}
use Rattle.unbounded_entries.specs.declared.Aim.{Aim}
use Rattle.unbounded_entries.specs.declared.Done.{Done}

abbrev pub asking : ℕ → Order → Ask
asking w o = record { refusal = 0; worker = w; order = o }

abbrev pub unasked : ℕ → Ask
unasked number = record { refusal = number; worker = 0; order = Act false }

abbrev pub ask_in : ℕ → Entry → Ask
ask_in count Unreadable = unasked 9
ask_in count (Asks w o) = cond (nat_lt w count) (asking w o) (unasked 3)

-- 6 where the machine is not sound
unfoldable pub ask_of : Bool → ℕ → ℕ → ℕ → Ask
ask_of sound count first second = cond sound (ask_in count (entry_here first second)) (unasked 6)

abbrev pub aimed : ℕ → Order → Bool → ℕ → ℕ → ℕ → Aim
aimed w o takes k i meter = record { refusal = 0; worker = w; order = o; takes = takes; block = k; slot = i; meter = meter }

abbrev pub turned_away : ℕ → Aim
turned_away number = record { refusal = number; worker = 0; order = Act false; takes = false; block = 0; slot = 0; meter = 0 }

unfoldable pub aim_act : Sizes → List Block → ℕ → ℕ → Place → Bool → Aim
aim_act z l meter w p lose =
    cond (view_of z p).takes
    (cond (nat_lt (lowest_free z l) z.blocks) (aimed w (Act lose) true (lowest_free z l) 0 (meter + 1)) (turned_away 23))
    (aimed w (Act lose) false (block_used (view_of z p).uses) (slot_used (view_of z p).uses) (meter + 1))

-- A begin goes to no block: it leaves block 0 and its slot 0 as they are.
abbrev pub aim_by : Sizes → List Block → ℕ → ℕ → Place → Verdict → Aim
aim_by z l meter w p (Refuse number) = turned_away number
aim_by z l meter w p (Start c) = aimed w (Begin c) false 0 0 meter
aim_by z l meter w p (Move lose) = aim_act z l meter w p lose

abbrev pub aim_in : Sizes → List Block → List Worker → ℕ → ℕ → Entry → Aim
aim_in z l workers count meter Unreadable = turned_away 9
aim_in z l workers count meter (Asks w o) =
    cond (nat_lt w count) (aim_by z l meter w (place_of workers w) (verdict_of z meter (place_of workers w) o)) (turned_away 3)

unfoldable pub aim_of : Sizes → Ends → List Block → List Worker → ℕ → ℕ → ℕ → ℕ → Aim
aim_of z e l workers count meter first second =
    cond (broken_in z e l workers count) (turned_away 6) (aim_in z l workers count meter (entry_here first second))

-- The same aim in two parts, the block that is taken being looked for between them.
abbrev pub way_acts : ℕ → ℕ → Bool → View → Aim
way_acts meter w lose v = aimed w (Act lose) v.takes (block_used v.uses) (slot_used v.uses) (meter + 1)

abbrev pub way_by_act : Sizes → ℕ → ℕ → Place → Verdict → Aim
way_by_act z meter w p (Refuse number) = turned_away number
way_by_act z meter w p (Start c) = aimed w (Begin c) false 0 0 meter
way_by_act z meter w p (Move lose) = way_acts meter w lose (view_of z p)

unfoldable pub way_of : Sizes → ℕ → Ask → Place → Aim
way_of z meter a p = cond (nat_lt 0 a.refusal) (turned_away a.refusal) (way_by_act z meter a.worker p (verdict_of z meter p a.order))

unfoldable pub aim_at : Sizes → Aim → ℕ → Aim
aim_at z way k = cond way.takes (cond (nat_lt k z.blocks) (aimed way.worker way.order true k 0 way.meter) (turned_away 23)) way

unfoldable pub leaves : Ends → Block → Slot → Place → Done
leaves e g s p = record { ends = e; block = g; slot = s; worker = record { place = p } }

abbrev pub done_by : Acted → Done
done_by a = leaves a.ends a.block a.slot a.place

abbrev pub done_of : Sizes → Ends → ℕ → Block → Slot → Worker → Order → Done
done_of z e k g s r (Begin c) = leaves e g s (begin_of c)
done_of z e k g s r (Act lose) = done_by (act_of z e k g s r.place lose)
