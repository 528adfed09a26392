-- "Schedules" of document 01: what an entry asks, and the order of its refusals on a machine that is not broken: 9, 3, then begin 4;
-- act 5, 7, 8. (9 and 3 are given by each queue's `turn`, before it looks at a worker.)
use Rattle.std.specs.Prelude.{ℕ, ◌/◌, ◌%◌, Bool, true, false, cond, not, List, [], ◌∷◌, ltb, eqb, get_or}
use Rattle.queue_entries.specs.Limits.{meter_most}
use Rattle.queue_entries.specs.declared.Call.{Call}
use Rattle.queue_entries.specs.declared.Call.TheVariants as call
use Rattle.queue_entries.specs.declared.Order.{Order}
use Rattle.queue_entries.specs.declared.Order.TheVariants.{Begin, Act}
use Rattle.queue_entries.specs.declared.Entry.{Entry}
use Rattle.queue_entries.specs.declared.Entry.TheVariants.{Unreadable, Asks}
use Rattle.queue_entries.specs.declared.Verdict.{Verdict}
use Rattle.queue_entries.specs.declared.Verdict.TheVariants.{Refuse, Start, Move}

-- In order: push, force_push, pop, len, is_empty, is_full, close, is_closed.
abbrev pub calls : ℕ → List Call
calls x =
    call.Push x ∷ call.ForcePush x ∷ call.Pop ∷ call.Len
    ∷ call.IsEmpty ∷ call.IsFull ∷ call.Close ∷ call.IsClosed ∷ []

abbrev pub call_of : ℕ → ℕ → Call
call_of code x = get_or (calls x) code call.IsClosed

-- Codes 0 to 7 begin a call, 8 and 9 act, 10 to 15 are refused: 8 is an act, 9 an act whose weak exchange fails.
unfoldable pub order_of : ℕ → ℕ → ℕ → Entry
order_of worker code x =
    cond (ltb code 8) (Asks worker (Begin (call_of code x)))
    (cond (ltb code 10) (Asks worker (Act (eqb code 9))) Unreadable)

-- The item must be 0 unless the code is 0 or 1.
unfoldable pub stray_of : ℕ → ℕ → Bool
stray_of code item = cond (ltb 1 code) (not (eqb item 0)) false

-- First = 16 × worker + code; second = item.
unfoldable pub entry_of : ℕ → ℕ → Entry
entry_of first item =
    cond (stray_of (first % 16) item) Unreadable (order_of (first / 16) (first % 16) item)

-- As a queue reads them that has no call of this code.
unfoldable pub entry_but : ℕ → ℕ → ℕ → Entry
entry_but barred first item = cond (eqb (first % 16) barred) Unreadable (entry_of first item)

-- Of a worker that is busy or idle, whose next action is a weak exchange or not.
-- 4: begin on a busy worker. 5: act of an idle worker. 7: act with the meter at its last number or above.
-- 8: code 9 where the next action is no weak exchange.
abbrev pub verdict_for : ℕ → Bool → Bool → Order → Verdict
verdict_for meter busy weak (Begin c) = cond busy (Refuse 4) (Start c)
verdict_for meter busy weak (Act lose) =
    cond busy
    (cond (ltb meter meter_most)
    (cond lose (cond weak (Move true) (Refuse 8)) (Move false))
    (Refuse 7))
    (Refuse 5)
