-- What each function of the sixteen-bit host's face answers, and the words as they are then. Words that stand for no ring and records are refusal 6; a refused call changes no word.
use Rattle.std.specs.Prelude.{ℕ, zero, suc, ◌+◌, ◌/◌, cond, List, [], ◌∷◌, eqb, length, get_or, replicate, Result, Ok, Err}
use Rattle.queue_entries.specs.Entries.{entry_of}
use Rattle.queue_entries.specs.Schedules.{schedule_by}
use Rattle.bounded_words.specs.Words.{mark_of, lap_of}
use Rattle.bounded_orders.specs.Orders.{make_refusal, Filled}
use Rattle.bounded_lent.specs.Lent.{contents_lent}
use Rattle.bounded_rows.specs.Rows.{records_in}
use Rattle.bounded_sixteen_rows.specs.SixteenRows.{Shorts, shorts, layout, metered_in, shaped_for, stand, broken_shorts, After, after, after_of, turn_shorts}
use Rattle.bounded_sixteen_host.specs.declared.Reply.{Reply}

abbrev pub reply : ℕ → ℕ → Reply
reply number value = record { refusal = number; number = value }

-- 6 or 0: what any call would be refused for
unfoldable pub broken_refusal : Shorts → ℕ
broken_refusal w = cond (broken_shorts w) 6 0

-- ---- making
-- so many numbers, this one first
unfoldable pub numbers : ℕ → ℕ → List ℕ
numbers zero first = []
numbers (suc more) first = first ∷ numbers more (first + 1)

-- mark and lap by rule, head and tail 0
unfoldable pub fresh_head : ℕ → ℕ → List ℕ
fresh_head capacity edition = mark_of capacity ∷ lap_of capacity ∷ capacity ∷ edition ∷ 0 ∷ 0 ∷ layout ∷ []

-- slot i has stamp i and value 0; a record of zeros is idle
unfoldable pub fresh_shorts : ℕ → ℕ → ℕ → Shorts
fresh_shorts capacity edition long = shorts (fresh_head capacity edition) 0 (numbers capacity 0) (replicate capacity 0) (replicate long 0)

unfoldable pub make_shorts : Shorts → ℕ → ℕ → After
make_shorts w capacity edition =
    cond (shaped_for capacity w)
    (cond (eqb (make_refusal (length w.records / 5) capacity edition) 0)
    (after 0 (fresh_shorts capacity edition (length w.records)))
    (after (make_refusal (length w.records / 5) capacity edition) w))
    (after 6 w)

-- ---- entries
abbrev pub turned : Shorts → ℕ → ℕ → After
turned w first second = after_of (turn_shorts w first second)

unfoldable pub step_shorts : Shorts → ℕ → ℕ → After
step_shorts w first second = cond (broken_shorts w) (after 6 w) (turned w first second)

-- a schedule's refusal and the entry's place, or 0 and the count of its entries
pub record Ended : Type 0 where
  pub answer : Reply
  pub words : Shorts

abbrev pub ended : ℕ → ℕ → Shorts → Ended
ended number place w = record { answer = reply number place; words = w }

unfoldable pub run_shorts : Shorts → List ℕ → Ended
run_shorts = schedule_by (λ (x : After). x.answer) (λ (x : After). x.words) turned ended broken_shorts entry_of

-- ---- looking
-- a number, or a refusal and 0
abbrev pub reply_of : Result ℕ ℕ → Reply
reply_of (Ok n) = reply 0 n
reply_of (Err k) = reply k 0

unfoldable pub capacity_shorts : Shorts → Reply
capacity_shorts w = cond (broken_shorts w) (reply 6 0) (reply 0 (get_or w.head 2 0))

-- how many items, and the buffer with them at its start
pub record Listed : Type 0 where
  pub answer : Reply
  pub buffer : List ℕ

abbrev pub listed : Reply → List ℕ → Listed
listed r buffer = record { answer = r; buffer = buffer }

abbrev pub listed_of : Filled → Listed
listed_of x = listed (reply_of x.answer) x.buffer

unfoldable pub contents_shorts : Shorts → List ℕ → Listed
contents_shorts w buffer = cond (stand w) (listed_of (contents_lent (metered_in w) (records_in w.records) buffer)) (listed (reply 6 0) buffer)
