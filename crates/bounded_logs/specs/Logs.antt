-- What a log of the ring never shows.
use Rattle.std.specs.Prelude.{ℕ, true, List, [], ◌≡◌, eqb, length}
use Rattle.queue_plain.specs.Plain.{Reply}
use Rattle.queue_logs.specs.Logs.{Log, log_of, Seen, NeverShown}
use Rattle.bounded_words.specs.declared.Fixed.{Fixed}
use Rattle.bounded_words.specs.declared.Width.{Width}
use Rattle.bounded_words.specs.declared.Width.TheVariants.{SixtyFour}
use Rattle.bounded_places.specs.declared.Place.{Place}
use Rattle.bounded_places.specs.declared.Place.TheVariants.{Idle, P1, P2, P3, P4, P5, P6, F6, F7, F8, F9, O1, O2, O3, O4, O5, O6, Len1, Len2, Len3, Empty1, Empty2, Full1, Full2, Close1, IsClosed1}
use Rattle.bounded_places.specs.declared.Worker.{Worker}
use Rattle.bounded_machine.specs.declared.Event.{Event}
use Rattle.bounded_machine.specs.Machine.{fresh_with}
use Rattle.bounded_demands.specs.Notions.{Face, Definition, with_records, AllowedWith, Asking, left_by_all, taken_by_all, window_length, KeepsWindowOf, KeepsWindow}
use Rattle.bounded_demands.specs.Demands.{AsOneSchedule}
use Rattle.bounded_demands.specs.Lending.{Lending, Doing, held_in, left_lent, all_taken_lent}
use Rattle.bounded_demands.specs.Stories.{story_of, change_of, actor, reply_of}

-- What an act answers that leads here: none but at a call's end.
abbrev pub said_at : Place → List Reply
said_at (Idle a) = reply_of a
said_at (P1 k x) = []
said_at (P2 k t x) = []
said_at (P3 k t x) = []
said_at (P4 t x) = []
said_at (P5 t) = []
said_at (P6 t x) = []
said_at (F6 t x) = []
said_at (F7 t x) = []
said_at (F8 t x) = []
said_at (F9 t old) = []
said_at O1 = []
said_at (O2 h) = []
said_at (O3 h) = []
said_at (O4 h) = []
said_at (O5 h v) = []
said_at (O6 h) = []
said_at Len1 = []
said_at (Len2 t) = []
said_at (Len3 t h) = []
said_at Empty1 = []
said_at (Empty2 h) = []
said_at Full1 = []
said_at (Full2 t) = []
said_at Close1 = []
said_at IsClosed1 = []

abbrev pub said : Event → List Reply
said e = said_at e.after

-- The log of a schedule.
abbrev pub ring_log : Definition → ℕ → ℕ → ℕ → List ℕ → Log
ring_log d capacity workers edition s = log_of actor (change_of edition) said capacity (story_of d capacity workers edition s)

-- Every log seen of this schedule shows none of the rows; in edition 2 a closed queue is never opened again.
abbrev pub ShowsNoneOf : Definition → ℕ → ℕ → ℕ → List ℕ → Type 0
ShowsNoneOf d capacity workers edition s = (seen : Log) → Seen (ring_log d capacity workers edition s) seen → NeverShown capacity (eqb edition 2) true seen

-- Every capacity, every number of workers, both editions, every schedule; and every schedule that keeps a window.
abbrev pub ShowsNone : Definition → Type 0
ShowsNone d = (capacity workers edition : ℕ) → AllowedWith d.records capacity workers edition → (s : List ℕ) → ShowsNoneOf d capacity workers edition s

abbrev pub ShowsNoneWithin : (Width → Fixed → ℕ) → Definition → Type 0
ShowsNoneWithin many d =
    (capacity workers edition : ℕ) → AllowedWith d.records capacity workers edition → (s : List ℕ) → KeepsWindowOf many d (fresh_with d.records capacity workers edition) [] s
    → ShowsNoneOf d capacity workers edition s

abbrev pub ShowsNoneInWindow : Definition → Type 0
ShowsNoneInWindow = ShowsNoneWithin window_length

-- The machine that holds its records: a making, and then step, begin, act and run of a face in any mixture, are one schedule of the entries that were accepted. Refused ones are in no log. Of sixteen
-- bits, if the accepted entries keep the window.
abbrev pub MixedShowsNone : {M D R : Type 0} → Face M D R → Definition → Type 0
MixedShowsNone f d =
    (capacity workers edition : ℕ) → f.refusal (f.make capacity workers edition) ≡ 0 → (askings : List Asking)
    → AsOneSchedule d capacity workers edition (f.wide (left_by_all f (f.left (f.make capacity workers edition)) askings)) (taken_by_all f (f.left (f.make capacity workers edition)) askings)
    × ShowsNoneOf d capacity workers edition (taken_by_all f (f.left (f.make capacity workers edition)) askings)

abbrev pub MixedShowsNoneInWindow : {M D R : Type 0} → Face M D R → Definition → Type 0
MixedShowsNoneInWindow f d =
    (capacity workers edition : ℕ) → f.refusal (f.make capacity workers edition) ≡ 0 → (askings : List Asking)
    → AsOneSchedule d capacity workers edition (f.wide (left_by_all f (f.left (f.make capacity workers edition)) askings)) (taken_by_all f (f.left (f.make capacity workers edition)) askings)
    × (KeepsWindow d (fresh_with d.records capacity workers edition) [] (taken_by_all f (f.left (f.make capacity workers edition)) askings)
    → ShowsNoneOf d capacity workers edition (taken_by_all f (f.left (f.make capacity workers edition)) askings))

-- Lent ring and records: likewise, of steps and schedules.
abbrev pub LentShowsNone : Lending → Type 0
LentShowsNone d =
    (ys : List Worker) (capacity edition : ℕ) → (d.make ys capacity edition).answer ≡ 0 → (doings : List Doing)
    → AsOneSchedule (with_records (length ys) SixtyFour) capacity (length ys) edition (held_in (left_lent d (d.make ys capacity edition) doings)) (all_taken_lent d (d.make ys capacity edition) doings)
    × ShowsNoneOf (with_records (length ys) SixtyFour) capacity (length ys) edition (all_taken_lent d (d.make ys capacity edition) doings)
