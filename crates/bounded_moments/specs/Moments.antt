-- At which moment an answer is the plain queue's (crates/queue_plain): what an act makes of the moment of its own call and of the others', and what is kept of every worker to name it.
use Rattle.std.specs.Prelude.{ℕ, cond, not, List, map, replicate, ◌==◌, slice_index_or, slice_set}
use Rattle.queue_entries.specs.Limits.{workers_most}
use Rattle.bounded_places.specs.declared.Answer.{Answer}
use Rattle.bounded_places.specs.declared.Answer.TheVariants.{Nothing, Pushed, Full, Closed, Displaced, Popped, Empty, PopClosed, Len, Yes, No}
use Rattle.bounded_places.specs.declared.Place.{Place}
use Rattle.bounded_places.specs.declared.Place.TheVariants.{Idle, P1, P2, P3, P4, P5, P6, F6, F7, F8, F9, O1, O2, O3, O4, O5, O6, Len1, Len2, Len3, Empty1, Empty2, Full1, Full2, Close1, IsClosed1}
use Rattle.bounded_places.specs.declared.Moved.{Moved}
use Rattle.bounded_places.specs.Places.{view_of}
use Rattle.bounded_machine.specs.History.{moved_of, untallied, untaken_of}
use Rattle.bounded_stock.specs.Stock.{one_more_act, tallied_of}
use Rattle.bounded_causes.specs.Causes.{stand_of, claims_tail, claims_head}
use Rattle.bounded_moments.specs.declared.Moment.{Moment}
use Rattle.bounded_moments.specs.declared.Moment.TheVariants.{Before, After, AfterNextTail, AfterNextHead}
use Rattle.bounded_moments.specs.declared.Timing.{Timing}
use Rattle.bounded_moments.specs.declared.Timing.TheVariants.{Now, Stays, IfSome, IfRoom}
use Rattle.bounded_moments.specs.declared.OfWorker.{OfWorker}
use Rattle.bounded_moments.specs.declared.Moments.{Moments}
use Rattle.bounded_moments.specs.declared.Named.{Named}

-- ---- the rule

-- Of an act that answers: Closed, Empty and a yes now; a no now at the only act of its call (close, is_closed), else at the moment that its loads gave it.
abbrev pub timing_said : ℕ → Answer → Timing
timing_said far Nothing = Stays
timing_said far Pushed = Stays
timing_said far (Full x) = Stays
timing_said far (Closed x) = Now
timing_said far (Displaced v) = Stays
timing_said far (Popped v) = Stays
timing_said far Empty = Now
timing_said far PopClosed = Now
timing_said far (Len n) = Stays
timing_said far Yes = Now
timing_said far No = cond (far == 1) Now Stays

-- Else by where it leads: to P2 when it loaded or found t, to P4 and O4 when it claimed, to len's third load when it loaded head, to the second loads of is_empty
-- and is_full.
abbrev pub timing_of : Place → Place → Timing
timing_of p (Idle a) = timing_said (stand_of p).far a
timing_of p (P1 k x) = Stays
timing_of p (P2 k t x) = Now
timing_of p (P3 k t x) = Stays
timing_of p (P4 t x) = Now
timing_of p (P5 t) = Stays
timing_of p (P6 t x) = Stays
timing_of p (F6 t x) = Stays
timing_of p (F7 t x) = Stays
timing_of p (F8 t x) = Stays
timing_of p (F9 t old) = Stays
timing_of p O1 = Stays
timing_of p (O2 h) = Stays
timing_of p (O3 h) = Stays
timing_of p (O4 h) = Now
timing_of p (O5 h v) = Stays
timing_of p (O6 h) = Stays
timing_of p Len1 = Stays
timing_of p (Len2 t) = Stays
timing_of p (Len3 t h) = Now
timing_of p Empty1 = Stays
timing_of p (Empty2 h) = IfSome
timing_of p Full1 = Stays
timing_of p (Full2 t) = IfRoom
timing_of p Close1 = Stays
timing_of p IsClosed1 = Stays

-- By an act of its own at this place of the schedule, with so many items waiting.
abbrev pub timed_of : Timing → ℕ → ℕ → ℕ → Moment → Moment
timed_of Now place waits capacity was = Before place
timed_of Stays place waits capacity was = was
timed_of IfSome place waits capacity was = cond (waits == 0) AfterNextTail (Before place)
timed_of IfRoom place waits capacity was = cond (waits == capacity) AfterNextHead (Before place)

-- By another's act there.
abbrev pub heard_of : Moved → ℕ → Moment → Moment
heard_of m place (Before k) = Before k
heard_of m place (After k) = After k
heard_of m place AfterNextTail = cond (claims_tail m) (After place) AfterNextTail
heard_of m place AfterNextHead = cond (claims_head m) (After place) AfterNextHead

-- ---- what is kept

abbrev pub of_worker : Moment → OfWorker
of_worker x = record { moment = x }

-- before the first entry
abbrev pub start : ℕ → Moments
start capacity =
    record { place = 0; tally = untallied; capacity = capacity; each = replicate workers_most (of_worker (Before 0)) }

abbrev pub moment_in : List OfWorker → ℕ → Moment
moment_in xs w = (slice_index_or xs w (of_worker (Before 0))).moment

unfoldable pub heard_by_all : Moved → ℕ → List OfWorker → List OfWorker
heard_by_all m place xs = map (λ (x : OfWorker). of_worker (heard_of m place x.moment)) xs

-- A begin leaves each moment.
unfoldable pub begun_of : Moments → Moments
begun_of ms = record { place = one_more_act ms.place; tally = ms.tally; capacity = ms.capacity; each = ms.each }

-- The moment of worker w's call after its act from p to q.
abbrev pub own_of : Moments → ℕ → Place → Place → Moment
own_of ms w p q = timed_of (timing_of p q) ms.place (untaken_of ms.tally) ms.capacity (moment_in ms.each w)

-- An act of worker w from p to q: what is kept after it, whether it ends its call, and the call's moment.
unfoldable pub named_of : Moments → ℕ → Place → Place → Named
named_of ms w p q =
    record {
      moments =
          record {
            place = one_more_act ms.place;
            tally = tallied_of ms.tally p q;
            capacity = ms.capacity;
            each = slice_set (heard_by_all (moved_of q) ms.place ms.each) w (of_worker (own_of ms w p q));
          };
      ends = not (view_of q).busy;
      moment = own_of ms w p q;
    }
