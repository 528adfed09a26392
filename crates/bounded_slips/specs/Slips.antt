-- Document 01's tables with a slip in one row, all else as it is; definitions of the machine made of them; and ways to count losses and stock with a slip.
use Rattle.std.specs.Prelude.{ℕ, ◌+◌, ◌-◌, Bool, true, false, cond, not, List, [], ◌∷◌, ◌≡◌, eqb, ltb, length, set}
use Rattle.queue_entries.specs.Limits.{workers_most}
use Rattle.queue_entries.specs.declared.Entry.{Entry}
use Rattle.queue_entries.specs.declared.Entry.TheVariants.{Unreadable, Asks}
use Rattle.queue_entries.specs.Entries.{entry_of}
use Rattle.bounded_words.specs.declared.Stamp.{Stamp}
use Rattle.bounded_words.specs.declared.Fixed.{Fixed}
use Rattle.bounded_words.specs.declared.Width.{Width}
use Rattle.bounded_words.specs.declared.Width.TheVariants.{SixtyFour, Sixteen}
use Rattle.bounded_words.specs.Words.{stamp, index_of, plus, minus, next_of, same, marked_of, unmarked_of, with_mark, lap_behind}
use Rattle.bounded_places.specs.declared.Slot.{Slot}
use Rattle.bounded_places.specs.declared.Ends.{Ends}
use Rattle.bounded_places.specs.declared.Kind.TheVariants.{Force}
use Rattle.bounded_places.specs.declared.Answer.TheVariants.{Pushed, Full, Closed, Displaced, Popped, Empty, PopClosed, Len, Yes, No}
use Rattle.bounded_places.specs.declared.Loss.{Loss}
use Rattle.bounded_places.specs.declared.Loss.TheVariants.{ByWords, BySchedule}
use Rattle.bounded_places.specs.declared.Place.{Place}
use Rattle.bounded_places.specs.declared.Place.TheVariants.{Idle, P1, P2, P3, P4, P5, P6, F6, F7, F8, F9, O1, O2, O3, O4, O5, O6, Len1, Len2, Len3, Empty1, Empty2, Full1, Full2, Close1, IsClosed1}
use Rattle.bounded_places.specs.declared.Worker.{Worker}
use Rattle.bounded_places.specs.declared.Moved.{Moved}
use Rattle.bounded_places.specs.declared.Moved.TheVariants.{Neither, Tail, Head}
use Rattle.bounded_places.specs.Places.{view_of}
use Rattle.bounded_acts.specs.declared.Acted.{Acted}
use Rattle.bounded_acts.specs.Acts.{goes, losing, after_tail, tail_to, head_to, stamp_to, value_to, count_of, yes_no, act_of}
use Rattle.bounded_machine.specs.declared.Machine.{Machine}
use Rattle.bounded_machine.specs.declared.Did.{Did}
use Rattle.bounded_machine.specs.declared.Event.{Event}
use Rattle.bounded_machine.specs.Machine.{machine_of, record_of_worker, refused, fixed_on, ends_on}
use Rattle.bounded_machine.specs.Turn.{beginner, turn_at, turn_of}
use Rattle.bounded_machine.specs.Run.{ran, run_with, run_from, run_at}
use Rattle.bounded_machine.specs.declared.Tally.{Tally}
use Rattle.bounded_machine.specs.History.{loss_at, history_with, history_of, moved_of, reads_at, counted, read_on, untaken_of, history_at}
use Rattle.bounded_demands.specs.Notions.{Definition, by_table, document01, item_in, tally, stock, is_new, holding_at, most_of}
use Rattle.bounded_demands.specs.Demands.{UnderEverySchedule, NothingWraps, ActByAct, WholeSchedules, LenTrue, ScheduledAlone, StockUnderEverySchedule, LossesUnderEverySchedule, CountsAside, CloseHolds, ClosedIsLast, AnswersPlain, OneStep, OneStepUnderEverySchedule}

-- ---- the slips

abbrev pub none : ℕ
none = 0

-- P3 goes on to P4 whatever word it finds
abbrev pub lost_push_goes_on : ℕ
lost_push_goes_on = 1

-- a lost P3 answers Closed without looking for the mark
abbrev pub closed_unseen : ℕ
closed_unseen = 2

-- P3 stores t + 1, also at the end of a lap
abbrev pub unwrapped : ℕ
unwrapped = 3

-- P3 wins and does not move tail
abbrev pub tail_unmoved : ℕ
tail_unmoved = 4

-- P4 writes nothing
abbrev pub unwritten : ℕ
unwritten = 5

-- P5 skips its stamp store
abbrev pub unstamped : ℕ
unstamped = 6

-- P6 answers Full whatever head is
abbrev pub full_unseen : ℕ
full_unseen = 7

-- F7 before F6: tail is stored before head is exchanged
abbrev pub tail_before_head : ℕ
tail_before_head = 8

-- a lost F6 goes to P2 with the word it held
abbrev pub lost_force_keeps_its_word : ℕ
lost_force_keeps_its_word = 9

-- a lost F6 goes to P2 with the head found as t
abbrev pub lost_force_takes_the_head : ℕ
lost_force_takes_the_head = 10

-- F9 before F8: the stamp is stored before the values are exchanged
abbrev pub stamp_before_value : ℕ
stamp_before_value = 11

-- O2 goes to O3 whatever the stamp is
abbrev pub stamp_untested : ℕ
stamp_untested = 12

-- O5 before O4: the value is read after the stamp store
abbrev pub reads_after_its_store : ℕ
reads_after_its_store = 13

-- O5 releases with next(h)
abbrev pub releases_with_next : ℕ
releases_with_next = 14

-- O5 goes back to O4
abbrev pub never_lets_go : ℕ
never_lets_go = 15

-- O6 answers Empty whatever tail is
abbrev pub empty_unseen : ℕ
empty_unseen = 16

-- O6 hands out what lies in the slot of an empty ring
abbrev pub hands_out_again : ℕ
hands_out_again = 17

-- O6 goes back to O2 with the word it held
abbrev pub pop_keeps_its_word : ℕ
pop_keeps_its_word = 18

-- len without its second tail
abbrev pub len_looks_once : ℕ
len_looks_once = 19

-- is_empty loads tail first
abbrev pub empty_tail_first : ℕ
empty_tail_first = 20

-- is_full loads head first
abbrev pub full_head_first : ℕ
full_head_first = 21

-- P5 before P4: the stamp is stored before the item is written (which is carried at F9, since P5 holds none)
abbrev pub push_writes_late : ℕ
push_writes_late = 22

-- F7 clears the mark, also in edition 2
abbrev pub force_forgets : ℕ
force_forgets = 23

-- O6 answers Closed as soon as tail is marked
abbrev pub closed_too_soon : ℕ
closed_too_soon = 24

-- stock falls at the head claim, as document 01 had it
abbrev pub falls_when_taken : ℕ
falls_when_taken = 25

-- stock rises when the item is written, at P4 and F8
abbrev pub rises_when_written : ℕ
rises_when_written = 26

-- F8 is no read
abbrev pub force_unread : ℕ
force_unread = 27

-- a pop in hand is not counted: stock falls at its head claim
abbrev pub pop_uncounted : ℕ
pop_uncounted = 28

-- a P3 that finds another word where the schedule makes it fail too counts as lost by the schedule
abbrev pub both_by_schedule : ℕ
both_by_schedule = 29

-- a lost F6 counts no loss
abbrev pub force_uncounted : ℕ
force_uncounted = 30

-- a won O3 counts a loss
abbrev pub won_counted : ℕ
won_counted = 31

-- a won P3 goes on with another item
abbrev pub another_item : ℕ
another_item = 32

-- a won F6 goes on with another item
abbrev pub another_forced : ℕ
another_forced = 33

-- a P3 that lost by the words answers Pushed
abbrev pub lost_says_pushed : ℕ
lost_says_pushed = 34

-- is_empty answers no, whatever it loaded
abbrev pub empty_says_no : ℕ
empty_says_no = 35

-- is_full answers no, whatever it loaded
abbrev pub full_says_no : ℕ
full_says_no = 36

-- close answers yes, also where the mark was set
abbrev pub close_says_yes : ℕ
close_says_yes = 37

-- is_closed answers no, whatever tail is
abbrev pub closed_says_no : ℕ
closed_says_no = 38

-- a lost P3 goes on with the word found, its mark dropped
abbrev pub lost_drops_the_mark : ℕ
lost_drops_the_mark = 39

-- F7 keeps the mark, also in edition 1
abbrev pub force_keeps : ℕ
force_keeps = 40

-- P2 goes to P3 whatever the stamp is
abbrev pub push_stamp_untested : ℕ
push_stamp_untested = 41

-- F6 wins whatever head is
abbrev pub force_uncompared : ℕ
force_uncompared = 42

-- O6 answers Empty, also where tail is marked
abbrev pub empty_of_closed : ℕ
empty_of_closed = 43

-- close goes back while slot 0's stamp is not what the ends say of it, that is while somebody has slot 0 in hand
abbrev pub close_waits : ℕ
close_waits = 44

-- P6 answers Full with another item
abbrev pub full_gives_another : ℕ
full_gives_another = 45

-- close answers no and does nothing
abbrev pub close_says_no : ℕ
close_says_no = 46

-- len's first load clears the mark
abbrev pub len_forgets : ℕ
len_forgets = 47

-- The word of the claim that has slot 0 next, counted from head; and slot 0's stamp, if it is in no hand: full if tail is past that claim, else free.
abbrev claim_at_zero : Fixed → Ends → Stamp
claim_at_zero f e = cond (eqb (index_of f e.head) 0) e.head (plus SixtyFour (stamp (e.head.0 - index_of f e.head)) f.lap)

abbrev stamp_at_zero : Fixed → Ends → Stamp
stamp_at_zero f e = cond (ltb (claim_at_zero f e).0 (unmarked_of f e.tail).0) (plus SixtyFour (claim_at_zero f e) 1) (claim_at_zero f e)

-- The row of document 01, but for this slip.
abbrev but : ℕ → ℕ → Acted → Acted → Acted
but n slip wrong right = cond (eqb n slip) wrong right

-- What a won exchange leaves, in place of document 01's; one that is lost stays lost.
abbrev on_win : Bool → Bool → Acted → Acted → Acted
on_win found lose wrong right = cond found (cond lose right wrong) right

-- The tables with slip number n.
abbrev pub act_with : ℕ → Fixed → Ends → Slot → Place → Bool → Acted
act_with n f e s (Idle a) lose = act_of SixtyFour f e s (Idle a) lose
act_with n f e s (P1 k x) lose = act_of SixtyFour f e s (P1 k x) lose
act_with n f e s (P2 k t x) lose = but n push_stamp_untested (goes e s (P3 k t x)) (act_of SixtyFour f e s (P2 k t x) lose)
act_with n f e s (P3 k t x) lose =
    but n lost_push_goes_on (goes (tail_to e (next_of SixtyFour f t)) s (P4 t x))
    (but n closed_unseen (cond (same e.tail t) (act_of SixtyFour f e s (P3 k t x) lose) (goes e s (Idle (Closed x))))
    (but n unwrapped (on_win (same e.tail t) lose (goes (tail_to e (plus SixtyFour t 1)) s (P4 t x)) (act_of SixtyFour f e s (P3 k t x) lose))
    (but n tail_unmoved (on_win (same e.tail t) lose (goes e s (P4 t x)) (act_of SixtyFour f e s (P3 k t x) lose))
    (but n both_by_schedule (cond (same e.tail t) (act_of SixtyFour f e s (P3 k t x) lose) (cond lose (losing e s (after_tail f k e.tail x) BySchedule) (act_of SixtyFour f e s (P3 k t x) lose)))
    (but n another_item (on_win (same e.tail t) lose (goes (tail_to e (next_of SixtyFour f t)) s (P4 t (x + 1))) (act_of SixtyFour f e s (P3 k t x) lose))
    (but n lost_says_pushed (cond (same e.tail t) (act_of SixtyFour f e s (P3 k t x) lose) (goes e s (Idle Pushed)))
    (but n lost_drops_the_mark (cond (same e.tail t) (act_of SixtyFour f e s (P3 k t x) lose) (goes e s (P2 k (unmarked_of f e.tail) x)))
    (act_of SixtyFour f e s (P3 k t x) lose))))))))
act_with n f e s (P4 t x) lose =
    but n unwritten (goes e s (P5 t)) (but n push_writes_late (goes e (stamp_to s (plus SixtyFour t 1)) (F9 t x)) (act_of SixtyFour f e s (P4 t x) lose))
act_with n f e s (P5 t) lose = but n unstamped (goes e s (Idle Pushed)) (act_of SixtyFour f e s (P5 t) lose)
act_with n f e s (P6 t x) lose = but n full_unseen (goes e s (Idle (Full x))) (but n full_gives_another (goes e s (Idle (Full (x + 1)))) (act_of SixtyFour f e s (P6 t x) lose))
act_with n f e s (F6 t x) lose =
    but n tail_before_head (goes (tail_to e (next_of SixtyFour f t)) s (F7 t x))
    (but n lost_force_keeps_its_word (cond (same e.head (minus SixtyFour t f.lap)) (act_of SixtyFour f e s (F6 t x) lose) (goes e s (P2 Force t x)))
    (but n lost_force_takes_the_head (cond (same e.head (minus SixtyFour t f.lap)) (act_of SixtyFour f e s (F6 t x) lose) (goes e s (P2 Force e.head x)))
    (but n force_uncounted (on_win (same e.head (minus SixtyFour t f.lap)) lose (act_of SixtyFour f e s (F6 t x) lose) (goes e s (P1 Force x)))
    (but n another_forced (on_win (same e.head (minus SixtyFour t f.lap)) lose (goes (head_to e (minus SixtyFour (next_of SixtyFour f t) f.lap)) s (F7 t (x + 1))) (act_of SixtyFour f e s (F6 t x) lose))
    (but n force_uncompared (goes (head_to e (minus SixtyFour (next_of SixtyFour f t) f.lap)) s (F7 t x))
    (act_of SixtyFour f e s (F6 t x) lose))))))
act_with n f e s (F7 t x) lose =
    but n force_forgets (goes (tail_to e (next_of SixtyFour f t)) s (F8 t x))
    (but n force_keeps (goes (tail_to e (cond (marked_of f e.tail) (with_mark SixtyFour f (next_of SixtyFour f t)) (next_of SixtyFour f t))) s (F8 t x))
    (but n tail_before_head
    (cond (same e.head (minus SixtyFour t f.lap)) (goes (head_to e (minus SixtyFour (next_of SixtyFour f t) f.lap)) s (F8 t x)) (goes e s (P1 Force x)))
    (act_of SixtyFour f e s (F7 t x) lose)))
act_with n f e s (F8 t x) lose = but n stamp_before_value (goes e (stamp_to s (plus SixtyFour t 1)) (F9 t x)) (act_of SixtyFour f e s (F8 t x) lose)
act_with n f e s (F9 t x) lose = but n stamp_before_value (goes e (value_to s x) (Idle (Displaced s.value)))
    (but n push_writes_late (goes e (value_to s x) (Idle Pushed)) (act_of SixtyFour f e s (F9 t x) lose))
act_with n f e s O1 lose = act_of SixtyFour f e s O1 lose
act_with n f e s (O2 h) lose = but n stamp_untested (goes e s (O3 h)) (act_of SixtyFour f e s (O2 h) lose)
act_with n f e s (O3 h) lose =
    but n won_counted (on_win (same e.head h) lose (losing (head_to e (next_of SixtyFour f h)) s (O4 h) ByWords) (act_of SixtyFour f e s (O3 h) lose)) (act_of SixtyFour f e s (O3 h) lose)
act_with n f e s (O4 h) lose = but n reads_after_its_store (goes e (stamp_to s (plus SixtyFour h f.lap)) (O5 h 0)) (act_of SixtyFour f e s (O4 h) lose)
act_with n f e s (O5 h v) lose =
    but n reads_after_its_store (goes e s (Idle (Popped s.value)))
    (but n releases_with_next (goes e (stamp_to s (next_of SixtyFour f h)) (Idle (Popped v)))
    (but n never_lets_go (goes e s (O4 h)) (act_of SixtyFour f e s (O5 h v) lose)))
act_with n f e s (O6 h) lose =
    but n empty_unseen (goes e s (Idle Empty))
    (but n hands_out_again (cond (same (unmarked_of f e.tail) h) (goes e s (Idle (Popped s.value))) (act_of SixtyFour f e s (O6 h) lose))
    (but n pop_keeps_its_word (cond (same (unmarked_of f e.tail) h) (act_of SixtyFour f e s (O6 h) lose) (goes e s (O2 h)))
    (but n closed_too_soon (cond (marked_of f e.tail) (goes e s (Idle PopClosed)) (act_of SixtyFour f e s (O6 h) lose))
    (but n empty_of_closed (cond (same (unmarked_of f e.tail) h) (goes e s (Idle Empty)) (act_of SixtyFour f e s (O6 h) lose))
    (act_of SixtyFour f e s (O6 h) lose)))))
act_with n f e s Len1 lose = but n len_forgets (goes (tail_to e (unmarked_of f e.tail)) s (Len2 (unmarked_of f e.tail))) (act_of SixtyFour f e s Len1 lose)
act_with n f e s (Len2 t) lose = act_of SixtyFour f e s (Len2 t) lose
act_with n f e s (Len3 t h) lose = but n len_looks_once (goes e s (Idle (Len (count_of f t h)))) (act_of SixtyFour f e s (Len3 t h) lose)
act_with n f e s Empty1 lose = but n empty_tail_first (goes e s (Empty2 e.tail)) (act_of SixtyFour f e s Empty1 lose)
act_with n f e s (Empty2 t) lose =
    but n empty_tail_first (goes e s (Idle (yes_no (same (unmarked_of f t) e.head)))) (but n empty_says_no (goes e s (Idle No)) (act_of SixtyFour f e s (Empty2 t) lose))
act_with n f e s Full1 lose = but n full_head_first (goes e s (Full2 e.head)) (act_of SixtyFour f e s Full1 lose)
act_with n f e s (Full2 h) lose =
    but n full_head_first (goes e s (Idle (yes_no (lap_behind SixtyFour f h (unmarked_of f e.tail))))) (but n full_says_no (goes e s (Idle No)) (act_of SixtyFour f e s (Full2 h) lose))
act_with n f e s Close1 lose =
    but n close_says_yes (goes (tail_to e (with_mark SixtyFour f e.tail)) s (Idle Yes))
    (but n close_waits (cond (same s.stamp (stamp_at_zero f e)) (act_of SixtyFour f e s Close1 lose) (goes e s Close1))
    (but n close_says_no (goes e s (Idle No)) (act_of SixtyFour f e s Close1 lose)))
act_with n f e s IsClosed1 lose = but n closed_says_no (goes e s (Idle No)) (act_of SixtyFour f e s IsClosed1 lose)

-- ---- the machine with a slip

abbrev pub slipped : ℕ → Definition
slipped n = by_table SixtyFour (act_with n)

-- ---- counts of losses with a slip

-- The record of an entry's worker, made of what it was and what document 02 makes of it.
abbrev recounted : (Worker → Worker → Worker) → Machine → Entry → Machine → Machine
recounted how m Unreadable next = next
recounted how m (Asks w o) next =
    machine_of (fixed_on next.ring) (ends_on next.ring) next.ring.slots (set next.workers w (how (record_of_worker m.workers w) (record_of_worker next.workers w)))
    next.count next.meter

abbrev turn_counting : Width → (Worker → Worker → Worker) → Machine → ℕ → ℕ → Did
turn_counting bits how m first second =
    record { refusal = (turn_at bits m first second).refusal; machine = recounted how m (entry_of first second) (turn_at bits m first second).machine }

abbrev pub counting_at : Width → (Worker → Worker → Worker) → Definition
counting_at bits how =
    record { width = bits; records = workers_most; turn = turn_counting bits how; run = run_with (turn_counting bits how); history = history_with bits (turn_counting bits how) }

abbrev pub counting : (Worker → Worker → Worker) → Definition
counting = counting_at SixtyFour

-- a begun call goes on with the counts of the last
abbrev pub unreset : Worker → Worker → Worker
unreset was is = cond (view_of was.place).busy is (record { place = is.place; differed = was.differed; failed = was.failed })

-- a call that ends forgets its counts
abbrev pub forgotten : Worker → Worker → Worker
forgotten was is = cond (view_of is.place).busy is (beginner is.place)

-- a loss counts twice
abbrev pub twice : Worker → Worker → Worker
twice was is = record { place = is.place; differed = is.differed + (is.differed - was.differed); failed = is.failed + (is.failed - was.failed) }

-- Losses told with a slip: whatever the schedule makes fail is lost by the schedule.
abbrev pub told_by_schedule : Machine → ℕ → Bool → Loss
told_by_schedule m w lose = cond lose BySchedule (loss_at SixtyFour m w lose)

-- A definition in which a count decides: no act of worker 0 is taken once it has lost an exchange.
abbrev pub weary : Definition
weary =
    record {
      width = SixtyFour;
      records = workers_most;
      turn = λ m first second. cond (eqb (record_of_worker m.workers 0).failed 0) (turn_of m first second) (refused 7 m);
      run = run_from;
      history = history_of;
    }

-- ---- stock with a slip

-- How many of these acts are such.
unfoldable pub how_many : (Event → Bool) → List Event → ℕ
how_many such [] = 0
how_many such (e ∷ h) = cond (such e) 1 0 + how_many such h

abbrev claims_head : Moved → Bool
claims_head Neither = false
claims_head Tail = false
claims_head Head = true

-- The act writes an item, at P4 or F8; reads at F8; makes a pop's head claim, after which it stands at O4.
abbrev pub writes : Event → Bool
writes e = not (eqb (length (item_in e.before)) 0)

abbrev pub displaces : Event → Bool
displaces e = cond (reads_at e.before) (writes e) false

abbrev pub takes : Event → Bool
takes e = cond (claims_head (moved_of e.after)) (reads_at e.after) false

-- Stock, but for slip number n.
abbrev pub stock_with : ℕ → List Event → ℕ
stock_with n h =
    cond (eqb n falls_when_taken) (untaken_of (tally h))
    (cond (eqb n rises_when_written) (how_many writes h - (tally h).reads)
    (cond (eqb n force_unread) ((tally h).tail.0 - ((tally h).reads - how_many displaces h))
    (cond (eqb n pop_uncounted) ((tally h).tail.0 - (how_many takes h + how_many displaces h)) (stock h))))

-- ---- counts of claims and reads with a slip

-- no value read is counted
abbrev pub unread_tally : Tally → Place → Place → Tally
unread_tally t before after = counted (moved_of after) t

-- a claim at either end is counted at tail
abbrev pub tail_only : Tally → Place → Place → Tally
tail_only t before after = read_on (reads_at before) (cond (claims_head (moved_of after)) (counted Tail t) (counted (moved_of after) t))

-- Two definitions that are wrong beside the tables: one runs no entry of a schedule, one refuses every entry.
abbrev pub deaf : Definition
deaf = record { width = SixtyFour; records = workers_most; turn = turn_of; run = λ m place s. ran 0 place m; history = history_of }

abbrev pub refusing : Definition
refusing = record { width = SixtyFour; records = workers_most; turn = λ m first second. refused 8 m; run = run_from; history = history_of }

-- The machine of sixteen bits with a history that does not tell which acts gave a worker a word of an end.
unfoldable pub unloaded : List Event → List Event
unloaded [] = []
unloaded (e ∷ h) = cond (is_new (holding_at e.after)) (unloaded h) (e ∷ unloaded h)

abbrev pub forgetful : Definition
forgetful =
    record { width = Sixteen; records = workers_most; turn = turn_at Sixteen; run = run_at Sixteen; history = λ m s. unloaded (history_at Sixteen m s) }

-- The most acts to a call's end, but one more at each place.
abbrev pub slower : Place → ℕ
slower p = most_of p + 1

-- ---- what stands

-- The slip that is planted: none. The must-fail edits of this crate plant one here, or give another definition.
abbrev pub planted : ℕ
planted = none

abbrev pub given : Definition
given = slipped planted

abbrev pub given_stock : List Event → ℕ
given_stock = stock_with planted

-- It is document 01's, with document 02's stock, and so the demands stand.
abbrev pub Faithful : Type 0
Faithful = (given ≡ document01) × (given_stock ≡ stock)

abbrev pub Stands : Type 0
Stands =
    UnderEverySchedule given × NothingWraps given × ActByAct given × WholeSchedules given × LenTrue given × ScheduledAlone given × StockUnderEverySchedule given given_stock
    × LossesUnderEverySchedule given × CountsAside given × CloseHolds given × ClosedIsLast given × AnswersPlain given × OneStep given
    × OneStepUnderEverySchedule given
