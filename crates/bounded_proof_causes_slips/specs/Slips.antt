-- Ways to name the causes of a retry with a slip: one struck from the list, or one read otherwise than document 02 has it.
use Rattle.std.specs.Prelude.{ℕ, Bool, true, false, cond, List, [], ◌∷◌, ◌≡◌, eqb, ltb, replicate}
use Rattle.queue_entries.specs.Limits.{workers_most}
use Rattle.bounded_words.specs.declared.Width.TheVariants.{Sixteen, SixtyFour}
use Rattle.bounded_machine.specs.declared.Event.{Event}
use Rattle.bounded_machine.specs.History.{moved_of}
use Rattle.bounded_causes.specs.declared.Since.{Since}
use Rattle.bounded_causes.specs.declared.Causes.{Causes}
use Rattle.bounded_causes.specs.declared.Watches.{Watches}
use Rattle.bounded_causes.specs.Causes.{stand_of, deed_of, watched_most, start, untouched, since_with, watch_of, own_in, other_in, causes_of}
use Rattle.bounded_orders.specs.Orders.{records_most}
use Rattle.bounded_demands.specs.Notions.{of_width, with_records, document01, watches_from, watches, causes_in, other_hand}
use Rattle.bounded_demands.specs.Demands.{EveryRetryHasACause, EachNeeded, RetriesUnderEverySchedule, RetriesInWindow}

abbrev pub none : ℕ
none = 0

-- the schedule's failure struck from the list; the own end; the other end; the hand
abbrev pub no_schedule : ℕ
no_schedule = 1

abbrev pub no_own_end : ℕ
no_own_end = 2

abbrev pub no_other_end : ℕ
no_other_end = 3

abbrev pub no_hand : ℕ
no_hand = 4

-- the own end since the call's begin, and not since the word was loaded or found
abbrev pub since_begin : ℕ
since_begin = 5

-- the hand looked for now, and not at the stamp load
abbrev pub hand_now : ℕ
hand_now = 6

-- len with the causes of its worker's last stamp load
abbrev pub len_with_stamps : ℕ
len_with_stamps = 7

-- a mark is no touch of tail
abbrev pub mark_unseen : ℕ
mark_unseen = 8

-- at P2 and O2 the stamp load before, and not the act itself
abbrev pub load_before : ℕ
load_before = 9

-- of workers past the sixteenth nothing is kept
abbrev pub first_sixteen : ℕ
first_sixteen = 10

-- What was done to the ends since w's last answer.
unfoldable pub since_answer : ℕ → Since → List Event → Since
since_answer w s [] = s
since_answer w s (e ∷ h) =
    since_answer w
    (cond (cond (eqb e.worker w) (eqb (stand_of e.after).far 0) false) untouched
    (since_with (deed_of (stand_of e.before) (stand_of e.after) (moved_of e.after)) s))
    h

abbrev causes : Bool → Bool → Bool → Bool → Causes
causes schedule own other hand = record { schedule = schedule; own = own; other = other; hand = hand }

abbrev unmarked : Since → Since
unmarked s = record { tail = s.tail; head = s.head; mark = false }

-- With slip number n: the causes k of an act that comes after these, named otherwise.
abbrev amiss : ℕ → List Event → Event → Causes → Causes
amiss n earlier act k =
    cond (eqb n no_schedule) (causes false k.own k.other k.hand)
    (cond (eqb n no_own_end) (causes k.schedule false k.other k.hand)
    (cond (eqb n no_other_end) (causes k.schedule k.own false k.hand)
    (cond (eqb n no_hand) (causes k.schedule k.own k.other false)
    (cond (eqb n since_begin) (causes k.schedule (own_in (stand_of act.before).end (since_answer act.worker untouched earlier)) k.other k.hand)
    (cond (eqb n hand_now) (causes k.schedule k.own k.other (other_hand act.worker earlier))
    (cond (eqb n len_with_stamps)
    (cond (stand_of act.before).stamps k
    (causes k.schedule k.own (other_in (stand_of act.before).end (watch_of (watches earlier).each act.worker).stamp) (watch_of (watches earlier).each act.worker).others))
    (cond (eqb n mark_unseen) (causes k.schedule (own_in (stand_of act.before).end (unmarked (watch_of (watches earlier).each act.worker).word)) k.other k.hand)
    (cond (eqb n load_before)
    (causes_of (stand_of act.before) (watch_of (watches earlier).each act.worker) (watch_of (watches earlier).each act.worker) act.loss)
    (cond (eqb n first_sixteen) (cond (ltb act.worker workers_most) k (causes false false false false))
    k)))))))))

abbrev pub name_with : ℕ → List Event → Event → Causes
name_with n earlier act = amiss n earlier act (causes_in earlier act)

-- ---- what is kept, with a slip

-- nothing, whatever was done
abbrev pub keeps_nothing : List Event → Watches
keeps_nothing h = start

-- every worker with a slot in hand before the first act
abbrev pub held_at_first : List Event → Watches
held_at_first = watches_from (record { each = replicate watched_most (record { word = untouched; stamp = untouched; others = false; hand = true }) })

-- ---- what stands

-- The slip that is planted: none. The must-fail edits of this crate plant one here.
abbrev pub planted : ℕ
planted = none

abbrev pub given : List Event → Event → Causes
given = name_with planted

abbrev pub Faithful : Type 0
Faithful = given ≡ causes_in

abbrev pub Stands : Type 0
Stands =
    EveryRetryHasACause document01 given × EachNeeded given 1 × EachNeeded given 2 × RetriesUnderEverySchedule (with_records records_most SixtyFour) given × RetriesInWindow (of_width Sixteen) given
