-- Slips in the table, each with one row changed, on blocks of two slots; and definitions that are wrong beside the table.
use Rattle.std.specs.Prelude.{ℕ, ◌+◌, cond, ◌≡◌, eqb}
use Rattle.unbounded_words.specs.declared.Pointer.TheVariants.{None, To}
use Rattle.unbounded_words.specs.Words.{Sizes, sizes, later, same, same_position, none_of}
use Rattle.unbounded_places.specs.declared.Answer.TheVariants.{Pushed, Closed, Popped, Empty, Len, Yes, No}
use Rattle.unbounded_places.specs.declared.Place.TheVariants.{Idle, U1, U2, U3, U4, U5, U6, U7, U8, U9, U10, U11, U12, U13, U14, U15, V1, V2, V3, V4, V5, V6, V7, V8, V9, V10, V11, V12, V13, V14, V15, Len1, Len2, Len3, Empty1, Empty2, Full1, Close1, IsClosed1}
use Rattle.unbounded_acts.specs.declared.Acted.{Acted}
use Rattle.unbounded_acts.specs.Acts.{leave, tail_to, back_to_words, READ, state_to, value_to, with, new_block, first_or, answered, claimed, take_or, read_out_of, destroy_from, act_of}
use Rattle.unbounded_machine.specs.Turn.{Table, turn_with}
use Rattle.unbounded_machine.specs.Run.{ran, run_with}
use Rattle.unbounded_machine.specs.History.{history_with}
use Rattle.unbounded_demands.specs.Notions.{Definition, definition}
use Rattle.unbounded_demands.specs.Demands.{AnswersPlain, ClosesAndClaims, UnderEverySchedule, ActByAct, WholeSchedules, NoBlock}
use Rattle.unbounded_demands.specs.Runs.{short}

-- ---- the slips

abbrev pub none : ℕ
none = 0

-- U1 answers Pushed: the item is gone
abbrev pub push_drops : ℕ
push_drops = 51

-- a won U7 goes on with another item than the call's
abbrev pub pushes_another : ℕ
pushes_another = 52

-- U7 compares positions alone: it claims after a close too
abbrev pub claims_closed : ℕ
claims_closed = 53

-- U12 answers Closed, with its item in the queue
abbrev pub closed_after_claim : ℕ
closed_after_claim = 54

-- V11 goes on with another value than the one in the slot
abbrev pub pops_another : ℕ
pops_another = 55

-- V12 answers Empty, and has taken the item out
abbrev pub empty_after_taking : ℕ
empty_after_taking = 56

-- len, is_empty, is_full, is_closed answer this whatever they load; close does nothing, and says yes
abbrev pub len_none : ℕ
len_none = 57

abbrev pub empty_yes : ℕ
empty_yes = 58

abbrev pub empty_no : ℕ
empty_no = 59

abbrev pub full_yes : ℕ
full_yes = 60

abbrev pub closed_yes : ℕ
closed_yes = 61

abbrev pub close_idle : ℕ
close_idle = 62

-- U6 is left out: a won U5 goes on at U7, and head's block is never stored
abbrev pub no_head_block : ℕ
no_head_block = 1

-- U7 wins and does not move tail
abbrev pub tail_unmoved : ℕ
tail_unmoved = 2

-- a lost U7 answers Closed at U8 without looking for the mark
abbrev pub closed_unseen : ℕ
closed_unseen = 3

-- U11 does not store next
abbrev pub untied : ℕ
untied = 4

-- U12 writes nothing
abbrev pub unwritten : ℕ
unwritten = 5

-- U14 answers and keeps the block set aside
abbrev pub aside_kept : ℕ
aside_kept = 6

-- V3 answers Empty whatever tail is
abbrev pub empty_unseen : ℕ
empty_unseen = 7

-- V3 hands out 0 where the queue is empty
abbrev pub hands_out_again : ℕ
hands_out_again = 8

-- V3 takes also where the queue is empty
abbrev pub takes_unseen : ℕ
takes_unseen = 9

-- V10 goes to V11 whatever the state is
abbrev pub reads_early : ℕ
reads_early = 10

-- V13 goes on past a slot that is not read
abbrev pub skips_reader : ℕ
skips_reader = 11

-- V15 answers and frees nothing
abbrev pub keeps_block : ℕ
keeps_block = 12

-- U3 sets block 0 aside, whichever it took
abbrev pub aside_first : ℕ
aside_first = 31

-- a lost U5 with nothing set aside takes another block at once
abbrev pub takes_again : ℕ
takes_again = 32

-- U13 answers and does not set WRITE
abbrev pub unset : ℕ
unset = 33

-- U12 writes, and writes again
abbrev pub writes_on : ℕ
writes_on = 34

-- V15 stays there
abbrev pub frees_on : ℕ
frees_on = 35

-- U14 stays there
abbrev pub gives_on : ℕ
gives_on = 36

-- is_empty's second load goes back to its first
abbrev pub looks_again : ℕ
looks_again = 37

-- The row of the table, but for this slip.
abbrev but : ℕ → ℕ → Acted → Acted → Acted
but n slip wrong right = cond (eqb n slip) wrong right

-- The table with slip number n.
abbrev pub act_with : ℕ → Table
act_with m z e k g s (Idle a) lose = act_of z e k g s (Idle a) lose
act_with m z e k g s (U1 n x) lose = but m push_drops (leave e g s (Idle Pushed)) (act_of z e k g s (U1 n x) lose)
act_with m z e k g s (U2 n t x) lose = act_of z e k g s (U2 n t x) lose
act_with m z e k g s (U3 t b x) lose = but m aside_first (leave e new_block s (first_or (To 0) t b x)) (act_of z e k g s (U3 t b x) lose)
act_with m z e k g s (U4 n t x) lose = act_of z e k g s (U4 n t x) lose
act_with m z e k g s (U5 n t new x) lose =
    but m no_head_block (cond (none_of e.back) (leave (back_to_words e new) g s (U7 n t new x)) (act_of z e k g s (U5 n t new x) lose))
    (but m takes_again (cond (none_of e.back) (act_of z e k g s (U5 n t new x) lose) (cond (none_of n) (leave e g s (U4 new t x)) (act_of z e k g s (U5 n t new x) lose))) (act_of z e k g s (U5 n t new x) lose))
act_with m z e k g s (U6 n t new x) lose = act_of z e k g s (U6 n t new x) lose
act_with m z e k g s (U7 n t b x) lose =
    but m tail_unmoved (cond (same e.tail t) (cond lose (act_of z e k g s (U7 n t b x) lose) (leave e g s (claimed z n t b x))) (act_of z e k g s (U7 n t b x) lose))
    (but m pushes_another (act_of z e k g s (U7 n t b (x + 1)) lose)
    (but m claims_closed (cond (same_position e.tail t) (leave (tail_to e (later e.tail)) g s (claimed z n t b x)) (act_of z e k g s (U7 n t b x) lose)) (act_of z e k g s (U7 n t b x) lose)))
act_with m z e k g s (U8 n t x) lose = but m closed_unseen (leave e g s (Idle (Closed x))) (act_of z e k g s (U8 n t x) lose)
act_with m z e k g s (U9 n t b x) lose = act_of z e k g s (U9 n t b x) lose
act_with m z e k g s (U10 n t b x) lose = act_of z e k g s (U10 n t b x) lose
act_with m z e k g s (U11 n t b x) lose = but m untied (leave e g s (U12 None t b x)) (act_of z e k g s (U11 n t b x) lose)
act_with m z e k g s (U12 n t b x) lose =
    but m unwritten (leave e g s (U13 n t b))
    (but m closed_after_claim (leave e g (value_to s x) (Idle (Closed x))) (but m writes_on (leave e g s (U12 n t b x)) (act_of z e k g s (U12 n t b x) lose)))
act_with m z e k g s (U13 n t b) lose = but m unset (leave e g s (answered n Pushed)) (act_of z e k g s (U13 n t b) lose)
act_with m z e k g s (U14 n a) lose = but m aside_kept (leave e g s (Idle a)) (but m gives_on (leave e g s (U14 n a)) (act_of z e k g s (U14 n a) lose))
act_with m z e k g s (U15 n new x) lose = act_of z e k g s (U15 n new x) lose
act_with m z e k g s V1 lose = act_of z e k g s V1 lose
act_with m z e k g s (V2 h) lose = act_of z e k g s (V2 h) lose
act_with m z e k g s (V3 h b) lose =
    but m empty_unseen (leave e g s (Idle Empty))
    (but m hands_out_again (cond (same_position h e.tail) (leave e g s (Idle (Popped 0))) (act_of z e k g s (V3 h b) lose))
    (but m takes_unseen (leave e g s (take_or h b (later h))) (act_of z e k g s (V3 h b) lose)))
act_with m z e k g s (V4 h b new) lose = act_of z e k g s (V4 h b new) lose
act_with m z e k g s (V5 h) lose = act_of z e k g s (V5 h) lose
act_with m z e k g s (V6 h b new) lose = act_of z e k g s (V6 h b new) lose
act_with m z e k g s (V7 h b new next) lose = act_of z e k g s (V7 h b new next) lose
act_with m z e k g s (V8 h b next i) lose = act_of z e k g s (V8 h b next i) lose
act_with m z e k g s (V9 h b i) lose = act_of z e k g s (V9 h b i) lose
act_with m z e k g s (V10 h b) lose = but m reads_early (leave e g s (V11 h b)) (act_of z e k g s (V10 h b) lose)
act_with m z e k g s (V11 h b) lose = but m pops_another (leave e g s (read_out_of z h b (s.value + 1))) (act_of z e k g s (V11 h b) lose)
act_with m z e k g s (V12 h b v) lose = but m empty_after_taking (leave e g (state_to s (with READ s.state)) (Idle Empty)) (act_of z e k g s (V12 h b v) lose)
act_with m z e k g s (V13 b i v) lose = but m skips_reader (leave e g s (destroy_from z b (i + 1) v)) (act_of z e k g s (V13 b i v) lose)
act_with m z e k g s (V14 b i v) lose = act_of z e k g s (V14 b i v) lose
act_with m z e k g s (V15 b v) lose = but m keeps_block (leave e g s (Idle (Popped v))) (but m frees_on (leave e g s (V15 b v)) (act_of z e k g s (V15 b v) lose))
act_with m z e k g s Len1 lose = act_of z e k g s Len1 lose
act_with m z e k g s (Len2 t) lose = act_of z e k g s (Len2 t) lose
act_with m z e k g s (Len3 t h) lose = but m len_none (leave e g s (Idle (Len 0))) (act_of z e k g s (Len3 t h) lose)
act_with m z e k g s Empty1 lose = act_of z e k g s Empty1 lose
act_with m z e k g s (Empty2 h) lose = but m empty_yes (leave e g s (Idle Yes)) (but m empty_no (leave e g s (Idle No)) (but m looks_again (leave e g s Empty1) (act_of z e k g s (Empty2 h) lose)))
act_with m z e k g s Full1 lose = but m full_yes (leave e g s (Idle Yes)) (act_of z e k g s Full1 lose)
act_with m z e k g s Close1 lose = but m close_idle (leave e g s (Idle Yes)) (act_of z e k g s Close1 lose)
act_with m z e k g s IsClosed1 lose = but m closed_yes (leave e g s (Idle Yes)) (act_of z e k g s IsClosed1 lose)

-- ---- the machine with a slip

abbrev pub slipped : ℕ → Definition
slipped m = definition short (act_with m)

-- Two definitions that are wrong beside the table: one runs no entry of a schedule, one never takes the last block of the pool.
abbrev pub deaf : Definition
deaf = record { sizes = short; turn = turn_with short act_of; run = λ m place s. ran 0 place m; history = history_with (turn_with short act_of) }

abbrev pub one_fewer : Sizes
one_fewer = record { lap = 3; slots = 2; blocks = 1 }

abbrev pub stingy : Definition
stingy =
    record {
      sizes = short;
      turn = turn_with one_fewer act_of;
      run = run_with (turn_with one_fewer act_of);
      history = history_with (turn_with one_fewer act_of);
    }

-- ---- what stands

-- The slip that is planted: none. The must-fail edits of this crate plant one here, or give another definition.
abbrev pub planted : ℕ
planted = none

abbrev pub given : Definition
given = definition sizes (act_with planted)

-- It is request 12's, and so the statements stand.
abbrev pub Faithful : Type 0
Faithful = given ≡ definition sizes act_of

abbrev pub Stands : Type 0
Stands = AnswersPlain given × ClosesAndClaims given × UnderEverySchedule given × ActByAct given × WholeSchedules given × NoBlock given
