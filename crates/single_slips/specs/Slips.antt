-- The source's table with a slip in one row, all else as it is; and definitions of the machine made of such tables.
use Rattle.std.specs.Prelude.{ℕ, ◌+◌, ◌*◌, ◌/◌, cond, ◌≡◌, eqb}
use Rattle.queue_numbers.specs.Numbers.{Numbers, Functions}
use Rattle.queue_numbers.specs.Slips.{Parts, functions_with}
use Rattle.single_words.specs.Words.{state, same, locked_in, pushed_in, closed_in, filled, unlocked, taken_of}
use Rattle.single_places.specs.declared.Single.{Single}
use Rattle.single_places.specs.declared.Answer.TheVariants.{Pushed, Full, Popped, Empty, Len, Yes, No}
use Rattle.single_places.specs.declared.Place.{Place}
use Rattle.single_places.specs.declared.Place.TheVariants.{Idle, A1, A2, A3, B1, B2, B3, B4, B5, C1, C2, C3, Len1, Empty1, Full1, Close1, IsClosed1}
use Rattle.single_acts.specs.declared.Acted.{Acted}
use Rattle.single_acts.specs.Acts.{goes, state_to, value_to, exchanged, unlocked_in, act_of}
use Rattle.single_machine.specs.declared.Machine.{Machine}
use Rattle.single_machine.specs.declared.Did.{Did}
use Rattle.single_machine.specs.declared.Ran.{Ran}
use Rattle.single_machine.specs.Machine.{machine_of, refused}
use Rattle.single_machine.specs.Broken.{broken_of}
use Rattle.single_machine.specs.Contents.{contents_refusal}
use Rattle.single_machine.specs.Turn.{turn_of, turn_of_by}
use Rattle.single_machine.specs.Run.{ran, run_from}
use Rattle.single_machine.specs.History.{history_of}
use Rattle.single_demands.specs.Notions.{Definition, by_table, source, most_of}
use Rattle.single_demands.specs.Demands.{functions, refusals, AnswersPlain, UnderEverySchedule, ActByAct, WholeSchedules, ScheduledAlone}

-- ---- the slips

abbrev pub none : ℕ
none = 0

-- A1 takes the slot whatever word it finds
abbrev pub push_takes_any : ℕ
push_takes_any = 1

-- a push that finds the slot taken waits: it tries again
abbrev pub push_waits : ℕ
push_waits = 2

-- A1 answers Full at once
abbrev pub always_full : ℕ
always_full = 3

-- A2 writes nothing
abbrev pub unwritten : ℕ
unwritten = 4

-- A2 unlocks before it writes (and goes on as B2, which writes)
abbrev pub unlocks_first : ℕ
unlocks_first = 5

-- A3 unlocks and clears PUSHED
abbrev pub unlock_clears_pushed : ℕ
unlock_clears_pushed = 6

-- A3 answers and leaves the word locked
abbrev pub stays_locked : ℕ
stays_locked = 7

-- a lost B1 keeps the word found as it is, with LOCKED
abbrev pub force_keeps_locked : ℕ
force_keeps_locked = 8

-- a lost B1 keeps the word that it expected
abbrev pub force_keeps_its_word : ℕ
force_keeps_its_word = 9

-- B1 does not look for CLOSED
abbrev pub force_unclosed : ℕ
force_unclosed = 10

-- a won B1 goes to B2 also where an item waits
abbrev pub force_never_displaces : ℕ
force_never_displaces = 11

-- a won B1 goes to B4 also where no item waits
abbrev pub force_always_displaces : ℕ
force_always_displaces = 12

-- B4 hands out its own item
abbrev pub displaces_its_own : ℕ
displaces_its_own = 13

-- a lost C1 keeps the word found as it is, with LOCKED
abbrev pub pop_keeps_locked : ℕ
pop_keeps_locked = 14

-- a pop waits for the reader: where the word is locked and not pushed it tries again
abbrev pub pop_waits : ℕ
pop_waits = 15

-- C1 exchanges e for e | LOCKED: PUSHED stays
abbrev pub pop_leaves_pushed : ℕ
pop_leaves_pushed = 16

-- a pop that finds nothing does not look for CLOSED
abbrev pub empty_unclosed : ℕ
empty_unclosed = 17

-- a lost C1 keeps the word that it expected
abbrev pub pop_keeps_its_word : ℕ
pop_keeps_its_word = 18

-- C1 takes whatever word it finds
abbrev pub pop_takes_any : ℕ
pop_takes_any = 19

-- a won C1 hands out the value and takes nothing
abbrev pub pop_peeks : ℕ
pop_peeks = 20

-- C3 before C2: the value is read after the word is unlocked
abbrev pub reads_after_unlock : ℕ
reads_after_unlock = 21

-- C3 goes back to C2
abbrev pub never_lets_go : ℕ
never_lets_go = 22

-- len counts only what is not in hand
abbrev pub len_unlocked : ℕ
len_unlocked = 23

-- is_empty looks for the word 0, is_full for any other
abbrev pub empty_is_zero : ℕ
empty_is_zero = 24

-- close stores CLOSED
abbrev pub close_by_store : ℕ
close_by_store = 25

-- close adds CLOSED
abbrev pub close_adds : ℕ
close_adds = 26

-- a won A1 answers Pushed at once: the item is gone
abbrev pub push_drops : ℕ
push_drops = 27

-- a won A1 goes on with another item than the call's
abbrev pub pushes_another : ℕ
pushes_another = 28

-- a B1 that expected PUSHED and finds 0 answers Pushed: the item is gone
abbrev pub force_drops : ℕ
force_drops = 29

-- a C1 that finds the word locked answers Empty, also where an item waits
abbrev pub empty_is_locked : ℕ
empty_is_locked = 30

-- C2 goes on with another value than the one in the slot
abbrev pub pops_another : ℕ
pops_another = 31

-- close does nothing, and says yes
abbrev pub close_idle : ℕ
close_idle = 32

-- The row of the source, but for this slip.
abbrev but : ℕ → ℕ → Acted → Acted → Acted
but n slip wrong right = cond (eqb n slip) wrong right

-- The table with slip number n.
abbrev pub act_with : ℕ → Single → Place → Acted
act_with n s (Idle a) = act_of s (Idle a)
act_with n s (A1 x) =
    but n push_takes_any (goes (state_to s filled) (A2 x))
    (but n push_waits (cond (same s.state (state 0)) (act_of s (A1 x)) (cond (closed_in s.state) (act_of s (A1 x)) (goes s (A1 x))))
    (but n always_full (goes s (Idle (Full x)))
    (but n push_drops (cond (same s.state (state 0)) (goes s (Idle Pushed)) (act_of s (A1 x)))
    (but n pushes_another (cond (same s.state (state 0)) (goes (state_to s filled) (A2 (x + 1))) (act_of s (A1 x))) (act_of s (A1 x))))))
act_with n s (A2 x) = but n unwritten (goes s A3) (but n unlocks_first (goes (unlocked_in s) (B2 x)) (act_of s (A2 x)))
act_with n s A3 =
    but n unlock_clears_pushed (goes (state_to s (state (s.state.0 / 4 * 4))) (Idle Pushed)) (but n stays_locked (goes s (Idle Pushed)) (act_of s A3))
act_with n s (B1 e x) =
    but n force_keeps_locked (cond (closed_in s.state) (act_of s (B1 e x)) (cond (same s.state e) (act_of s (B1 e x)) (goes s (B1 s.state x))))
    (but n force_keeps_its_word (cond (closed_in s.state) (act_of s (B1 e x)) (cond (same s.state e) (act_of s (B1 e x)) (goes s (B1 e x))))
    (but n force_unclosed (goes (exchanged s e filled) (cond (same s.state e) (cond (pushed_in s.state) (B4 x) (B2 x)) (B1 (unlocked s.state) x)))
    (but n force_never_displaces (cond (same s.state e) (goes (exchanged s e filled) (B2 x)) (act_of s (B1 e x)))
    (but n force_always_displaces (cond (same s.state e) (goes (exchanged s e filled) (B4 x)) (act_of s (B1 e x)))
    (but n force_drops (cond (same s.state (state 0)) (cond (same e (state 2)) (goes s (Idle Pushed)) (act_of s (B1 e x))) (act_of s (B1 e x))) (act_of s (B1 e x)))))))
act_with n s (B2 x) = act_of s (B2 x)
act_with n s B3 = act_of s B3
act_with n s (B4 x) = but n displaces_its_own (goes (value_to s x) (B5 x)) (act_of s (B4 x))
act_with n s (B5 old) = act_of s (B5 old)
act_with n s (C1 e) =
    but n pop_keeps_locked (cond (same s.state e) (act_of s (C1 e)) (cond (pushed_in s.state) (goes s (C1 s.state)) (act_of s (C1 e))))
    (but n pop_waits (cond (pushed_in s.state) (act_of s (C1 e)) (cond (locked_in s.state) (goes s (C1 e)) (act_of s (C1 e))))
    (but n pop_leaves_pushed (cond (same s.state e) (goes (state_to s (state (e.0 + 1))) C2) (act_of s (C1 e)))
    (but n empty_unclosed (cond (pushed_in s.state) (act_of s (C1 e)) (goes s (Idle Empty)))
    (but n pop_keeps_its_word (cond (same s.state e) (act_of s (C1 e)) (cond (pushed_in s.state) (goes s (C1 e)) (act_of s (C1 e))))
    (but n pop_takes_any (goes (state_to s (taken_of s.state)) C2)
    (but n pop_peeks (cond (same s.state e) (goes s (Idle (Popped s.value))) (act_of s (C1 e)))
    (but n empty_is_locked (cond (locked_in s.state) (goes s (Idle Empty)) (act_of s (C1 e))) (act_of s (C1 e)))))))))
act_with n s C2 = but n reads_after_unlock (goes (unlocked_in s) (C3 0)) (but n pops_another (goes s (C3 (s.value + 1))) (act_of s C2))
act_with n s (C3 v) = but n reads_after_unlock (goes s (Idle (Popped s.value))) (but n never_lets_go (goes s C2) (act_of s (C3 v)))
act_with n s Len1 = but n len_unlocked (cond (locked_in s.state) (goes s (Idle (Len 0))) (act_of s Len1)) (act_of s Len1)
act_with n s Empty1 = but n empty_is_zero (goes s (Idle (cond (same s.state (state 0)) Yes No))) (act_of s Empty1)
act_with n s Full1 = but n empty_is_zero (goes s (Idle (cond (same s.state (state 0)) No Yes))) (act_of s Full1)
act_with n s Close1 =
    but n close_by_store (goes (state_to s (state 4)) (Idle (cond (closed_in s.state) No Yes)))
    (but n close_adds (goes (state_to s (state (s.state.0 + 4))) (Idle (cond (closed_in s.state) No Yes)))
    (but n close_idle (goes s (Idle Yes)) (act_of s Close1)))
act_with n s IsClosed1 = act_of s IsClosed1

-- ---- the machine with a slip

abbrev pub slipped : ℕ → Definition
slipped n = by_table (act_with n)

-- Two definitions that are wrong beside the table: one runs no entry of a schedule, one refuses every entry.
abbrev pub deaf : Definition
deaf = record { turn = turn_of; run = λ m place s. ran 0 place m; history = history_of }

abbrev pub refusing : Definition
refusing = record { turn = λ m first second. refused 8 m; run = run_from; history = history_of }

-- ---- the functions of the face with a slip

abbrev pub parts : Parts Machine Did Ran
parts =
    record {
      refusal = λ d. d.refusal;
      refused = refused;
      metered = λ m. machine_of m.single m.workers m.count (m.meter + 1);
      entries = λ m s. run_from m 0 s;
      unfit = contents_refusal;
    }

abbrev pub face_with : ℕ → Functions Machine Did Ran
face_with = functions_with parts functions

-- A step by the table whose close adds CLOSED.
abbrev pub steps_adding : Functions Machine Did Ran
steps_adding =
    record {
      make = functions.make;
      step = λ m first second. cond (broken_of m) (refused 6 m) (turn_of_by (act_with close_adds) m first second);
      begin = functions.begin;
      act = functions.act;
      run = functions.run;
      written = functions.written;
    }

-- Numbers of refusals as the face gives them, but that a making is refused by 1, which document 01 gives to a capacity.
abbrev pub gives_one : Numbers Machine
gives_one =
    record { make = λ workers. 1; step = refusals.step; begin = refusals.begin; act = refusals.act; run = refusals.run; contents = refusals.contents }

-- The most acts to a call's end, but one more at each place: at a begun call, and with the slot in hand, that is too many.
abbrev pub slower : Place → ℕ
slower p = most_of p + 1

-- ---- what stands

-- The slip that is planted: none. The must-fail edits of this crate plant one here, or give another definition.
abbrev pub planted : ℕ
planted = none

abbrev pub given : Definition
given = slipped planted

-- It is the source's, and so the demands stand.
abbrev pub Faithful : Type 0
Faithful = given ≡ source

abbrev pub FaithfulFace : Type 0
FaithfulFace = face_with none ≡ functions

abbrev pub Stands : Type 0
Stands = AnswersPlain given × UnderEverySchedule given × ActByAct given × WholeSchedules given × ScheduledAlone given
