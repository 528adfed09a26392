-- The answer that a call alone gives, foretold from the words of the machine, for a call that has only begun and for one under way.
-- That it is the answer given: `EndsAlone` of Demands.antt; the table below by computing.
use Rattle.std.specs.Prelude.{ℕ, cond, List, [], ◌∷◌, ◌++◌, get_or}
use Rattle.bounded_words.specs.declared.Fixed.{Fixed}
use Rattle.bounded_words.specs.declared.Width.{Width}
use Rattle.bounded_words.specs.declared.Width.TheVariants.{SixtyFour}
use Rattle.bounded_words.specs.Words.{marked_of, unmarked_of, minus, same, lap_behind}
use Rattle.bounded_places.specs.declared.Ends.{Ends}
use Rattle.bounded_places.specs.declared.Kind.{Kind}
use Rattle.bounded_places.specs.declared.Kind.TheVariants.{Push, Force}
use Rattle.bounded_places.specs.declared.Answer.{Answer}
use Rattle.bounded_places.specs.declared.Answer.TheVariants.{Pushed, Full, Closed, Displaced, Popped, Empty, PopClosed, Len, Yes, No}
use Rattle.bounded_places.specs.declared.Place.{Place}
use Rattle.bounded_places.specs.declared.Place.TheVariants.{Idle, P1, P2, P3, P4, P5, P6, F6, F7, F8, F9, O1, O2, O3, O4, O5, O6, Len1, Len2, Len3, Empty1, Empty2, Full1, Full2, Close1, IsClosed1}
use Rattle.bounded_places.specs.Places.{view_of}
use Rattle.bounded_acts.specs.Acts.{count_of, yes_no, act_of}
use Rattle.bounded_machine.specs.declared.Machine.{Machine}
use Rattle.bounded_machine.specs.Machine.{slot, fresh_of, place_of, fixed_on, ends_on}
use Rattle.bounded_machine.specs.Turn.{Table, spot_of}
use Rattle.bounded_machine.specs.Run.{run_of_by}
use Rattle.bounded_demands.specs.Notions.{acts, value_at}

-- what a push says of a full ring, in whose first slot v is
abbrev pub full_answer : Kind → ℕ → ℕ → Answer
full_answer Push x v = Full x
full_answer Force x v = Displaced v

module _ (bits : Width) (f : Fixed) (e : Ends) (v : ℕ) where
  -- from the first load on, with v in the slot at head
  abbrev pub push_answer : Kind → ℕ → Answer
  push_answer k x = cond (marked_of f e.tail) (Closed x) (cond (lap_behind bits f e.head (unmarked_of f e.tail)) (full_answer k x v) Pushed)

  abbrev pub pop_answer : Answer
  pop_answer = cond (same (unmarked_of f e.tail) e.head) (cond (marked_of f e.tail) PopClosed Empty) (Popped v)

  -- u is in the slot at the worker's own word. A push that saw the ring full does not look at the mark again.
  abbrev pub foretold_of : ℕ → Place → Answer
  foretold_of u (Idle a) = a
  foretold_of u (P1 k x) = push_answer k x
  foretold_of u (P2 k t x) = cond (lap_behind bits f e.head t) (full_answer k x v) (push_answer k x)
  foretold_of u (P3 k t x) = push_answer k x
  foretold_of u (P4 t x) = Pushed
  foretold_of u (P5 t) = Pushed
  foretold_of u (P6 t x) = cond (lap_behind bits f e.head t) (Full x) (push_answer Push x)
  foretold_of u (F6 t x) = cond (same e.head (minus bits t f.lap)) (Displaced v) (push_answer Force x)
  foretold_of u (F7 t x) = Displaced u
  foretold_of u (F8 t x) = Displaced u
  foretold_of u (F9 t old) = Displaced old
  foretold_of u O1 = pop_answer
  foretold_of u (O2 h) = pop_answer
  foretold_of u (O3 h) = pop_answer
  foretold_of u (O4 h) = Popped u
  foretold_of u (O5 h w) = Popped w
  foretold_of u (O6 h) = pop_answer
  foretold_of u Len1 = Len (count_of f e.tail e.head)
  foretold_of u (Len2 t) = Len (count_of f e.tail e.head)
  foretold_of u (Len3 t h) = cond (same e.tail t) (Len (count_of f t h)) (Len (count_of f e.tail e.head))
  foretold_of u Empty1 = yes_no (same (unmarked_of f e.tail) e.head)
  foretold_of u (Empty2 h) = yes_no (same (unmarked_of f e.tail) h)
  foretold_of u Full1 = yes_no (lap_behind bits f e.head (unmarked_of f e.tail))
  foretold_of u (Full2 t) = yes_no (lap_behind bits f e.head (unmarked_of f t))
  foretold_of u Close1 = cond (marked_of f e.tail) No Yes
  foretold_of u IsClosed1 = yes_no (marked_of f e.tail)

-- the value in the slot of the worker's own word
abbrev pub own_value : Machine → Place → ℕ
own_value m p = (get_or m.ring.slots (spot_of (fixed_on m.ring) (view_of p).held) (slot 0 0)).value

-- Of worker w's call on this machine.
abbrev pub foretold : Width → Machine → ℕ → Answer
foretold bits m w =
    foretold_of bits (fixed_on m.ring) (ends_on m.ring) (value_at m m.ring.head) (own_value m (place_of m.workers w)) (place_of m.workers w)

-- ---- a table: capacity, a schedule from a fresh machine with two workers, and the answer of worker 0's call there
pub record Telling : Type 0 where
  pub capacity : ℕ
  pub schedule : List ℕ
  pub answer : Answer

abbrev tells : ℕ → List ℕ → Answer → Telling
tells c s a = record { capacity = c; schedule = s; answer = a }

-- What is foretold, and where worker 0 stands after seven acts of its own at most.
pub record Told : Type 0 where
  pub foretold_is : Answer
  pub ends_at : Place

unfoldable pub told_on : Width → Table → Machine → Told
told_on bits table m = record { foretold_is = foretold bits m 0; ends_at = place_of (run_of_by table m (acts 0 7)).machine.workers 0 }

-- Of words of this width, by this table of what an act does at each place, in this edition; and by document 01's, in its edition.
unfoldable pub told_by : Width → Table → ℕ → Telling → Told
told_by bits table edition r = told_on bits table (run_of_by table (fresh_of r.capacity 2 edition) r.schedule).machine

abbrev pub told_in : Telling → Told
told_in = told_by SixtyFour (act_of SixtyFour) 1

abbrev pub as_foretold : Answer → Told
as_foretold a = record { foretold_is = a; ends_at = Idle a }

-- Worker 0 begins the call of a code and an item and does so many acts; worker 1 does a call from beginning to end.
abbrev its : ℕ → ℕ → ℕ → List ℕ
its code item n = code ∷ item ∷ acts 0 n

abbrev pushes : List ℕ
pushes = 16 ∷ 7 ∷ acts 1 5

abbrev pops : List ℕ
pops = 18 ∷ 0 ∷ acts 1 5

abbrev closes : List ℕ
closes = 22 ∷ 0 ∷ acts 1 1

unfoldable pub tellings : List Telling
tellings =
    tells 1 (its 0 5 1 ++ closes) (Closed 5)
    ∷ tells 1 (pushes ++ its 0 5 1) (Full 5)
    -- closed after its load: a push that saw the ring full does not look at the mark again
    ∷ tells 1 (pushes ++ its 0 5 1 ++ closes) (Full 5)
    ∷ tells 1 (pushes ++ its 0 5 2 ++ pops) Pushed
    ∷ tells 1 (pushes ++ its 1 5 1) (Displaced 7)
    ∷ tells 1 (pushes ++ its 1 5 2 ++ closes) (Displaced 7)
    ∷ tells 2 (pushes ++ its 1 5 1) Pushed
    ∷ tells 1 (its 2 0 2) Empty
    ∷ tells 1 (its 2 0 2 ++ closes) PopClosed
    ∷ tells 1 (its 2 0 2 ++ pushes ++ closes) (Popped 7)
    ∷ tells 2 (pushes ++ its 3 0 2) (Len 1)
    ∷ tells 1 (its 4 0 1 ++ pushes) No
    ∷ tells 1 (its 5 0 1 ++ pushes) No
    ∷ []
