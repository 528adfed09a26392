-- "Acts" of document 01: its two tables and the lookers, row by row.
use Rattle.std.specs.Prelude.{ℕ, ◌+◌, ◌-◌, ◌<◌, Bool, true, cond, ◌≡◌, ltb, eqb}
use Rattle.bounded_words.specs.declared.Stamp.{Stamp}
use Rattle.bounded_words.specs.declared.Fixed.{Fixed}
use Rattle.bounded_words.specs.declared.Width.{Width}
use Rattle.bounded_words.specs.Words.{plus, minus, index_of, marked_of, unmarked_of, with_mark, next_of, same, one_past, lap_behind, lap_behind_one_past, Fair}
use Rattle.bounded_places.specs.declared.Slot.{Slot}
use Rattle.bounded_places.specs.declared.Ends.{Ends}
use Rattle.bounded_places.specs.declared.Kind.{Kind}
use Rattle.bounded_places.specs.declared.Kind.TheVariants.{Push, Force}
use Rattle.bounded_places.specs.declared.Exchange.{Exchange}
use Rattle.bounded_places.specs.declared.Exchange.TheVariants.{Won, Differed, Failed}
use Rattle.bounded_places.specs.declared.Loss.{Loss}
use Rattle.bounded_places.specs.declared.Loss.TheVariants as loss
use Rattle.bounded_places.specs.declared.Loss.TheVariants.{ByWords, BySchedule}
use Rattle.bounded_places.specs.declared.Answer.{Answer}
use Rattle.bounded_places.specs.declared.Answer.TheVariants.{Pushed, Full, Closed, Displaced, Popped, Empty, PopClosed, Len, Yes, No}
use Rattle.bounded_places.specs.declared.Place.{Place}
use Rattle.bounded_places.specs.declared.Place.TheVariants.{Idle, P1, P2, P3, P4, P5, P6, F6, F7, F8, F9, O1, O2, O3, O4, O5, O6, Len1, Len2, Len3, Empty1, Empty2, Full1, Full2, Close1, IsClosed1}
use Rattle.bounded_places.specs.Places.{view_of, fits_of}
use Rattle.bounded_acts.specs.declared.Acted.{Acted}

-- The worker goes to p, the ends and its slot are these, and what it lost is that.
unfoldable pub losing : Ends → Slot → Place → Loss → Acted
losing e s p l = record { ends = e; slot = s; place = p; loss = l }

unfoldable pub goes : Ends → Slot → Place → Acted
goes e s p = record { ends = e; slot = s; place = p; loss = loss.Nothing }

-- The exchange step (document 02, item 8): won, lost because the words differed, or lost by the schedule; where both apply it is the first
-- kind of loss.
unfoldable pub exchange_of : Stamp → Stamp → Bool → Exchange
exchange_of found expected lose = cond (same found expected) (cond lose Failed Won) (Differed found)

-- The kinds of effect: a word of an end, a stamp, a value.
unfoldable pub tail_to : Ends → Stamp → Ends
tail_to e w = record { head = e.head; tail = w }

unfoldable pub head_to : Ends → Stamp → Ends
head_to e w = record { head = w; tail = e.tail }

unfoldable pub stamp_to : Slot → Stamp → Slot
stamp_to s w = record { stamp = w; value = s.value }

unfoldable pub value_to : Slot → ℕ → Slot
value_to s v = record { stamp = s.stamp; value = v }

-- With a tail t loaded or found: marked: Closed, else P2
unfoldable pub after_tail : Fixed → Kind → Stamp → ℕ → Place
after_tail f k t x = cond (marked_of f t) (Idle (Closed x)) (P2 k t x)

-- P1 | load tail | marked: Closed, else P2
abbrev pub act_p1 : Fixed → Ends → Slot → Kind → ℕ → Acted
act_p1 f e s k x = goes e s (after_tail f k e.tail x)

-- P6 (push) or F6 (force)
abbrev pub full_at : Kind → Stamp → ℕ → Place
full_at Push t x = P6 t x
full_at Force t x = F6 t x

-- P2 | load stamp s of slot at index(t) | s = t: P3; s + lap = t + 1: P6 (push) or F6 (force); else P1
abbrev pub act_p2 : Width → Fixed → Ends → Slot → Kind → Stamp → ℕ → Acted
act_p2 bits f e s k t x =
    cond (same s.stamp t) (goes e s (P3 k t x))
    (cond (lap_behind_one_past bits f s.stamp t) (goes e s (full_at k t x)) (goes e s (P1 k x)))

-- P3 | weak exchange tail t to next(t) | won: P4; lost: t is the word found; marked: Closed, else P2
abbrev pub end_p3 : Width → Fixed → Ends → Slot → Kind → Stamp → ℕ → Exchange → Acted
end_p3 bits f e s k t x Won = goes (tail_to e (next_of bits f t)) s (P4 t x)
end_p3 bits f e s k t x (Differed found) = losing e s (after_tail f k found x) ByWords
end_p3 bits f e s k t x Failed = losing e s (P2 k t x) BySchedule

abbrev pub act_p3 : Width → Fixed → Ends → Slot → Kind → Stamp → ℕ → Bool → Acted
act_p3 bits f e s k t x lose = end_p3 bits f e s k t x (exchange_of e.tail t lose)

-- P5 | stamp becomes t + 1 | Pushed
abbrev pub act_p5 : Width → Ends → Slot → Stamp → Acted
act_p5 bits e s t = goes e (stamp_to s (plus bits t 1)) (Idle Pushed)

-- P6 | load head h | h + lap = t: Full, else P1
abbrev pub act_p6 : Width → Fixed → Ends → Slot → Stamp → ℕ → Acted
act_p6 bits f e s t x = cond (lap_behind bits f e.head t) (goes e s (Idle (Full x))) (goes e s (P1 Push x))

-- F6 | weak exchange head t - lap to next(t) - lap | won: F7, lost: P1
abbrev pub end_f6 : Width → Fixed → Ends → Slot → Stamp → ℕ → Exchange → Acted
end_f6 bits f e s t x Won = goes (head_to e (minus bits (next_of bits f t) f.lap)) s (F7 t x)
end_f6 bits f e s t x (Differed found) = losing e s (P1 Force x) ByWords
end_f6 bits f e s t x Failed = losing e s (P1 Force x) BySchedule

abbrev pub act_f6 : Width → Fixed → Ends → Slot → Stamp → ℕ → Bool → Acted
act_f6 bits f e s t x lose = end_f6 bits f e s t x (exchange_of e.head (minus bits t f.lap) lose)

-- F7 makes tail next(t); in edition 2 it keeps tail's mark.
unfoldable pub forced_tail : Width → Fixed → Stamp → Stamp → Stamp
forced_tail bits f tail t =
    cond (eqb f.edition 2) (cond (marked_of f tail) (with_mark bits f (next_of bits f t)) (next_of bits f t)) (next_of bits f t)

-- F7 | store next(t) in tail | F8
abbrev pub act_f7 : Width → Fixed → Ends → Slot → Stamp → ℕ → Acted
act_f7 bits f e s t x = goes (tail_to e (forced_tail bits f e.tail t)) s (F8 t x)

-- F8 | read old value, write new | F9
abbrev pub act_f8 : Ends → Slot → Stamp → ℕ → Acted
act_f8 e s t x = goes e (value_to s x) (F9 t s.value)

-- F9 | stamp becomes t + 1 | Displaced(old)
abbrev pub act_f9 : Width → Ends → Slot → Stamp → ℕ → Acted
act_f9 bits e s t old = goes e (stamp_to s (plus bits t 1)) (Idle (Displaced old))

-- O2 | load stamp s at index(h) | s = h + 1: O3; s = h: O6; else O1
abbrev pub act_o2 : Width → Ends → Slot → Stamp → Acted
act_o2 bits e s h = cond (one_past bits s.stamp h) (goes e s (O3 h)) (cond (same s.stamp h) (goes e s (O6 h)) (goes e s O1))

-- O3 | weak exchange head h to next(h) | won: O4; lost: h is the word found, O2
abbrev pub end_o3 : Width → Fixed → Ends → Slot → Stamp → Exchange → Acted
end_o3 bits f e s h Won = goes (head_to e (next_of bits f h)) s (O4 h)
end_o3 bits f e s h (Differed found) = losing e s (O2 found) ByWords
end_o3 bits f e s h Failed = losing e s (O2 h) BySchedule

abbrev pub act_o3 : Width → Fixed → Ends → Slot → Stamp → Bool → Acted
act_o3 bits f e s h lose = end_o3 bits f e s h (exchange_of e.head h lose)

-- O5 | stamp becomes h + lap | Popped(value)
abbrev pub act_o5 : Width → Fixed → Ends → Slot → Stamp → ℕ → Acted
act_o5 bits f e s h v = goes e (stamp_to s (plus bits h f.lap)) (Idle (Popped v))

-- O6 | load tail | unmarked part = h: Closed if marked, else Empty; otherwise O1
abbrev pub act_o6 : Fixed → Ends → Slot → Stamp → Acted
act_o6 f e s h =
    cond (same (unmarked_of f e.tail) h)
    (cond (marked_of f e.tail) (goes e s (Idle PopClosed)) (goes e s (Idle Empty)))
    (goes e s O1)

-- With hix, tix the indices: hix < tix: tix - hix; hix > tix: capacity - hix + tix;
-- equal: 0 if unmarked tail = head, else capacity.
unfoldable pub count_of : Fixed → Stamp → Stamp → ℕ
count_of f t h =
    cond (ltb (index_of f h) (index_of f t)) (index_of f t - index_of f h)
    (cond (ltb (index_of f t) (index_of f h)) (f.capacity - index_of f h + index_of f t)
    (cond (same (unmarked_of f t) h) 0 f.capacity))

-- `len`: load tail, head, tail; if the tails differ, again.
abbrev pub act_len3 : Fixed → Ends → Slot → Stamp → Stamp → Acted
act_len3 f e s t h = cond (same e.tail t) (goes e s (Idle (Len (count_of f t h)))) (goes e s Len1)

abbrev pub yes_no : Bool → Answer
yes_no b = cond b Yes No

-- `is_empty`: head, then tail; yes if unmarked tail = head.
abbrev pub act_empty2 : Fixed → Ends → Slot → Stamp → Acted
act_empty2 f e s h = goes e s (Idle (yes_no (same (unmarked_of f e.tail) h)))

-- `is_full`: tail, then head; yes if head + lap = unmarked tail.
abbrev pub act_full2 : Width → Fixed → Ends → Slot → Stamp → Acted
act_full2 bits f e s t = goes e s (Idle (yes_no (lap_behind bits f e.head (unmarked_of f t))))

-- `close`: one `fetch_or` of mark; yes if it was clear.
abbrev pub act_close1 : Width → Fixed → Ends → Slot → Acted
act_close1 bits f e s =
    cond (marked_of f e.tail) (goes e s (Idle No)) (goes (tail_to e (with_mark bits f e.tail)) s (Idle Yes))

-- `is_closed`: one load of tail.
abbrev pub act_is_closed1 : Fixed → Ends → Slot → Acted
act_is_closed1 f e s = goes e s (Idle (yes_no (marked_of f e.tail)))

-- The act at a place, on the ends and on the slot at its worker's word. (An idle worker does not act: refusal 5.)
abbrev pub act_of : Width → Fixed → Ends → Slot → Place → Bool → Acted
act_of bits f e s (Idle a) lose = goes e s (Idle a)
act_of bits f e s (P1 k x) lose = act_p1 f e s k x
act_of bits f e s (P2 k t x) lose = act_p2 bits f e s k t x
act_of bits f e s (P3 k t x) lose = act_p3 bits f e s k t x lose
act_of bits f e s (P4 t x) lose = goes e (value_to s x) (P5 t)
act_of bits f e s (P5 t) lose = act_p5 bits e s t
act_of bits f e s (P6 t x) lose = act_p6 bits f e s t x
act_of bits f e s (F6 t x) lose = act_f6 bits f e s t x lose
act_of bits f e s (F7 t x) lose = act_f7 bits f e s t x
act_of bits f e s (F8 t x) lose = act_f8 e s t x
act_of bits f e s (F9 t old) lose = act_f9 bits e s t old
act_of bits f e s O1 lose = goes e s (O2 e.head)
act_of bits f e s (O2 h) lose = act_o2 bits e s h
act_of bits f e s (O3 h) lose = act_o3 bits f e s h lose
act_of bits f e s (O4 h) lose = goes e s (O5 h s.value)
act_of bits f e s (O5 h v) lose = act_o5 bits f e s h v
act_of bits f e s (O6 h) lose = act_o6 f e s h
act_of bits f e s Len1 lose = goes e s (Len2 e.tail)
act_of bits f e s (Len2 t) lose = goes e s (Len3 t e.head)
act_of bits f e s (Len3 t h) lose = act_len3 f e s t h
act_of bits f e s Empty1 lose = goes e s (Empty2 e.head)
act_of bits f e s (Empty2 h) lose = act_empty2 f e s h
act_of bits f e s Full1 lose = goes e s (Full2 e.tail)
act_of bits f e s (Full2 t) lose = act_full2 bits f e s t
act_of bits f e s Close1 lose = act_close1 bits f e s
act_of bits f e s IsClosed1 lose = act_is_closed1 f e s

-- What `count` asks: indices below capacity.
pub record Within (f : Fixed) (t h : Stamp) : Type 0 where
  pub fair : Fair f
  pub low : index_of f h < f.capacity
  pub high : index_of f t < f.capacity

-- What `act_at` asks: the constants, and the words of its worker.
pub record Fits (f : Fixed) (p : Place) : Type 0 where
  pub fair : Fair f
  pub held : fits_of f (view_of p).held ≡ true
