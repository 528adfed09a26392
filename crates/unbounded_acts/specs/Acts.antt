-- The table of request 12, row by row, beside the lines of src/unbounded.rs that it comes from. The source decides.
-- t, h are index words; b, n, new, next pointers to blocks; n is the block set aside (`next_block`).
-- An act is handed the ends, the header of the block that it uses or takes (its number is k), one slot of that block, and its place; what it
-- leaves is stored back.
use Rattle.std.specs.Prelude.{ℕ, ◌+◌, ◌/◌, ◌%◌, Bool, true, false, cond, ltb, eqb}
use Rattle.unbounded_words.specs.declared.Index.{Index}
use Rattle.unbounded_words.specs.declared.Pointer.{Pointer}
use Rattle.unbounded_words.specs.declared.Pointer.TheVariants.{None, To}
use Rattle.unbounded_words.specs.Words.{Sizes, offset_of, past_slots, last_slot, marked_of, unmarked_of, with_mark, later, same, same_position, same_block, count_of, none_of}
use Rattle.unbounded_places.specs.declared.Slot.{Slot}
use Rattle.unbounded_places.specs.declared.Block.{Block}
use Rattle.unbounded_places.specs.declared.Ends.{Ends}
use Rattle.unbounded_places.specs.declared.Answer.{Answer}
use Rattle.unbounded_places.specs.declared.Answer.TheVariants.{Pushed, Closed, Popped, Empty, PopClosed, Len, Yes, No}
use Rattle.unbounded_places.specs.declared.Place.{Place}
use Rattle.unbounded_places.specs.declared.Place.TheVariants.{Idle, U1, U2, U3, U4, U5, U6, U7, U8, U9, U10, U11, U12, U13, U14, U15, V1, V2, V3, V4, V5, V6, V7, V8, V9, V10, V11, V12, V13, V14, V15, Len1, Len2, Len3, Empty1, Empty2, Full1, Close1, IsClosed1}
use Rattle.unbounded_acts.specs.declared.Acted.{Acted}

-- ---- what an act leaves

-- The worker goes to p; the ends, the block's header and the slot are these.
unfoldable pub leave : Ends → Block → Slot → Place → Acted
leave e g s p = record { ends = e; block = g; slot = s; place = p }

-- The kinds of effect: a word of an end, a word of a block, a word of a slot.
unfoldable pub head_to : Ends → Index → Ends
head_to e w = record { head = w; front = e.front; tail = e.tail; back = e.back }

unfoldable pub front_to : Ends → Pointer → Ends
front_to e b = record { head = e.head; front = b; tail = e.tail; back = e.back }

unfoldable pub tail_to : Ends → Index → Ends
tail_to e w = record { head = e.head; front = e.front; tail = w; back = e.back }

unfoldable pub back_to_words : Ends → Pointer → Ends
back_to_words e b = record { head = e.head; front = e.front; tail = e.tail; back = b }

unfoldable pub next_to : Block → Pointer → Block
next_to g b = record { next = b; free = g.free }

-- Freeing changes nothing but that it is free.
unfoldable pub freed : Block → Block
freed g = record { next = g.next; free = true }

-- `Block::new()`: next none (and each slot's state 0, its value 0: the machine's `cleared`).
abbrev pub new_block : Block
new_block = record { next = None; free = false }

unfoldable pub state_to : Slot → ℕ → Slot
state_to s n = record { state = n; value = s.value }

unfoldable pub value_to : Slot → ℕ → Slot
value_to s v = record { state = s.state; value = v }

-- WRITE, READ and DESTROY: the bits of a state
abbrev pub WRITE : ℕ
WRITE = 1

abbrev pub READ : ℕ
READ = 2

abbrev pub DESTROY : ℕ
DESTROY = 4

-- state & bit != 0
unfoldable pub has : ℕ → ℕ → Bool
has bit n = eqb (n / bit % 2) 1

-- state | bit
unfoldable pub with : ℕ → ℕ → ℕ
with bit n = cond (has bit n) n (n + bit)

-- ---- push

-- b none: U4, else U7.
unfoldable pub first_or : Pointer → Index → Pointer → ℕ → Place
first_or n t b x = cond (none_of b) (U4 n t x) (U7 n t b x)

-- An answer, with U14 first if a block is set aside.
unfoldable pub answered : Pointer → Answer → Place
answered n a = cond (none_of n) (Idle a) (U14 n a)

-- offset + 1 == BLOCK_CAP && next_block.is_none()
unfoldable pub lacks_next : Sizes → Pointer → Index → Bool
lacks_next z n t = cond (last_slot z t) (none_of n) false

-- Top of push's loop: marked: Closed (U14 first if a block is set aside); offset 31: U1; offset 30 and nothing set aside: U3; b none: U4;
-- else U7.
unfoldable pub push_from : Sizes → Pointer → Index → Pointer → ℕ → Place
push_from z n t b x =
    cond (marked_of t) (answered n (Closed x))
    (cond (past_slots z t) (U1 n x)
    (cond (lacks_next z n t) (U3 t b x) (first_or n t b x)))

-- U1(n,item) | load tail index t | U2
-- U2(n,t,item) | load tail block b | top of the loop
abbrev pub act_u2 : Sizes → Ends → Block → Slot → Pointer → Index → ℕ → Acted
act_u2 z e g s n t x = leave e g s (push_from z n t e.back x)

-- U3(t,b,item) | take a block, set aside | b none: U4, else U7
abbrev pub act_u3 : Ends → ℕ → Slot → Index → Pointer → ℕ → Acted
act_u3 e k s t b x = leave e new_block s (first_or (To k) t b x)

-- U4(n,t,item) | take a block | U5
abbrev pub act_u4 : Ends → ℕ → Slot → Pointer → Index → ℕ → Acted
act_u4 e k s n t x = leave e new_block s (U5 n t (To k) x)

-- lost: new is set aside: U15 if one was, else U1
unfoldable pub set_aside : Pointer → Pointer → ℕ → Place
set_aside n new x = cond (none_of n) (U1 new x) (U15 n new x)

-- U5(n,t,new,item) | exchange tail block, none to new (strong) | won: U6; lost: new is set aside: U15 if one was, else U1
abbrev pub act_u5 : Ends → Block → Slot → Pointer → Index → Pointer → ℕ → Acted
act_u5 e g s n t new x =
    cond (none_of e.back) (leave (back_to_words e new) g s (U6 n t new x)) (leave e g s (set_aside n new x))

-- U6(n,t,new,item) | store new in head block | U7 with b = new
abbrev pub act_u6 : Ends → Block → Slot → Pointer → Index → Pointer → ℕ → Acted
act_u6 e g s n t new x = leave (front_to e new) g s (U7 n t new x)

-- U9 if offset is 30, else U12
unfoldable pub claimed : Sizes → Pointer → Index → Pointer → ℕ → Place
claimed z n t b x = cond (last_slot z t) (U9 n t b x) (U12 n t b x)

-- U7(n,t,b,item) | weak exchange tail index t to t + 2 | won: U9 if offset is 30, else U12; lost: t is the word found, U8
abbrev pub act_u7 : Sizes → Ends → Block → Slot → Pointer → Index → Pointer → ℕ → Bool → Acted
act_u7 z e g s n t b x lose =
    cond (same e.tail t)
    (cond lose (leave e g s (U8 n t x)) (leave (tail_to e (later t)) g s (claimed z n t b x)))
    (leave e g s (U8 n e.tail x))

-- U8(n,t,item) | load tail block b | top of the loop: as U2
-- U9(n,t,b,item) | store n in tail block | U10
abbrev pub act_u9 : Ends → Block → Slot → Pointer → Index → Pointer → ℕ → Acted
act_u9 e g s n t b x = leave (back_to_words e n) g s (U10 n t b x)

-- U10(n,t,b,item) | add 2 to tail index | U11
abbrev pub act_u10 : Ends → Block → Slot → Pointer → Index → Pointer → ℕ → Acted
act_u10 e g s n t b x = leave (tail_to e (later e.tail)) g s (U11 n t b x)

-- U11(n,t,b,item) | store n as next of b | U12, nothing set aside
abbrev pub act_u11 : Ends → Block → Slot → Pointer → Index → Pointer → ℕ → Acted
act_u11 e g s n t b x = leave e (next_to g n) s (U12 None t b x)

-- U12(n,t,b,item) | write value | U13
abbrev pub act_u12 : Ends → Block → Slot → Pointer → Index → Pointer → ℕ → Acted
act_u12 e g s n t b x = leave e g (value_to s x) (U13 n t b)

-- U13(n,t,b) | set WRITE | n none: Pushed; else U14
abbrev pub act_u13 : Ends → Block → Slot → Pointer → Acted
act_u13 e g s n = leave e g (state_to s (with WRITE s.state)) (answered n Pushed)

-- U14(n,answer) | free n | the answer
abbrev pub act_u14 : Ends → Block → Slot → Answer → Acted
act_u14 e g s a = leave e (freed g) s (Idle a)

-- U15(n,new,item) | free n | U1 with new set aside
abbrev pub act_u15 : Ends → Block → Slot → Pointer → ℕ → Acted
act_u15 e g s new x = leave e (freed g) s (U1 new x)

-- ---- pop

-- b none: V1, else V4.
unfoldable pub take_or : Index → Pointer → Index → Place
take_or h b new = cond (none_of b) V1 (V4 h b new)

-- Top of pop's loop: offset 31: V1; unmarked: V3; marked: b none: V1, else V4 with h + 2.
unfoldable pub pop_from : Sizes → Index → Pointer → Place
pop_from z h b = cond (past_slots z h) V1 (cond (marked_of h) (take_or h b (later h)) (V3 h b))

-- V1 | load head index h | V2
-- V2(h), V5(h) | load head block b | top of the loop
abbrev pub act_v2 : Sizes → Ends → Block → Slot → Index → Acted
act_v2 z e g s h = leave e g s (pop_from z h e.front)

-- other block: new is h + 2 marked
unfoldable pub new_head : Sizes → Index → Index → Index
new_head z h t = cond (same_block z h t) (later h) (with_mark (later h))

-- V3(h,b) | load tail index | same position: Closed if marked, else Empty; other block: new is h + 2 marked; b none: V1, else V4
abbrev pub act_v3 : Sizes → Ends → Block → Slot → Index → Pointer → Acted
act_v3 z e g s h b =
    cond (same_position h e.tail)
    (cond (marked_of e.tail) (leave e g s (Idle PopClosed)) (leave e g s (Idle Empty)))
    (leave e g s (take_or h b (new_head z h e.tail)))

-- V6 if offset is 30, else V10
unfoldable pub taken : Sizes → Index → Pointer → Index → Place
taken z h b new = cond (last_slot z h) (V6 h b new) (V10 h b)

-- V4(h,b,new) | weak exchange head index h to new | won: V6 if offset is 30, else V10; lost: h is the word found, V5
abbrev pub act_v4 : Sizes → Ends → Block → Slot → Index → Pointer → Index → Bool → Acted
act_v4 z e g s h b new lose =
    cond (same e.head h)
    (cond lose (leave e g s (V5 h)) (leave (head_to e new) g s (taken z h b new)))
    (leave e g s (V5 e.head))

-- V6(h,b,new) | load next of b | none: V6, else V7
abbrev pub act_v6 : Ends → Block → Slot → Index → Pointer → Index → Acted
act_v6 e g s h b new = cond (none_of g.next) (leave e g s (V6 h b new)) (leave e g s (V7 h b new g.next))

-- index is new unmarked + 2, marked if that is not none
unfoldable pub next_index : Index → Pointer → Index
next_index new b = cond (none_of b) (later (unmarked_of new)) (with_mark (later (unmarked_of new)))

-- V7(h,b,new,next) | load next of next | index is new unmarked + 2, marked if that is not none: V8
abbrev pub act_v7 : Ends → Block → Slot → Index → Pointer → Index → Pointer → Acted
act_v7 e g s h b new next = leave e g s (V8 h b next (next_index new g.next))

-- V8(h,b,next,index) | store next in head block | V9
abbrev pub act_v8 : Ends → Block → Slot → Index → Pointer → Pointer → Index → Acted
act_v8 e g s h b next i = leave (front_to e next) g s (V9 h b i)

-- V9(h,b,index) | store index in head index | V10
abbrev pub act_v9 : Ends → Block → Slot → Index → Pointer → Index → Acted
act_v9 e g s h b i = leave (head_to e i) g s (V10 h b)

-- V10(h,b) | load state of the slot | WRITE clear: V10, else V11
abbrev pub act_v10 : Ends → Block → Slot → Index → Pointer → Acted
act_v10 e g s h b = cond (has WRITE s.state) (leave e g s (V11 h b)) (leave e g s (V10 h b))

-- Destroy from i: V13 while i is below 30, then V15.
unfoldable pub destroy_from : Sizes → Pointer → ℕ → ℕ → Place
destroy_from z b i v = cond (ltb (i + 1) z.slots) (V13 b i v) (V15 b v)

-- offset 30: destroy from 0, else V12
unfoldable pub read_out_of : Sizes → Index → Pointer → ℕ → Place
read_out_of z h b v = cond (last_slot z h) (destroy_from z b 0 v) (V12 h b v)

-- V11(h,b) | read value | offset 30: destroy from 0, else V12
abbrev pub act_v11 : Sizes → Ends → Block → Slot → Index → Pointer → Acted
act_v11 z e g s h b = leave e g s (read_out_of z h b s.value)

-- DESTROY was set: destroy from offset + 1, else Popped; READ was set: i + 1, else Popped
unfoldable pub destroy_if : Sizes → Bool → Pointer → ℕ → ℕ → Place
destroy_if z set b i v = cond set (destroy_from z b (i + 1) v) (Idle (Popped v))

-- V12(h,b,value) | set READ | DESTROY was set: destroy from offset + 1, else Popped
abbrev pub act_v12 : Sizes → Ends → Block → Slot → Index → Pointer → ℕ → Acted
act_v12 z e g s h b v =
    leave e g (state_to s (with READ s.state)) (destroy_if z (has DESTROY s.state) b (offset_of z h) v)

-- V13(b,i,value) | load state of slot i | READ set: i + 1, else V14
abbrev pub act_v13 : Sizes → Ends → Block → Slot → Pointer → ℕ → ℕ → Acted
act_v13 z e g s b i v =
    cond (has READ s.state) (leave e g s (destroy_from z b (i + 1) v)) (leave e g s (V14 b i v))

-- V14(b,i,value) | set DESTROY in slot i | READ was set: i + 1, else Popped
abbrev pub act_v14 : Sizes → Ends → Block → Slot → Pointer → ℕ → ℕ → Acted
act_v14 z e g s b i v =
    leave e g (state_to s (with DESTROY s.state)) (destroy_if z (has READ s.state) b i v)

-- V15(b,value) | free b | Popped
abbrev pub act_v15 : Ends → Block → Slot → ℕ → Acted
act_v15 e g s v = leave e (freed g) s (Idle (Popped v))

-- ---- the lookers, as the source loads them

abbrev pub yes_no : Bool → Answer
yes_no b = cond b Yes No

-- len: tail, head, tail; "If the tail index didn't change, we've got consistent indices to work with."
abbrev pub act_len3 : Sizes → Ends → Block → Slot → Index → Index → Acted
act_len3 z e g s t h = cond (same e.tail t) (leave e g s (Idle (Len (count_of z t h)))) (leave e g s Len1)

-- is_empty: head, then tail; head >> SHIFT == tail >> SHIFT
abbrev pub act_empty2 : Ends → Block → Slot → Index → Acted
act_empty2 e g s h = leave e g s (Idle (yes_no (same_position h e.tail)))

-- close: one fetch_or of MARK_BIT; yes if it was clear
abbrev pub act_close1 : Ends → Block → Slot → Acted
act_close1 e g s =
    cond (marked_of e.tail) (leave e g s (Idle No)) (leave (tail_to e (with_mark e.tail)) g s (Idle Yes))

-- is_closed: one load of tail index
abbrev pub act_is_closed1 : Ends → Block → Slot → Acted
act_is_closed1 e g s = leave e g s (Idle (yes_no (marked_of e.tail)))

-- The act at a place: on the ends, on the block numbered k whose header is g, on a slot of it. (An idle worker does not act: refusal 5.)
-- is_full is one act that loads nothing: no.
abbrev pub act_of : Sizes → Ends → ℕ → Block → Slot → Place → Bool → Acted
act_of z e k g s (Idle a) lose = leave e g s (Idle a)
act_of z e k g s (U1 n x) lose = leave e g s (U2 n e.tail x)
act_of z e k g s (U2 n t x) lose = act_u2 z e g s n t x
act_of z e k g s (U3 t b x) lose = act_u3 e k s t b x
act_of z e k g s (U4 n t x) lose = act_u4 e k s n t x
act_of z e k g s (U5 n t new x) lose = act_u5 e g s n t new x
act_of z e k g s (U6 n t new x) lose = act_u6 e g s n t new x
act_of z e k g s (U7 n t b x) lose = act_u7 z e g s n t b x lose
act_of z e k g s (U8 n t x) lose = act_u2 z e g s n t x
act_of z e k g s (U9 n t b x) lose = act_u9 e g s n t b x
act_of z e k g s (U10 n t b x) lose = act_u10 e g s n t b x
act_of z e k g s (U11 n t b x) lose = act_u11 e g s n t b x
act_of z e k g s (U12 n t b x) lose = act_u12 e g s n t b x
act_of z e k g s (U13 n t b) lose = act_u13 e g s n
act_of z e k g s (U14 n a) lose = act_u14 e g s a
act_of z e k g s (U15 n new x) lose = act_u15 e g s new x
act_of z e k g s V1 lose = leave e g s (V2 e.head)
act_of z e k g s (V2 h) lose = act_v2 z e g s h
act_of z e k g s (V3 h b) lose = act_v3 z e g s h b
act_of z e k g s (V4 h b new) lose = act_v4 z e g s h b new lose
act_of z e k g s (V5 h) lose = act_v2 z e g s h
act_of z e k g s (V6 h b new) lose = act_v6 e g s h b new
act_of z e k g s (V7 h b new next) lose = act_v7 e g s h b new next
act_of z e k g s (V8 h b next i) lose = act_v8 e g s h b next i
act_of z e k g s (V9 h b i) lose = act_v9 e g s h b i
act_of z e k g s (V10 h b) lose = act_v10 e g s h b
act_of z e k g s (V11 h b) lose = act_v11 z e g s h b
act_of z e k g s (V12 h b v) lose = act_v12 z e g s h b v
act_of z e k g s (V13 b i v) lose = act_v13 z e g s b i v
act_of z e k g s (V14 b i v) lose = act_v14 z e g s b i v
act_of z e k g s (V15 b v) lose = act_v15 e g s v
act_of z e k g s Len1 lose = leave e g s (Len2 e.tail)
act_of z e k g s (Len2 t) lose = leave e g s (Len3 t e.head)
act_of z e k g s (Len3 t h) lose = act_len3 z e g s t h
act_of z e k g s Empty1 lose = leave e g s (Empty2 e.head)
act_of z e k g s (Empty2 h) lose = act_empty2 e g s h
act_of z e k g s Full1 lose = leave e g s (Idle No)
act_of z e k g s Close1 lose = act_close1 e g s
act_of z e k g s IsClosed1 lose = act_is_closed1 e g s
