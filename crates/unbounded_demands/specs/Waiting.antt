-- What the statements on the pool and on progress speak of: slots of the pool in hand, who is waited for, how many acts are left.
use Rattle.std.specs.Prelude.{ℕ, ◌-◌, cond, List, ◌≡◌}
use Rattle.queue_schedules.specs.Alone.{passed_by, own_acts_by}
use Rattle.unbounded_words.specs.declared.Index.{Index}
use Rattle.unbounded_words.specs.declared.Pointer.{Pointer}
use Rattle.unbounded_words.specs.Words.{Sizes, offset_of, none_of}
use Rattle.unbounded_places.specs.declared.Place.{Place}
use Rattle.unbounded_places.specs.declared.Place.TheVariants.{Idle, U1, U2, U3, U4, U5, U6, U7, U8, U9, U10, U11, U12, U13, U14, U15, V1, V2, V3, V4, V5, V6, V7, V8, V9, V10, V11, V12, V13, V14, V15, Len1, Len2, Len3, Empty1, Empty2, Full1, Close1, IsClosed1}
use Rattle.unbounded_machine.specs.declared.Machine.{Machine}
use Rattle.unbounded_machine.specs.declared.Did.{Did}
use Rattle.unbounded_demands.specs.Notions.{Definition}

-- ---- the pool's own slots, and who is waited for

-- In hand as before, with the block: the slot is that of block b at the offset of the word.
pub data PushingIn : Place → Pointer → Index → Type 0 where
  in9 : {n b : Pointer} {t : Index} {x : ℕ} → PushingIn (U9 n t b x) b t
  in10 : {n b : Pointer} {t : Index} {x : ℕ} → PushingIn (U10 n t b x) b t
  in11 : {n b : Pointer} {t : Index} {x : ℕ} → PushingIn (U11 n t b x) b t
  in12 : {n b : Pointer} {t : Index} {x : ℕ} → PushingIn (U12 n t b x) b t
  in13 : {n b : Pointer} {t : Index} → PushingIn (U13 n t b) b t

pub data PoppingIn : Place → Pointer → Index → Type 0 where
  out6 : {b : Pointer} {h new : Index} → PoppingIn (V6 h b new) b h
  out7 : {b next : Pointer} {h new : Index} → PoppingIn (V7 h b new next) b h
  out8 : {b next : Pointer} {h i : Index} → PoppingIn (V8 h b next i) b h
  out9 : {b : Pointer} {h i : Index} → PoppingIn (V9 h b i) b h
  out10 : {b : Pointer} {h : Index} → PoppingIn (V10 h b) b h
  out11 : {b : Pointer} {h : Index} → PoppingIn (V11 h b) b h
  out12 : {b : Pointer} {h : Index} {v : ℕ} → PoppingIn (V12 h b v) b h

-- Two words and their blocks name one slot of the pool.
abbrev pub OneSlot : Sizes → Pointer → Index → Pointer → Index → Type 0
OneSlot z b t c u = (b ≡ c) × (offset_of z t ≡ offset_of z u)

-- A push that claimed a block's last slot and has not moved tail past the gap behind it (U9, U10), nor stored next of its block (U9 to U11).
pub data Crossing : Place → Index → Type 0 where
  cross9 : {n b : Pointer} {t : Index} {x : ℕ} → Crossing (U9 n t b x) t
  cross10 : {n b : Pointer} {t : Index} {x : ℕ} → Crossing (U10 n t b x) t

pub data Tying : Place → Pointer → Index → Type 0 where
  tie9 : {n b : Pointer} {t : Index} {x : ℕ} → Tying (U9 n t b x) b t
  tie10 : {n b : Pointer} {t : Index} {x : ℕ} → Tying (U10 n t b x) b t
  tie11 : {n b : Pointer} {t : Index} {x : ℕ} → Tying (U11 n t b x) b t

-- A pop that claimed a block's last slot and has not moved head past the gap behind it (V6 to V9).
pub data Leaving : Place → Index → Type 0 where
  leave6 : {b : Pointer} {h new : Index} → Leaving (V6 h b new) h
  leave7 : {b next : Pointer} {h new : Index} → Leaving (V7 h b new next) h
  leave8 : {b next : Pointer} {h i : Index} → Leaving (V8 h b next i) h
  leave9 : {b : Pointer} {h i : Index} → Leaving (V9 h b i) h

-- A push that installed the first block and has not stored it in head's block (U6).
pub data Fronting : Place → Type 0 where
  front6 : {n new : Pointer} {t : Index} {x : ℕ} → Fronting (U6 n t new x)

-- How many acts of its own a push with a slot in hand is from its end; U14 is one more.
abbrev pub push_left : Place → ℕ
push_left (Idle a) = 0
push_left (U1 n x) = 0
push_left (U2 n t x) = 0
push_left (U3 t b x) = 0
push_left (U4 n t x) = 0
push_left (U5 n t new x) = 0
push_left (U6 n t new x) = 0
push_left (U7 n t b x) = 0
push_left (U8 n t x) = 0
push_left (U9 n t b x) = 5
push_left (U10 n t b x) = 4
push_left (U11 n t b x) = 3
push_left (U12 n t b x) = cond (none_of n) 2 3
push_left (U13 n t b) = cond (none_of n) 1 2
push_left (U14 n a) = 1
push_left (U15 n new x) = 0
push_left V1 = 0
push_left (V2 h) = 0
push_left (V3 h b) = 0
push_left (V4 h b new) = 0
push_left (V5 h) = 0
push_left (V6 h b new) = 0
push_left (V7 h b new next) = 0
push_left (V8 h b next i) = 0
push_left (V9 h b i) = 0
push_left (V10 h b) = 0
push_left (V11 h b) = 0
push_left (V12 h b v) = 0
push_left (V13 b i v) = 0
push_left (V14 b i v) = 0
push_left (V15 b v) = 0
push_left Len1 = 0
push_left (Len2 t) = 0
push_left (Len3 t h) = 0
push_left Empty1 = 0
push_left (Empty2 h) = 0
push_left Full1 = 0
push_left Close1 = 0
push_left IsClosed1 = 0

-- Entries one after another, refused ones passed over; and how many of them are acts of w, and accepted.
abbrev pub passed : Definition → Machine → List ℕ → Machine
passed d = passed_by (λ (x : Did). x.refusal) (λ (x : Did). x.machine) d.turn

abbrev pub own_acts : Definition → ℕ → Machine → List ℕ → ℕ
own_acts d = own_acts_by (λ (x : Did). x.refusal) (λ (x : Did). x.machine) d.turn

-- Whom a pop can wait for: a push that fronts the first block or has a slot in hand, a pop that leaves a block.
pub data Holding : Place → Type 0 where
  fronts : {p : Place} → Fronting p → Holding p
  pushes : {p : Place} {b : Pointer} {t : Index} → PushingIn p b t → Holding p
  leaves : {p : Place} {h : Index} → Leaving p h → Holding p

-- How many acts a pop that alone is scheduled, with no such holder, is from its end at most: 41 from its begin; 43 where the word it loaded is old. 31 of them
-- destroy a block. 0 at other places.
abbrev pub pop_most : Place → ℕ
pop_most (Idle a) = 0
pop_most (U1 n x) = 0
pop_most (U2 n t x) = 0
pop_most (U3 t b x) = 0
pop_most (U4 n t x) = 0
pop_most (U5 n t new x) = 0
pop_most (U6 n t new x) = 0
pop_most (U7 n t b x) = 0
pop_most (U8 n t x) = 0
pop_most (U9 n t b x) = 0
pop_most (U10 n t b x) = 0
pop_most (U11 n t b x) = 0
pop_most (U12 n t b x) = 0
pop_most (U13 n t b) = 0
pop_most (U14 n a) = 0
pop_most (U15 n new x) = 0
pop_most V1 = 41
pop_most (V2 h) = 43
pop_most (V3 h b) = 42
pop_most (V4 h b new) = 41
pop_most (V5 h) = 43
pop_most (V6 h b new) = 37
pop_most (V7 h b new next) = 36
pop_most (V8 h b next i) = 35
pop_most (V9 h b i) = 34
pop_most (V10 h b) = 33
pop_most (V11 h b) = 32
pop_most (V12 h b v) = 31
pop_most (V13 b i v) = 31 - i
pop_most (V14 b i v) = 31 - i
pop_most (V15 b v) = 1
pop_most Len1 = 0
pop_most (Len2 t) = 0
pop_most (Len3 t h) = 0
pop_most Empty1 = 0
pop_most (Empty2 h) = 0
pop_most Full1 = 0
pop_most Close1 = 0
pop_most IsClosed1 = 0

-- How many acts a push that alone is scheduled, with no other worker at U9 or U10 and a free block, is from its end at most: 9 from its begin; 10 where the word
-- it loaded is old. 0 at other places.
abbrev pub push_most : Place → ℕ
push_most (Idle a) = 0
push_most (U1 n x) = 9
push_most (U2 n t x) = 10
push_most (U3 t b x) = 9
push_most (U4 n t x) = 10
push_most (U5 n t new x) = 9
push_most (U6 n t new x) = 10
push_most (U7 n t b x) = 9
push_most (U8 n t x) = 10
push_most (U9 n t b x) = 5
push_most (U10 n t b x) = 4
push_most (U11 n t b x) = 3
push_most (U12 n t b x) = 3
push_most (U13 n t b) = 2
push_most (U14 n a) = 1
push_most (U15 n new x) = 0
push_most V1 = 0
push_most (V2 h) = 0
push_most (V3 h b) = 0
push_most (V4 h b new) = 0
push_most (V5 h) = 0
push_most (V6 h b new) = 0
push_most (V7 h b new next) = 0
push_most (V8 h b next i) = 0
push_most (V9 h b i) = 0
push_most (V10 h b) = 0
push_most (V11 h b) = 0
push_most (V12 h b v) = 0
push_most (V13 b i v) = 0
push_most (V14 b i v) = 0
push_most (V15 b v) = 0
push_most Len1 = 0
push_most (Len2 t) = 0
push_most (Len3 t h) = 0
push_most Empty1 = 0
push_most (Empty2 h) = 0
push_most Full1 = 0
push_most Close1 = 0
push_most IsClosed1 = 0

-- How many acts a call of len, is_empty, is_full, close or is_closed that alone is scheduled is from its end at most: 3 from len's begin; 5 where the word it loaded is old. 0 at other places.
abbrev pub look_most : Place → ℕ
look_most (Idle a) = 0
look_most (U1 n x) = 0
look_most (U2 n t x) = 0
look_most (U3 t b x) = 0
look_most (U4 n t x) = 0
look_most (U5 n t new x) = 0
look_most (U6 n t new x) = 0
look_most (U7 n t b x) = 0
look_most (U8 n t x) = 0
look_most (U9 n t b x) = 0
look_most (U10 n t b x) = 0
look_most (U11 n t b x) = 0
look_most (U12 n t b x) = 0
look_most (U13 n t b) = 0
look_most (U14 n a) = 0
look_most (U15 n new x) = 0
look_most V1 = 0
look_most (V2 h) = 0
look_most (V3 h b) = 0
look_most (V4 h b new) = 0
look_most (V5 h) = 0
look_most (V6 h b new) = 0
look_most (V7 h b new next) = 0
look_most (V8 h b next i) = 0
look_most (V9 h b i) = 0
look_most (V10 h b) = 0
look_most (V11 h b) = 0
look_most (V12 h b v) = 0
look_most (V13 b i v) = 0
look_most (V14 b i v) = 0
look_most (V15 b v) = 0
look_most Len1 = 3
look_most (Len2 t) = 5
look_most (Len3 t h) = 4
look_most Empty1 = 2
look_most (Empty2 h) = 1
look_most Full1 = 1
look_most Close1 = 1
look_most IsClosed1 = 1
