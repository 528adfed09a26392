-- How a machine stands for a queue over positions.
use Prim.Native.Nat.{ℕ, ◌+◌, ◌*◌, ◌-◌, ◌%◌, ◌<◌, ◌≤◌}
use mathlib.Core.Path.{◌≡◌}
use mathlib.Core.Logic.{◌≢◌}
use mathlib.Core.Bool.{Bool, true, false, cond}
use mathlib.Core.List.{List}
use lib.Dec.{eqb, ltb}
use lib.ListN.{length, get_or}
use Rattle.queue_entries.specs.Limits.{workers_most}
use Rattle.unbounded_words.specs.declared.Pointer.{Pointer}
use Rattle.unbounded_words.specs.declared.Pointer.TheVariants.{None, To}
use Rattle.unbounded_words.specs.declared.Index.{Index}
use Rattle.unbounded_places.specs.declared.Slot.{Slot}
use Rattle.unbounded_places.specs.declared.Block.{Block}
use Rattle.unbounded_places.specs.declared.Ends.{Ends}
use Rattle.unbounded_places.specs.declared.Answer.{Answer}
use Rattle.unbounded_places.specs.declared.Place.{Place}
use Rattle.unbounded_places.specs.declared.Place.TheVariants.{Idle, U1, U2, U3, U4, U5, U6, U7, U8, U9, U10, U11, U12, U13, U14, U15, V1, V2, V3, V4, V5, V6}
use Rattle.unbounded_places.specs.declared.Place.TheVariants.{V7, V8, V9, V10, V11, V12, V13, V14, V15, Len1, Len2, Len3, Empty1, Empty2, Full1, Close1}
use Rattle.unbounded_places.specs.declared.Place.TheVariants.{IsClosed1}
use Rattle.unbounded_places.specs.declared.Answer.TheVariants.{Nothing, Pushed, Closed}
use Rattle.unbounded_places.specs.declared.Worker.{Worker}
use Rattle.unbounded_proof_invariant.proofs.Queue.{Ptr, none, to, Hand, Open, Done, By, Own, Free, Aside, Chain, Shared, Inv}
use Rattle.unbounded_proof_invariant.proofs.Views.{Seen, Rest, Installing, Tail, Claiming, Fronting, Back, Adding, Tying, Writing, Setting, Head, Looking}
use Rattle.unbounded_proof_invariant.proofs.Views.{Taking, Going, Gone, Leading, Heading, Awaiting, Reading, Popped, Destroying}
use Rattle.unbounded_proof_invariant.proofs.Own.{Good}
use Rattle.unbounded_proof_words.proofs.Words.{bit, word}

-- as the machine's definitions have them
abbrev pub new_block : Block
new_block = record { next = None; free = false }

abbrev pub slot : ℕ → ℕ → Slot
slot s v = record { state = s; value = v }

abbrev pub block_at : List Block → ℕ → Block
block_at l k = get_or l k new_block

abbrev pub slot_at : List Slot → ℕ → ℕ → Slot
slot_at l k i = get_or l (k * 31 + i) (slot 0 0)

abbrev pub place_of : List Worker → ℕ → Place
place_of ws w = (get_or ws w (record { place = Idle Nothing })).place

abbrev pub ptr : Ptr → Pointer
ptr none = None
ptr (to b) = To b

-- ---- the ends
abbrev pub back_of : ℕ → (ℕ → ℕ) → Pointer
back_of blocks phys = cond (eqb blocks 0) None (To (phys (blocks - 1)))

abbrev pub ends_of_ring : Shared → Ends
ends_of_ring s = record { head = word s.head s.mark; front = ptr s.front; tail = word s.tail s.closed; back = back_of s.blocks s.phys }

-- ---- the words of a block, by whose it is
abbrev pub is_done : Hand → Bool
is_done Open = false
is_done Done = true
is_done (By w) = false

abbrev pub next_of : (ℕ → Bool) → (ℕ → ℕ) → ℕ → Pointer
next_of link phys j = cond (link j) (To (phys (j + 1))) None

abbrev pub HeadRep : (ℕ → Bool) → (ℕ → ℕ) → Own → Block → Type 0
HeadRep link phys Free g = g.free ≡ true
HeadRep link phys (Aside w) g = g ≡ new_block
HeadRep link phys (Chain j) g = g ≡ record { next = next_of link phys j; free = false }

-- READ is never set in the last slot
abbrev pub read_bit : ℕ → Hand → Bool
read_bit i h = cond (ltb i 30) (is_done h) false

abbrev pub state_of : Bool → Bool → Bool → ℕ
state_of written read destroyed = bit written + 2 * bit read + 4 * bit destroyed

abbrev pub SlotRep : (ℕ → Hand) → (ℕ → Hand) → (ℕ → ℕ → Bool) → (ℕ → ℕ) → Own → ℕ → Slot → Type 0
SlotRep push pop destroy val Free i x = Unit {0}
SlotRep push pop destroy val (Aside w) i x = x ≡ slot 0 0
SlotRep push pop destroy val (Chain j) i x =
    x ≡ slot (state_of (is_done (push (32 * j + i))) (read_bit i (pop (32 * j + i))) (destroy j i)) (val (32 * j + i))

-- ---- a worker's place: the block set aside, one taken to be installed, and what it relies on
-- What a push answers once its block set aside is freed, with the mark of the word that it had loaded.
pub data PushAnswers : Answer → Bool → Type 0 where
  pushed : PushAnswers Pushed false
  closed : {x : ℕ} → PushAnswers (Closed x) true

pub data Stands : Place → Ptr → Ptr → Seen → Type 0 where
  idle : {a : Answer} → Stands (Idle a) none none Rest
  u1 : {a : Ptr} {n : Pointer} {x : ℕ} → n ≡ ptr a → Stands (U1 n x) a none Rest
  u2 : {a : Ptr} {n : Pointer} {t : Index} {p x : ℕ} {m : Bool} → n ≡ ptr a → t ≡ word p m → Stands (U2 n t x) a none (Tail p m)
  u3 : {t : Index} {d : Pointer} {p b x : ℕ} → t ≡ word p false → d ≡ To b → p % 32 ≡ 30 → Stands (U3 t d x) none none (Claiming p b)
  u4 : {a : Ptr} {n : Pointer} {t : Index} {x : ℕ} → n ≡ ptr a → t ≡ word 0 false → Stands (U4 n t x) a none Rest
  u5 : {a : Ptr} {n d : Pointer} {t : Index} {b x : ℕ} → n ≡ ptr a → t ≡ word 0 false → d ≡ To b → Stands (U5 n t d x) a (to b) Installing
  u6 : {a : Ptr} {n d : Pointer} {t : Index} {b x : ℕ} → n ≡ ptr a → t ≡ word 0 false → d ≡ To b → Stands (U6 n t d x) a none (Fronting b)
  u7 : {a : Ptr} {n d : Pointer} {t : Index} {p b x : ℕ} → n ≡ ptr a → t ≡ word p false → d ≡ To b → (p % 32 ≡ 30 → (c : ℕ) × (a ≡ to c)) → Stands (U7 n t d x) a none (Claiming p b)
  u8 : {a : Ptr} {n : Pointer} {t : Index} {p x : ℕ} {m : Bool} → n ≡ ptr a → t ≡ word p m → Stands (U8 n t x) a none (Tail p m)
  u9 : {n d : Pointer} {t : Index} {c p b x : ℕ} → n ≡ To c → t ≡ word p false → d ≡ To b → Stands (U9 n t d x) (to c) none (Back p b x)
  u10 : {n d : Pointer} {t : Index} {c p b x : ℕ} → n ≡ To c → t ≡ word p false → d ≡ To b → Stands (U10 n t d x) none none (Adding p b c x)
  u11 : {n d : Pointer} {t : Index} {c p b x : ℕ} → n ≡ To c → t ≡ word p false → d ≡ To b → Stands (U11 n t d x) none none (Tying p b c x)
  u12 : {a : Ptr} {n d : Pointer} {t : Index} {p b x : ℕ} → n ≡ ptr a → t ≡ word p false → d ≡ To b → Stands (U12 n t d x) a none (Writing p b x)
  u13 : {a : Ptr} {n d : Pointer} {t : Index} {p b : ℕ} → n ≡ ptr a → t ≡ word p false → d ≡ To b → Stands (U13 n t d) a none (Setting p b)
  u14 : {n : Pointer} {c p : ℕ} {a : Answer} {m : Bool} → n ≡ To c → PushAnswers a m → Stands (U14 n a) (to c) none (Tail p m)
  u15 : {n d : Pointer} {c b x : ℕ} → n ≡ To c → d ≡ To b → Stands (U15 n d x) (to c) (to b) Rest
  v1 : Stands V1 none none Rest
  v2 : {h : Index} {p : ℕ} {m : Bool} → h ≡ word p m → Stands (V2 h) none none (Head p m)
  v3 : {h : Index} {d : Pointer} {p : ℕ} {b : Ptr} → h ≡ word p false → d ≡ ptr b → Stands (V3 h d) none none (Looking p b)
  v4 : {h new : Index} {d : Pointer} {p b : ℕ} {k : Bool} → (m : Bool) → h ≡ word p m → d ≡ To b → new ≡ word (p + 1) k → Stands (V4 h d new) none none (Taking p b k)
  v5 : {h : Index} {p : ℕ} {m : Bool} → h ≡ word p m → Stands (V5 h) none none (Head p m)
  v6 : {h new : Index} {d : Pointer} {p b : ℕ} → (m k : Bool) → h ≡ word p m → d ≡ To b → new ≡ word (p + 1) k → Stands (V6 h d new) none none (Going p b)
  v7 : {h new : Index} {d e : Pointer} {p b c : ℕ} → (m k : Bool) → h ≡ word p m → d ≡ To b → new ≡ word (p + 1) k → e ≡ To c → Stands (V7 h d new e) none none (Gone p b c)
  v8 : {h new : Index} {d e : Pointer} {p b c : ℕ} {k : Bool} → (m : Bool) → h ≡ word p m → d ≡ To b → e ≡ To c → new ≡ word (p + 2) k → Stands (V8 h d e new) none none (Leading p b c k)
  v9 : {h new : Index} {d : Pointer} {p b : ℕ} {k : Bool} → (m : Bool) → h ≡ word p m → d ≡ To b → new ≡ word (p + 2) k → Stands (V9 h d new) none none (Heading p b k)
  v10 : {h : Index} {d : Pointer} {p b : ℕ} → (m : Bool) → h ≡ word p m → d ≡ To b → Stands (V10 h d) none none (Awaiting p b)
  v11 : {h : Index} {d : Pointer} {p b : ℕ} → (m : Bool) → h ≡ word p m → d ≡ To b → Stands (V11 h d) none none (Reading p b)
  v12 : {h : Index} {d : Pointer} {p b v : ℕ} → (m : Bool) → h ≡ word p m → d ≡ To b → Stands (V12 h d v) none none (Popped p b v)
  v13 : {d : Pointer} {b i v : ℕ} → d ≡ To b → i < 30 → Stands (V13 d i v) none none (Destroying b i v)
  v14 : {d : Pointer} {b i v : ℕ} → d ≡ To b → i < 30 → Stands (V14 d i v) none none (Destroying b i v)
  v15 : {d : Pointer} {b v : ℕ} → d ≡ To b → Stands (V15 d v) none none (Destroying b 30 v)
  len1 : Stands Len1 none none Rest
  len2 : {t : Index} → Stands (Len2 t) none none Rest
  len3 : {t h : Index} → Stands (Len3 t h) none none Rest
  empty1 : Stands Empty1 none none Rest
  empty2 : {h : Index} → Stands (Empty2 h) none none Rest
  full1 : Stands Full1 none none Rest
  close1 : Stands Close1 none none Rest
  closed1 : Stands IsClosed1 none none Rest

pub record Standing (s : Shared) (w : ℕ) (p : Place) : Type 0 where
  pub aside : Ptr
  pub new : Ptr
  pub seen : Seen
  pub at : Stands p aside new seen
  pub good : Good s w aside new seen

-- ---- a machine, by its parts
pub record Sim (e : Ends) (blocks : List Block) (slots : List Slot) (workers : List Worker) (meter : ℕ) (s : Shared) : Type 0 where
  pub inv : Inv s
  pub ends : e ≡ ends_of_ring s
  pub headers : (b : ℕ) → b < 64 → HeadRep s.link s.phys (s.own b) (block_at blocks b)
  pub cells : (b i : ℕ) → b < 64 → i < 31 → SlotRep s.push s.pop s.destroy s.val (s.own b) i (slot_at slots b i)
  pub pool : (b : ℕ) → s.own b ≢ Free → b < 64
  pub blank : (p : ℕ) → s.push p ≡ Open → s.val p ≡ 0
  pub places : (w : ℕ) → Standing s w (place_of workers w)
  pub blocks_long : length blocks ≡ 64
  pub slots_long : length slots ≡ 1984
  pub workers_long : length workers ≡ workers_most
  pub metered : s.tail ≤ meter
