-- The unbounded queue over positions: 32 to a block, of which the last is a gap. What it holds and how it got there, and the invariant.
-- The words of a block of the chain are those that this gives (next by `link`, WRITE by `push`, READ by `pop`, DESTROY by `destroy`); a block set
-- aside is as `Block::new` makes it; and a block is free where nobody owns it.
use mathlib.Core.Path.{◌≡◌}
use mathlib.Core.Logic.{◌≢◌}
use mathlib.Core.Bool.{Bool, true, false}
use Prim.Native.Nat.{ℕ, ◌+◌, ◌*◌, ◌/◌, ◌%◌, ◌≤◌, ◌<◌}

-- A pointer to a block of the pool.
pub data Ptr : Type 0 where
  none : Ptr
  to : ℕ → Ptr

-- The push, or the pop, of a position, and the first block: nobody's yet, in the hand of a worker, done.
pub data Hand : Type 0 where
  Open Done : Hand
  By : ℕ → Hand

-- Who has to destroy the block numbered j, and from which slot on: nobody yet; a worker; who reads the slot it is parked at; freed.
pub data Dest : Type 0 where
  Wait Freed : Dest
  Walk : ℕ → ℕ → Dest
  Parked : ℕ → Dest

-- Whose a block of the pool is: nobody's; set aside by a worker; the j-th of the chain.
pub data Own : Type 0 where
  Free : Own
  Aside : ℕ → Own
  Chain : ℕ → Own

pub record Shared : Type 0 where
  -- positions of tail and head, and how many blocks the chain has had
  pub tail : ℕ
  pub head : ℕ
  pub blocks : ℕ
  -- head's mark and head's block; who installs the first block
  pub mark : Bool
  pub front : Ptr
  pub first : Hand
  -- by block number: the block of the pool, whether its next is stored, who destroys it, its DESTROY bits
  pub phys : ℕ → ℕ
  pub link : ℕ → Bool
  pub dest : ℕ → Dest
  pub destroy : ℕ → ℕ → Bool
  -- by position: its push and its pop, the item of its claim, the value of its slot
  pub push : ℕ → Hand
  pub pop : ℕ → Hand
  pub item : ℕ → ℕ
  pub val : ℕ → ℕ
  -- by block of the pool
  pub own : ℕ → Own
  -- by worker: the position of its last head claim
  pub got : ℕ → ℕ
  -- tail's mark
  pub closed : Bool

-- A1, A3 to A6
pub record EndsOk (tail head blocks : ℕ) (mark : Bool) (front : Ptr) (first : Hand) (phys : ℕ → ℕ) : Type 0 where
  pub low : head ≤ tail
  pub none_yet : blocks ≡ 0 → tail ≡ 0
  pub some : 0 < blocks → tail / 32 < blocks
  pub one : 0 < blocks → tail % 32 < 31 → blocks ≡ tail / 32 + 1
  pub opens : first ≡ Open → blocks ≡ 0
  pub opened : blocks ≡ 0 → first ≡ Open
  pub fronted : first ≡ Done → (b : ℕ) × (front ≡ to b)
  pub unfronted : first ≢ Done → (front ≡ none) × (head ≡ 0)
  pub at_head : first ≡ Done → head % 32 < 31 → front ≡ to (phys (head / 32))
  pub marked : mark ≡ true → head / 32 < tail / 32

-- B1, C1, C2, D5, and where a push or a pop is nobody's
pub record HandsOk (tail head : ℕ) (push pop : ℕ → Hand) (link : ℕ → Bool) : Type 0 where
  pub push_open : (p : ℕ) → tail ≤ p → push p ≡ Open
  pub pushed : (p : ℕ) → p < tail → p % 32 < 31 → push p ≢ Open
  pub pop_open : (p : ℕ) → head ≤ p → pop p ≡ Open
  pub popped : (p : ℕ) → p < head → p % 32 < 31 → pop p ≢ Open
  pub order : (p : ℕ) → pop p ≡ Done → push p ≡ Done
  pub linked : (j : ℕ) → link j ≡ true → 32 * (j + 1) ≤ tail
  pub links : (j : ℕ) → push (32 * j + 30) ≡ Done → link j ≡ true
  pub passed : (j : ℕ) → pop (32 * j + 30) ≡ Done → 32 * (j + 1) ≤ head

-- D2 to D4 with E4
abbrev pub DestOk : (ℕ → Bool) → (ℕ → Hand) → ℕ → Dest → Type 0
DestOk destroy pop j Wait = (i : ℕ) → i < 31 → destroy i ≡ false
DestOk destroy pop j Freed = (i : ℕ) → i < 31 → pop (32 * j + i) ≡ Done
DestOk destroy pop j (Walk w k) =
    (k ≤ 30) × ((i : ℕ) → i < k → pop (32 * j + i) ≡ Done) × ((i : ℕ) → k ≤ i → i < 31 → destroy i ≡ false)
DestOk destroy pop j (Parked k) =
    (k < 30) × ((i : ℕ) → i < k → pop (32 * j + i) ≡ Done) × (pop (32 * j + k) ≢ Done) × (destroy k ≡ true)
    × ((i : ℕ) → k < i → i < 31 → destroy i ≡ false)

-- D1
pub record DestsOk (dest : ℕ → Dest) (destroy : ℕ → ℕ → Bool) (pop : ℕ → Hand) : Type 0 where
  pub waiting : (j : ℕ) → dest j ≡ Wait → pop (32 * j + 30) ≢ Done
  pub waits : (j : ℕ) → pop (32 * j + 30) ≢ Done → dest j ≡ Wait
  pub dests : (j : ℕ) → DestOk (destroy j) pop j (dest j)

-- E5
abbrev pub ItemsOk : (ℕ → Hand) → (ℕ → ℕ) → (ℕ → ℕ) → Type 0
ItemsOk push val item = (p : ℕ) → push p ≡ Done → val p ≡ item p

-- F2, F4
pub record OwnsOk (own : ℕ → Own) (blocks : ℕ) (dest : ℕ → Dest) (phys : ℕ → ℕ) : Type 0 where
  pub chain : (b j : ℕ) → own b ≡ Chain j → (j < blocks) × (dest j ≢ Freed) × (phys j ≡ b)
  pub chained : (j : ℕ) → j < blocks → dest j ≢ Freed → own (phys j) ≡ Chain j

pub record Inv (s : Shared) : Type 0 where
  pub ends : EndsOk s.tail s.head s.blocks s.mark s.front s.first s.phys
  pub hands : HandsOk s.tail s.head s.push s.pop s.link
  pub dests : DestsOk s.dest s.destroy s.pop
  pub items : ItemsOk s.push s.val s.item
  pub owns : OwnsOk s.own s.blocks s.dest s.phys
