-- Runs of the unbounded queue, as one table: the first push installs a block; as many pushes and pops as a block has slots free it; closed; 23
-- with all blocks taken, and the same act accepted after a block is freed. All are on two blocks of two slots.
use Rattle.std.specs.Prelude.{ℕ, ◌+◌, ◌*◌, Bool, true, false, ◌≡◌, List, [], ◌∷◌, ◌++◌, map}
use Rattle.unbounded_words.specs.declared.Pointer.{Pointer}
use Rattle.unbounded_words.specs.declared.Pointer.TheVariants.{None, To}
use Rattle.unbounded_words.specs.Words.{Sizes}
use Rattle.unbounded_words.specs.Words as words
use Rattle.unbounded_places.specs.declared.Place.{Place}
use Rattle.unbounded_places.specs.declared.Place.TheVariants.{Idle, U3}
use Rattle.unbounded_places.specs.declared.Answer.TheVariants.{Pushed, Closed, Popped, PopClosed}
use Rattle.unbounded_machine.specs.declared.Ran.{Ran}
use Rattle.unbounded_machine.specs.Machine.{fresh_of, place_of, block_at, slot_at}
use Rattle.unbounded_machine.specs.Contents.{contents_of}
use Rattle.unbounded_machine.specs.Run.{run_of}
use Rattle.unbounded_demands.specs.Notions.{acts}

-- What is said of a run.
pub data Fact : Type 0 where
  -- refusal and place of the report
  ended : ℕ → ℕ → Fact
  -- index and block of head, of tail
  head : ℕ → Pointer → Fact
  tail : ℕ → Pointer → Fact
  -- of a block: free, next
  block : ℕ → Bool → Pointer → Fact
  -- of a block's slot: state, value
  slot : ℕ → ℕ → ℕ → ℕ → Fact
  stands : ℕ → Place → Fact
  contents : List ℕ → Fact

-- The same fact as the definitions have it.
unfoldable pub found : Sizes → Ran → Fact → Fact
found z r (ended n k) = ended r.refusal r.place
found z r (head h b) = head r.machine.ends.head.0 r.machine.ends.front
found z r (tail t b) = tail r.machine.ends.tail.0 r.machine.ends.back
found z r (block k f n) = block k (block_at r.machine.blocks k).free (block_at r.machine.blocks k).next
found z r (slot k i s v) = slot k i (slot_at z r.machine.slots k i).state (slot_at z r.machine.slots k i).value
found z r (stands w p) = stands w (place_of r.machine.workers w)
found z r (contents l) = contents (contents_of z r.machine)

-- A run: the sizes, workers, the schedule from the fresh machine, and what is said of it.
pub record Row : Type 0 where
  pub sizes : Sizes
  pub workers : ℕ
  pub schedule : List ℕ
  pub facts : List Fact

abbrev row : Sizes → ℕ → List ℕ → List Fact → Row
row z w s l = record { sizes = z; workers = w; schedule = s; facts = l }

unfoldable pub found_in : Row → List Fact
found_in r = map (found r.sizes (run_of r.sizes (fresh_of r.sizes r.workers) r.schedule)) r.facts

-- two blocks of two slots
abbrev pub short : Sizes
short = record { lap = 3; slots = 2; blocks = 2 }

abbrev call : ℕ → ℕ → ℕ → ℕ → List ℕ
call worker code item n = (16 * worker + code) ∷ item ∷ acts worker n

-- the first push: U1, U2, U4, U5, U6, U7, U12, U13; another: U1, U2, U7, U12, U13; at a block's last slot U3 and U9 to U11 besides
abbrev first : List ℕ
first = call 0 0 5 8

abbrev last : List ℕ
last = call 0 0 6 9

-- a pop that looks at tail: V1, V2, V3, V4, V10, V11, V12; one of a block's last slot, with head marked: V1, V2, V4, V6 to V11, V13, V15
abbrev pop : ℕ → List ℕ
pop w = call w 2 0 7

abbrev pop_last : ℕ → List ℕ
pop_last w = call w 2 0 11

-- a fourth push needs a third block of two: it stands at U3
abbrev needs : List ℕ
needs = first ++ (last ++ (call 0 0 7 5 ++ call 0 0 8 2))

-- worker 1 pops twice, which frees block 0
abbrev frees : List ℕ
frees = needs ++ (pop 1 ++ pop_last 1)

abbrev pub table : List Row
table =
    row short 1 first (ended 0 9 ∷ head 0 (To 0) ∷ tail 2 (To 0) ∷ block 0 false None ∷ slot 0 0 1 5 ∷ block 1 true None ∷ stands 0 (Idle Pushed) ∷ contents (5 ∷ []) ∷ [])
    ∷ row short 1 (first ++ last) (ended 0 19 ∷ head 0 (To 0) ∷ tail 6 (To 1) ∷ block 0 false (To 1) ∷ block 1 false None ∷ slot 0 1 1 6 ∷ contents (5 ∷ 6 ∷ []) ∷ [])
    ∷ row short 1 (first ++ (last ++ (pop 0 ++ pop_last 0))) (ended 0 39 ∷ head 6 (To 1) ∷ tail 6 (To 1) ∷ block 0 true (To 1) ∷ block 1 false None ∷ stands 0 (Idle (Popped 6)) ∷ contents [] ∷ [])
    ∷ row short 1 (first ++ (call 0 6 0 1 ++ call 0 0 6 2)) (ended 0 14 ∷ tail 3 (To 0) ∷ stands 0 (Idle (Closed 6)) ∷ contents (5 ∷ []) ∷ [])
    ∷ row short 1 (first ++ (call 0 6 0 1 ++ (pop 0 ++ call 0 2 0 3))) (ended 0 23 ∷ head 2 (To 0) ∷ tail 3 (To 0) ∷ stands 0 (Idle PopClosed) ∷ contents [] ∷ [])
    ∷ row short 2 (needs ++ acts 0 1) (ended 23 28 ∷ tail 8 (To 1) ∷ block 0 false (To 1) ∷ block 1 false None ∷ stands 0 (U3 (words.index 8) (To 1) 8) ∷ [])
    ∷ row short 2 frees (ended 0 48 ∷ head 6 (To 1) ∷ block 0 true (To 1) ∷ stands 1 (Idle (Popped 6)) ∷ [])
    ∷ row short 2 (frees ++ acts 0 7) (ended 0 55 ∷ tail 12 (To 0) ∷ block 0 false None ∷ block 1 false (To 0) ∷ stands 0 (Idle Pushed) ∷ contents (7 ∷ 8 ∷ []) ∷ [])
    ∷ []

abbrev pub Runs : Type 0
Runs = map found_in table ≡ map (λ (r : Row). r.facts) table
