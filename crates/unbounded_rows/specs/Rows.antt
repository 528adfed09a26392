-- The unbounded queue's machine as words in the host's memory, and back.
use Rattle.std.specs.Prelude.{ℕ, zero, suc, ◌+◌, ◌-◌, ◌*◌, ◌/◌, ◌%◌, Bool, false, cond, List, [], ◌∷◌, ◌≡◌, eqb, ltb, length, get_or, set}
use Rattle.queue_entries.specs.Limits.{workers_most, all}
use Rattle.unbounded_words.specs.Words.{sizes, index, number_of}
use Rattle.unbounded_places.specs.declared.Slot.{Slot}
use Rattle.unbounded_places.specs.declared.Block.{Block}
use Rattle.unbounded_places.specs.declared.Ends.{Ends}
use Rattle.unbounded_places.specs.declared.Worker.{Worker}
use Rattle.unbounded_machine.specs.declared.Machine.{Machine}
use Rattle.unbounded_machine.specs.Machine.{slot, block_at, machine_of, place_of}
use Rattle.unbounded_codes.specs.declared.Coded.{Coded}
use Rattle.unbounded_codes.specs.Codes.{code_of, pointer_in, place_in, stands_for, Said, SaidOf}

-- What a host lends: three slices.
pub record Words : Type 0 where
  pub head : List ℕ
  pub pool : List ℕ
  pub records : List ℕ

abbrev pub words : List ℕ → List ℕ → List ℕ → Words
words h p rs = record { head = h; pool = p; records = rs }

-- The number of this layout. Words with another number stand for nothing; the ring's is 1, the one-slot queue's 2.
abbrev pub layout : ℕ
layout = 3

-- How many words there are: but for blocks and records, of all blocks, of all records; of a block, of a record.
abbrev pub head_words : ℕ
head_words = 8

abbrev pub pool_words : ℕ
pool_words = 4096

abbrev pub records_words : ℕ
records_words = 80

-- so many, the first by the number i
unfoldable pub from : {A : Type 0} → ℕ → ℕ → (ℕ → A) → List A
from zero i f = []
from (suc more) i f = f i ∷ from more (i + 1) f

abbrev pub row : {A : Type 0} → ℕ → (ℕ → A) → List A
row n f = from n 0 f

-- ---- written: head's index and block, tail's index and block, the count of workers, the meter, a word that is 0, the layout's number
unfoldable pub head_from : Ends → ℕ → ℕ → List ℕ
head_from e count meter = e.head.0 ∷ number_of sizes e.front ∷ e.tail.0 ∷ number_of sizes e.back ∷ count ∷ meter ∷ 0 ∷ layout ∷ []

abbrev pub head_of : Machine → List ℕ
head_of m = head_from m.ends m.count m.meter

-- 64 words a block: its next, whether it is free (1) or taken (0), then state and value of each of its 31 slots. Word p of the pool is word p % 64 of block p / 64.
abbrev pub bit : Bool → ℕ
bit b = cond b 1 0

-- the slot whose state and value are there, by its number among all slots
abbrev pub slot_of_word : ℕ → ℕ
slot_of_word p = p / 64 * 31 + (p % 64 - 2) / 2

-- a header's word, and a slot's
unfoldable pub header_word : List Block → ℕ → ℕ
header_word gs p = cond (eqb (p % 64) 0) (number_of sizes (block_at gs (p / 64)).next) (bit (block_at gs (p / 64)).free)

unfoldable pub slot_word : List Slot → ℕ → ℕ
slot_word ss p = cond (eqb (p % 2) 0) (get_or ss (slot_of_word p) (slot 0 0)).state (get_or ss (slot_of_word p) (slot 0 0)).value

-- headers by one rule, slots by another
unfoldable pub pooled : (ℕ → ℕ) → (ℕ → ℕ) → ℕ → ℕ
pooled header slots p = cond (ltb (p % 64) 2) (header p) (slots p)

unfoldable pub pool_of : List Block → List Slot → List ℕ
pool_of gs ss = row pool_words (pooled (header_word gs) (slot_word ss))

-- five words a record: its place's code and words. Word p is word p % 5 of record p / 5.
abbrev pub word_of : Coded → ℕ → ℕ
word_of x j = cond (eqb j 0) x.code (cond (eqb j 1) x.first (cond (eqb j 2) x.second (cond (eqb j 3) x.third x.fourth)))

unfoldable pub record_word : List Worker → ℕ → ℕ
record_word ys p = word_of (code_of (place_of ys (p / 5))) (p % 5)

unfoldable pub records_of : List Worker → List ℕ
records_of ys = row records_words (record_word ys)

abbrev pub words_of : Machine → Words
words_of m = words (head_of m) (pool_of m.blocks m.slots) (records_of m.workers)

-- ---- and read
abbrev pub word_at : List ℕ → ℕ → ℕ
word_at ws p = get_or ws p 0

unfoldable pub ends_in : List ℕ → Ends
ends_in h = record { head = index (word_at h 0); front = pointer_in (word_at h 1); tail = index (word_at h 2); back = pointer_in (word_at h 3) }

unfoldable pub block_in : List ℕ → ℕ → Block
block_in ws k = record { next = pointer_in (word_at ws (k * 64)); free = eqb (word_at ws (k * 64 + 1)) 1 }

-- the place of slot j's state
abbrev pub slot_place : ℕ → ℕ
slot_place j = j * 2 + j / 31 * 2 + 2

unfoldable pub slot_in : List ℕ → ℕ → Slot
slot_in ws j = slot (word_at ws (slot_place j)) (word_at ws (slot_place j + 1))

unfoldable pub record_in : List ℕ → ℕ → Worker
record_in ws i =
    record { place = place_in (word_at ws (i * 5)) (word_at ws (i * 5 + 1)) (word_at ws (i * 5 + 2)) (word_at ws (i * 5 + 3)) (word_at ws (i * 5 + 4)) }

unfoldable pub blocks_in : List ℕ → List Block
blocks_in ws = row 64 (block_in ws)

unfoldable pub slots_in : List ℕ → List Slot
slots_in ws = row 1984 (slot_in ws)

unfoldable pub records_in : List ℕ → List Worker
records_in ws = row workers_most (record_in ws)

unfoldable pub machine_in : Words → Machine
machine_in w = machine_of (ends_in w.head) (blocks_in w.pool) (slots_in w.pool) (records_in w.records) (word_at w.head 4) (word_at w.head 5)

-- ---- which words stand for a machine
unfoldable pub shaped : Words → Bool
shaped w = cond (eqb (length w.head) head_words) (cond (eqb (length w.pool) pool_words) (eqb (length w.records) records_words) false) false

unfoldable pub laid_out_rows : List ℕ → Bool
laid_out_rows h = cond (eqb (word_at h 6) 0) (eqb (word_at h 7) layout) false

-- 0 or 1 where a block says whether it is free
unfoldable pub bit_at : List ℕ → ℕ → Bool
bit_at ws k = ltb (word_at ws (k * 64 + 1)) 2

unfoldable pub bits : List ℕ → Bool
bits ws = all 64 0 (bit_at ws)

unfoldable pub placed_at : List ℕ → ℕ → Bool
placed_at ws i = stands_for (word_at ws (i * 5)) (word_at ws (i * 5 + 1)) (word_at ws (i * 5 + 2)) (word_at ws (i * 5 + 3)) (word_at ws (i * 5 + 4))

unfoldable pub placed : List ℕ → Bool
placed ws = all workers_most 0 (placed_at ws)

unfoldable pub stand : Words → Bool
stand w = cond (shaped w) (cond (laid_out_rows w.head) (cond (bits w.pool) (placed w.records) false) false) false

-- ---- which machines have words: as many blocks, slots and records as there are, and no pointer to a block numbered as none is
pub record Sayable (m : Machine) : Type 0 where
  pub blocks_all : length m.blocks ≡ 64
  pub slots_all : length m.slots ≡ 1984
  pub workers_all : length m.workers ≡ workers_most
  pub front_said : Said m.ends.front
  pub back_said : Said m.ends.back
  pub next_said : (k : ℕ) → Said (block_at m.blocks k).next
  pub place_said : (i : ℕ) → SaidOf (place_of m.workers i)

-- ---- the words with all headers or all slots anew, and with one record
unfoldable pub with_blocks : List ℕ → List Block → List ℕ
with_blocks ws gs = row pool_words (pooled (header_word gs) (word_at ws))

unfoldable pub with_slots : List ℕ → List Slot → List ℕ
with_slots ws ss = row pool_words (pooled (word_at ws) (slot_word ss))

abbrev pub five_at : List ℕ → ℕ → Coded → List ℕ
five_at ws at x = set (set (set (set (set ws at x.code) (at + 1) x.first) (at + 2) x.second) (at + 3) x.third) (at + 4) x.fourth

unfoldable pub with_record : List ℕ → ℕ → Worker → List ℕ
with_record ws i r = five_at ws (i * 5) (code_of r.place)
