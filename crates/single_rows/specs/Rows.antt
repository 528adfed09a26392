-- The one-slot machine as words in the host's memory, and back.
use Rattle.std.specs.Prelude.{ℕ, ◌+◌, ◌*◌, Bool, true, false, cond, List, [], ◌∷◌, eqb, length, get_or, set}
use Rattle.single_words.specs.Words.{state}
use Rattle.single_places.specs.declared.Worker.{Worker}
use Rattle.single_machine.specs.declared.Machine.{Machine}
use Rattle.single_machine.specs.Machine.{machine_of}
use Rattle.single_codes.specs.declared.Coded.{Coded}
use Rattle.single_codes.specs.Codes.{code_of, place_in, stands_for}

-- What a host lends: two slices.
pub record Words : Type 0 where
  pub head : List ℕ
  pub records : List ℕ

abbrev pub words : List ℕ → List ℕ → Words
words h rs = record { head = h; records = rs }

-- The number of this layout. Words with another number stand for nothing; the ring's is 1.
abbrev pub layout : ℕ
layout = 2

-- ---- written: the state word, the slot's value, the count of workers, the meter, the layout's number; code and two words for each of the sixteen records
unfoldable pub head_of : Machine → List ℕ
head_of m = m.single.state.0 ∷ m.single.value ∷ m.count ∷ m.meter ∷ layout ∷ []

unfoldable pub records_of : List Worker → List ℕ
records_of [] = []
records_of (y ∷ rest) = (code_of y.place).code ∷ (code_of y.place).first ∷ (code_of y.place).second ∷ records_of rest

abbrev pub words_of : Machine → Words
words_of m = words (head_of m) (records_of m.workers)

-- ---- and read
abbrev pub record_from : ℕ → ℕ → ℕ → Worker
record_from c a b = record { place = place_in c a b }

unfoldable pub records_in : List ℕ → List Worker
records_in [] = []
records_in (c ∷ []) = []
records_in (c ∷ a ∷ []) = []
records_in (c ∷ a ∷ b ∷ ws) = record_from c a b ∷ records_in ws

unfoldable pub machine_in : Words → Machine
machine_in w =
    machine_of (record { state = state (get_or w.head 0 0); value = get_or w.head 1 0 }) (records_in w.records) (get_or w.head 2 0) (get_or w.head 3 0)

-- ---- which words stand for a machine
unfoldable pub shaped : Words → Bool
shaped w = cond (eqb (length w.head) 5) (eqb (length w.records) 48) false

-- a place in every three
unfoldable pub placed : List ℕ → Bool
placed [] = true
placed (c ∷ []) = false
placed (c ∷ a ∷ []) = false
placed (c ∷ a ∷ b ∷ ws) = cond (stands_for c a b) (placed ws) false

unfoldable pub stand : Words → Bool
stand w = cond (shaped w) (cond (eqb (get_or w.head 4 0) layout) (placed w.records) false) false

-- ---- one record among the words
unfoldable pub record_at : List ℕ → ℕ → Worker
record_at ws i = record_from (get_or ws (i * 3) 0) (get_or ws (i * 3 + 1) 0) (get_or ws (i * 3 + 2) 0)

unfoldable pub placed_at : List ℕ → ℕ → Bool
placed_at ws i = stands_for (get_or ws (i * 3) 0) (get_or ws (i * 3 + 1) 0) (get_or ws (i * 3 + 2) 0)

abbrev pub three : List ℕ → ℕ → Coded → List ℕ
three ws at c = set (set (set ws at c.code) (at + 1) c.first) (at + 2) c.second

unfoldable pub with_record : List ℕ → ℕ → Worker → List ℕ
with_record ws i r = three ws (i * 3) (code_of r.place)
