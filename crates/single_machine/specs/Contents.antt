-- "Contents" of document 01, as `Drop` of src/single.rs looks (if *state & PUSHED != 0), and `capacity`.
use Rattle.std.specs.Prelude.{ℕ, cond, List, [], ◌∷◌, ◌++◌, ltb, eqb, length, drop, Result}
use Rattle.queue_entries.specs.Told.{told}
use Rattle.single_words.specs.Words.{pushed_in}
use Rattle.single_acts.specs.Acts.{len_of}
use Rattle.single_machine.specs.declared.Machine.{Machine}
use Rattle.single_machine.specs.Broken.{broken_of, idle_from}

-- none or one item
unfoldable pub contents_of : Machine → List ℕ
contents_of m = cond (pushed_in m.single.state) (m.single.value ∷ []) []

-- `len`'s count of items
abbrev pub count_in : Machine → ℕ
count_in m = len_of m.single.state

-- Order: contents 6, 4, 10 (4: while any is busy; 10: buffer shorter than the list).
unfoldable pub contents_refusal : Machine → ℕ → ℕ
contents_refusal m room =
    cond (broken_of m) 6 (cond (idle_from 0 m.workers) (cond (ltb room (count_in m)) 10 0) 4)

-- written at the buffer's start; the rest untouched
unfoldable pub written : Machine → List ℕ → List ℕ
written m buffer =
    cond (eqb (contents_refusal m (length buffer)) 0) (contents_of m ++ drop (count_in m) buffer) buffer

-- `capacity`: 6, else 1 (the crate's dispatch: `Inner::Single(_) => Some(1)`)
unfoldable pub capacity_of : Machine → Result ℕ ℕ
capacity_of m = told (cond (broken_of m) 6 0) 1
