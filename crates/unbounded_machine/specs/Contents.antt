-- Contents are what `Drop` meets.
use Rattle.std.specs.Prelude.{ℕ, cond, List, ◌++◌, ltb, eqb, length, drop}
use Rattle.unbounded_words.specs.Words.{Sizes}
use Rattle.unbounded_machine.specs.declared.Machine.{Machine}
use Rattle.unbounded_machine.specs.Drop.{walk_of, items_of}
use Rattle.unbounded_machine.specs.Broken.{broken_of, all_idle}

unfoldable pub count_in : Sizes → Machine → ℕ
count_in z m = (walk_of z m.ends m.blocks).count

unfoldable pub contents_of : Sizes → Machine → List ℕ
contents_of z m = items_of z m.ends m.blocks m.slots

-- Order: contents 6, 4, 10 (4: while any is busy; 10: buffer shorter than the list).
unfoldable pub contents_refusal : Sizes → Machine → ℕ → ℕ
contents_refusal z m room =
    cond (broken_of z m) 6 (cond (all_idle z m.workers) (cond (ltb room (count_in z m)) 10 0) 4)

-- written at the buffer's start; the rest untouched
unfoldable pub written : Sizes → Machine → List ℕ → List ℕ
written z m buffer =
    cond (eqb (contents_refusal z m (length buffer)) 0) (contents_of z m ++ drop (count_in z m) buffer) buffer
