-- What the search of a schedule finds, over any queue's reading of two words.
use Prim.Native.Nat.{ℕ, zero, suc, ◌+◌, ◌*◌}
use mathlib.Core.Path.{◌≡◌, refl, sym, ap, ◌∙◌}
use mathlib.Core.List.{List, [], ◌∷◌, ◌++◌}
use native.Mathlib.Omega.{arith}
use lib.ListN.{length, take}
use Rattle.queue_entries.specs.declared.Entry.{Entry}
use Rattle.queue_entries.specs.declared.Entry.TheVariants.{Unreadable, Asks}
use Rattle.std.specs.Prelude.{Option, Some, None}
use Rattle.queue_entries.specs.Schedules.{stops_at, search_by}
use Rattle.queue_schedules.specs.Reading.{Readable}

module _ (reading : ℕ → ℕ → Entry) where
  goes_on : (i : ℕ) (x : Entry) (later : Option ℕ) → (x ≡ Unreadable → ⊥) → stops_at i x later ≡ later
  goes_on i Unreadable later h = absurd (h refl)
  goes_on i (Asks w o) later h = refl

  pub search_read : (s : List ℕ) (i : ℕ) → Readable reading s → search_by reading i s ≡ None
  unfolding search_by
  search_read [] i h = refl
  search_read (a ∷ []) i h = refl
  search_read (a ∷ b ∷ s) i h = goes_on i (reading a b) (search_by reading (i + 1) s) h.0 ∙ search_read s (i + 1) h.1

  -- the first that can't be read is found, and its place
  pub search_first : (before : List ℕ) (i k a b : ℕ) (rest : List ℕ) → length before ≡ 2 * k → Readable reading before → reading a b ≡ Unreadable
      → search_by reading i (before ++ a ∷ b ∷ rest) ≡ Some (i + k)
  unfolding search_by
  search_first [] i k a b rest l h u =
      let z : i ≡ i + k = omega arith in
      ap (λ (x : Entry). stops_at i x (search_by reading (i + 1) rest)) u ∙ ap Some z
  search_first (c ∷ []) i k a b rest l h u = absurd (omega arith)
  search_first (c ∷ d ∷ before) i zero a b rest l h u = absurd (omega arith)
  search_first (c ∷ d ∷ before) i (suc k) a b rest l h u =
      let z : i + 1 + k ≡ i + suc k = omega arith in
      goes_on i (reading c d) (search_by reading (i + 1) (before ++ a ∷ b ∷ rest)) h.0
      ∙ search_first before (i + 1) k a b rest (omega arith) h.1 u ∙ ap Some z

  never : {k : ℕ} → Some k ≡ None → ⊥
  never e = let q : ◌≡◌ {A = ℕ} 0 1 = cc in omega arith

  -- nothing found: all can be read
  pub read_search : (s : List ℕ) (i : ℕ) → search_by reading i s ≡ None → Readable reading s
  unfolding search_by
  read_search [] i e = tt
  read_search (a ∷ []) i e = tt
  read_search (a ∷ b ∷ s) i e =
      let u : reading a b ≡ Unreadable → ⊥ = λ h. never (sym (ap (λ (x : Entry). stops_at i x (search_by reading (i + 1) s)) h) ∙ e) in
      (u, read_search s (i + 1) (sym (goes_on i (reading a b) (search_by reading (i + 1) s) u) ∙ e))

  -- and all before a place
  pub readable_part : (s : List ℕ) (k : ℕ) → Readable reading s → Readable reading (take (2 * k) s)
  readable_part s zero h = tt
  readable_part [] (suc k) h = let z : suc (suc (2 * k)) ≡ 2 * suc k = omega arith in rw (← z) tt
  readable_part (a ∷ []) (suc k) h = let z : suc (suc (2 * k)) ≡ 2 * suc k = omega arith in rw (← z) tt
  readable_part (a ∷ b ∷ s) (suc k) h = let z : suc (suc (2 * k)) ≡ 2 * suc k = omega arith in rw (← z) (h.0, readable_part s k h.1)

  -- of one entry: it can't be read
  pub found_one : (a b k : ℕ) → search_by reading 0 (a ∷ b ∷ []) ≡ Some k → reading a b ≡ Unreadable
  unfolding search_by
  found_one a b k e = go (reading a b) e
    where
      go : (x : Entry) → stops_at 0 x None ≡ Some k → x ≡ Unreadable
      go Unreadable h = refl
      go (Asks w o) h = absurd (never (sym h))
