-- At every place of a call under way: what it has put in is its item at most, and what it has taken out one item at most, if it is a pop or a force_push.
use Prim.Native.Nat.{ℕ}
use mathlib.Core.Bool.{true, true≢false}
use mathlib.Core.List.{[], ◌∷◌}
use mathlib.Core.Path.{◌≡◌, refl, sym}
use Rattle.queue_entries.specs.declared.Call.{Call}
use Rattle.queue_entries.specs.declared.Call.TheVariants as call
use Rattle.queue_plain.specs.Story.{items_of}
use Rattle.queue_logs.proofs.Working.{Working, nothing, entered, took, swapped}
use Rattle.bounded_places.specs.declared.Kind.{Kind}
use Rattle.bounded_places.specs.declared.Place.{Place}
use Rattle.bounded_places.specs.declared.Place.TheVariants.{Idle, P1, P2, P3, P4, P5, P6, F6, F7, F8, F9, O1, O2, O3, O4, O5, O6, Len1, Len2, Len3, Empty1, Empty2, Full1, Full2, Close1, IsClosed1}
use Rattle.bounded_places.specs.Places.{view_of}
use Rattle.bounded_demands.specs.Stories.{Story, change_of, actor}
use Rattle.bounded_proof_invariant.proofs.Ring.{Shared}
use Rattle.bounded_proof_each_act.proofs.Sight.{Age}
use Rattle.bounded_proof_plain.proofs.Work.{pushing, task, Work, Due}
use Rattle.bounded_proof_plain.proofs.Rows.{pushed_item}

module _ (c n ed : ℕ) (st : Story) (s : Shared) (age : Age) (w : ℕ) where
  abbrev Busy : Type 0
  Busy = Working actor (change_of ed) c st w

  still : (cl : Call) → Work c n ed st w cl [] [] → Busy
  still cl o = nothing actor (change_of ed) c st w cl o

  in_now : (k : Kind) (x : ℕ) → Work c n ed st w (pushing k x) (x ∷ []) [] → Busy
  in_now k x o = entered actor (change_of ed) c st w (pushing k x) (x ∷ []) (pushed_item k x) o

  both_done : (x v : ℕ) → Work c n ed st w (call.ForcePush x) (x ∷ []) (v ∷ []) → Busy
  unfolding items_of
  both_done x v o = swapped actor (change_of ed) c st w (call.ForcePush x) (x ∷ []) v refl refl o

  pub working_at : (p : Place) → (view_of p).busy ≡ true → Due c n ed st s age w (task p) → Busy
  working_at (Idle a) h o = absurd (true≢false (sym h))
  working_at (P1 k x) h o = still (pushing k x) o
  working_at (P2 k t x) h o = still (pushing k x) o.work
  working_at (P3 k t x) h o = still (pushing k x) o.work
  working_at (P4 t x) h o = in_now o.0 x o.1.work
  working_at (P5 t) h o = in_now o.0 o.1 o.2.work
  working_at (P6 t x) h o = still (call.Push x) o.work
  working_at (F6 t x) h o = still (call.ForcePush x) o.work
  working_at (F7 t x) h o = took actor (change_of ed) c st w (call.ForcePush x) o.v refl o.work
  working_at (F8 t x) h o = both_done x o.v o.work
  working_at (F9 t old) h o = both_done o.0 o.1.v o.1.work
  working_at O1 h o = still call.Pop o
  working_at (O2 u) h o = still call.Pop o
  working_at (O3 u) h o = still call.Pop o
  working_at (O4 u) h o = took actor (change_of ed) c st w call.Pop o.v refl o.work
  working_at (O5 u v) h o = took actor (change_of ed) c st w call.Pop o.v refl o.work
  working_at (O6 u) h o = still call.Pop o
  working_at Len1 h o = still call.Len o
  working_at (Len2 t) h o = still call.Len o.0
  working_at (Len3 t u) h o = still call.Len o.work
  working_at Empty1 h o = still call.IsEmpty o
  working_at (Empty2 u) h o = still call.IsEmpty o.0
  working_at Full1 h o = still call.IsFull o
  working_at (Full2 t) h o = still call.IsFull o.0
  working_at Close1 h o = still call.Close o
  working_at IsClosed1 h o = still call.IsClosed o
