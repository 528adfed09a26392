-- The way that an entry is read.
use Prim.Native.Nat.{ℕ, ◌+◌, ◌≤◌, ◌<◌, ◌/◌, ◌%◌}
use mathlib.Core.Path.{◌≡◌, refl, sym, ap}
use mathlib.Core.Bool.{Bool, true, false}
use lib.Dec.{eqb}
use native.Mathlib.Omega.{arith}
use native.Mathlib.Decide.{dec_lt}
use lib.ListN.{get_or-eq_default}
use Rattle.queue_entries.specs.declared.Call.{Call}
use Rattle.queue_entries.specs.declared.Call.TheVariants as call
use Rattle.queue_entries.specs.declared.Order.TheVariants.{Begin, Act}
use Rattle.queue_entries.specs.declared.Entry.{Entry}
use Rattle.queue_entries.specs.declared.Entry.TheVariants.{Unreadable, Asks}
use Rattle.queue_entries.specs.Entries.{calls, call_of, stray_of, order_of, entry_of}
use Rattle.queue_entries.proofs.Pick.{along, below, above}
use Rattle.queue_entries.proofs.Pick as pick

pub along_call : (n k x : ℕ) (r : Call) → n ≡ k → r ≡ call_of k x → r ≡ call_of n x
along_call n k x = along (λ (i : ℕ). call_of i x) n k

pub last_call : (n x : ℕ) → 7 ≤ n → call.IsClosed ≡ call_of n x
last_call n x h = go (dec_lt 7 n)
  where
    go : Dec (7 < n) → call.IsClosed ≡ call_of n x
    go (yes l) = sym (get_or-eq_default (calls x) call.IsClosed l)
    go (no k) = let e : n ≡ 7 = omega arith in ap (λ (i : ℕ). call_of i x) (sym e)

module _ (worker code x : ℕ) where
  pub begins : (k : Call) → code < 8 → k ≡ call_of code x → Asks worker (Begin k) ≡ order_of worker code x
  unfolding order_of
  begins k h e = below code 8 _ _ _ h (ap (λ (i : Call). Asks worker (Begin i)) e)

  pub acts : 8 ≤ code → code < 10 → Asks worker (Act (eqb code 9)) ≡ order_of worker code x
  unfolding order_of
  acts h l = above code 8 _ _ _ h (below code 10 _ _ _ l refl)

  pub neither : 10 ≤ code → Unreadable ≡ order_of worker code x
  unfolding order_of
  neither h = above code 8 _ _ _ (omega arith) (above code 10 _ _ _ h refl)

module _ (first x : ℕ) (b : Bool) (e : b ≡ stray_of (first % 16) x) where
  pub astray : b ≡ true → Unreadable ≡ entry_of first x
  unfolding entry_of
  astray h = pick.yes (stray_of (first % 16) x) b _ _ _ e h refl

  pub read : (r : Entry) → b ≡ false → r ≡ order_of (first / 16) (first % 16) x → r ≡ entry_of first x
  unfolding entry_of
  read r h k = pick.no (stray_of (first % 16) x) b r _ _ e h k

-- one number more is passed
pub past : (k : ℕ) {n : ℕ} → k ≤ n → (n ≡ k → ⊥) → k + 1 ≤ n
past k {n} h e = omega arith
