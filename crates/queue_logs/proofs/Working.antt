-- A call under way: what it has put in and taken out so far. And small laws of one call and one reply.
use Prim.Native.Nat.{ℕ, zero, suc, ◌≤◌}
use native.Mathlib.Omega.{arith}
use mathlib.Core.Bool.{Bool, true, cond, true≢false}
use mathlib.Core.List.{List, [], ◌∷◌, ◌++◌}
use mathlib.Core.Path.{◌≡◌, refl, sym, ap}
use lib.ListN.{take, drop}
use Rattle.queue_entries.specs.declared.Call.{Call}
use Rattle.queue_plain.specs.Plain.{Reply}
use Rattle.queue_plain.specs.Story.{Story, Change, items_of, known}
use Rattle.queue_plain.proofs.Calls.{Work}
use Rattle.queue_logs.specs.Logs.{weigh, ended, takes, taker}
use Rattle.queue_logs.proofs.Sums.{weigh_none, weigh_one}

abbrev one_if : Bool → ℕ
one_if b = cond b 1 0

head_c : Call → List Call → Call
head_c d [] = d
head_c d (c ∷ l) = c

pub same_call : (c d : Call) → c ∷ [] ≡ d ∷ [] → c ≡ d
unfolding head_c
same_call c d e = ap (head_c c) e

head_r : Reply → List Reply → Reply
head_r d [] = d
head_r d (r ∷ l) = r

pub same_reply : (r q : Reply) (l k : List Reply) → r ∷ l ≡ q ∷ k → r ≡ q
unfolding head_r
same_reply r q l k e = ap (head_r r) e

pub no_reply : {P : Type 0} {r : Reply} {more : List Reply} → [] ≡ r ∷ more → P
no_reply e = absurd (true≢false (sym (ap ended e)))

pub split_at : {A : Type 0} (n : ℕ) (l : List A) → l ≡ take n l ++ drop n l
split_at zero l = refl
split_at (suc n) [] = refl
split_at (suc n) (x ∷ l) = ap (λ (z : List _). x ∷ z) (split_at n l)

module _ {E : Type 0} (worker : E → ℕ) (change : E → Change) (capacity : ℕ) where
  -- It has put in at most its item, and taken out at most one, if it is a pop or a force_push.
  pub record Working (s : Story E) (w : ℕ) : Type 0 where
    pub call : Call
    pub calls : ((known worker change capacity s).each w).calls ≡ call ∷ []
    pub put_most : (f : ℕ → ℕ) → weigh f ((known worker change capacity s).each w).puts ≤ weigh f (items_of (call ∷ []))
    pub took_most : (f : ℕ → ℕ) → ((v : ℕ) → f v ≤ 1) → weigh f ((known worker change capacity s).each w).takes ≤ taker (call ∷ [])

  module _ (s : Story E) (w : ℕ) (c : Call) where
    abbrev Done : List ℕ → List ℕ → Type 0
    Done = Work worker change capacity s w c

    -- neither yet; its item in; one out; both
    pub nothing : Done [] [] → Working s w
    nothing o =
        record {
          call = c;
          calls = o.its;
          put_most = λ f. omega (arith, ap (weigh f) o.puts, weigh_none f);
          took_most = λ f small. omega (arith, ap (weigh f) o.takes, weigh_none f);
        }

    pub entered : (put : List ℕ) → items_of (c ∷ []) ≡ put → Done put [] → Working s w
    entered put is o =
        record {
          call = c;
          calls = o.its;
          put_most = λ f. omega (arith, ap (weigh f) o.puts, ap (weigh f) is);
          took_most = λ f small. omega (arith, ap (weigh f) o.takes, weigh_none f);
        }

    pub took : (v : ℕ) → takes c ≡ true → Done [] (v ∷ []) → Working s w
    took v so o =
        record {
          call = c;
          calls = o.its;
          put_most = λ f. omega (arith, ap (weigh f) o.puts, weigh_none f);
          took_most = λ f small. omega (arith, ap (weigh f) o.takes, weigh_one f v, small v, ap (λ (b : Bool). one_if b) so);
        }

    pub swapped : (put : List ℕ) (v : ℕ) → items_of (c ∷ []) ≡ put → takes c ≡ true → Done put (v ∷ []) → Working s w
    swapped put v is so o =
        record {
          call = c;
          calls = o.its;
          put_most = λ f. omega (arith, ap (weigh f) o.puts, ap (weigh f) is);
          took_most = λ f small. omega (arith, ap (weigh f) o.takes, weigh_one f v, small v, ap (λ (b : Bool). one_if b) so);
        }
