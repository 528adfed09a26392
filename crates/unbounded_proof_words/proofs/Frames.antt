-- What each kind of effect does to the words of blocks and slots.
use Prim.Native.Nat.{ℕ, zero, suc, ◌+◌, ◌*◌, ◌/◌, ◌%◌, ◌<◌, ◌≤◌}
use mathlib.Core.Path.{◌≡◌, refl, sym, ap, ◌∙◌, subst}
use mathlib.Core.Logic.{◌≢◌}
use mathlib.Core.Bool.{Bool, true, false, cond}
use mathlib.Core.List.{List, [], ◌∷◌}
use native.Mathlib.Omega.{arith}
use native.Mathlib.Decide.{ℕ_discrete}
use lib.Dec.{ltb}
use lib.ListN.{length, get_or, set}
use Rattle.queue_schedules.proofs.Upd.{upd}
use Rattle.unbounded_places.specs.declared.Slot.{Slot}
use Rattle.unbounded_places.specs.declared.Place.{Place}
use Rattle.unbounded_places.specs.declared.Worker.{Worker}
use Rattle.unbounded_proof_invariant.proofs.Queue.{Hand, Open, Done, By, Wait, Own, Free, Aside, Chain, Shared, DestOk, Inv}
use Rattle.unbounded_proof_invariant.proofs.Kept.{at_or_else}
use Rattle.unbounded_proof_invariant.proofs.Views.{Rely}
use Rattle.unbounded_proof_invariant.proofs.Own.{good_on}
use Rattle.unbounded_proof_words.proofs.Words.{bit}
use Rattle.unbounded_proof_words.proofs.Stands.{new_block, slot, place_of, is_done, next_of, read_bit, state_of, SlotRep, Standing}

-- ---- what was read out and is stored back
pub set_same : {A : Type 0} (l : List A) (k : ℕ) (d : A) → k < length l → set l k (get_or l k d) ≡ l
set_same [] k d h = refl
set_same (x ∷ l) zero d h = refl
set_same {A = A} (x ∷ l) (suc k) d h = ap (λ (r : List A). x ∷ r) (set_same l k d (omega arith))

pub get_same : {A : Type 0} (l : List A) (k : ℕ) (x d : A) → k < length l → get_or (set l k x) k d ≡ x
get_same [] k x d h = absurd (omega arith)
get_same (y ∷ l) zero x d h = refl
get_same (y ∷ l) (suc k) x d h = get_same l k x d (omega arith)

pub get_other : {A : Type 0} (l : List A) (k i : ℕ) (x d : A) → i ≢ k → get_or (set l k x) i d ≡ get_or l i d
get_other [] k i x d n = refl
get_other (y ∷ l) zero zero x d n = absurd (n refl)
get_other (y ∷ l) zero (suc i) x d n = refl
get_other (y ∷ l) (suc k) zero x d n = refl
get_other (y ∷ l) (suc k) (suc i) x d n = get_other l k i x d (λ e. n (ap suc e))

-- ---- the other workers stand as they stood
pub others_stand : (s u : Shared) (w : ℕ) (ws : List Worker) (q : Place) → Inv s → ((v : ℕ) → v ≢ w → Rely s u v) → ((v : ℕ) → Standing s v (place_of ws v)) → w < length ws → Standing u w q
    → (v : ℕ) → Standing u v (place_of (set ws w (record { place = q })) v)
others_stand s u w ws q inv rely old l new v = go (ℕ_discrete v w)
  where
    go : Dec (v ≡ w) → Standing u v (place_of (set ws w (record { place = q })) v)
    go (yes e) = rw e (subst (λ (x : Worker). Standing u w x.place) (sym (get_same ws w (record { place = q }) _ l)) new)
    go (no n) =
        let o = old v in
        subst (λ (x : Worker). Standing u v x.place) (sym (get_other ws w v (record { place = q }) _ n))
        (record { aside = o.aside; new = o.new; seen = o.seen; at = o.at; good = good_on s u v inv (rely v n) o.aside o.new o.seen o.good })

-- ---- slots whose words an effect leaves
pub cell_same : (push push' pop pop' : ℕ → Hand) (destroy destroy' : ℕ → ℕ → Bool) (val val' : ℕ → ℕ) (o : Own) (i : ℕ) (x : Slot)
    → ((j : ℕ) → o ≡ Chain j → (is_done (push' (32 * j + i)) ≡ is_done (push (32 * j + i))) × (read_bit i (pop' (32 * j + i)) ≡ read_bit i (pop (32 * j + i)))
    × (destroy' j i ≡ destroy j i) × (val' (32 * j + i) ≡ val (32 * j + i)))
    → SlotRep push pop destroy val o i x → SlotRep push' pop' destroy' val' o i x
cell_same push push' pop pop' destroy destroy' val val' Free i x a r = tt
cell_same push push' pop pop' destroy destroy' val val' (Aside w) i x a r = r
cell_same push push' pop pop' destroy destroy' val val' (Chain j) i x a r =
    let q = a j refl in
    r ∙ ap (λ (b : Bool). slot (state_of b (read_bit i (pop (32 * j + i))) (destroy j i)) (val (32 * j + i))) (sym q.0)
    ∙ ap (λ (b : Bool). slot (state_of (is_done (push' (32 * j + i))) b (destroy j i)) (val (32 * j + i))) (sym q.1)
    ∙ ap (λ (b : Bool). slot (state_of (is_done (push' (32 * j + i))) (read_bit i (pop' (32 * j + i))) b) (val (32 * j + i))) (sym q.2)
    ∙ ap (λ (v : ℕ). slot (state_of (is_done (push' (32 * j + i))) (read_bit i (pop' (32 * j + i))) (destroy' j i)) v) (sym q.3)

-- a push or a pop that goes from nobody's to somebody's
pub claimed_done : (f : ℕ → Hand) (p w : ℕ) → f p ≡ Open → (q : ℕ) → is_done (upd f p (By w) q) ≡ is_done (f q)
claimed_done f p w e q =
    at_or_else (λ (h : Hand). is_done h ≡ is_done (f q)) f p q (By w) (λ z. sym (ap is_done (ap f z ∙ e))) (λ n. refl)

pub claimed_read : (f : ℕ → Hand) (p w i : ℕ) → f p ≡ Open → (q : ℕ) → read_bit i (upd f p (By w) q) ≡ read_bit i (f q)
claimed_read f p w i e q = ap (λ (b : Bool). cond (ltb i 30) b false) (claimed_done f p w e q)

-- the pop of a block's last slot shows in no word
pub last_read : (f : ℕ → Hand) (j k i : ℕ) → i < 31 → read_bit i (upd f (32 * j + 30) Done (32 * k + i)) ≡ read_bit i (f (32 * k + i))
last_read f j k i l =
    at_or_else (λ (h : Hand). read_bit i h ≡ read_bit i (f (32 * k + i))) f (32 * j + 30) (32 * k + i) Done
    (λ e. let z : i ≡ 30 = omega arith in ap (λ (n : ℕ). cond (ltb n 30) true false) z ∙ sym (ap (λ (n : ℕ). cond (ltb n 30) (is_done (f (32 * k + i))) false) z)) (λ n. refl)

-- ---- a bit that is set
pub write_bit : (r d : Bool) → state_of false r d + 1 ≡ state_of true r d
write_bit true true = refl
write_bit true false = refl
write_bit false true = refl
write_bit false false = refl

pub read_bit_lem : (w d : Bool) → state_of w false d + 2 ≡ state_of w true d
read_bit_lem true true = refl
read_bit_lem true false = refl
read_bit_lem false true = refl
read_bit_lem false false = refl

pub destroy_bit : (w r : Bool) → state_of w r false + 4 ≡ state_of w r true
destroy_bit true true = refl
destroy_bit true false = refl
destroy_bit false true = refl
destroy_bit false false = refl

-- and what a state says of its bits
pub write_said : (w r d : Bool) → state_of w r d / 1 % 2 ≡ bit w
write_said true true true = refl
write_said true true false = refl
write_said true false true = refl
write_said true false false = refl
write_said false true true = refl
write_said false true false = refl
write_said false false true = refl
write_said false false false = refl

pub read_said : (w r d : Bool) → state_of w r d / 2 % 2 ≡ bit r
read_said true true true = refl
read_said true true false = refl
read_said true false true = refl
read_said true false false = refl
read_said false true true = refl
read_said false true false = refl
read_said false false true = refl
read_said false false false = refl

pub destroy_said : (w r d : Bool) → state_of w r d / 4 % 2 ≡ bit d
destroy_said true true true = refl
destroy_said true true false = refl
destroy_said true false true = refl
destroy_said true false false = refl
destroy_said false true true = refl
destroy_said false true false = refl
destroy_said false false true = refl
destroy_said false false false = refl

-- ---- a block set aside that becomes one of the chain is as it was: nothing of it is claimed yet
pub fresh_cell : (s : Shared) → Inv s → ((p : ℕ) → s.push p ≡ Open → s.val p ≡ 0) → (j i : ℕ) → s.tail ≤ 32 * j + i → i < 31 → s.dest j ≡ Wait
    → slot 0 0 ≡ slot (state_of (is_done (s.push (32 * j + i))) (read_bit i (s.pop (32 * j + i))) (s.destroy j i)) (s.val (32 * j + i))
fresh_cell s inv blank j i far l waits =
    let a : s.push (32 * j + i) ≡ Open = inv.hands.push_open (32 * j + i) far in
    let b : s.pop (32 * j + i) ≡ Open = inv.hands.pop_open (32 * j + i) (omega (arith, inv.ends.low)) in
    let c : s.destroy j i ≡ false = subst (DestOk (s.destroy j) s.pop j) waits (inv.dests.dests j) i l in
    let v : s.val (32 * j + i) ≡ 0 = blank (32 * j + i) a in
    rw (a, b, c, v) (ap (λ (r : Bool). slot (state_of false r false) 0) (pick (ltb i 30)))
  where
    pick : (t : Bool) → false ≡ cond t false false
    pick true = refl
    pick false = refl

pub fresh_header : (link : ℕ → Bool) (phys : ℕ → ℕ) (j : ℕ) → link j ≡ false → new_block ≡ record { next = next_of link phys j; free = false }
fresh_header link phys j e = rw e refl
