-- The acts that change nothing: what a load tells its worker ("Decisions on words, in positions").
use Prim.Native.Nat.{ℕ, ◌+◌, ◌-◌, ◌/◌, ◌%◌, ◌<◌, ◌≤◌}
use mathlib.Core.Path.{◌≡◌, refl, sym, ap, ◌∙◌}
use mathlib.Core.Logic.{◌≢◌}
use mathlib.Core.Bool.{Bool, true, false, cond, not, true≢false}
use native.Mathlib.Omega.{arith}
use native.Mathlib.Decide.{ℕ_discrete}
use lib.Dec.{eqb}
use borrow.Author.Tests.{eq-eqb, ne_eqb}
use Rattle.unbounded_words.specs.declared.Pointer.TheVariants.{None, To}
use Rattle.unbounded_proof_invariant.proofs.Queue.{Ptr, none, to, Done, Shared, Inv}
use Rattle.unbounded_proof_invariant.proofs.Kept.{done_or_not}
use Rattle.unbounded_proof_invariant.proofs.Views.{Rest, Tail, Claiming, Head, Looking, Taking, Going, Gone, Leading, Awaiting, Reading, Popped, LookOk}
use Rattle.unbounded_proof_invariant.proofs.Own.{Good, still, none_not_to}
use Rattle.unbounded_proof_words.proofs.Stands.{back_of}

to_pointer : (a b : ℕ) → To a ≡ To b → a ≡ b
to_pointer a b e = cc

none_pointer : (b : ℕ) → None ≡ To b → ⊥
none_pointer b e = let z : ◌≡◌ {A = ℕ} 0 1 = cc in omega arith

to_not_none : (b : ℕ) → To b ≡ None → ⊥
to_not_none b e = let z : ◌≡◌ {A = ℕ} 0 1 = cc in omega arith

-- tail's block: none exactly where there is none, else the last of the chain
pub back_none : (n : ℕ) (phys : ℕ → ℕ) → back_of n phys ≡ None → n ≡ 0
back_none n phys e = go (ℕ_discrete n 0)
  where
    go : Dec (n ≡ 0) → n ≡ 0
    go (yes z) = z
    go (no z) = absurd (to_not_none (phys (n - 1)) (sym (ap (λ (t : Bool). cond t None (To (phys (n - 1)))) (ne_eqb n 0 z)) ∙ e))

pub back_some : (n : ℕ) (phys : ℕ → ℕ) (b : ℕ) → back_of n phys ≡ To b → (0 < n) × (b ≡ phys (n - 1))
back_some n phys b e = go (ℕ_discrete n 0)
  where
    go : Dec (n ≡ 0) → (0 < n) × (b ≡ phys (n - 1))
    go (yes z) = absurd (none_pointer b (sym (ap (λ (t : Bool). cond t None (To (phys (n - 1)))) (eq-eqb n 0 z)) ∙ e))
    go (no z) = (omega arith, sym (to_pointer (phys (n - 1)) b (sym (ap (λ (t : Bool). cond t None (To (phys (n - 1)))) (ne_eqb n 0 z)) ∙ e)))

module _ (s : Shared) (inv : Inv s) (w : ℕ) (a n : Ptr) where
  -- U1; U7 lost
  pub load_tail : Good s w a n Rest → Good s w a n (Tail s.tail s.closed)
  load_tail g = still s w a n Rest (Tail s.tail s.closed) g refl refl refl (omega arith, λ e. e)

  pub lost_tail : (p b : ℕ) → Good s w a n (Claiming p b) → Good s w a n (Tail s.tail s.closed)
  lost_tail p b g = still s w a n (Claiming p b) (Tail s.tail s.closed) g refl refl refl (omega arith, λ e. e)

  pub same_tail : (p b : ℕ) → Good s w a n (Claiming p b) → Good s w a n (Tail p false)
  same_tail p b g = still s w a n (Claiming p b) (Tail p false) g refl refl refl (g.seen.1, λ e. absurd (true≢false (sym e)))

  -- U2, U8: the top of push's loop
  pub leave_tail : (p : ℕ) (m : Bool) → Good s w a n (Tail p m) → Good s w a n Rest
  leave_tail p m g = still s w a n (Tail p m) Rest g refl refl refl tt

  -- "tail.block null: N = 0, so p = P = 0"
  pub first_of_all : (p : ℕ) (m : Bool) → Good s w a n (Tail p m) → back_of s.blocks s.phys ≡ None → p ≡ 0
  first_of_all p m g e = let z = inv.ends.none_yet (back_none s.blocks s.phys e) in omega (arith, g.seen.0)

  pub claiming : (p b : ℕ) (m : Bool) → Good s w a n (Tail p m) → p % 32 < 31 → back_of s.blocks s.phys ≡ To b → Good s w a n (Claiming p b)
  claiming p b m g l e =
      let o = back_some s.blocks s.phys b e in
      still s w a n (Tail p m) (Claiming p b) g refl refl refl
      (l, g.seen.0, o.0, (λ q. let k : s.blocks - 1 ≡ p / 32 = (let i = inv.ends.one o.0 (omega arith) in omega arith) in o.1 ∙ ap s.phys k))

  -- V1; V4 lost
  pub load_head : Good s w a n Rest → Good s w a n (Head s.head s.mark)
  load_head g = still s w a n Rest (Head s.head s.mark) g refl refl refl (omega arith, inv.ends.marked)

  pub lost_head : (p b : ℕ) (k : Bool) → Good s w a n (Taking p b k) → Good s w a n (Head s.head s.mark)
  lost_head p b k g = still s w a n (Taking p b k) (Head s.head s.mark) g refl refl refl (omega arith, inv.ends.marked)

  -- V2, V5: the top of pop's loop
  pub leave_head : (p : ℕ) (m : Bool) → Good s w a n (Head p m) → Good s w a n Rest
  leave_head p m g = still s w a n (Head p m) Rest g refl refl refl tt

  front_known : (p : ℕ) → p % 32 < 31 → (d : Ptr) → s.front ≡ d → LookOk s w p d
  front_known p l none e = tt
  front_known p l (to b) e = (done, λ q. to_ptr b (s.phys (p / 32)) (sym e ∙ inv.ends.at_head done (omega arith) ∙ ap (λ (k : ℕ). to (s.phys (k / 32))) q))
    where
      to_ptr : (x y : ℕ) → to x ≡ to y → x ≡ y
      to_ptr x y z = cc

      done : s.first ≡ Done
      done = go (done_or_not s.first)
        where
          go : Dec (s.first ≡ Done) → s.first ≡ Done
          go (yes d) = d
          go (no z) = absurd (none_not_to s.front b (inv.ends.unfronted z).0 e)

  pub looking : (p : ℕ) (m : Bool) → Good s w a n (Head p m) → p % 32 < 31 → Good s w a n (Looking p s.front)
  looking p m g l = still s w a n (Head p m) (Looking p s.front) g refl refl refl (l, g.seen.0, front_known p l s.front refl)

  -- a marked word: "the block is not the last one"
  pub taking_marked : (p b : ℕ) → Good s w a n (Head p true) → p % 32 < 31 → s.front ≡ to b → Good s w a n (Taking p b true)
  taking_marked p b g l e =
      let o = front_known p l (to b) e in
      let far = g.seen.1 refl in
      still s w a n (Head p true) (Taking p b true) g refl refl refl (l, g.seen.0, o.0, o.1, omega arith, λ q. far)

  -- V3
  pub leave_looking : (p : ℕ) (b : Ptr) → Good s w a n (Looking p b) → Good s w a n Rest
  leave_looking p b g = still s w a n (Looking p b) Rest g refl refl refl tt

  -- "pos equal: P = Q at this load"
  pub both_there : (p : ℕ) (b : Ptr) → Good s w a n (Looking p b) → p ≡ s.tail → s.tail ≡ s.head
  both_there p b g e = omega (arith, g.seen.1, inv.ends.low)

  pub taking : (p b : ℕ) → Good s w a n (Looking p (to b)) → p ≢ s.tail → Good s w a n (Taking p b (not (eqb (p / 32) (s.tail / 32))))
  taking p b g ne =
      let o = g.seen in
      let l : p ≤ s.tail = omega (arith, o.1, inv.ends.low) in
      still s w a n (Looking p (to b)) (Taking p b (not (eqb (p / 32) (s.tail / 32)))) g refl refl refl
      (o.0, o.1, o.2.0, o.2.1, omega arith, (λ e. let z : p / 32 ≢ s.tail / 32 = other_block e in omega arith))
    where
      other_block : not (eqb (p / 32) (s.tail / 32)) ≡ true → p / 32 ≢ s.tail / 32
      other_block e q = true≢false (sym e ∙ ap not (eq-eqb (p / 32) (s.tail / 32) q))

  -- V6, V7
  pub next_known : (p b : ℕ) → Good s w a n (Going p b) → s.link (p / 32) ≡ true → Good s w a n (Gone p b (s.phys (p / 32 + 1)))
  next_known p b g e =
      let o = g.seen in
      let l = inv.hands.linked (p / 32) e in
      still s w a n (Going p b) (Gone p b (s.phys (p / 32 + 1))) g refl refl refl (o.0, o.1, o.2, omega (arith, o.1, o.2), refl)

  pub index_known : (p b c : ℕ) → Good s w a n (Gone p b c) → Good s w a n (Leading p b c (s.link (p / 32 + 1)))
  index_known p b c g =
      let o = g.seen in
      still s w a n (Gone p b c) (Leading p b c (s.link (p / 32 + 1))) g refl refl refl
      (o.0, o.1, o.2, o.3, o.4, λ e. let l = inv.hands.linked (p / 32 + 1) e in omega arith)

  -- V10, V11
  pub written : (p b : ℕ) → Good s w a n (Awaiting p b) → s.push p ≡ Done → Good s w a n (Reading p b)
  written p b g e = still s w a n (Awaiting p b) (Reading p b) g refl refl refl (g.seen.0, g.seen.1, e)

  -- V11 reads only the item of its claim
  pub reads_item : (p b : ℕ) → Good s w a n (Reading p b) → s.val p ≡ s.item p
  reads_item p b g = inv.items p g.seen.2

  pub read_out : (p b : ℕ) → Good s w a n (Reading p b) → p % 32 < 30 → Good s w a n (Popped p b (s.val p))
  read_out p b g l = still s w a n (Reading p b) (Popped p b (s.val p)) g refl refl refl (g.seen.0, g.seen.2, l, reads_item p b g)
