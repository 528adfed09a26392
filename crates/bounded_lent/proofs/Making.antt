-- Records made idle one after another, and what making leaves.
use Prim.Native.Nat.{ℕ, zero, suc, ◌+◌, ◌≤◌}
use mathlib.Core.Path.{◌≡◌, refl, sym, ap, ◌∙◌}
use mathlib.Core.Bool.{Bool, true, false, cond}
use mathlib.Core.List.{List, [], ◌∷◌}
use native.Mathlib.Numerals.{add-one}
use native.Mathlib.Omega.{arith}
use lib.Dec.{eqb}
use lib.ListN.{length, set, replicate}
use Rattle.bounded_places.specs.declared.Worker.{Worker}
use Rattle.bounded_machine.specs.Machine.{idler, idlers, fresh_with, fresh_of, blank, accepted}
use Rattle.bounded_machine.proofs.Kept.{either}
use Rattle.bounded_orders.specs.declared.Made.{Made}
use Rattle.bounded_orders.specs.Orders.{make_refusal, made_from, made_of, unless_refused}
use Rattle.bounded_lent.specs.Lent.{lent, lent_of, make_lent}

-- the first so many are idle, the rest as they were
pub idle_first : ℕ → List Worker → List Worker
idle_first zero ys = ys
idle_first (suc i) [] = []
idle_first (suc i) (y ∷ ys) = idler ∷ idle_first i ys

pub none_idle : (ys : List Worker) → idle_first 0 ys ≡ ys
unfolding idle_first
none_idle ys = refl

one_idle : (i : ℕ) (ys : List Worker) → set (idle_first i ys) i idler ≡ idle_first (suc i) ys
unfolding idle_first
one_idle zero [] = refl
one_idle zero (y ∷ ys) = refl
one_idle (suc i) [] = refl
one_idle (suc i) (y ∷ ys) = ap (λ (zs : List Worker). idler ∷ zs) (one_idle i ys)

pub one_more : (i : ℕ) (ys zs : List Worker) (r : Worker) → zs ≡ idle_first i ys → r ≡ idler → set zs i r ≡ idle_first (i + 1) ys
one_more i ys zs r e h = ap (λ (l : List Worker). set l i r) e ∙ ap (set (idle_first i ys) i) h ∙ one_idle i ys ∙ ap (λ (k : ℕ). idle_first k ys) (sym (add-one i))

all_idle_lem : (ys : List Worker) → idle_first (length ys) ys ≡ replicate (length ys) idler
unfolding idle_first
all_idle_lem [] = refl
all_idle_lem (y ∷ ys) = ap (λ (zs : List Worker). idler ∷ zs) (all_idle_lem ys)

pub at_most_all : (r n : ℕ) → unless_refused r n ≤ n
unfolding unless_refused
at_most_all r n = either (λ (k : ℕ). k ≤ n) (eqb r 0) n 0 (λ e. omega arith) (λ e. omega arith)

pub made_lent : (ys : List Worker) (capacity edition : ℕ) (made : Made) → made ≡ made_of (length ys) capacity edition
    → lent made.refusal made.ring (idle_first (unless_refused made.refusal (length ys)) ys) ≡ make_lent ys capacity edition
unfolding made_of made_from unless_refused make_lent fresh_with idlers accepted idle_first
made_lent ys capacity edition made e =
    ap (λ (m : Made). lent m.refusal m.ring (idle_first (unless_refused m.refusal (length ys)) ys)) e ∙ go (eqb (make_refusal (length ys) capacity edition) 0) refl
  where
    refusal : ℕ
    refusal = make_refusal (length ys) capacity edition

    made_by : Bool → Made
    made_by b = cond b (made_from 0 (fresh_of capacity (length ys) edition)) (made_from refusal blank)

    go : (b : Bool) → eqb refusal 0 ≡ b
        → lent (made_by b).refusal (made_by b).ring (idle_first (unless_refused (made_by b).refusal (length ys)) ys)
        ≡ cond b (lent_of (accepted (fresh_with (length ys) capacity (length ys) edition))) (lent refusal (record { ring = blank.ring; meter = blank.meter }) ys)
    go true h = ap (lent 0 (record { ring = (fresh_of capacity (length ys) edition).ring; meter = 0 })) (all_idle_lem ys)
    go false h = ap (λ (b : Bool). lent refusal (record { ring = blank.ring; meter = blank.meter }) (idle_first (cond b (length ys) 0) ys)) h
