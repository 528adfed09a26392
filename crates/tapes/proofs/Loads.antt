-- How long a tape is, and whether it can carry its entries.
use Prim.Native.Nat.{ℕ, ◌+◌, ◌*◌, ◌/◌, ◌<◌, ◌≤◌}
use mathlib.Core.Path.{◌≡◌, refl, sym, ap, ◌∙◌}
use mathlib.Core.Bool.{Bool, true, false, cond}
use mathlib.Core.List.{List, [], ◌∷◌}
use native.Mathlib.Omega.{arith}
use lib.ListN.{get_or, length, drop}
use Rattle.tapes_fields.specs.Fields.{size_of}
use Rattle.tapes_fields.specs.Judged.{carried}
use Rattle.tapes.specs.declared.Load.{Load}
use Rattle.tapes.specs.declared.Load.TheVariants.{Unfit, Bytes}
use Rattle.tapes.specs.Written.{load_from}
use Rattle.tapes.proofs.Pairs.{pair_at, pairs_over}

load_none : (place long : ℕ) (l : List ℕ) → length l < 2 → load_from place long l ≡ Bytes long
unfolding load_from
load_none place long [] h = refl
load_none place long (a ∷ []) h = refl
load_none place long (a ∷ b ∷ l) h = absurd (omega arith)

module _ (s : List ℕ) (i long : ℕ) (whole : Load) (back : load_from i long (drop (2 * i) s) ≡ whole) where
  pub load_all : length s / 2 ≤ i → Bytes long ≡ whole
  load_all h = sym (load_none i long (drop (2 * i) s) (pairs_over s i h)) ∙ back

  module _ (h : i < length s / 2) (b : Bool) (test : b ≡ carried (get_or s (2 * i) 0) (get_or s (2 * i + 1) 0)) where
    unfold_one : cond b (load_from (i + 1) (long + size_of (get_or s (2 * i) 0)) (drop (2 * (i + 1)) s)) (Unfit i) ≡ whole
    unfolding load_from
    unfold_one = rw test (sym (ap (load_from i long) (pair_at s i h)) ∙ back)

    pub load_unfit : b ≡ false → Unfit i ≡ whole
    load_unfit k = rw k at unfold_one

    pub load_more : (z : ℕ) → b ≡ true → z ≡ size_of (get_or s (2 * i) 0) → load_from (i + 1) (long + z) (drop (2 * (i + 1)) s) ≡ whole
    load_more z k e = rw e (rw k at unfold_one)

-- where all are carried, each is
pub load_carried : (s : List ℕ) (i long n : ℕ) → load_from i long (drop (2 * i) s) ≡ Bytes n → i < length s / 2 → carried (get_or s (2 * i) 0) (get_or s (2 * i + 1) 0) ≡ true
load_carried s i long n back h = go (carried (get_or s (2 * i) 0) (get_or s (2 * i + 1) 0)) refl
  where
    go : (b : Bool) → carried (get_or s (2 * i) 0) (get_or s (2 * i + 1) 0) ≡ b → b ≡ true
    go true e = refl
    go false e = absurd (unfit_bytes (load_unfit s i long (Bytes n) back h false (sym e) refl))
      where
        unfit_bytes : Unfit i ≡ Bytes n → ⊥
        unfit_bytes q = let z : ◌≡◌ {A = ℕ} 0 1 = cc in omega arith
