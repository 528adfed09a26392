-- What holds along the loops over the sixteen records.
use Prim.Native.Nat.{ℕ, zero, suc, ◌+◌, ◌*◌, ◌-◌, ◌<◌, ◌≤◌}
use mathlib.Core.Path.{◌≡◌, refl, sym, ap, ◌∙◌}
use mathlib.Core.Bool.{Bool, true, false, cond}
use mathlib.Core.List.{List, [], ◌∷◌}
use native.Mathlib.Omega.{arith}
use lib.ListN.{length, get_or, set}
use Rattle.queue_entries.specs.Limits.{workers_most, all}
use Rattle.queue_entries.proofs.Limits.{all_more, all_failed, all_passed}
use Rattle.queue_rows.proofs.Filling.{filled, none_yet, one_more, all_filled, long_filled}
use Rattle.single_places.specs.declared.Worker.{Worker}
use Rattle.single_machine.specs.Machine.{idler}
use Rattle.single_codes.specs.Codes.{stands_for}
use Rattle.single_rows.specs.Rows.{records_in, records_of, record_at, placed_at, with_record, placed}
use Rattle.single_rows.proofs.Lists.{many, beyond, get, long_record, over, over_none, over_one, over_all}

-- ---- records that are read
module _ (ws : List ℕ) (first : List Worker) where
  pub record Taken (i : ℕ) (all : List Worker) : Type 0 where
    pub low : i ≤ workers_most
    pub many_first : length first ≡ workers_most
    pub so_far : all ≡ filled i (records_in ws) first

  pub none_taken : length first ≡ workers_most → Taken 0 first
  none_taken m = record { low = omega arith; many_first = m; so_far = sym (none_yet idler (records_in ws) first) }

  module _ (n : length ws ≡ 48) (i : ℕ) (all : List Worker) (z : Taken i all) where
    pub taken_long : length all ≡ workers_most
    taken_long = ap length z.so_far ∙ long_filled idler i (records_in ws) first ∙ z.many_first

    pub one_taken : i < workers_most → (r : Worker) → r ≡ record_at ws i → Taken (i + 1) (set all i r)
    one_taken l r e = record {
      low = omega (arith, l);
      many_first = z.many_first;
      so_far = one_more idler i (records_in ws) first all r (omega (arith, l, n, many ws)) (omega (arith, l, z.many_first)) z.so_far (e ∙ sym (get ws i (omega (arith, l, n, many ws))));
    }

    pub all_taken : workers_most ≤ i → all ≡ records_in ws
    all_taken g = all_filled idler i (records_in ws) first all (omega (arith, n, z.many_first, many ws)) (omega (arith, g, z.low, n, many ws)) z.so_far

-- ---- records that are stored
module _ (ws : List ℕ) (all : List Worker) where
  pub record Stored (i : ℕ) (zs : List ℕ) : Type 0 where
    pub low : i ≤ workers_most
    pub long : length zs ≡ 48
    pub many_are : length all ≡ workers_most
    pub so_far : zs ≡ over i all ws

  pub none_stored : length ws ≡ 48 → length all ≡ workers_most → Stored 0 ws
  none_stored n m = record { low = omega arith; long = n; many_are = m; so_far = over_none all ws }

  module _ (n : length ws ≡ 48) (i : ℕ) (zs : List ℕ) (z : Stored i zs) where
    pub one_stored : i < workers_most → (zs' : List ℕ) → zs' ≡ with_record zs i (get_or all i idler) → Stored (i + 1) zs'
    one_stored l zs' e = record {
      low = omega (arith, l);
      long = ap length e ∙ long_record zs i (get_or all i idler) ∙ z.long;
      many_are = z.many_are;
      so_far = over_one i all ws zs zs' (omega (arith, l, z.many_are)) (omega (arith, l, n)) z.so_far e;
    }

    pub all_stored : workers_most ≤ i → zs ≡ records_of all
    all_stored g =
        let whole : i ≡ length all = omega (arith, g, z.low, z.many_are) in
        z.so_far ∙ ap (λ (k : ℕ). over k all ws) whole ∙ over_all all ws (omega (arith, n, z.many_are))

-- ---- records that are judged
shifted : (n i : ℕ) (t s : ℕ → Bool) → ((k : ℕ) → t (k + 1) ≡ s k) → all n (i + 1) t ≡ all n i s
unfolding all
shifted zero i t s h = refl
shifted (suc n) i t s h = ap (λ (b : Bool). cond b (all n (i + 1 + 1) t) false) (h i) ∙ ap (λ (b : Bool). cond (s i) b false) (shifted n (i + 1) t s h)

placed_all : (n : ℕ) (ws : List ℕ) → length ws ≡ n * 3 → all n 0 (placed_at ws) ≡ placed ws
unfolding all placed placed_at
placed_all zero [] e = refl
placed_all zero (c ∷ ws) e = absurd (omega (arith, e))
placed_all (suc n) [] e = absurd (omega (arith, e))
placed_all (suc n) (c ∷ []) e = absurd (omega (arith, e))
placed_all (suc n) (c ∷ a ∷ []) e = absurd (omega (arith, e))
placed_all (suc n) (c ∷ a ∷ b ∷ ws) e =
    ap (λ (r : Bool). cond (stands_for c a b) r false) (shifted n 0 (placed_at (c ∷ a ∷ b ∷ ws)) (placed_at ws) next ∙ placed_all n ws (omega (arith, e)))
  where
    shift : (j : ℕ) (k : ℕ) → get_or (c ∷ a ∷ b ∷ ws) ((k + 1) * 3 + j) 0 ≡ get_or ws (k * 3 + j) 0
    shift j k = beyond c a b ws ((k + 1) * 3 + j) (k * 3 + j) (omega arith)

    next : (k : ℕ) → placed_at (c ∷ a ∷ b ∷ ws) (k + 1) ≡ placed_at ws k
    next k = λ i. stands_for (beyond c a b ws ((k + 1) * 3) (k * 3) (omega arith) i) (shift 1 k i) (shift 2 k i)

module _ (rs : List ℕ) where
  pub record Judged (i : ℕ) : Type 0 where
    pub low : i ≤ workers_most
    pub back : all (workers_most - i) i (placed_at rs) ≡ placed rs

  pub begins : length rs ≡ 48 → Judged 0
  begins n = record { low = omega arith; back = placed_all workers_most rs (omega (arith, n)) }

  module _ (i : ℕ) (g : Judged i) where
    pub none_left : workers_most ≤ i → true ≡ placed rs
    none_left h = all_passed (placed_at rs) workers_most i (placed rs) g.back h

    module _ (l : i < workers_most) (p : Bool) (ep : p ≡ placed_at rs i) where
      pub no_place : p ≡ false → false ≡ placed rs
      no_place h = all_failed (placed_at rs) workers_most i (placed rs) g.back p l ep h

      pub goes_on : p ≡ true → Judged (i + 1)
      goes_on h = record { low = omega (arith, l); back = all_more (placed_at rs) workers_most i (placed rs) g.back p l ep h }
