-- Rows of words that are filled from their start: with zeros, with slots.
use Prim.Native.Nat.{ℕ, ◌+◌, ◌*◌, ◌<◌, ◌≤◌}
use mathlib.Core.Path.{◌≡◌, refl, sym, ap, ◌∙◌}
use mathlib.Core.List.{List, [], ◌∷◌}
use native.Mathlib.Omega.{arith}
use lib.ListN.{length, get_or, set, length-set, replicate, length-replicate, get_or-replicate}
use Rattle.queue_rows.proofs.Filling.{filled, none_yet, one_more, all_filled, long_filled}
use Rattle.bounded_places.specs.declared.Ends.{Ends}
use Rattle.bounded_places.specs.declared.Slot.{Slot}
use Rattle.bounded_machine.specs.Machine.{slot, fixed_on, ends_on}
use Rattle.bounded_words.specs.Limits.{slots_most}
use Rattle.bounded_words.specs.declared.Fixed.{Fixed}
use Rattle.bounded_orders.specs.declared.Metered.{Metered}
use Rattle.bounded_rows.specs.Rows.{layout, head_of, slots_of, slots_in, slot_at, with_slot, with_head}
use Rattle.bounded_slices.specs.Slices.{with_fixed}
use Rattle.bounded_rows.proofs.Lists.{many_slots, get_slot, put_slot, whole_slots, long_slot, long_head}

-- ---- words that are made 0
module _ (ws : List ℕ) where
  pub record Zeroed (n i : ℕ) (zs : List ℕ) : Type 0 where
    pub many_are : n ≡ length ws
    pub low : i ≤ n
    pub so_far : zs ≡ filled i (replicate (length ws) 0) ws

  pub none_zero : Zeroed (length ws) 0 ws
  none_zero = record { many_are = refl; low = omega arith; so_far = sym (none_yet 0 (replicate (length ws) 0) ws) }

  module _ (n i : ℕ) (zs : List ℕ) (z : Zeroed n i zs) where
    pub zeroed_long : length zs ≡ length ws
    zeroed_long = ap length z.so_far ∙ long_filled 0 i (replicate (length ws) 0) ws

    pub one_zero : i < n → Zeroed n (i + 1) (set zs i 0)
    one_zero l = record {
      many_are = z.many_are;
      low = omega (arith, l);
      so_far = one_more 0 i (replicate (length ws) 0) ws zs 0 (omega (arith, l, z.many_are, length-replicate {A = ℕ} (length ws) 0)) (omega (arith, l, z.many_are)) z.so_far
          (sym (get_or-replicate (length ws) i 0 0 (omega (arith, l, z.many_are))));
    }

    pub all_zero : n ≤ i → zs ≡ replicate (length ws) 0
    all_zero g =
        all_filled 0 i (replicate (length ws) 0) ws zs (length-replicate {A = ℕ} (length ws) 0) (omega (arith, g, z.low, z.many_are, length-replicate {A = ℕ} (length ws) 0)) z.so_far

-- ---- slots that are stored as words
module _ (ws : List ℕ) (all : List Slot) where
  pub record Stored (i : ℕ) (zs : List ℕ) : Type 0 where
    pub low : i ≤ slots_most
    pub long : length zs ≡ slots_most * 2
    pub many_are : length all ≡ slots_most
    pub so_far : slots_in zs ≡ filled i all (slots_in ws)

  pub none_stored : length ws ≡ slots_most * 2 → length all ≡ slots_most → Stored 0 ws
  none_stored n m = record { low = omega arith; long = n; many_are = m; so_far = sym (none_yet (slot 0 0) all (slots_in ws)) }

  module _ (n : length ws ≡ slots_most * 2) (i : ℕ) (zs : List ℕ) (z : Stored i zs) where
    pub one_stored : i < slots_most → (zs' : List ℕ) → zs' ≡ with_slot zs i (get_or all i (slot 0 0)) → Stored (i + 1) zs'
    one_stored l zs' e = record {
      low = omega (arith, l);
      long = ap length e ∙ long_slot zs i (get_or all i (slot 0 0)) ∙ z.long;
      many_are = z.many_are;
      so_far = ap slots_in e ∙ put_slot zs i (get_or all i (slot 0 0)) (omega (arith, l, many_slots zs, z.long))
          ∙ one_more (slot 0 0) i all (slots_in ws) (slots_in zs) (get_or all i (slot 0 0)) (omega (arith, l, z.many_are)) (omega (arith, l, n, many_slots ws)) z.so_far refl;
    }

    pub all_stored : slots_most ≤ i → zs ≡ slots_of all
    all_stored g =
        sym (whole_slots zs (omega (arith, z.long)))
        ∙ ap slots_of (all_filled (slot 0 0) i all (slots_in ws) (slots_in zs) (omega (arith, n, z.many_are, many_slots ws)) (omega (arith, g, z.low, z.many_are)) z.so_far)

-- ---- slots that are read out of words
module _ (ws : List ℕ) (first : List Slot) where
  pub record Taken (i : ℕ) (all : List Slot) : Type 0 where
    pub low : i ≤ slots_most
    pub many_first : length first ≡ slots_most
    pub so_far : all ≡ filled i (slots_in ws) first

  pub none_taken : length first ≡ slots_most → Taken 0 first
  none_taken m = record { low = omega arith; many_first = m; so_far = sym (none_yet (slot 0 0) (slots_in ws) first) }

  module _ (n : length ws ≡ slots_most * 2) (i : ℕ) (all : List Slot) (z : Taken i all) where
    pub taken_long : length all ≡ slots_most
    taken_long = ap length z.so_far ∙ long_filled (slot 0 0) i (slots_in ws) first ∙ z.many_first

    pub one_taken : i < slots_most → (s : Slot) → s ≡ slot_at ws i → Taken (i + 1) (set all i s)
    one_taken l s e = record {
      low = omega (arith, l);
      many_first = z.many_first;
      so_far = one_more (slot 0 0) i (slots_in ws) first all s (omega (arith, l, n, many_slots ws)) (omega (arith, l, z.many_first)) z.so_far
          (e ∙ sym (get_slot ws i (omega (arith, l, n, many_slots ws))));
    }

    pub all_taken : slots_most ≤ i → all ≡ slots_in ws
    all_taken g = all_filled (slot 0 0) i (slots_in ws) first all (omega (arith, n, z.many_first, many_slots ws)) (omega (arith, g, z.low, n, many_slots ws)) z.so_far

-- ---- the eight words
pub long_fixed : (h : List ℕ) (f : Fixed) → length (with_fixed h f) ≡ length h
unfolding with_fixed
long_fixed h f = simp length-set

pub still_eight : (h : List ℕ) (f : Fixed) (h₁ h₂ : List ℕ) (e : Ends) (m : ℕ) → h₁ ≡ with_fixed h f → h₂ ≡ with_head h₁ e m → length (set h₂ 7 layout) ≡ length h
still_eight h f h₁ h₂ e m e₁ e₂ = length-set h₂ 7 layout ∙ ap length e₂ ∙ long_head h₁ e m ∙ ap length e₁ ∙ long_fixed h f

pub eight_put : (h : List ℕ) (l : Metered) → length h ≡ 8 → (h₁ h₂ : List ℕ) → h₁ ≡ with_fixed h (fixed_on l.ring) → h₂ ≡ with_head h₁ (ends_on l.ring) l.meter → set h₂ 7 layout ≡ head_of l
unfolding with_fixed with_head head_of
eight_put h l n h₁ h₂ e₁ e₂ = ap (λ (z : List ℕ). set z 7 layout) (e₂ ∙ ap (λ (z : List ℕ). with_head z (ends_on l.ring) l.meter) e₁) ∙ go h n
  where
    go : (h : List ℕ) → length h ≡ 8 → set (with_head (with_fixed h (fixed_on l.ring)) (ends_on l.ring) l.meter) 7 layout ≡ head_of l
    go [] n = absurd (omega (arith, n))
    go (a ∷ []) n = absurd (omega (arith, n))
    go (a ∷ b ∷ []) n = absurd (omega (arith, n))
    go (a ∷ b ∷ c ∷ []) n = absurd (omega (arith, n))
    go (a ∷ b ∷ c ∷ d ∷ []) n = absurd (omega (arith, n))
    go (a ∷ b ∷ c ∷ d ∷ x ∷ []) n = absurd (omega (arith, n))
    go (a ∷ b ∷ c ∷ d ∷ x ∷ y ∷ []) n = absurd (omega (arith, n))
    go (a ∷ b ∷ c ∷ d ∷ x ∷ y ∷ m ∷ []) n = absurd (omega (arith, n))
    go (a ∷ b ∷ c ∷ d ∷ x ∷ y ∷ m ∷ k ∷ []) n = refl
    go (a ∷ b ∷ c ∷ d ∷ x ∷ y ∷ m ∷ k ∷ more ∷ rest) n = absurd (omega (arith, n))
