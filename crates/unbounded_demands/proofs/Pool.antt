-- The lowest free block, and the entries that refusal 23 is given to.
use Prim.Native.Nat.{ℕ, zero, suc, ◌+◌, ◌<◌, ◌≤◌}
use mathlib.Core.Path.{◌≡◌, refl, sym, ap, ◌∙◌}
use mathlib.Core.Logic.{◌↔◌}
use mathlib.Core.Bool.{Bool, true, false, cond, true≢false}
use mathlib.Core.List.{List}
use native.Mathlib.Omega.{arith}
use native.Mathlib.Decide.{dec_lt}
use lib.Dec.{ltb}
use borrow.Author.Tests.{ltb-true, ltb-false}
use Rattle.queue_entries.specs.Limits.{meter_most}
use Rattle.queue_entries.specs.declared.Order.{Order}
use Rattle.queue_entries.specs.declared.Order.TheVariants.{Begin, Act}
use Rattle.queue_entries.specs.declared.Entry.{Entry}
use Rattle.queue_entries.specs.declared.Entry.TheVariants.{Unreadable, Asks}
use Rattle.queue_entries.specs.declared.Verdict.{Verdict}
use Rattle.queue_entries.specs.declared.Verdict.TheVariants.{Refuse, Start, Move}
use Rattle.queue_schedules.proofs.Schedules.{either}
use Rattle.unbounded_words.specs.Words.{Sizes, sizes}
use Rattle.unbounded_places.specs.declared.Block.{Block}
use Rattle.unbounded_places.specs.declared.Place.{Place}
use Rattle.unbounded_places.specs.declared.Place.TheVariants.{Idle, U1, U2, U3, U4, U5, U6, U7, U8, U9, U10, U11, U12, U13, U14, U15, V1, V2, V3, V4, V5, V6}
use Rattle.unbounded_places.specs.declared.Place.TheVariants.{V7, V8, V9, V10, V11, V12, V13, V14, V15, Len1, Len2, Len3, Empty1, Empty2, Full1, Close1}
use Rattle.unbounded_places.specs.declared.Place.TheVariants.{IsClosed1}
use Rattle.unbounded_places.specs.Places.{view_of}
use Rattle.unbounded_acts.specs.Acts.{act_of}
use Rattle.unbounded_machine.specs.declared.Machine.{Machine}
use Rattle.unbounded_machine.specs.declared.Did.{Did}
use Rattle.unbounded_machine.specs.Machine.{block_at, place_of, refused, accepted}
use Rattle.unbounded_machine.specs.Broken.{broken_of}
use Rattle.unbounded_machine.specs.Turn.{entry_here, verdict_of, lowest_from, lowest_free, used_by, taken_by, moved_by, carried_by, turn_by, turn_with}
use Rattle.unbounded_demands.specs.Notions.{definition}
use Rattle.unbounded_demands.specs.Demands.{LowestFirst, WantsBlock, TwentyThree}
use Rattle.unbounded_demands.proofs.Blocks.{lowest_most, no_block}

-- ---- the search
lowest_is : (n k : ℕ) (l : List Block) → lowest_from n k l < k + n → (block_at l (lowest_from n k l)).free ≡ true
unfolding lowest_from
lowest_is zero k l b = absurd (omega arith)
lowest_is (suc n) k l b =
    either (λ (x : ℕ). x < k + suc n → (block_at l x).free ≡ true) (block_at l k).free k (lowest_from n (k + 1) l)
    (λ h z. h) (λ h z. lowest_is n (k + 1) l (omega arith)) b

lower_taken : (n k j : ℕ) (l : List Block) → k ≤ j → j < lowest_from n k l → (block_at l j).free ≡ false
unfolding lowest_from
lower_taken zero k j l a b = absurd (omega arith)
lower_taken (suc n) k j l a b =
    either (λ (x : ℕ). j < x → (block_at l j).free ≡ false) (block_at l k).free k (lowest_from n (k + 1) l)
    (λ h z. absurd (omega arith)) (λ h z. go h (dec_lt k j) (λ (y : k + 1 ≤ j). lower_taken n (k + 1) j l y z)) b
  where
    go : (block_at l k).free ≡ false → Dec (k < j) → (k + 1 ≤ j → (block_at l j).free ≡ false) → (block_at l j).free ≡ false
    go h (yes y) later = later (omega arith)
    go h (no y) later = let e : j ≡ k = omega arith in ap (λ (i : ℕ). (block_at l i).free) e ∙ h

module _ (z : Sizes) (l : List Block) where
  lowest_below : lowest_free z l ≤ z.blocks
  unfolding lowest_free
  lowest_below = omega (arith, lowest_most z.blocks 0 l)

  lowest_free_lem : lowest_free z l < z.blocks → (block_at l (lowest_free z l)).free ≡ true
  unfolding lowest_free
  lowest_free_lem b = lowest_is z.blocks 0 l (omega arith)

  lower_than : (k : ℕ) → k < lowest_free z l → (block_at l k).free ≡ false
  unfolding lowest_free
  lower_than k b = lower_taken z.blocks 0 k l (omega arith) b

  none_is_free : lowest_free z l ≡ z.blocks ↔ ((k : ℕ) → k < z.blocks → (block_at l k).free ≡ false)
  none_is_free = ((λ e k b. lower_than k (omega arith)), (λ all. go all (dec_lt (lowest_free z l) z.blocks)))
    where
      go : ((k : ℕ) → k < z.blocks → (block_at l k).free ≡ false) → Dec (lowest_free z l < z.blocks) → lowest_free z l ≡ z.blocks
      go all (yes b) = absurd (true≢false (sym (lowest_free_lem b) ∙ all (lowest_free z l) b))
      go all (no b) = omega (arith, lowest_below)

pub lowest_first : LowestFirst lowest_free
lowest_first = record { most = lowest_below; free = lowest_free_lem; lower = lower_than; none = none_is_free }

-- ---- refusal 23
-- to take a block is an act of a busy worker, and no weak exchange
taking : (p : Place) → (view_of sizes p).takes ≡ true → ((view_of sizes p).busy ≡ true) × ((view_of sizes p).weak ≡ false)
taking (Idle a) t = absurd (true≢false (sym t))
taking (U1 n x) t = absurd (true≢false (sym t))
taking (U2 n i x) t = absurd (true≢false (sym t))
taking (U3 i b x) t = (refl, refl)
taking (U4 n i x) t = (refl, refl)
taking (U5 n i new x) t = absurd (true≢false (sym t))
taking (U6 n i new x) t = absurd (true≢false (sym t))
taking (U7 n i b x) t = absurd (true≢false (sym t))
taking (U8 n i x) t = absurd (true≢false (sym t))
taking (U9 n i b x) t = absurd (true≢false (sym t))
taking (U10 n i b x) t = absurd (true≢false (sym t))
taking (U11 n i b x) t = absurd (true≢false (sym t))
taking (U12 n i b x) t = absurd (true≢false (sym t))
taking (U13 n i b) t = absurd (true≢false (sym t))
taking (U14 n a) t = absurd (true≢false (sym t))
taking (U15 n new x) t = absurd (true≢false (sym t))
taking V1 t = absurd (true≢false (sym t))
taking (V2 h) t = absurd (true≢false (sym t))
taking (V3 h b) t = absurd (true≢false (sym t))
taking (V4 h b new) t = absurd (true≢false (sym t))
taking (V5 h) t = absurd (true≢false (sym t))
taking (V6 h b new) t = absurd (true≢false (sym t))
taking (V7 h b new next) t = absurd (true≢false (sym t))
taking (V8 h b next i) t = absurd (true≢false (sym t))
taking (V9 h b i) t = absurd (true≢false (sym t))
taking (V10 h b) t = absurd (true≢false (sym t))
taking (V11 h b) t = absurd (true≢false (sym t))
taking (V12 h b v) t = absurd (true≢false (sym t))
taking (V13 b i v) t = absurd (true≢false (sym t))
taking (V14 b i v) t = absurd (true≢false (sym t))
taking (V15 b v) t = absurd (true≢false (sym t))
taking Len1 t = absurd (true≢false (sym t))
taking (Len2 i) t = absurd (true≢false (sym t))
taking (Len3 i h) t = absurd (true≢false (sym t))
taking Empty1 t = absurd (true≢false (sym t))
taking (Empty2 h) t = absurd (true≢false (sym t))
taking Full1 t = absurd (true≢false (sym t))
taking Close1 t = absurd (true≢false (sym t))
taking IsClosed1 t = absurd (true≢false (sym t))

module _ (m : Machine) (first second : ℕ) (u : broken_of sizes m ≡ false) where
  -- which entry a turn that gives 23 was asked
  abbrev Asked : Entry → Did → Type 0
  Asked x d = d.refusal ≡ 23 → entry_here first second ≡ x → WantsBlock (definition sizes act_of) m first second

  refuses : (x : Entry) (k : ℕ) → (k ≡ 23 → ⊥) → Asked x (refused k m)
  unfolding refused
  refuses x k n e asks = absurd (n e)

  accepts : (x : Entry) (next : Machine) → Asked x (accepted next)
  unfolding accepted
  accepts x next e asks = absurd (omega arith)

  module _ (w : ℕ) (known : w < m.count) where
    abbrev place : Place
    place = place_of m.workers w

    moves : (given lose : Bool) → m.meter < meter_most → (view_of sizes place).busy ≡ true → (lose ≡ true → (view_of sizes place).weak ≡ true) → given ≡ lose
        → Asked (Asks w (Act given)) (moved_by sizes act_of m w place lose)
    unfolding moved_by
    moves given lose timely busy weak same =
        either (Asked (Asks w (Act given))) (view_of sizes place).takes _ (accepted (used_by sizes act_of m w place lose))
        (λ t. either (Asked (Asks w (Act given))) (ltb (lowest_free sizes m.blocks) 64) (accepted (taken_by sizes act_of m w place lose (lowest_free sizes m.blocks))) (refused 23 m)
        (λ l. accepts (Asks w (Act given)) _) (λ l e asks. wants lose weak same t (ltb-false (lowest_free sizes m.blocks) 64 l) asks))
        (λ t. accepts (Asks w (Act given)) _)
      where
        wants : (lose : Bool) → (lose ≡ true → (view_of sizes place).weak ≡ true) → given ≡ lose → (view_of sizes place).takes ≡ true → 64 ≤ lowest_free sizes m.blocks
            → entry_here first second ≡ Asks w (Act given) → WantsBlock (definition sizes act_of) m first second
        wants true weak same t l asks = absurd (true≢false (sym (weak refl) ∙ (taking place t).1))
        wants false weak same t l asks =
            record {
              unbroken = u;
              worker = w;
              asks = asks ∙ ap (λ (b : Bool). Asks w (Act b)) same;
              known = known;
              in_time = timely;
              takes = t;
              none_free = (none_is_free sizes m.blocks).0 (omega (arith, lowest_below sizes m.blocks));
            }

    carries : (o : Order) → Asked (Asks w o) (carried_by sizes act_of m w place (verdict_of sizes m.meter place o))
    carries (Begin c) =
        either (λ (v : Verdict). Asked (Asks w (Begin c)) (carried_by sizes act_of m w place v)) (view_of sizes place).busy (Refuse 4) (Start c)
        (λ b. refuses (Asks w (Begin c)) 4 (λ e. omega arith)) (λ b. accepts (Asks w (Begin c)) _)
    carries (Act lose) =
        either A (view_of sizes place).busy _ (Refuse 5)
        (λ b. either A (ltb m.meter meter_most) _ (Refuse 7)
        (λ k. either A lose (cond (view_of sizes place).weak (Move true) (Refuse 8)) (Move false)
        (λ z. either A (view_of sizes place).weak (Move true) (Refuse 8) (λ v. moves lose true (ltb-true m.meter meter_most k) b (λ e. v) z) (λ v. refuses (Asks w (Act lose)) 8 (λ e. omega arith)))
        (λ z. moves lose false (ltb-true m.meter meter_most k) b (λ e. absurd (true≢false (sym e))) z))
        (λ k. refuses (Asks w (Act lose)) 7 (λ e. omega arith)))
        (λ b. refuses (Asks w (Act lose)) 5 (λ e. omega arith))
      where
        A : Verdict → Type 0
        A v = Asked (Asks w (Act lose)) (carried_by sizes act_of m w place v)

  turns : (x : Entry) → Asked x (turn_by sizes act_of m x)
  turns Unreadable = refuses Unreadable 9 (λ e. omega arith)
  turns (Asks w o) =
      either (Asked (Asks w o)) (ltb w m.count) (carried_by sizes act_of m w (place_of m.workers w) (verdict_of sizes m.meter (place_of m.workers w) o)) (refused 3 m)
      (λ l. carries w (ltb-true w m.count l) o) (λ l. refuses (Asks w o) 3 (λ e. omega arith))

pub twenty_three : TwentyThree (definition sizes act_of)
unfolding turn_with refused
twenty_three m first second = (wanted (broken_of sizes m) refl, given)
  where
    wanted : (b : Bool) → broken_of sizes m ≡ b → (turn_with sizes act_of m first second).refusal ≡ 23 → WantsBlock (definition sizes act_of) m first second
    wanted true u e = absurd (let q : ◌≡◌ {A = ℕ} 6 23 = sym (ap (λ (b : Bool). (cond b (refused 6 m) (turn_by sizes act_of m (entry_here first second))).refusal) u) ∙ e in omega arith)
    wanted false u e =
        turns m first second u (entry_here first second) (sym (ap (λ (b : Bool). (cond b (refused 6 m) (turn_by sizes act_of m (entry_here first second))).refusal) u) ∙ e) refl

    given : WantsBlock (definition sizes act_of) m first second → (turn_with sizes act_of m first second).refusal ≡ 23
    given g =
        (no_block m g.worker first second g.unbroken
        (record { asks = g.asks; known = g.known; busy = (taking (place_of m.workers g.worker) g.takes).0; in_time = g.in_time })
        ).1 g.takes ((none_is_free sizes m.blocks).1 g.none_free)
