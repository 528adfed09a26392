-- With no slip the walk is item 10's; each slip, refuted by computing.
use Prim.Native.Nat.{ℕ, zero, suc, ◌+◌, ◌%◌, ◌<◌}
use mathlib.Core.Path.{◌≡◌, refl, sym, ap, ◌∙◌, subst}
use mathlib.Core.Bool.{false, cond, true≢false}
use mathlib.Core.List.Memᴰ
use mathlib.Core.List.{List, [], ◌∷◌, ◌++◌, Memᴰ}
use mathlib.Core.Logic.{◌⊎◌, inl, inr}
use native.Mathlib.Omega.{arith}
use lib.Dec.{eqb}
use lib.ListN.{get_or, length}
use Rattle.queue_entries.specs.Limits.{all, in_limits}
use Rattle.queue_entries.specs.Schedules.{run_by}
use Rattle.queue_entries.specs.Entries.{stray_of, order_of, entry_of}
use Rattle.queue_entries.specs.Told.{told}
use Rattle.std.specs.Prelude.{Result, Ok, Err}
use Rattle.queue_walks.specs.declared.Walked.{Walked}
use Rattle.queue_walks.specs.Walks.{after, in_turn, choice_by, walk_by}
use Rattle.queue_walks.specs.Meaning.{Before, lower, sooner, further, none_left, none_busy, goes_on}
use Rattle.bounded_words.specs.Words.{doubled, mark_of, marked_of, unmarked_of, plus, minus, with_mark, next_of, same, one_past, lap_behind, lap_behind_one_past}
use Rattle.bounded_places.specs.Places.{inside}
use Rattle.bounded_acts.specs.Acts.{goes, losing, exchange_of, after_tail, tail_to, head_to, stamp_to, value_to, forced_tail}
use Rattle.bounded_machine.specs.declared.Machine.{Machine}
use Rattle.bounded_machine.specs.Machine.{empty_slots, stamped, fresh_slots, idlers, fresh_with, refused, accepted}
use Rattle.bounded_machine.specs.Broken.{by_rule, ends_fit, place_fits, record_fits, records_fit, ring_fits, broken_with, all_idle}
use Rattle.bounded_machine.specs.Turn.{record_after, begun, stored, acted_by, turn_of_by}
use Rattle.bounded_machine.specs.Run.{ran}
use Rattle.bounded_walks.specs.Walks.{all_busy, size_refusal, walk_refusal, listed, size_of}
use Rattle.queue_walks.specs.Listed.{bytes_of}
use Rattle.bounded_sequences.specs.Sequences.{walk_of}
use Rattle.bounded_demands.specs.Notions.{document01, machine_after, acts, has, Tried, sixty_four, fresh_in}
use Rattle.bounded_demands.specs.Demands.{WalksAll}
use Rattle.bounded_demands.proofs.EachNumber.{walk_each_number}
use Rattle.bounded_proof_walks.proofs.Walks.{walks_all}
use Rattle.bounded_proof_walks_slips.specs.Slips.{none, turns_with, choice_with, walk_with, Faithful, Stands}
use Rattle.bounded_proof_walks_slips.specs.Refuted.{Refuted}

turns_same : (choice : ℕ → ℕ → List (List ℕ)) (k w : ℕ) → turns_with none choice k w ≡ in_turn choice k w
unfolding turns_with in_turn
turns_same choice zero w = refl
turns_same choice (suc k) w = ap (λ (l : List (List ℕ)). choice w 8 ++ (choice w 9 ++ l)) (turns_same choice k (w + 1))

walks_same : (depth : ℕ) (m : Machine) → walk_with none depth m ≡ walk_of depth m
unfolding walk_with walk_by
walks_same zero m = refl
walks_same (suc left) m =
    ap (λ (l : List (List ℕ)). cond (all_idle m.workers) ([] ∷ []) l)
    (turns_same (choice_with (walk_with none left) m) m.count 0 ∙ ap (λ (walk : Machine → List (List ℕ)). in_turn (choice_with walk m) m.count 0) (λ i x. walks_same left x i))

pub faithful : Faithful
faithful = (λ i depth m. walks_same depth m i, refl)

pub stands : Stands
stands = subst WalksAll (sym faithful.0) walks_all

-- on one slot, a push about to exchange tail and a push just begun; and the first of them alone
two : Machine
two = machine_after document01 1 2 1 (0 ∷ 5 ∷ acts 0 2 ++ 16 ∷ 6 ∷ [])

alone : Machine
alone = machine_after document01 1 2 1 (0 ∷ 5 ∷ [])

not_before : (a b : ℕ) → a % 16 ≡ b % 16 → b < a → Before (a ∷ []) (b ∷ []) → ⊥
not_before a b same more (lower l) = omega arith
not_before a b same more (sooner e l) = omega arith
not_before a b same more (further e t) = omega arith

not_there : (a b : ℕ) → (a ≡ b → ⊥) → Memᴰ (a ∷ []) ((b ∷ []) ∷ []) → ⊥
not_there a b ne h = go (Memᴰ.cases_cons h)
  where
    go : (a ∷ [] ≡ b ∷ []) ⊎ Memᴰ (a ∷ []) [] → ⊥
    go (inl e) = ne (ap (λ (l : List ℕ). get_or l 0 0) e)
    go (inr k) = absurd (Memᴰ.not-nil k)

not_ended : (left : ℕ) (m : Machine) → all_idle m.workers ≡ false → Tried (suc left) m [] → ⊥
not_ended left m busy (none_busy e) = true≢false (sym e ∙ busy)

-- of a machine with nobody under way
idle_number : walk_refusal (fresh_in sixty_four) 0 8 ≡ 20
idle_number = ap (λ (l : List ℕ). get_or l 3 0) walk_each_number

value : Result ℕ ℕ → ℕ
value (Ok n) = n
value (Err n) = 0

bytes : Result Walked ℕ → ℕ
bytes (Ok found) = found.bytes
bytes (Err n) = 0

pub refuted : Refuted
unfolding two alone value bytes told doubled mark_of marked_of unmarked_of plus minus with_mark next_of same one_past lap_behind lap_behind_one_past inside stray_of
    order_of entry_of goes losing exchange_of after_tail tail_to head_to stamp_to value_to forced_tail empty_slots stamped fresh_slots idlers fresh_with refused accepted
    by_rule ends_fit place_fits record_fits records_fit broken_with ring_fits record_after begun stored acted_by turn_of_by ran run_by all in_limits all_idle all_busy acts
    after in_turn choice_by walk_by turns_with walk_with has bytes_of size_refusal walk_refusal listed size_of
refuted =
    record {
      nine_first_lem = λ r. not_before 144 128 refl (omega arith) ((r.order 1 two refl).0 (128 ∷ []) (Memᴰ.head refl));
      one_skipped_lem = λ r. not_there 128 129 (λ e. omega arith) (r.whole 1 two (128 ∷ []) (goes_on 0 8 refl (omega arith) (inl refl) refl refl none_left));
      cut_when_one_idle_lem = λ r. not_ended 0 alone refl (r.goes 1 alone [] (Memᴰ.head refl));
      listed_twice_lem = λ r. r.once (128 ∷ []) ((r.order 1 two refl).0 (128 ∷ []) (Memᴰ.head refl));
      one_short_lem = λ r. let q : ◌≡◌ {A = ℕ} 0 1 = ap length (r.filled two 0 [] refl).0 in omega arith;
      refused_writes_lem = λ r. let q : ◌≡◌ {A = ℕ} 0 7 = ap (λ (l : List ℕ). get_or l 0 0) (r.unchanged alone 0 (7 ∷ []) (λ e. omega (arith, e))) in omega arith;
      idle_by_four_lem = λ r. true≢false (sym (r.numbered alone 0 1));
      sized_short_lem = λ r. let q : ◌≡◌ {A = ℕ} 22 0 = r.fits two 0 1 0 refl in omega arith;
      answers_none_lem = λ r. let q : ◌≡◌ {A = ℕ} 0 1 = ap value (r.counted two 0 (0 ∷ []) refl) in omega arith;
      counted_short = λ r. let q : ◌≡◌ {A = ℕ} 0 1 = ap bytes (r.size_counted two 0 1 refl) in omega arith;
      each_number = λ r. let q : ◌≡◌ {A = ℕ} 4 20 = sym (ap (λ (k : ℕ). cond (eqb k 20) 4 k) idle_number) ∙ ap (λ (l : List ℕ). get_or l 3 0) r in omega arith;
    }
