-- The last act of a sequence is listed and not done, and that is the walk.
use Prim.Native.Nat.{ℕ, zero, suc, ◌+◌, ◌-◌, ◌<◌}
use mathlib.Core.Path.{◌≡◌, refl, sym, ap, ◌∙◌, subst}
use mathlib.Core.Bool.{Bool, true, false, cond, true≢false}
use mathlib.Core.List.{List, [], ◌∷◌, ◌++◌}
use native.Mathlib.Numerals.{add-one}
use native.Mathlib.Omega.{arith}
use lib.ListN.{length, set, take}
use lib.Seq.{take-suc-set}
use Rattle.queue_entries.proofs.Pick.{on, off, above, other}
use Rattle.queue_walks.specs.Walks.{act_byte, after, in_turn, walk_by}
use Rattle.bounded_places.specs.declared.Worker.{Worker}
use Rattle.bounded_machine.specs.Machine.{record_of_worker}
use Rattle.bounded_machine.specs.Broken.{all_idle}
use Rattle.bounded_sequences.specs.declared.State.{State}
use Rattle.bounded_sequences.specs.Sequences.{choice_of, code_of, machine_in, may_act, ends_here, last_act, last_choice, ends_soon, last_from, soon_from, walk_from, Sound}
use Rattle.bounded_sequences.proofs.Acting.{in_time, choice_moves, choice_stays}
use Rattle.bounded_sequences.proofs.Turning.{idle_here, ended, goes_on}

-- ---- the code of `last_act`
module _ (r : Worker) (w : ℕ) (lose : Bool) (path : List ℕ) (n : ℕ) where
  pub last_none : may_act r lose ≡ false → after (take n path) (last_act r w lose) ≡ []
  unfolding last_act after
  last_none h = ap (after (take n path)) (sym (off (may_act r lose) _ _ _ h refl))

  pub last_one : may_act r lose ≡ true → (b : ℕ) → b ≡ act_byte (code_of lose) w → n < length path → take (n + 1) (set path n b) ∷ [] ≡ after (take n path) (last_act r w lose)
  unfolding last_act after
  last_one h b e short =
      ap (λ (k : ℕ). take k (set path n b) ∷ []) (add-one n)
      ∙ ap (λ (l : List ℕ). l ∷ []) (take-suc-set path n b short)
      ∙ ap (λ (x : ℕ). (take n path ++ (x ∷ [])) ∷ []) e
      ∙ ap (after (take n path)) listed
    where
      listed : (act_byte (code_of lose) w ∷ []) ∷ [] ≡ last_act r w lose
      listed = on (may_act r lose) _ _ _ h refl

-- ---- the code of `soon_told`
module _ (s : State) (path : List ℕ) (n more : ℕ) where
  pub soon_here : ends_here s more ≡ true → soon_from s path n more ≡ take n path ∷ []
  unfolding soon_from
  soon_here h = sym (on (ends_here s more) _ _ _ h refl)

  pub soon_last : ends_here s more ≡ false → soon_from s path n more ≡ last_from s path n
  unfolding soon_from
  soon_last h = sym (off (ends_here s more) _ _ _ h refl)

-- ---- a last act gives one sequence
module _ (s : State) (n : ℕ) (sound : Sound s n (0 + 1)) (w : ℕ) (l : w < s.count) (stamps values : List ℕ) where
  choice_last : (lose : Bool) → choice_of 0 (machine_in s stamps values) w (code_of lose) ≡ last_act (record_of_worker s.workers w) w lose
  unfolding last_act after walk_by
  choice_last lose = by (may_act (record_of_worker s.workers w) lose) refl
    where
      by : (b : Bool) → may_act (record_of_worker s.workers w) lose ≡ b → choice_of 0 (machine_in s stamps values) w (code_of lose) ≡ cond b ((act_byte (code_of lose) w ∷ []) ∷ []) []
      by true may = choice_moves (machine_in s stamps values) w l lose (in_time s n 0 sound w l) 0 may
      by false may = choice_stays (machine_in s stamps values) w l lose (in_time s n 0 sound w l) 0 may

pub same_turns : (a b : ℕ → ℕ → List (List ℕ)) (more w : ℕ) → ((i : ℕ) → i < w + more → (a i 8 ≡ b i 8) × (a i 9 ≡ b i 9)) → in_turn a more w ≡ in_turn b more w
unfolding in_turn
same_turns a b zero w h = refl
same_turns a b (suc more) w h =
    (λ k. (h w (omega arith)).0 k ++ ((h w (omega arith)).1 k ++ same_turns a b more (w + 1) (λ i l. h i (omega (arith, l))) k))

-- ---- where a walk ends soon
soon_one : (s : State) (more : ℕ) → ends_soon s more ≡ true → ends_here s more ≡ false → more ≡ 1
unfolding ends_here ends_soon
soon_one s zero h g = absurd (true≢false g)
soon_one s (suc zero) h g = refl
soon_one s (suc (suc more)) h g =
    absurd (true≢false (sym h ∙ sym (above (suc (suc more)) 2 (all_idle s.workers) true (all_idle s.workers) (omega arith) refl) ∙ idle_here s (suc more) false g))

pub soon_not : (s : State) (more : ℕ) → ends_soon s more ≡ false → ends_here s more ≡ false
unfolding ends_here ends_soon
soon_not s zero h = absurd (true≢false h)
soon_not s (suc zero) h = absurd (true≢false h)
soon_not s (suc (suc more)) h =
    sym (other (suc (suc more)) 0 (all_idle s.workers) true (all_idle s.workers) (λ z. omega arith) refl)
    ∙ above (suc (suc more)) 2 (all_idle s.workers) true (all_idle s.workers) (omega arith) refl ∙ h

module _ (s : State) (path : List ℕ) (n more : ℕ) (sound : Sound s n more) (h : ends_soon s more ≡ true) (stamps values : List ℕ) where
  last_turns : more ≡ 1 → in_turn (choice_of (more - 1) (machine_in s stamps values)) s.count 0 ≡ in_turn (last_choice s.workers) s.count 0
  last_turns e =
      ap (λ (k : ℕ). in_turn (choice_of k (machine_in s stamps values)) s.count 0) none
      ∙ same_turns (choice_of 0 (machine_in s stamps values)) (last_choice s.workers) s.count 0 (λ i l. (
        choice_last s n one i (omega
            (arith, l)) stamps values false,
        choice_last s n one i (omega (arith, l)) stamps values true,
      ))
    where
      none : more - 1 ≡ 0
      none = omega (arith, e)

      one : Sound s n (0 + 1)
      one = subst (Sound s n) e sound

  pub soon : walk_from s stamps values path n more ≡ soon_from s path n more
  soon = by (ends_here s more) refl
    where
      by : (b : Bool) → ends_here s more ≡ b → walk_from s stamps values path n more ≡ soon_from s path n more
      by true e = ended s path n more stamps values e ∙ sym (soon_here s path n more e)
      by false e = goes_on s path n more stamps values e ∙ ap (after (take n path)) (last_turns (soon_one s more h e)) ∙ sym (soon_last s path n more e)
