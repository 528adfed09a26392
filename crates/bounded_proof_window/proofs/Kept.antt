-- The window is met, however many turns are made.
use mathlib.Core.Path.{◌≡◌, sym, ap, ◌∙◌, subst}
use mathlib.Core.List.{List, [], append-nil}
use Prim.Native.Nat.{ℕ, ◌+◌, ◌*◌, ◌%◌, ◌≤◌, ◌<◌}
use native.Mathlib.Omega.{arith}
use native.Mathlib.Nat.{mod-lt, mod-eq_of_lt}
use lib.ListN.{replicate}
use Rattle.queue_entries.specs.Limits.{workers_most, meter_most}
use Rattle.queue_entries.specs.Schedules.{history_by}
use Rattle.bounded_words.specs.declared.Width.{Width}
use Rattle.bounded_words.specs.Words.{stamp, mark_of, fixed_of}
use Rattle.bounded_places.specs.declared.Answer.TheVariants.{Nothing}
use Rattle.bounded_places.specs.declared.Slot.{Slot}
use Rattle.bounded_places.specs.declared.Place.TheVariants.{Idle}
use Rattle.bounded_places.specs.declared.Worker.{Worker}
use Rattle.bounded_machine.specs.declared.Machine.{Machine}
use Rattle.bounded_machine.specs.Machine.{idler, idlers, fresh_slots, machine_of, fresh_with, fresh_of}
use Rattle.bounded_machine.specs.declared.Event.{Event}
use Rattle.bounded_machine.specs.History.{history_at, untallied}
use Rattle.bounded_demands.specs.Notions.{of_width, Allowed, acts_of, tally, rounds}
use Rattle.bounded_demands.specs.Demands.{RoundsClaim}
use Rattle.bounded_proof_invariant.proofs.Width.{word_first}
use Rattle.bounded_proof_each_act.proofs.Stamps.{Ground}
use Rattle.bounded_proof_demand2.proofs.Reached.{laps_of, base_of, fresh_long, fresh_at}
use Rattle.bounded_proof_window.proofs.Rounds.{at, both, Awaiting, Rounds, goes_round}

-- Every slot of a fresh ring awaits its first claim.
pub fresh_awaits : (bits : Width) (c workers edition : ℕ) (a : Allowed c workers edition) (g : Ground bits c (mark_of c) (laps_of bits c)) (others : List Worker) (some : 0 < workers)
    → Awaiting bits c (mark_of c) (laps_of bits c) edition g others workers some 0 (fresh_slots c)
fresh_awaits bits c workers edition a g others some =
    record {
      long = omega (arith, fresh_long c, a.slot_most);
      stamps =
          λ j low high.
          let small : j < c = omega arith in
          ap (λ (z : Slot). z.stamp) (fresh_at c (j % c) a.slot_most (mod-lt j a.slot_some))
          ∙ ap stamp (mod-eq_of_lt small ∙ sym (word_first c (mark_of c) (laps_of bits c) g.laws j small));
    }

module _ (bits : Width) (c edition : ℕ) (a : Allowed c 1 edition) where
  abbrev pub laps : ℕ
  laps = laps_of bits c

  pub ground : Ground bits c (mark_of c) laps
  ground = (base_of bits workers_most c 1 edition a).ground

  pub one : 0 < 1
  one = omega arith

  abbrev pub first : Machine
  first = at bits c (mark_of c) laps edition ground (replicate 15 idler) 1 one (both bits c (mark_of c) laps edition ground (replicate 15 idler) 1 one 0) (fresh_slots c) (Idle Nothing) 0

  pub fresh_is : fresh_of c 1 edition ≡ first
  unfolding fresh_with idlers
  fresh_is =
      ap (λ (x : ℕ). machine_of (fixed_of c edition) (record { head = stamp x; tail = stamp x }) (fresh_slots c) (idlers workers_most) 1 0)
      (sym (word_first c (mark_of c) laps ground.laws 0 a.slot_some))

  awaiting : Awaiting bits c (mark_of c) laps edition ground (replicate 15 idler) 1 one 0 (fresh_slots c)
  awaiting = fresh_awaits bits c 1 edition a ground (replicate 15 idler) one

  module _ (r : ℕ) (early : 10 * r ≤ meter_most) where
    pub made : (rest : List ℕ) → Rounds bits c (mark_of c) laps edition ground (replicate 15 idler) 1 one first r (0 + r) (0 + 10 * r) rest
    made = goes_round bits c (mark_of c) laps edition ground (replicate 15 idler) 1 one r 0 (fresh_slots c) Nothing 0 awaiting (omega arith)

    acts_are : acts_of (of_width bits) c 1 edition (rounds r) ≡ (made []).done
    unfolding history_by
    acts_are =
        ap (λ (m : Machine). history_at bits m (rounds r)) fresh_is ∙ ap (history_at bits first) (sym (append-nil (rounds r))) ∙ (made []).goes_on.history ∙ append-nil (made []).done

    claimed : ((tally (acts_of (of_width bits) c 1 edition (rounds r))).tail.0 ≡ r) × ((tally (acts_of (of_width bits) c 1 edition (rounds r))).head.0 ≡ r)
    claimed =
        subst (λ (h : List Event). ((tally h).tail.0 ≡ r) × ((tally h).head.0 ≡ r)) (sym acts_are) ((made []).tails untallied ∙ omega arith, (made []).heads untallied ∙ omega arith)

pub rounds_claim : (bits : Width) → RoundsClaim (of_width bits)
rounds_claim bits c edition a = claimed bits c edition a
