-- Demand 1 of the face of sixteen bits: what is true of the one definition at that width, narrowed.
use Prim.Native.Nat.{ℕ}
use mathlib.Core.Path.{◌≡◌, ap, ◌∙◌}
use mathlib.Core.Bool.{false}
use native.Mathlib.Omega.{arith}
use Rattle.queue_schedules.proofs.Schedules.{schedule_first, schedule_read, schedule_kept, schedule_unread}
use Rattle.bounded_words.specs.declared.Width.TheVariants.{Sixteen}
use Rattle.bounded_machine.specs.declared.Machine.{Machine}
use Rattle.bounded_machine.specs.Broken.{broken_of}
use Rattle.bounded_machine.specs.Run.{ran}
use Rattle.bounded_sixteen_bits.specs.declared.Machine as widths
use Rattle.bounded_sixteen_bits.specs.SixteenBits.{widened, narrowed, narrowed_ran}
use Rattle.bounded_sixteen_bits.proofs.Back.{back, again}
use Rattle.bounded_demands.specs.Notions.{sixteen}
use Rattle.bounded_demands.specs.Demands.{RefusedUnchanged, Numbered, ListFirst, StaysUnbroken, Demand1}
use Rattle.bounded_demands.proofs.Numbers.{make_among, step_among, begin_among, act_among, run_among, contents_among, capacity_among}
use Rattle.bounded_demands.proofs.Refusals.{only_one, make_blank, step_kept, begin_kept, act_kept, contents_kept, ring_queue, step_unbroken, run_unbroken, made_unbroken}

-- a machine that is left as it was
kept : (m : widths.Machine) (z : Machine) → z ≡ widened m → narrowed z ≡ m
kept m z e = ap narrowed e ∙ back m

-- one that is not broken
whole : (z : Machine) → broken_of z ≡ false → broken_of (widened (narrowed z)) ≡ false
whole z e = ap broken_of (again z) ∙ e

pub ran_back : (number place : ℕ) (m : widths.Machine) → narrowed_ran (ran number place (widened m)) ≡ record { refusal = number; place = place; machine = m }
unfolding ran
ran_back number place m = ap (λ (z : widths.Machine). record { refusal = number; place = place; machine = z }) (back m)

refused_unchanged : RefusedUnchanged sixteen
refused_unchanged =
    record {
      make = λ c w e h. ap narrowed (make_blank c w e h);
      step = λ m a b h. kept m _ (step_kept Sixteen (widened m) a b h);
      begin = λ m a b h. kept m _ (begin_kept Sixteen (widened m) a b h);
      act = λ m a b h. kept m _ (act_kept Sixteen (widened m) a b h);
      run = λ m s h j. ap narrowed (schedule_kept (ring_queue Sixteen) broken_of (widened m) s h j);
      unread = λ m s h. kept m _ (schedule_unread (ring_queue Sixteen) broken_of (widened m) s h);
      contents = λ m. contents_kept (widened m);
    }

numbered : Numbered sixteen
numbered =
    record {
      make = make_among;
      step = λ m. step_among Sixteen (widened m);
      begin = λ m. begin_among Sixteen (widened m);
      act = λ m. act_among Sixteen (widened m);
      run = λ m. run_among Sixteen (widened m);
      contents = λ m. contents_among (widened m);
      capacity = λ m. capacity_among (widened m);
    }

list_first : ListFirst sixteen
list_first =
    record {
      stops = λ m before k a b rest e even long read un. ap narrowed_ran (schedule_first (ring_queue Sixteen) broken_of (widened m) before k a b rest e even long read un) ∙ ran_back 9 k m;
      runs = λ m s e even read. ap narrowed_ran (schedule_read (ring_queue Sixteen) broken_of (widened m) s e (λ o. omega arith) read);
    }

stays_unbroken : StaysUnbroken sixteen
stays_unbroken =
    record {
      step = λ m a b h. whole _ (step_unbroken Sixteen (widened m) a b h);
      run = λ m s h. whole _ (run_unbroken Sixteen (widened m) s h);
      made = λ c w e h. whole _ (made_unbroken c w e h);
    }

pub narrow_demand1 : Demand1 sixteen
narrow_demand1 =
    record {
      refused_unchanged = refused_unchanged;
      numbered = numbered;
      list_first = list_first;
      stays_unbroken = stays_unbroken;
      only_one = only_one sixteen;
    }
