-- An accepted act can break a machine that no schedule reaches.
use Prim.Native.Nat.{ℕ, suc}
use mathlib.Core.Path.{◌≡◌, refl, ap, ◌∙◌}
use mathlib.Core.Bool.{true, false, not}
use mathlib.Core.List.{List, [], ◌∷◌}
use Rattle.queue_entries.specs.Limits.{in_limits, all}
use Rattle.queue_entries.specs.Entries.{stray_of, order_of, entry_of, entry_but}
use Rattle.unbounded_words.specs.declared.Index.{Index}
use Rattle.unbounded_words.specs.declared.Pointer.{Pointer}
use Rattle.unbounded_words.specs.declared.Pointer.TheVariants.{None}
use Rattle.unbounded_words.specs.Words.{Sizes, sizes, index, marked_of, unmarked_of, same, number_of}
use Rattle.unbounded_places.specs.declared.Block.{Block}
use Rattle.unbounded_places.specs.declared.Answer.TheVariants.{No}
use Rattle.unbounded_places.specs.declared.Place.TheVariants.{Idle}
use Rattle.unbounded_acts.specs.Acts.{leave, answered}
use Rattle.unbounded_machine.specs.declared.Machine.{Machine}
use Rattle.unbounded_machine.specs.declared.Did.{Did}
use Rattle.unbounded_machine.specs.declared.Dropped.{Dropped}
use Rattle.unbounded_machine.specs.Turn.{stored, acted_at, moved_by, turn_with}
use Rattle.unbounded_machine.specs.Machine.{machine_of, free_blocks, empty_slots, live, accepted}
use Rattle.unbounded_machine.specs.Drop.{walked, walk_from, walk_of}
use Rattle.unbounded_machine.specs.Broken.{record_fits, records_fit, all_idle, drop_fits, broken_in, broken_of}
use Rattle.unbounded.specs.Unbounded.{step_of}
use Rattle.unbounded_demands.specs.Demands.{unblocked, AnActMayBreak}

-- a first step that uses no block
stuck : (z : Sizes) (left : ℕ) (l : List Block) (b : Pointer) (h t : Index) (n : ℕ) → same h t ≡ false → live z l (number_of z b) ≡ false → walk_from z (suc left) l b h t n ≡ walked false n
unfolding walk_from
stuck z left l b h t n differ none = rw (differ, none)

-- once its act is done
ended : Machine
ended = machine_of (record { head = index 0; front = None; tail = index 2; back = None }) (free_blocks sizes) (empty_slots sizes) (record { place = Idle No } ∷ []) 1 1

ended_is : step_of sizes unblocked 8 0 ≡ accepted ended
unfolding ended turn_with broken_in records_fit record_fits all_idle drop_fits all in_limits stray_of order_of entry_of accepted stored acted_at moved_by leave answered entry_but free_blocks empty_slots
ended_is = refl

walk_stops : walk_of sizes ended.ends (free_blocks sizes) ≡ walked false 0
unfolding ended walk_of unmarked_of marked_of same live free_blocks
walk_stops = stuck sizes 2079 (free_blocks sizes) None (index 0) (index 2) 0 refl refl

ended_broken : broken_of sizes ended ≡ true
unfolding ended broken_in records_fit record_fits all_idle drop_fits all in_limits
ended_broken = ap (λ (d : Dropped). not d.sound) walk_stops

pub an_act_may_break : AnActMayBreak
unfolding broken_in records_fit record_fits all_idle drop_fits all in_limits accepted
an_act_may_break =
    record {
      sound = refl;
      accepted = ap (λ (d : Did). d.refusal) ended_is;
      broken = ap (λ (d : Did). broken_of sizes d.machine) ended_is ∙ ended_broken;
    }
